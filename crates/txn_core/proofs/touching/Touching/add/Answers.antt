use Rattle.txn_core.specs.Effects.{effect_of}
use Rattle.txn_core.proofs.Touched.{touched_added}
use Rattle.txn_core.proofs.touching.Touching.add.Goals as goal

pub returns-clause-effect : goal.returns-clause-effect
returns-clause-effect c =
    touched_added (effect_of c.args.self.now.effect) c.args.draft c.in_ok-row.row c.push.new.self c.push-2.new.self
    c.in_ok-row.ensures c.in_ok-push.ensures.ok c.in_ok-push-2.ensures.ok
