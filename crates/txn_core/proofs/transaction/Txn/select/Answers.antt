use Rattle.txn_core.specs.Effects.{effect_of}
use Rattle.txn_core.proofs.Selects.{selected_rows}
use Rattle.txn_core.proofs.transaction.Txn.select.Goals as goal
use Rattle.std.proofs.Common.{refl}

pub returns : goal.returns
returns c =
    selected_rows c.args.self.now.base c.args.self.now.done c.args.params.now c.args.select.now c.args.over.from.now c.in_ok-rows.rows (effect_of c.new-effect.result) _ c.in_ok-rows.ensures
    c.new-effect.ensures.nothing refl
