use Rattle.std.proofs.Common.{refl}
use Rattle.txn_core.specs.Effects.{effect_of}
use Rattle.txn_core.proofs.Inserted.{document_added}
use Rattle.txn_core.proofs.inserting.add_document.Goals as goal

pub returns : goal.returns
returns c =
    document_added (effect_of c.args.effect.now) c.args.raw c.args.table c.args.value c.args.value c.in_ok-named_id.field-0 c.push.new.self c.push-2.new.self
    c.in_ok-named_id.ensures refl c.in_ok-push.ensures.ok c.in_ok-push-2.ensures.ok
