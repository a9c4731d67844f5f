use Rattle.std.proofs.Common.{◌<◌, List, length, sym, subst}
use Rattle.ledger_model.specs.declared.block.Block.{Block}
use Rattle.proof_model.specs.Chained.{Chained}
use Rattle.proof_model.specs.Issued.{IsDigest}
use Rattle.proof_extract.specs.Extracts.{IsFound}
use Rattle.proof_extract.proofs.extract.Goals as goal

pub find-requires-clause-chained : goal.find-requires-clause-chained
find-requires-clause-chained c = subst Chained (sym c.as_slice.ensures) c.requires.chained

pub find-requires-clause-within : goal.find-requires-clause-within
find-requires-clause-within c =
    subst (λ (bs : List Block). c.args.digest.now.tip.sequence < length bs) (sym c.as_slice.ensures) c.requires.within

pub find-requires-clause-published : goal.find-requires-clause-published
find-requires-clause-published c =
    let d = c.args.digest.now in
    subst (λ (bs : List Block). IsDigest bs d.tip.sequence d) (sym c.as_slice.ensures) c.requires.published

pub returns-in-Ok-clause-extracted : goal.returns-in-Ok-clause-extracted
returns-in-Ok-clause-extracted c =
    subst (λ (bs : List Block). IsFound bs c.args.revision.now c.in-Ok.index) c.as_slice.ensures c.in-Ok.ensures
