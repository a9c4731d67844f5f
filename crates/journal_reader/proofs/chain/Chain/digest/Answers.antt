use Rattle.std.proofs.Common.{◌≡◌, ◌-◌, List, Some, length, subst, sym}
use Rattle.std.specs.Prelude.{slice_get}
use Rattle.ledger_model.specs.declared.block.Block.{Block}
use Rattle.ledger_model.specs.Rooms.{Kept}
use Rattle.proof_model.specs.Chained.{Chained}
use Rattle.journal_reader.proofs.Leaves.{grown_digest, no_blocks}
use Rattle.journal_reader.proofs.chain.Chain.digest.Goals as goal

pub returns-in-Full : goal.returns-in-Full
returns-in-Full c =
    let blocks = c.self.inside.blocks.list in
    let last = c.in_ok-last.last.now in
    let chained : Chained blocks = subst (λ (k : Kept). Chained k.list) (sym c.self.view_is) c.requires in
    let at : Some last ≡ slice_get blocks (length blocks - 1) =
    subst (λ (bs : List Block). Some last ≡ slice_get bs (length bs - 1)) c.as_slice.ensures c.in_ok-last.ensures.value in
    rw (← c.self.view_is) (grown_digest c.self.inside.grow.leaves blocks last c.in-Full.digest chained c.self.invariant (sym at) c.in-Full.ensures)

pub returns-in-Empty : goal.returns-in-Empty
returns-in-Empty c = rw (← c.self.view_is) (no_blocks c.self.inside.grow.leaves c.self.inside.blocks.list c.self.invariant c.in-Empty.ensures)
