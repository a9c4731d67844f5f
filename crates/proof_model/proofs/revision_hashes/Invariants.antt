use Rattle.std.proofs.Common.{◌≡◌, map, take}
use Rattle.ledger_model.specs.declared.block.Revision.{Revision}
use Rattle.proof_model.proofs.revision_hashes.Given as goal

abbrev pub invariant-revisions : goal.invariant-revisions
invariant-revisions l = l.hashes ≡ map (λ (r : Revision). r.hash) (take l.revision-index l.revisions)
