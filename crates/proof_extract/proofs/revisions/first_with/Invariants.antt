use Rattle.std.proofs.Common.{◌≡◌, ◌≢◌, ℕ, ◌<◌, Some}
use Rattle.std.specs.Prelude.{slice_get}
use Rattle.ledger_model.specs.declared.block.Revision.{Revision}
use Rattle.proof_extract.proofs.revisions.first_with.Given as goal

abbrev pub invariant-revisions : goal.invariant-revisions
invariant-revisions l =
    (i : ℕ) (other : Revision) → i < l.at → slice_get l.revisions i ≡ Some other → other.hash ≢ l.hash
