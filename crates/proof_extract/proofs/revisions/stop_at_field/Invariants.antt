use Rattle.std.proofs.Common.{drop}
use Rattle.proof_extract.proofs.Places.{IsLeft}
use Rattle.proof_extract.proofs.revisions.stop_at_field.Given as goal

abbrev pub invariant-fields : goal.invariant-fields
invariant-fields l = IsLeft l.other (drop l.field-index l.fields)
