use Rattle.std.proofs.Common.{◌≡◌, take}
use Rattle.versions.proofs.Newest.{lent_values}
use Rattle.versions.proofs.latest.all_lent.Given as goal

abbrev pub invariant-documents : goal.invariant-documents
invariant-documents l = lent_values l.all ≡ take l.at l.documents
