use Rattle.std.proofs.Common.{◌≡◌, take}
use Rattle.versions.proofs.Members.{found}
use Rattle.versions.proofs.Newest.{lent_values}
use Rattle.versions.proofs.latest.Latest.at_places.Given as goal

-- the documents at the places so far
abbrev pub invariant-places : goal.invariant-places
invariant-places l = lent_values l.all ≡ found l.self (take l.at-index l.places)
