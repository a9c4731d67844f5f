use Rattle.std.proofs.Common.{◌≡◌, take}
use Rattle.std.specs.Map.{keys_of}
use Rattle.versions.specs.Filing.{places_from}
use Rattle.versions.specs.Lookups.{is_one_of}
use Rattle.versions.proofs.latest.Latest.places_of.Given as goal

-- the places of the ids so far
abbrev pub invariant-ids : goal.invariant-ids
invariant-ids l = keys_of l.places.entries ≡ places_from (is_one_of (take l.id-index l.ids)) 0 l.self
