use Rattle.std.proofs.Common.{◌≡◌, ◌++◌, map, length}
use Rattle.std.specs.Prelude.{slice_get}
use Rattle.std.specs.List.{filter_map}
use Rattle.versions.specs.declared.recorded.Recorded.{Recorded}
use Rattle.versions.proofs.live.ids_at.Given as goal

-- the ids so far and those at the places that are left are all
abbrev pub invariant-places : goal.invariant-places
invariant-places l =
    l.ids ++ map (λ (r : Recorded). r.revision.metadata.id) (filter_map (λ at. slice_get l.latest at) l.places)
    ≡ map (λ (r : Recorded). r.revision.metadata.id) (filter_map (λ at. slice_get l.latest at) l.initial.places)

abbrev pub decreases-places : goal.decreases-places
decreases-places l = length l.places
