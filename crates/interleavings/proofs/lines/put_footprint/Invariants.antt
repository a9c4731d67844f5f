use Rattle.std.proofs.Common.{◌≡◌, ◌++◌, ◌∷◌, map, take}
use Rattle.std.specs.List.{flat_map}
use Rattle.interleavings.specs.Lines.{braced}
use Rattle.interleavings.proofs.lines.put_footprint.Given as goal

abbrev pub invariant-items : goal.invariant-items
invariant-items l = l.out ≡ l.initial.out ++ flat_map (λ text. 44 ∷ text) (map braced (take l.next-index l.more))
