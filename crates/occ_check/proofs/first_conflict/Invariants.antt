use Rattle.std.proofs.Common.{◌≡◌}
use Rattle.laws_footprint.specs.Touches.{conflict}
use Rattle.occ_check.proofs.Standing.{conflict_at}
use Rattle.occ_check.proofs.first_conflict.Given as goal

-- none of the blocks passed touches any of the items
abbrev pub invariant-later : goal.invariant-later
invariant-later l = conflict_at l.blocks.list l.number l.footprint ≡ conflict l.blocks.list l.since l.footprint
