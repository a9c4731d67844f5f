use Rattle.std.proofs.Common.{◌≡◌, drop}
use Rattle.std.specs.List.{find}
use Rattle.occ_check.specs.Behind.{block_touches}
use Rattle.occ_check.proofs.first_touched.Given as goal

-- the block touches none of the items passed
abbrev pub invariant-items : goal.invariant-items
invariant-items l = find (block_touches l.journal.blocks.now l.journal.now.now l.block) (drop l.item-index l.items) ≡ find (block_touches l.journal.blocks.now l.journal.now.now l.block) l.items
