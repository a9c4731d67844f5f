use Rattle.std.proofs.Common.{◌≡◌, take}
use Rattle.test_pql.proofs.shelf.copied_rows.Given as goal

abbrev pub invariant-rows : goal.invariant-rows
invariant-rows l = l.new ≡ take l.row-index l.row-items
