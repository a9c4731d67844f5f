use Rattle.std.proofs.Common.{◌≡◌, ◌≤◌, ◌+◌, map, min, drop}
use Rattle.std.specs.List.{sum}
use Rattle.pql_model.specs.Parameters.{in_item}
use Rattle.pql_model.proofs.counts.in_items.Given as goal

abbrev pub invariant-loop-item : goal.invariant-loop-item
invariant-loop-item l =
    record { told : min (l.count + sum (map in_item (drop l.item-index l.items))) 4294967295 ≡ min (sum (map in_item l.items)) 4294967295; fits : l.count ≤ 4294967295 }
