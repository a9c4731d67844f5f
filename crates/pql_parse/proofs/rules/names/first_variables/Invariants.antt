use Rattle.std.proofs.Common.{◌≡◌, ◌≤◌, ℕ, ◌+◌, List, length, drop, take}
use Rattle.std.specs.List.{list_any}
use Rattle.pql_parse.specs.Ruled.{found, has_variable, is_below}
use Rattle.pql_parse.proofs.rules.names.first_variables.Given as goal

-- the table has the first sources from here on
abbrev pub invariant-sources : goal.invariant-sources
invariant-sources l = record {
  within : l.left ≤ length l.sources;
  firsts : (name : List ℕ) (n : ℕ) → list_any (has_variable name) (take n (drop l.left l.sources)) ≡ is_below (l.left + n) (found name l.firsts);
}

abbrev pub decreases-sources : goal.decreases-sources
decreases-sources l = l.left
