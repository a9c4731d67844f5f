use Rattle.std.proofs.Common.{◌≡◌, drop}
use Rattle.std.specs.List.{list_any}
use Rattle.ion_values.specs.Keys.{is_same_key}
use Rattle.footprints.proofs.items.is_found.Given as goal

-- it is none of those passed
abbrev pub invariant-keys : goal.invariant-keys
invariant-keys l = list_any (is_same_key l.key) (drop l.other-index l.keys) ≡ list_any (is_same_key l.key) l.keys
