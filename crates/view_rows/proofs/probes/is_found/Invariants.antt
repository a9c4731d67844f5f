use Rattle.std.proofs.Common.{◌≡◌, drop}
use Rattle.std.specs.List.{list_any}
use Rattle.ion_values.specs.Keys.{is_same_key}
use Rattle.view_rows.proofs.probes.is_found.Given as goal

-- it is none of those passed
abbrev pub invariant-keys : goal.invariant-keys
invariant-keys l =
    list_any (λ k. is_same_key l.found k) (drop l.key-index l.keys) ≡ list_any (λ k. is_same_key l.found k) l.keys
