use Rattle.std.proofs.Common.{◌≡◌, drop}
use Rattle.std.specs.List.{list_any}
use Rattle.ion_values.specs.Keys.{is_same_key}
use Rattle.ion_values.specs.declared.value.Key.TheVariants as index
use Rattle.view_rows.proofs.probes.has_text.Given as goal

-- it is none of those passed
abbrev pub invariant-keys : goal.invariant-keys
invariant-keys l =
    list_any (λ k. is_same_key (index.Text l.text) k) (drop l.key-index l.keys)
    ≡ list_any (λ k. is_same_key (index.Text l.text) k) l.keys
