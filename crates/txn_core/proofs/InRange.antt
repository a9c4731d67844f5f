-- Values within their ranges.
use Rattle.std.proofs.Common.{◌≡◌, ◌&&◌, List, [], ◌∷◌, map, refl, sym, ◌∙◌, ap}
use Rattle.std.specs.Prelude.{IsTrue}
use Rattle.std.specs.List.{list_all}
use Rattle.std.proofs.lemmas.Bool.{and_from}
use Rattle.ion_values.specs.declared.value.Value.{Value}
use Rattle.ion_values.specs.Within.{all_true, text_within, within}
use Rattle.ledger_model.specs.declared.block.Said.{Said}
use Rattle.laws_validity.specs.Makes.{said_within}

one-by-one : (vs : List Value) → list_all within vs ≡ all_true (map within vs)
one-by-one [] = refl
one-by-one (v ∷ vs) = ap (λ rest. within v && rest) (one-by-one vs)

values-in : (vs given : List Value) → given ≡ vs → IsTrue (all_true (map within given)) → IsTrue (list_all within vs)
values-in vs given same all = one-by-one vs ∙ ap (λ (xs : List Value). all_true (map within xs)) (sym same) ∙ all

pub said-in : (x : Said) (params rows : List Value) → IsTrue (text_within x.text) → params ≡ x.params → IsTrue (all_true (map within params)) → rows ≡ x.answer.rows
    → IsTrue (all_true (map within rows)) → IsTrue (said_within x)
said-in x params rows text params_are params_in rows_are rows_in =
    and_from (text_within x.text && list_all within x.params) (list_all within x.answer.rows)
    (and_from (text_within x.text) (list_all within x.params) text (values-in x.params params params_are params_in))
    (values-in x.answer.rows rows rows_are rows_in)
