-- A member that is taken out of its place, changed and put back.
use Rattle.std.proofs.Common.{◌≡◌, ℕ, ℤ, zero, suc, ◌<◌, List, [], ◌∷◌, length, get_or, sym, ap, ◌∙◌, arith}
use Rattle.std.specs.Prelude.{slice_set}
use Rattle.std.specs.Option.{option_map_or}
use Rattle.std.specs.declared.option.Option.TheVariants.{Some}
use Rattle.ion_values.specs.declared.value.Field.{Field}
use Rattle.ion_values.specs.declared.value.Value.{Value}
use Rattle.pql_model.specs.Changes.{at_element, change_at, change_field, field, in_value, place_below, place_of}

put_back : {A : Type 0} (f : A → A) (xs : List A) (n : ℕ) (vacant x : A) → n < length xs → x ≡ get_or xs n x → slice_set (slice_set xs n vacant) n (f x) ≡ change_at f n xs
put_back f [] n vacant x h e = absurd (omega arith)
put_back f (y ∷ ys) zero vacant x h e = ap (λ z. f z ∷ ys) e
put_back f (y ∷ ys) (suc n) vacant x h e = ap (λ zs. y ∷ zs) (put_back f ys n vacant x (omega arith) e)

pub element_changed : (f : Value → Value) (values items : List Value) (place : ℤ) (end n : ℕ) (vacant old new : Value) (all : List Value)
    → items ≡ values → end ≡ length values → Some n ≡ place_below end place → n < end → old ≡ get_or items n old → new ≡ f old
    → all ≡ slice_set (slice_set items n vacant) n new → all ≡ at_element (change_at f) place values
element_changed f values items place end n vacant old new all same long there within is done after =
    let short : n < length items = omega (arith, ap length same) in
    let found : place_below (length values) place ≡ Some n = ap (λ m. place_below m place) (sym long) ∙ sym there in
    after
    ∙ ap (λ z. slice_set (slice_set items n vacant) n z) done
    ∙ put_back f items n vacant old short is
    ∙ ap (change_at f n) same
    ∙ sym (ap (λ r. option_map_or (λ k. change_at f k values) r values) found)

pub field_changed : (f : Value → Value) (name kept : List ℕ) (fields items : List Field) (n : ℕ) (vacant old : Field) (new : Value) (all : List Field)
    → items ≡ fields → Some n ≡ place_of name fields → n < length fields → old ≡ get_or items n old → kept ≡ old.name → new ≡ f old.value
    → all ≡ slice_set (slice_set items n vacant) n (field kept new) → all ≡ change_field f name fields
field_changed f name kept fields items n vacant old new all same there within is named done after =
    let short : n < length items = omega (arith, ap length same) in
    after
    ∙ ap (λ k. slice_set (slice_set items n vacant) n (field k new)) named
    ∙ ap (λ z. slice_set (slice_set items n vacant) n (field old.name z)) done
    ∙ put_back (in_value f) items n vacant old short is
    ∙ ap (change_at (in_value f) n) same
    ∙ sym (ap (λ r. option_map_or (λ k. change_at (in_value f) k fields) r fields) (sym there))
