-- Values in whose place others stand that nest no deeper and are within their ranges too.
use Rattle.std.proofs.Common.{◌≡◌, ◌∙◌, ◌≤◌, ℕ, true, List, [], ◌∷◌, map, refl, sym, arith}
use Rattle.std.proofs.lemmas.Bool.{and_from, and_parts}
use Rattle.ion_values.specs.Depth.{depth_of, field_depth, deepest}
use Rattle.ion_values.specs.Within.{within, field_within, all_true, text_within, bytes_within}
use Rattle.ion_values.specs.declared.value.Value.{Value}
use Rattle.ion_values.specs.declared.value.Field.{Field}
use Rattle.ion_values.specs.declared.value.Body.TheVariants as body
use Rattle.ledger_model.specs.Values.{plain, field}
use Rattle.ledger_model.specs.Journal.{structure, list}
use Rattle.laws_validity.proofs.Shapes.{depth_blob, depth_field, depth_list, depth_structure, within_blob, within_field, within_list, within_structure}

-- ---- values in one another's place

-- the second in the first one's place
pub record Smaller (v w : Value) : Type 0 where
  pub ranges : within v ≡ true → within w ≡ true
  pub depth : depth_of w ≤ depth_of v

pub record SmallerField (f g : Field) : Type 0 where
  pub ranges : field_within f ≡ true → field_within g ≡ true
  pub depth : field_depth g ≤ field_depth f

-- each in its place
abbrev pub EachSmaller : List Value → List Value → Type 0
EachSmaller [] [] = Unit {0}
EachSmaller (v ∷ vs) (w ∷ ws) = Smaller v w × EachSmaller vs ws
EachSmaller _ _ = ⊥

abbrev pub EachField : List Field → List Field → Type 0
EachField [] [] = Unit {0}
EachField (f ∷ fs) (g ∷ gs) = SmallerField f g × EachField fs gs
EachField _ _ = ⊥

pub same_value : (v : Value) → Smaller v v
same_value v = record { ranges = λ h. h; depth = omega arith }

pub same_field : (f : Field) → SmallerField f f
same_field f = record { ranges = λ h. h; depth = omega arith }

pub same_values : (vs : List Value) → EachSmaller vs vs
same_values [] = tt
same_values (v ∷ vs) = (same_value v, same_values vs)

pub in_field : (name : List ℕ) (v w : Value) → Smaller v w → SmallerField (field name v) (field name w)
in_field name v w h = record {
  ranges = λ k.
      let parts = and_parts (text_within name) (within v) (sym (within_field (field name v)) ∙ k) in
      within_field (field name w) ∙ and_from (text_within name) (within w) parts.0 (h.ranges parts.1);
  depth = let d = h.depth in let p = depth_field (field name v) in let q = depth_field (field name w) in omega
      (arith, d, p, q);
}

-- bytes in place of anything
pub bytes_field : (f : Field) (name bytes : List ℕ) → text_within name ≡ true → bytes_within bytes ≡ true
    → SmallerField f (field name (plain (body.Blob bytes)))
bytes_field f name bytes h k = record {
  ranges = λ _.
      within_field (field name (plain (body.Blob bytes)))
      ∙ and_from (text_within name) (within (plain (body.Blob bytes))) h (within_blob bytes ∙ k);
  depth = let p = depth_field (field name (plain (body.Blob bytes))) in let q = depth_blob bytes in omega (arith, p, q);
}

values_within : (vs ws : List Value) → EachSmaller vs ws → all_true (map within vs) ≡ true
    → all_true (map within ws) ≡ true
values_within [] [] h k = refl
values_within [] (w ∷ ws) h k = absurd h
values_within (v ∷ vs) [] h k = absurd h
values_within (v ∷ vs) (w ∷ ws) h k =
    let parts = and_parts (within v) (all_true (map within vs)) k in
    and_from (within w) (all_true (map within ws)) (h.0.ranges parts.0) (values_within vs ws h.1 parts.1)

values_deep : (vs ws : List Value) → EachSmaller vs ws → deepest (map depth_of ws) ≤ deepest (map depth_of vs)
values_deep [] [] h = omega arith
values_deep [] (w ∷ ws) h = absurd h
values_deep (v ∷ vs) [] h = absurd h
values_deep (v ∷ vs) (w ∷ ws) h = let here = h.0.depth in let rest = values_deep vs ws h.1 in omega (arith, here, rest)

pub in_list : (vs ws : List Value) → EachSmaller vs ws → Smaller (list vs) (list ws)
in_list vs ws h = record {
  ranges = λ k. within_list ws ∙ values_within vs ws h (sym (within_list vs) ∙ k);
  depth = let d = values_deep vs ws h in let p = depth_list vs in let q = depth_list ws in omega (arith, d, p, q);
}

fields_within : (fs gs : List Field) → EachField fs gs → all_true (map field_within fs) ≡ true
    → all_true (map field_within gs) ≡ true
fields_within [] [] h k = refl
fields_within [] (g ∷ gs) h k = absurd h
fields_within (f ∷ fs) [] h k = absurd h
fields_within (f ∷ fs) (g ∷ gs) h k =
    let parts = and_parts (field_within f) (all_true (map field_within fs)) k in
    and_from (field_within g) (all_true (map field_within gs)) (h.0.ranges parts.0) (fields_within fs gs h.1 parts.1)

fields_deep : (fs gs : List Field) → EachField fs gs → deepest (map field_depth gs) ≤ deepest (map field_depth fs)
fields_deep [] [] h = omega arith
fields_deep [] (g ∷ gs) h = absurd h
fields_deep (f ∷ fs) [] h = absurd h
fields_deep (f ∷ fs) (g ∷ gs) h = let here = h.0.depth in let rest = fields_deep fs gs h.1 in omega (arith, here, rest)

pub in_structure : (fs gs : List Field) → EachField fs gs → Smaller (structure fs) (structure gs)
in_structure fs gs h = record {
  ranges = λ k. within_structure gs ∙ fields_within fs gs h (sym (within_structure fs) ∙ k);
  depth = let d = fields_deep fs gs h in let p = depth_structure fs in let q = depth_structure gs in omega
      (arith, d, p, q);
}
