-- A set of fields with an index, each with its table's id, read by the id and the field's bytes.
use Rattle.std.proofs.Common.{◌≡◌, ◌∙◌, ℕ, ◌<◌, nat_lt, Bool, true, false, ◌&&◌, ◌==◌, cond, List, refl, sym, ap, subst, ⊎_elim, arith}
use Rattle.std.specs.List.{list_any}
use Rattle.std.specs.Map.{IsKeyTest, AreApart}
use Rattle.std.specs.Set.{KeepsOthers}
use Rattle.std.specs.Ordering.{eq_by_cmp, is_eq, nat_cmp, ordering_then}
use Rattle.std.specs.declared.cmp.Ordering.{Ordering}
use Rattle.std.specs.declared.cmp.Ordering.TheVariants.{Less, Equal, Greater}
use Rattle.std.specs.Cmp.Lexicographic.{slice_cmp}
use Rattle.std.specs.Str.{bytes_eq}
use Rattle.std.specs.Prelude.{String}
use Rattle.std.specs.String.{string_bytes, string_cmp}
use Rattle.std.specs.BTreeMap.{is_at}
use Rattle.std.specs.BTreeSet.{BTreeSet, contains_by, UpdatesBy}
use Rattle.std.proofs.lemmas.Bool.{and_from, and_parts, both_ways, cases_Bool, cond-false, cond-true, eq-eqb, eqb-true, false_from_ne_true, ltb-true, ne_eqb}
use Rattle.std.proofs.lemmas.Map.Text.{is_eq-slice_cmp}
use Rattle.std.proofs.lemmas.Slice.Eq.{bytes_eq-Decides}

compared : (less equal : Bool) → (less ≡ true → equal ≡ false) → is_eq (cond less Less (cond equal Equal Greater)) ≡ equal
compared true equal h = sym (h refl)
compared false true h = refl
compared false false h = refl

below_apart : (a b : ℕ) → a < b → (a == b) ≡ false
below_apart a b h = ne_eqb a b (λ e. absurd (omega arith))

pub is_eq-nat_cmp : (a b : ℕ) → is_eq (nat_cmp a b) ≡ (a == b)
is_eq-nat_cmp a b = compared (nat_lt a b) (a == b) (λ l. below_apart a b (ltb-true a b l))

pub is_eq-both : (a b : Ordering) → is_eq (ordering_then a b) ≡ (is_eq a && is_eq b)
is_eq-both Less b = refl
is_eq-both Equal b = refl
is_eq-both Greater b = refl

same : (a b : List ℕ) → bytes_eq a b ≡ true → a ≡ b
same a b h = (bytes_eq-Decides a b).0 h

module _ {Y : Type 0} where
  -- how the field of this table, of these bytes, compares to a key
  abbrev pub query : ℕ → List ℕ → ℕ × String Y → Ordering
  query id field k = ordering_then (nat_cmp id k.0) (slice_cmp nat_cmp field (string_bytes k.1))

  -- how keys compare
  abbrev pub pair_cmp : ℕ × String Y → ℕ × String Y → Ordering
  pair_cmp x y = ordering_then (nat_cmp x.0 y.0) (string_cmp x.1 y.1)

  hits : (id : ℕ) (field : List ℕ) (k : ℕ × String Y) → is_at (query id field) k ≡ ((id == k.0) && bytes_eq field (string_bytes k.1))
  hits id field k = is_eq-both (nat_cmp id k.0) (slice_cmp nat_cmp field (string_bytes k.1)) ∙ rw (is_eq-nat_cmp id k.0, is_eq-slice_cmp field (string_bytes k.1)) refl

  hit_parts : (id : ℕ) (field : List ℕ) (k : ℕ × String Y) → is_at (query id field) k ≡ true → (id ≡ k.0) × (field ≡ string_bytes k.1)
  hit_parts id field k h = let parts = and_parts (id == k.0) (bytes_eq field (string_bytes k.1)) (sym (hits id field k) ∙ h) in (eqb-true id k.0 parts.0, same field (string_bytes k.1) parts.1)

  is_key_test : (id : ℕ) (field : List ℕ) → IsKeyTest (eq_by_cmp pair_cmp) (is_at (query id field))
  is_key_test id field x y h =
      let parts = hit_parts id field x h in
      ap (λ n. is_at (query n field) y) parts.0 ∙ ap (λ f. is_at (query x.0 f) y) parts.1

  are_apart : (a b : ℕ) (f g : List ℕ) → ((a == b) && bytes_eq f g) ≡ false → AreApart (is_at (query a f)) (is_at (query b g))
  are_apart a b f g h k hit =
      let parts = hit_parts a f k hit in
      false_from_ne_true (is_at (query b g) k) (λ y.
      let others = hit_parts b g k y in
      both_ways ((a == b) && bytes_eq f g) h (and_from (a == b) (bytes_eq f g) (eq-eqb a b (parts.0 ∙ sym others.0)) ((bytes_eq-Decides f g).1 (parts.1 ∙ sym others.1))))

  others_kept : (test : ℕ × String Y → Bool) (old new : List (ℕ × String Y)) → KeepsOthers (eq_by_cmp pair_cmp) test old new
      → (other : ℕ × String Y → Bool) → IsKeyTest (eq_by_cmp pair_cmp) other → AreApart test other → list_any other new ≡ list_any other old
  unfolding KeepsOthers
  others_kept test old new h = h

  -- a key more: its field has an index, and the other fields are as before
  pub fields-inserted : (m n : BTreeSet (ℕ × String Y)) (id : ℕ) (field : String Y) → UpdatesBy pair_cmp (pair_cmp (id, field)) m n true
      → (q : ℕ) (f : List ℕ) → contains_by (query q f) n ≡ cond ((id == q) && bytes_eq (string_bytes field) f) true (contains_by (query q f) m)
  fields-inserted m n id field h q f =
      let there = λ (y : ((id == q) && bytes_eq (string_bytes field) f) ≡ true).
      let parts = and_parts (id == q) (bytes_eq (string_bytes field) f) y in
      let here : contains_by (query q (string_bytes field)) n ≡ true = subst (λ (i : ℕ). contains_by (query i (string_bytes field)) n ≡ true) (eqb-true id q parts.0) h.1 in
      subst (λ (g : List ℕ). contains_by (query q g) n ≡ true) (same (string_bytes field) f parts.1) here ∙ sym (cond-true ((id == q) && bytes_eq (string_bytes field) f) true (contains_by (query q f) m) y) in
      let away = λ (off : ((id == q) && bytes_eq (string_bytes field) f) ≡ false).
      others_kept (is_at (pair_cmp (id, field))) m.keys n.keys h.3 (is_at (query q f)) (is_key_test q f) (are_apart id q (string_bytes field) f off)
      ∙ sym (cond-false ((id == q) && bytes_eq (string_bytes field) f) true (contains_by (query q f) m) off) in
      ⊎_elim there away (cases_Bool ((id == q) && bytes_eq (string_bytes field) f))
