-- Where an equation is true and one side has a key, the other has the same key.
use Rattle.std.proofs.Common.{◌≡◌, ◌∙◌, ◌⊎◌, inl, inr, ℕ, Bool, true, false, ◌&&◌, ◌||◌, List, refl, sym, ap, rules, Option, Some, None}
use Rattle.std.specs.Prelude.{option_map, if◌then◌else◌}
use Rattle.std.specs.Str.{bytes_eq}
use Rattle.std.specs.declared.cmp.Ordering.{Ordering}
use Rattle.std.specs.declared.cmp.Ordering.TheVariants.{Less, Equal, Greater}
use Rattle.std.specs.Ordering.{is_eq, is_some_and}
use Rattle.std.proofs.lemmas.Bool.{and_from, and_parts, false≢true, or_cases}
use Rattle.std.proofs.lemmas.Slice.Eq.{bytes_eq-Decides}
use Rattle.std.proofs.lemmas.Bool.Decides.{Decides-int_eq}
use Rattle.ion_values.specs.declared.value.Body.TheFolds as values
use Rattle.ion_values.specs.declared.value.Body.TheOpen.{Body-F}
use Rattle.ion_values.specs.declared.value.Key.{Key}
use Rattle.ion_values.specs.declared.value.Key.TheVariants as key
use Rattle.ion_values.specs.declared.value.Value.{Value}
use Rattle.ion_order.specs.Compare.{compare_of}
use Rattle.ion_order.specs.Key.{key_of, key_of_number, key_of_scalar}
use Rattle.ion_values.specs.Decimal.{DecimalParts}
use Rattle.ion_values.specs.Within.{is_zero}
use Rattle.ion_order.specs.Compare.{scalar_of_body}
use Rattle.ion_order.specs.Laws.{is_tie}
use Rattle.ion_order.proofs.Scalars.{keys_tell_equal}
use Rattle.pql_model.specs.declared.scope.Evaluated.{Evaluated}
use Rattle.pql_model.specs.declared.scope.Evaluated.TheVariants.{Missing, Found}
use Rattle.pql_model.specs.Comparisons.{are_equal, equal, is_container, is_container_seen}
use Rattle.pql_model.specs.Logic.{conjunction, is_false, is_true, truth_in}
use Rattle.pql_model.specs.Made.{Seen, is_null, null, seen, truth}
use Rattle.pql_model.specs.Tables.{has_key, is_same_key}
use Rattle.pql_model.specs.Texts.{text_of, text_seen}

-- ---- what is true

pub truth_is : (b : Bool) → is_true (truth_in (truth b)) ≡ b
truth_is b = search (rules, values.the_lemmas)

pub null_is : is_true (truth_in null) ≡ false
null_is = search (rules, values.the_lemmas)

-- both sides of an AND that is true are
both_true : (a b f : Bool) → is_true (truth_in (if f then truth false else if a && b then truth true else null)) ≡ true
    → (a && b) ≡ true
both_true a b true h = absurd (false≢true (sym (truth_is false) ∙ h))
both_true true true false h = refl
both_true true false false h = absurd (false≢true (sym null_is ∙ h))
both_true false b false h = absurd (false≢true (sym null_is ∙ h))

pub conjunction_true : (a b : Option Bool) → is_true (truth_in (conjunction a b)) ≡ true
    → (is_true a ≡ true) × (is_true b ≡ true)
conjunction_true a b h =
    and_parts (is_true a) (is_true b) (both_true (is_true a) (is_true b) (is_false a || is_false b) h)

if_null : (v w : Value) (b : Bool) → is_true (truth_in (if b then null else truth (are_equal v w))) ≡ true
    → are_equal v w ≡ true
if_null v w true h = absurd (false≢true (sym null_is ∙ h))
if_null v w false h = sym (truth_is (are_equal v w)) ∙ h

-- both sides of an equation that is true
pub equal_both : (e f : Evaluated) → is_true (truth_in (equal e f)) ≡ true
    → (w : Value) × (v : Value) × (e ≡ Found w) × (f ≡ Found v) × (are_equal w v ≡ true)
equal_both Missing f h = absurd (false≢true h)
equal_both (Found w) Missing h = absurd (false≢true h)
equal_both (Found w) (Found v) h = (w, v, refl, refl, if_null w v (is_null w || is_null v) h)

-- what equals a value
pub equal_right : (e : Evaluated) (v : Value) → is_true (truth_in (equal e (Found v))) ≡ true
    → (w : Value) × (e ≡ Found w) × (are_equal w v ≡ true)
equal_right Missing v h = absurd (false≢true h)
equal_right (Found w) v h = (w, refl, if_null w v (is_null w || is_null v) h)

pub equal_left : (v : Value) (e : Evaluated) → is_true (truth_in (equal (Found v) e)) ≡ true
    → (w : Value) × (e ≡ Found w) × (are_equal v w ≡ true)
equal_left v Missing h = absurd (false≢true h)
equal_left v (Found w) h = (w, refl, if_null v w (is_null v || is_null w) h)

-- ---- keys

tie_is : (o : Option Ordering) → is_some_and is_eq o ≡ true → o ≡ Some Equal
tie_is None h = absurd (false≢true h)
tie_is (Some Less) h = absurd (false≢true h)
tie_is (Some Equal) h = refl
tie_is (Some Greater) h = absurd (false≢true h)

pub inside : {A : Type 0} (a b : A) → Some a ≡ Some b → a ≡ b
inside a b h = cc h

pub no_key_seen : (s : Seen) (k : Key) → is_container_seen s ≡ true → option_map key_of_scalar (scalar_of_body s) ≡ Some k
    → ⊥
no_key_seen (Body-F.List vs) k h e = cc
no_key_seen (Body-F.Sexp vs) k h e = cc
no_key_seen (Body-F.Struct fs) k h e = cc
no_key_seen (Body-F.Null n) k h e = cc
no_key_seen (Body-F.Bool b) k h e = false≢true h
no_key_seen (Body-F.Int n) k h e = false≢true h
no_key_seen (Body-F.Decimal d) k h e = false≢true h
no_key_seen (Body-F.Timestamp t) k h e = false≢true h
no_key_seen (Body-F.Symbol t) k h e = false≢true h
no_key_seen (Body-F.String t) k h e = false≢true h
no_key_seen (Body-F.Clob t) k h e = false≢true h
no_key_seen (Body-F.Blob t) k h e = false≢true h

equals : (v w : Value) → are_equal v w ≡ true
    → (is_tie v w ≡ true) ⊎ ((is_container v ≡ true) × (is_container w ≡ true))
unfolding are_equal
equals v w h =
    elim (or_cases (is_tie v w) _ h) as (λ _. (is_tie v w ≡ true)
    ⊎ ((is_container v ≡ true) × (is_container w ≡ true))) [
      | inl tie ↦ inl tie
      | inr both ↦
          let first = and_parts (is_container v && is_container w) _ both in
          inr (and_parts (is_container v) (is_container w) first.0)
    ]

-- two values that are equal have one key, or both are containers
abbrev pub Matches : Value → Value → Type 0
Matches w v =
    ((k : Key) × (key_of w ≡ Some k) × (key_of v ≡ Some k)) ⊎ ((is_container w ≡ true) × (is_container v ≡ true))

pub matches : (w v : Value) → are_equal w v ≡ true → Matches w v
matches w v h =
    elim (equals w v h) as (λ _. Matches w v) [
      | inl tie ↦ let same = (keys_tell_equal w v).0 (tie_is (compare_of w v) tie) in inl (same.0, same.1, same.2)
      | inr both ↦ inr both
    ]

pub turned : (w v : Value) → Matches w v → Matches v w
turned w v (inl same) = inl (same.0, same.2, same.1)
turned w v (inr both) = inr (both.1, both.0)

-- a value with a key is no container
pub key_matches : (w v : Value) (k : Key) → Matches w v → key_of w ≡ Some k → key_of v ≡ Some k
key_matches w v k (inl same) e = same.2 ∙ (sym same.1 ∙ e)
key_matches w v k (inr both) e = absurd (no_key_seen (seen w) k both.0 e)

-- and where a value is no container, both have a key
pub plain_matches : (w v : Value) → Matches w v → is_container v ≡ false
    → (k : Key) × (key_of w ≡ Some k) × (key_of v ≡ Some k)
plain_matches w v (inl same) plain = same
plain_matches w v (inr both) plain = absurd (false≢true (sym plain ∙ both.1))

-- ---- keys of texts

number_by : (d : DecimalParts) (t : List ℕ) (b : Bool) (x y : Key)
    → (if b then x else y) ≡ key.Text t → (x ≡ key.Text t → ⊥) → (y ≡ key.Text t → ⊥) → ⊥
number_by d t true x y h left right = left h
number_by d t false x y h left right = right h

number_no_text : (d : DecimalParts) (t : List ℕ) → key_of_number d ≡ key.Text t → ⊥
unfolding key_of_number
number_no_text d t h = number_by d t (is_zero d.coefficient) _ _ h (λ e. cc) (λ e. cc)

text_key_seen : (s : Seen) (t : List ℕ) → text_seen s ≡ Some t
    → option_map key_of_scalar (scalar_of_body s) ≡ Some (key.Text t)
text_key_seen (Body-F.Symbol u) t h = ap (λ x. Some (key.Text x)) (inside u t h)
text_key_seen (Body-F.String u) t h = ap (λ x. Some (key.Text x)) (inside u t h)
text_key_seen (Body-F.List vs) t h = cc
text_key_seen (Body-F.Sexp vs) t h = cc
text_key_seen (Body-F.Struct fs) t h = cc
text_key_seen (Body-F.Null n) t h = cc
text_key_seen (Body-F.Bool b) t h = cc
text_key_seen (Body-F.Int n) t h = cc
text_key_seen (Body-F.Decimal d) t h = cc
text_key_seen (Body-F.Timestamp x) t h = cc
text_key_seen (Body-F.Clob x) t h = cc
text_key_seen (Body-F.Blob x) t h = cc

pub text_key : (v : Value) (t : List ℕ) → text_of v ≡ Some t → key_of v ≡ Some (key.Text t)
text_key v t h = text_key_seen (seen v) t h

key_is_text : (s : Seen) (t : List ℕ) → option_map key_of_scalar (scalar_of_body s) ≡ Some (key.Text t)
    → text_seen s ≡ Some t
key_is_text (Body-F.Symbol u) t h = cc h
key_is_text (Body-F.String u) t h = cc h
key_is_text (Body-F.List vs) t h = cc
key_is_text (Body-F.Sexp vs) t h = cc
key_is_text (Body-F.Struct fs) t h = cc
key_is_text (Body-F.Null n) t h = cc
key_is_text (Body-F.Bool b) t h = cc
key_is_text (Body-F.Int n) t h = absurd (number_no_text _ t (inside _ _ h))
key_is_text (Body-F.Decimal d) t h = absurd (number_no_text _ t (inside _ _ h))
key_is_text (Body-F.Timestamp x) t h = cc
key_is_text (Body-F.Clob x) t h = cc
key_is_text (Body-F.Blob x) t h = cc

pub text_by_key : (v : Value) (t : List ℕ) → key_of v ≡ Some (key.Text t) → text_of v ≡ Some t
text_by_key v t h = key_is_text (seen v) t h

-- ---- a key is the same as itself

bytes_same : (xs : List ℕ) → bytes_eq xs xs ≡ true
bytes_same xs = (bytes_eq-Decides xs xs).1 refl

same_key : (k : Key) → is_same_key k k ≡ true
same_key (key.Bool true) = refl
same_key (key.Bool false) = refl
same_key (key.Number c e) = and_from _ _ ((Decides-int_eq c c).1 refl) ((Decides-int_eq e e).1 refl)
same_key (key.Text a) = bytes_same a
same_key (key.Moment a) = (Decides-int_eq a a).1 refl
same_key (key.Clob a) = bytes_same a
same_key (key.Blob a) = bytes_same a

pub key_found : (k : Key) (o : Option Key) → o ≡ Some k → has_key k o ≡ true
key_found k o h = ap (has_key k) h ∙ same_key k
