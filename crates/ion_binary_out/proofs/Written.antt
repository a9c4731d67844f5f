-- What is written denotes the values.
use Rattle.std.proofs.Common.{◌≡◌, ◌∙◌, ℕ, suc, Bool, true, false, ◌&&◌, ◌||◌, not, if◌then◌else◌, List, [], ◌∷◌, ◌++◌, map, drop, refl, sym, ap, subst, arith, append_assoc, true≢false}
use Rattle.std.specs.Prelude.{IsTrue, fold}
use Rattle.std.specs.List.{All, AllByRecursion, Contains, flat_map, list_all, list_any}
use Rattle.std.specs.Str.{bytes_eq}
use Rattle.std.specs.Cmp.Lexicographic.{bytes_decides}
use Rattle.std.proofs.lemmas.List.{append-nil, drop_at}
use Rattle.std.proofs.lemmas.List.Elements.{All-from_recursion, Contains-append_left, Contains-push}
use Rattle.ion_values.specs.declared.value.Value.{Value}
use Rattle.ion_values.specs.Within.{all_true, within}
use Rattle.hash_model.specs.Serialize.{joined}
use Rattle.ion_binary_out.specs.BinaryText.{Denotes, Text, are_distinct, binary_text, is_top, symbols_after, symbols_of, system_symbols, table_of, table_or_nothing, texts_in, value_bytes, version_marker, with_symbol}

-- ---- what stands in front stays

record Extends (front texts : List Text) : Type 0 where
  more : List Text
  is : texts ≡ front ++ more

with_extends : (symbols : List Text) (text : Text) → Extends symbols (with_symbol symbols text)
with_extends symbols text =
    elim (list_any (bytes_eq text) symbols) as (λ b. Extends symbols (if b then symbols else symbols ++ text ∷ [])) [
      | true ↦ record { more = []; is = sym (append-nil symbols) }
      | false ↦ record { more = text ∷ []; is = refl }
    ]

fold_extends : (symbols texts : List Text) → Extends symbols (fold with_symbol symbols texts)
fold_extends symbols [] = record { more = []; is = sym (append-nil symbols) }
fold_extends symbols (text ∷ texts) =
    let here = with_extends symbols text in
    let rest = fold_extends (with_symbol symbols text) texts in
    record {
      more = here.more ++ rest.more;
      is = rest.is ∙ ap (λ front. front ++ rest.more) here.is ∙ append_assoc symbols here.more rest.more;
    }

-- ---- each text is among the symbols

any_contains : (text : Text) (symbols : List Text) → list_any (bytes_eq text) symbols ≡ true → Contains symbols text
any_contains text [] h = absurd (true≢false (sym h))
any_contains text (x ∷ xs) h =
    elim (bytes_eq text x) as (λ b. bytes_eq text x ≡ b → (b || list_any (bytes_eq text) xs) ≡ true → Contains (x ∷ xs) text) [
      | true ↦ λ is all. (0, omega arith, sym ((bytes_decides text x).0 is))
      | false ↦ λ is all. let rest = any_contains text xs all in (suc rest.0, omega (arith, rest.1), rest.2)
    ] refl h

with_contains : (symbols : List Text) (text : Text) → Contains (with_symbol symbols text) text
with_contains symbols text =
    elim (list_any (bytes_eq text) symbols) as (λ b. list_any (bytes_eq text) symbols ≡ b → Contains (if b then symbols else symbols ++ text ∷ []) text) [
      | true ↦ λ is. any_contains text symbols is
      | false ↦ λ is. Contains-push symbols text
    ] refl

stays : (front texts : List Text) (text : Text) → Extends front texts → Contains front text → Contains texts text
stays front texts text e h = subst (λ all. Contains all text) (sym e.is) (Contains-append_left front e.more text h)

fold_contains : (symbols texts : List Text) → AllByRecursion (Contains (fold with_symbol symbols texts)) texts
fold_contains symbols [] = tt
fold_contains symbols (text ∷ texts) =
    let here = with_symbol symbols text in (
      stays here (fold with_symbol here texts) text (fold_extends here texts) (with_contains symbols text),
      fold_contains here texts,
    )

-- ---- no text stands twice

eq_turned : (a b : Text) → bytes_eq a b ≡ false → bytes_eq b a ≡ false
eq_turned a b h =
    elim (bytes_eq b a) as (λ c. bytes_eq b a ≡ c → c ≡ false) [
      | true ↦ λ is. absurd (true≢false (sym ((bytes_decides a b).1 (sym ((bytes_decides b a).0 is))) ∙ h))
      | false ↦ λ is. refl
    ] refl

or_false : (p q : Bool) → (p || q) ≡ false → (p ≡ false) × (q ≡ false)
or_false false false h = (refl, refl)
or_false false true h = absurd (true≢false h)
or_false true q h = absurd (true≢false h)

any_push : (test : Text → Bool) (xs : List Text) (y : Text) → list_any test xs ≡ false → test y ≡ false → list_any test (xs ++ y ∷ []) ≡ false
any_push test [] y h k = ap (λ b. b || false) k
any_push test (x ∷ xs) y h k =
    let both = or_false (test x) (list_any test xs) h in
    ap (λ b. b || list_any test (xs ++ y ∷ [])) both.0 ∙ any_push test xs y both.1 k

and_true : (p q : Bool) → IsTrue (p && q) → IsTrue p × IsTrue q
and_true true true h = (refl, refl)
and_true true false h = absurd (true≢false (sym h))
and_true false q h = absurd (true≢false (sym h))

not_true : (p : Bool) → IsTrue (not p) → p ≡ false
not_true false h = refl
not_true true h = absurd (true≢false (sym h))

true_and : (p q : Bool) → p ≡ false → IsTrue q → IsTrue (not p && q)
true_and false true h k = refl
true_and false false h k = absurd (true≢false (sym k))
true_and true q h k = absurd (true≢false h)

distinct_push : (xs : List Text) (y : Text) → IsTrue (are_distinct xs) → list_any (bytes_eq y) xs ≡ false → IsTrue (are_distinct (xs ++ y ∷ []))
distinct_push [] y d h = refl
distinct_push (x ∷ xs) y d h =
    let parts = and_true (not (list_any (bytes_eq x) xs)) (are_distinct xs) d in
    let apart = or_false (bytes_eq y x) (list_any (bytes_eq y) xs) h in
    true_and (list_any (bytes_eq x) (xs ++ y ∷ [])) (are_distinct (xs ++ y ∷ []))
    (any_push (bytes_eq x) xs y (not_true (list_any (bytes_eq x) xs) parts.0) (eq_turned y x apart.0))
    (distinct_push xs y parts.1 apart.1)

with_distinct : (symbols : List Text) (text : Text) → IsTrue (are_distinct symbols) → IsTrue (are_distinct (with_symbol symbols text))
with_distinct symbols text d =
    elim (list_any (bytes_eq text) symbols) as (λ b. list_any (bytes_eq text) symbols ≡ b → IsTrue (are_distinct (if b then symbols else symbols ++ text ∷ []))) [
      | true ↦ λ is. d
      | false ↦ λ is. distinct_push symbols text d is
    ] refl

fold_distinct : (symbols texts : List Text) → IsTrue (are_distinct symbols) → IsTrue (are_distinct (fold with_symbol symbols texts))
fold_distinct symbols [] d = d
fold_distinct symbols (text ∷ texts) d = fold_distinct (with_symbol symbols text) texts (with_distinct symbols text d)

-- ---- the symbols after the table are all of them

after_table : (more : List Text) → symbols_after (table_of more) ≡ system_symbols ++ more
after_table [] = refl
after_table (text ∷ more) = refl

symbols_are : (values : List Value) → symbols_after (table_of (drop 9 (symbols_of values))) ≡ symbols_of values
symbols_are values =
    let e = fold_extends system_symbols (flat_map texts_in values) in
    let rest : drop 9 (symbols_of values) ≡ e.more = ap (drop 9) e.is ∙ drop_at system_symbols e.more 9 refl in
    ap (λ more. symbols_after (table_of more)) rest ∙ after_table e.more ∙ sym e.is

pub written_denotes : (values : List Value) (bytes : List ℕ) → IsTrue (list_all is_top values) → IsTrue (all_true (map within values))
    → bytes ≡ binary_text values → Denotes bytes values
unfolding binary_text
written_denotes values bytes top ranges e = record {
  table = table_of (drop 9 (symbols_of values));
  distinct = subst (λ texts. IsTrue (are_distinct texts)) (sym (symbols_are values)) (fold_distinct system_symbols (flat_map texts_in values) refl);
  known =
      subst (λ texts. All (Contains texts) (flat_map texts_in values)) (sym (symbols_are values))
      (All-from_recursion (Contains (symbols_of values)) (flat_map texts_in values) (fold_contains system_symbols (flat_map texts_in values)));
  top = top;
  within = ranges;
  stream = e;
}

pub bytes_written : (values : List Value) (symbols : List Text) (begun all : List ℕ) → symbols ≡ symbols_of values
    → begun ≡ version_marker ++ table_or_nothing (table_of (drop 9 symbols)) → all ≡ begun ++ joined (map (value_bytes symbols) values)
    → all ≡ binary_text values
unfolding binary_text
bytes_written values symbols begun all s t v =
    let own : symbols ≡ symbols_after (table_of (drop 9 (symbols_of values))) = s ∙ sym (symbols_are values) in
    v
    ∙ (λ i. (t ∙ (λ j. version_marker ++ table_or_nothing (table_of (drop 9 (s j))))) i ++ joined (map (value_bytes (own i)) values))
    ∙ append_assoc version_marker (table_or_nothing (table_of (drop 9 (symbols_of values)))) (joined (map (value_bytes (symbols_after (table_of (drop 9 (symbols_of values))))) values))
