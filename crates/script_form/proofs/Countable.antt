-- The members of a session among values whose lists are short.
use Rattle.std.proofs.Common.{◌≡◌, ◌<◌, ◌≤◌, ◌^◌, ◌&&◌, ℕ, ◌==◌, Bool, true, false, nat_le, List, [], map, length, get_or, true≢false, Some, None, if◌then◌else◌, refl, sym, ◌∙◌, arith, rules}
use Rattle.std.specs.List.{All, list_all}
use Rattle.std.specs.Option.{unwrap_or}
use Rattle.std.proofs.lemmas.List.{length-map}
use Rattle.std.proofs.lemmas.List.Folds.{list_all_at}
use borrow.Author.Tests as tests
use Rattle.ion_values.specs.Within.{all_true}
use Rattle.ion_values.specs.declared.value.Value.{Value}
use Rattle.ion_values.specs.declared.value.Field.{Field}
use Rattle.ion_values.specs.declared.value.Body.{Body, out-Body}
use Rattle.ion_values.specs.declared.value.Body.TheOpen.{Body-F}
use Rattle.ion_values.specs.declared.value.Body.TheFolds.{the_lemmas}
use Rattle.ion_model.specs.Short.{is_short, field_short, all_short}
use Rattle.ledger_model.specs.Values.{list_at}
use Rattle.script_form.specs.Answers.{IsCountable, members_in}

-- one level, with the values inside judged
abbrev short_level : ℕ → Body-F Body Field Value → Bool
short_level n (Body-F.List vs) = nat_le (length (map (is_short n) vs)) n && all_true (map (is_short n) vs)
short_level n (Body-F.Sexp vs) = nat_le (length (map (is_short n) vs)) n && all_true (map (is_short n) vs)
short_level n (Body-F.Struct fs) = nat_le (length (map (field_short n) fs)) n && all_true (map (field_short n) fs)
short_level n _ = true

at_value : (n : ℕ) (v : Value) → is_short n v ≡ (nat_le (length v.annotations) n && short_level n (out-Body v.body))
at_value n v = search (rules, the_lemmas)

both_true : (a b : Bool) → (a && b) ≡ true → (a ≡ true) × (b ≡ true)
both_true true b h = (refl, h)
both_true false b h = absurd cc

few_at : (n : ℕ) (b : Body-F Body Field Value) → short_level n b ≡ true → length (unwrap_or (list_at (Some b)) []) ≤ n
few_at n (Body-F.List vs) h =
    let fits = tests.true-leb (length (map (is_short n) vs)) n (sym (both_true (nat_le (length (map (is_short n) vs)) n) (all_true (map (is_short n) vs)) h).0) in
    rw (length-map vs (is_short n)) at fits
few_at n _ h = omega arith

few_bare : (n : ℕ) (is_bare : Bool) (b : Body-F Body Field Value) → short_level n b ≡ true
    → length (unwrap_or (list_at (if is_bare then Some b else None)) []) ≤ n
few_bare n true b h = few_at n b h
few_bare n false b h = omega arith

few_members : (n : ℕ) (v : Value) → is_short n v ≡ true → length (members_in v) ≤ n
few_members n v h =
    few_bare n (length v.annotations == 0) (out-Body v.body)
    (both_true (nat_le (length v.annotations) n) (short_level n (out-Body v.body)) (sym (at_value n v) ∙ h)).1

not_false : (b : Bool) → (b ≡ false → ⊥) → b ≡ true
not_false true h = refl
not_false false h = absurd (h refl)

-- the sessions of values whose lists are short can be counted
pub countable : (n : ℕ) (values : List Value) → n < 2 ^ 32 → all_short n values ≡ true → All IsCountable values
countable n values fits short k d within =
    let all = (both_true (nat_le (length values) n) (list_all (is_short n) values) short).1 in
    let one = not_false (is_short n (get_or values k d)) (λ long. true≢false (sym all ∙ list_all_at (is_short n) values k d within long)) in
    omega (arith, fits, few_members n (get_or values k d) one)
