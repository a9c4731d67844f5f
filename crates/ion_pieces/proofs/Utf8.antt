-- Where bytes stop being UTF-8 doesn't change with what follows white space, and what is UTF-8 in front doesn't change it.
use Rattle.std.proofs.Common.{◌≡◌, ◌≤◌, ◌<◌, ◌+◌, ◌-◌, ℕ, zero, suc, Bool, true, false, List, [], ◌∷◌, ◌++◌, length, length-append, take, get_or, inl, inr, refl, ap, sym, subst, ◌∙◌, arith}
use Rattle.std.specs.Str.{IsUtf8, IsCharBoundary, is_utf8}
use Rattle.std.specs.Str.Lossy.{utf8_valid_len, valid_len_up_to}
use Rattle.std.proofs.lemmas.Bool.{cases_lt, cond_both, both_ways, false_from_ne_true}
use Rattle.std.proofs.lemmas.Bool.Decides.{nat_tests}
use Rattle.std.proofs.lemmas.List.{append_assoc, drop_at, get_or-append-add, take-append-le, take_all, take_at}
use Rattle.std.proofs.lemmas.Str.{IsUtf8-append, IsUtf8-drop, IsUtf8-from_is_utf8, IsUtf8-nil, IsUtf8-take, IsCharBoundary-after_ascii, IsCharBoundary-from_take, is_utf8-from_IsUtf8, utf8_valid_len-IsValidUpTo}
use Rattle.ion_model.specs.Blanks.{is_space}
use Rattle.ion_pieces.specs.Fronts.{EndsWhite}

-- ---- the longest front

fronts_valid : (z : List ℕ) (m : ℕ) → IsUtf8 (take (valid_len_up_to z m) z)
fronts_valid z zero = IsUtf8-nil
fronts_valid z (suc m) =
    cond_both (is_utf8 (take (suc m) z)) (suc m) (valid_len_up_to z m) (λ n. IsUtf8 (take n z)) (λ h. IsUtf8-from_is_utf8 (take (suc m) z) h) (λ _. fronts_valid z m)

none_longer : (z : List ℕ) (m k : ℕ) → valid_len_up_to z m < k → k ≤ m → IsUtf8 (take k z) → ⊥
none_longer z zero k = λ above within. absurd (omega arith)
none_longer z (suc m) k =
    cond_both (is_utf8 (take (suc m) z)) (suc m) (valid_len_up_to z m) (λ n. n < k → k ≤ suc m → IsUtf8 (take k z) → ⊥)
    (λ _ above within. absurd (omega arith))
    (λ other above within valid. elim (cases_lt k (suc m)) [
      | inl below ↦ none_longer z m k above (omega arith) valid
      | inr least ↦
          let same : k ≡ suc m = omega arith in
          both_ways (is_utf8 (take (suc m) z)) other (is_utf8-from_IsUtf8 (take (suc m) z) (subst (λ n. IsUtf8 (take n z)) same valid))
    ])

valid_front : (z : List ℕ) → IsUtf8 (take (utf8_valid_len z) z)
unfolding utf8_valid_len
valid_front z = fronts_valid z (length z)

valid_longest : (z : List ℕ) (k : ℕ) → utf8_valid_len z < k → k ≤ length z → IsUtf8 (take k z) → ⊥
unfolding utf8_valid_len
valid_longest z k = none_longer z (length z) k

-- bytes that aren't UTF-8 go on behind the longest front that is
valid_short : (z : List ℕ) → is_utf8 z ≡ false → utf8_valid_len z < length z
valid_short z other = elim (cases_lt (utf8_valid_len z) (length z)) [
  | inl short ↦ short
  | inr all ↦ absurd (both_ways (is_utf8 z) other (is_utf8-from_IsUtf8 z (subst IsUtf8 (take_all (utf8_valid_len z) z all) (valid_front z))))
]

-- also of longer parts
valid_none : (z : List ℕ) (k : ℕ) → is_utf8 z ≡ false → utf8_valid_len z < k → IsUtf8 (take k z) → ⊥
valid_none z k other above valid = elim (cases_lt (length z) k) [
  | inl past ↦ both_ways (is_utf8 z) other (is_utf8-from_IsUtf8 z (subst IsUtf8 (take_all k z (omega arith)) valid))
  | inr within ↦ valid_longest z k above within valid
]

-- ---- two texts, one behind the other

take_past : (a b : List ℕ) (m : ℕ) → length a ≤ m → take m (a ++ b) ≡ a ++ take (m - length a) b
take_past [] b m h = ap (λ n. take n b) (let all : m ≡ m - 0 = omega arith in all)
take_past (x ∷ a) b zero h = absurd (omega arith)
take_past (x ∷ a) b (suc m) h =
    let rest : m - length a ≡ suc m - suc (length a) = omega arith in
    ap (λ y. x ∷ y) (take_past a b m (omega arith) ∙ ap (λ n. a ++ take n b) rest)

same_test : (x y : Bool) → (x ≡ true → y ≡ true) → (y ≡ true → x ≡ true) → x ≡ y
same_test true y h k = sym (h refl)
same_test false true h k = k refl
same_test false false h k = refl

-- behind a text that is UTF-8
utf8_rest : (a b : List ℕ) → IsUtf8 a → IsUtf8 (a ++ b) → IsUtf8 b
utf8_rest a b u v =
    let front : take (length a) (a ++ b) ≡ a = take_at a b (length a) refl in
    let seam : IsCharBoundary (a ++ b) (length a) = IsCharBoundary-from_take (a ++ b) (length a) v (omega (arith, length-append a b)) (subst IsUtf8 (sym front) u) in
    subst IsUtf8 (drop_at a b (length a) refl) (IsUtf8-drop (a ++ b) (length a) v seam)

pub utf8_behind : (a b : List ℕ) → is_utf8 a ≡ true → is_utf8 (a ++ b) ≡ is_utf8 b
utf8_behind a b h =
    let u = IsUtf8-from_is_utf8 a h in
    same_test (is_utf8 (a ++ b)) (is_utf8 b) (λ k. is_utf8-from_IsUtf8 b (utf8_rest a b u (IsUtf8-from_is_utf8 (a ++ b) k)))
    (λ k. is_utf8-from_IsUtf8 (a ++ b) (IsUtf8-append a b u (IsUtf8-from_is_utf8 b k)))

pub valid_behind : (a b : List ℕ) → is_utf8 a ≡ true → is_utf8 b ≡ false → utf8_valid_len (a ++ b) ≡ length a + utf8_valid_len b
valid_behind a b h other =
    let u = IsUtf8-from_is_utf8 a h in
    let n = utf8_valid_len b in
    let short = valid_short b other in
    let front : take (length a + n) (a ++ b) ≡ a ++ take n b = take_past a b (length a + n) (omega arith) ∙ ap (λ k. a ++ take k b) (let left : length a + n - length a ≡ n = omega arith in left) in
    utf8_valid_len-IsValidUpTo (a ++ b) (length a + n)
    (record {
      short = omega (arith, length-append a b);
      front = subst IsUtf8 (sym front) (IsUtf8-append a (take n b) u (valid_front b));
      longest = λ m above valid. valid_none b (m - length a) other (omega arith) (utf8_rest a (take (m - length a) b) u (subst IsUtf8 (take_past a b m (omega arith)) valid));
    })

-- ---- behind white space

white_ascii : (s : ℕ) → is_space s ≡ true → s < 128
white_ascii s h = grind (arith, nat_tests)

-- a front that ends in white space is UTF-8 where the whole is
utf8_front : (a b : List ℕ) → EndsWhite a → IsUtf8 (a ++ b) → IsUtf8 a
utf8_front a b ends u =
    let at = length ends.before in
    let whole : a ++ b ≡ ends.before ++ (ends.white ∷ b) = ap (λ y. y ++ b) ends.ends ∙ append_assoc ends.before (ends.white ∷ []) b in
    let len : length a ≡ at + 1 = ap length ends.ends ∙ length-append ends.before (ends.white ∷ []) in
    let last : get_or (a ++ b) at 0 ≡ ends.white =
    ap (λ y. get_or y at 0) whole ∙ ap (λ n. get_or (ends.before ++ (ends.white ∷ b)) n 0) (let same : at ≡ at + 0 = omega arith in same) ∙ get_or-append-add ends.before (ends.white ∷ b) 0 0 in
    let small : get_or (a ++ b) at 0 < 128 = omega (arith, white_ascii ends.white ends.is, last) in
    let seam : IsCharBoundary (a ++ b) (at + 1) = IsCharBoundary-after_ascii (a ++ b) at u (omega (arith, length-append a b, len)) small in
    subst IsUtf8 (ap (λ n. take n (a ++ b)) (sym len) ∙ take_at a b (length a) refl) (IsUtf8-take (a ++ b) (at + 1) u seam)

pub ill_formed_front : (a b : List ℕ) → EndsWhite a → is_utf8 a ≡ false → is_utf8 (a ++ b) ≡ false
ill_formed_front a b ends other =
    false_from_ne_true (is_utf8 (a ++ b)) (λ h. both_ways (is_utf8 a) other (is_utf8-from_IsUtf8 a (utf8_front a b ends (IsUtf8-from_is_utf8 (a ++ b) h))))

pub valid_front_len : (a b : List ℕ) → EndsWhite a → is_utf8 a ≡ false → utf8_valid_len (a ++ b) ≡ utf8_valid_len a
valid_front_len a b ends other =
    let n = utf8_valid_len a in
    let short = valid_short a other in
    utf8_valid_len-IsValidUpTo (a ++ b) n
    (record {
      short = omega (arith, length-append a b);
      front = subst IsUtf8 (sym (take-append-le n a b (omega arith))) (valid_front a);
      longest = λ m above valid. elim (cases_lt (length a) m) [
        | inl past ↦ both_ways (is_utf8 a) other (is_utf8-from_IsUtf8 a (utf8_front a (take (m - length a) b) ends (subst IsUtf8 (take_past a b m (omega arith)) valid)))
        | inr within ↦ valid_none a m other above (subst IsUtf8 (take-append-le m a b within) valid)
      ];
    })
