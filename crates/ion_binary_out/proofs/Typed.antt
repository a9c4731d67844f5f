-- A descriptor determines the type and where the representation ends.
use Rattle.std.proofs.Common.{◌≡◌, ◌∙◌, ℕ, suc, ◌+◌, ◌*◌, ◌<◌, ◌≤◌, true, false, nat_lt, if◌then◌else◌, List, [], ◌∷◌, ◌++◌, length, refl, sym, ap, inl, inr, arith, append_assoc}
use Rattle.std.proofs.lemmas.Bool.Decides.{nat_tests, leb_tells}
use Rattle.laws_serialization.specs.Numbers.{VarUIntIsPrefixFree}
use Rattle.hash_model.specs.Numbers.{var_uint}
use Rattle.ion_binary_out.specs.BinaryText.{descriptor, typed}

unfoldable pub first : List ℕ → ℕ
first [] = 0
first (x ∷ xs) = x

others : List ℕ → List ℕ
others [] = []
others (x ∷ xs) = xs

pub head_same : (x y : ℕ) (xs ys : List ℕ) → x ∷ xs ≡ y ∷ ys → (x ≡ y) × (xs ≡ ys)
unfolding first others
head_same x y xs ys e = (ap first e, ap others e)

-- fronts of one length are one
pub same_front : (xs ys r s : List ℕ) → length xs ≡ length ys → xs ++ r ≡ ys ++ s → (xs ≡ ys) × (r ≡ s)
same_front [] [] r s l e = (refl, e)
same_front [] (y ∷ ys) r s l e = absurd (omega arith)
same_front (x ∷ xs) [] r s l e = absurd (omega arith)
same_front (x ∷ xs) (y ∷ ys) r s l e =
    let here = head_same x y (xs ++ r) (ys ++ s) e in
    let rest = same_front xs ys r s (omega arith) here.1 in
    ((λ i. here.0 i ∷ rest.0 i), rest.1)

short : (type len : ℕ) → len < 14 → descriptor type len ≡ (16 * type + len) ∷ []
short type len h =
    let is : nat_lt len 14 ≡ true = grind (arith, nat_tests) in
    ap (λ b. if b then (16 * type + len) ∷ [] else (16 * type + 14) ∷ var_uint len) is

long : (type len : ℕ) → 14 ≤ len → descriptor type len ≡ (16 * type + 14) ∷ var_uint len
long type len h =
    let is : nat_lt len 14 ≡ false = grind (arith, nat_tests) in
    ap (λ b. if b then (16 * type + len) ∷ [] else (16 * type + 14) ∷ var_uint len) is

-- the first byte of what is typed, and what comes after it
pub record Opens (type : ℕ) (bytes : List ℕ) (rest : List ℕ) : Type 0 where
  pub low : ℕ
  pub after : List ℕ
  pub small : low < 15
  pub opens : typed type bytes ++ rest ≡ (16 * type + low) ∷ after

typed_short : (type : ℕ) (bytes rest : List ℕ) → length bytes < 14 → typed type bytes ++ rest ≡ (16 * type + length bytes) ∷ (bytes ++ rest)
unfolding typed
typed_short type bytes rest h = ap (λ front. front ++ bytes ++ rest) (short type (length bytes) h)

typed_long : (type : ℕ) (bytes rest : List ℕ) → 14 ≤ length bytes
    → typed type bytes ++ rest ≡ (16 * type + 14) ∷ (var_uint (length bytes) ++ (bytes ++ rest))
unfolding typed
typed_long type bytes rest h =
    ap (λ front. front ++ bytes ++ rest) (long type (length bytes) h)
    ∙ ap (λ more. (16 * type + 14) ∷ more) (append_assoc (var_uint (length bytes)) bytes rest)

pub typed_opens : (type : ℕ) (bytes rest : List ℕ) → Opens type bytes rest
typed_opens type bytes rest =
    elim (leb_tells (suc (length bytes)) 14) [
      | inl low ↦ record { low = length bytes; after = bytes ++ rest; small = omega (arith, low.1); opens = typed_short type bytes rest (omega (arith, low.1)) }
      | inr high ↦ record { low = 14; after = var_uint (length bytes) ++ (bytes ++ rest); small = omega arith; opens = typed_long type bytes rest (omega (arith, high.1)) }
    ]

-- equal first bytes have equal halves
halves : (t u m n : ℕ) → 16 * t + m ≡ 16 * u + n → m < 16 → n < 16 → (t ≡ u) × (m ≡ n)
halves t u m n e hm hn = (omega arith, omega arith)

pub record SameTyped (t u : ℕ) (xs ys r s : List ℕ) : Type 0 where
  pub type : t ≡ u
  pub bytes : xs ≡ ys
  pub rest : r ≡ s

module _ (var_uints_end : VarUIntIsPrefixFree) where
  pub typed_unique : (t u : ℕ) (xs ys r s : List ℕ) → typed t xs ++ r ≡ typed u ys ++ s → SameTyped t u xs ys r s
  typed_unique t u xs ys r s e =
      elim (leb_tells (suc (length xs)) 14) [
        | inl low ↦ elim (leb_tells (suc (length ys)) 14) [
          | inl low' ↦
              let here = head_same _ _ _ _ (sym (typed_short t xs r (omega (arith, low.1))) ∙ e ∙ typed_short u ys s (omega (arith, low'.1))) in
              let half = halves t u (length xs) (length ys) here.0 (omega (arith, low.1)) (omega (arith, low'.1)) in
              let parts = same_front xs ys r s half.1 here.1 in
              record { type = half.0; bytes = parts.0; rest = parts.1 }
          | inr high' ↦
              let here = head_same _ _ _ _ (sym (typed_short t xs r (omega (arith, low.1))) ∙ e ∙ typed_long u ys s (omega (arith, high'.1))) in
              let half = halves t u (length xs) 14 here.0 (omega (arith, low.1)) (omega arith) in
              absurd (omega (arith, low.1, half.1))
        ]
        | inr high ↦ elim (leb_tells (suc (length ys)) 14) [
          | inl low' ↦
              let here = head_same _ _ _ _ (sym (typed_long t xs r (omega (arith, high.1))) ∙ e ∙ typed_short u ys s (omega (arith, low'.1))) in
              let half = halves t u 14 (length ys) here.0 (omega arith) (omega (arith, low'.1)) in
              absurd (omega (arith, low'.1, half.1))
          | inr high' ↦
              let here = head_same _ _ _ _ (sym (typed_long t xs r (omega (arith, high.1))) ∙ e ∙ typed_long u ys s (omega (arith, high'.1))) in
              let half = halves t u 14 14 here.0 (omega arith) (omega arith) in
              let lens = var_uints_end (length xs) (length ys) (xs ++ r) (ys ++ s) here.1 in
              let parts = same_front xs ys r s lens.0 lens.1 in
              record { type = half.0; bytes = parts.0; rest = parts.1 }
        ]
      ]
