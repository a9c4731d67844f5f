-- The digits of a number, one level at a time.
use Rattle.std.proofs.Common.{◌≡◌, ◌∙◌, ℕ, zero, suc, ◌+◌, ◌/◌, ◌%◌, ◌<◌, ◌≤◌, nat_lt, true, false, List, [], ◌∷◌, ◌++◌, refl, ap, sym, arith, inl, inr}
use Rattle.std.proofs.lemmas.Bool.Decides.{nat_tests, leb_tells}
use Rattle.std.proofs.Math.Nat.{div-lt_self}
use Rattle.hash_model.specs.Numbers.{digits_in, digits_of, ended}

within : (n limit : ℕ) → n < limit → nat_lt n limit ≡ true
within n limit h = grind (arith, nat_tests)

past : (n limit : ℕ) → limit ≤ n → nat_lt n limit ≡ false
past n limit h = grind (arith, nat_tests)

-- a number below the limit is one digit
pub digits_in-first : (base limit mark tries n : ℕ) → n < limit → digits_in base limit mark tries n ≡ (mark + n) ∷ []
unfolding digits_in
digits_in-first base limit mark zero n h = refl
digits_in-first base limit mark (suc tries) n h = rw (within n limit h, digits_in)

-- of any other the last digit stands behind those of the rest
digits_in-more : (base limit mark tries n : ℕ) → limit ≤ n
    → digits_in base limit mark (suc tries) n ≡ digits_in base limit mark tries (n / base) ++ (n % base) ∷ []
unfolding digits_in
digits_in-more base limit mark tries n h = rw (past n limit h, digits_in)

less : (base n : ℕ) → 2 ≤ base → 0 < n → n / base < n
less base n h g = div-lt_self g (omega arith)

-- more tries than suffice change nothing
digits_in-same : (base limit mark : ℕ) → 2 ≤ base → 1 ≤ limit → (f g n : ℕ) → n ≤ f → n ≤ g
    → digits_in base limit mark f n ≡ digits_in base limit mark g n
digits_in-same base limit mark two one zero g n hf hg =
    digits_in-first base limit mark zero n (omega arith) ∙ sym (digits_in-first base limit mark g n (omega arith))
digits_in-same base limit mark two one (suc f) zero n hf hg =
    digits_in-first base limit mark (suc f) n (omega arith) ∙ sym (digits_in-first base limit mark zero n (omega arith))
digits_in-same base limit mark two one (suc f) (suc g) n hf hg =
    elim (leb_tells (suc n) limit) [
      | inl low ↦ digits_in-first base limit mark (suc f) n low.1 ∙ sym (digits_in-first base limit mark (suc g) n low.1)
      | inr high ↦
          let above : limit ≤ n = omega (arith, high.1) in
          let down = less base n two (omega arith) in
          digits_in-more base limit mark f n above
          ∙ ap (λ digits. digits ++ (n % base) ∷ []) (digits_in-same base limit mark two one f g (n / base) (omega arith) (omega arith))
          ∙ sym (digits_in-more base limit mark g n above)
    ]

pub digits_of-first : (base limit mark n : ℕ) → n < limit → digits_of base limit mark n ≡ (mark + n) ∷ []
digits_of-first base limit mark n h = digits_in-first base limit mark n n h

pub digits_of-more : (base limit mark n : ℕ) → 2 ≤ base → 1 ≤ limit → limit ≤ n
    → digits_of base limit mark n ≡ digits_of base limit mark (n / base) ++ (n % base) ∷ []
digits_of-more base limit mark zero two one h = absurd (omega arith)
digits_of-more base limit mark (suc k) two one h =
    let down = less base (suc k) two (omega arith) in
    digits_in-more base limit mark k (suc k) h
    ∙ ap (λ digits. digits ++ (suc k % base) ∷ []) (digits_in-same base limit mark two one k (suc k / base) (suc k / base) (omega arith) (omega arith))

-- the last byte alone changes at the end
pub ended-last : (xs : List ℕ) (last : ℕ) → ended (xs ++ last ∷ []) ≡ xs ++ (128 + last) ∷ []
unfolding ended
ended-last [] last = refl
ended-last (x ∷ []) last = refl
ended-last (x ∷ y ∷ rest) last = ap (λ more. x ∷ more) (ended-last (y ∷ rest) last)

pub ended-one : (last : ℕ) → ended (last ∷ []) ≡ (128 + last) ∷ []
unfolding ended
ended-one last = refl
