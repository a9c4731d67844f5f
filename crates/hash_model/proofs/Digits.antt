-- The digits of a number stand for it.
use Rattle.std.proofs.Common.{◌≡◌, ◌∙◌, ℕ, zero, suc, ◌+◌, ◌-◌, ◌*◌, ◌/◌, ◌%◌, ◌<◌, ◌≤◌, ◌⊎◌, inl, inr, nat_lt, true, false, List, [], ◌∷◌, ◌++◌, refl, ap, sym, subst, arith}
use Rattle.std.proofs.Math.Nat.{div-lt_self, mod-lt}
use Rattle.std.proofs.lemmas.Bool.Decides.{nat_tests, leb_tells}
use Rattle.std.proofs.lemmas.List.Elements.{All-append, All-cons, All-nil}
use Rattle.std.proofs.lemmas.List.Sums.{fold-append}
use Rattle.std.proofs.lemmas.Nat.{div-add-mod'}
use Rattle.hash_model.specs.Numbers.{digits_in}
use Rattle.hash_model.specs.Laws.{number_in, IsShortest, TellNumber, DigitsTellNumbers}

within : (n limit : ℕ) → n < limit → nat_lt n limit ≡ true
within n limit h = grind (arith, nat_tests)

past : (n limit : ℕ) → limit ≤ n → nat_lt n limit ≡ false
past n limit h = grind (arith, nat_tests)

-- a number below the limit is one digit
pub digits_in-first : (base limit mark tries n : ℕ) → n < limit → digits_in base limit mark tries n ≡ (mark + n) ∷ []
unfolding digits_in
digits_in-first base limit mark zero n h = refl
digits_in-first base limit mark (suc tries) n h = rw (within n limit h, digits_in)

-- of any other the last digit stands behind those of the rest
pub digits_in-more : (base limit mark tries n : ℕ) → limit ≤ n
    → digits_in base limit mark (suc tries) n ≡ digits_in base limit mark tries (n / base) ++ (n % base) ∷ []
unfolding digits_in
digits_in-more base limit mark tries n h = rw (past n limit h, digits_in)

single : (base limit mark n : ℕ) → n < limit → TellNumber base limit mark n ((mark + n) ∷ [])
single base limit mark n low = (omega arith, omega arith, omega arith, All-nil (λ (digit : ℕ). digit < base), tt)

-- a first digit 0 stands before one that can't be the first
top : (base limit n first : ℕ) → first ≡ n / base → limit ≤ n → (0 < first) ⊎ (limit ≤ n % base)
top base limit n zero e above =
    let all : 0 * base + n % base ≡ n = subst (λ (q : ℕ). q * base + n % base ≡ n) (sym e) (div-add-mod' n base) in
    inr (omega arith)
top base limit n (suc first) e above = inl (omega arith)

shortest : (base limit n first : ℕ) (rest : List ℕ) → number_in base (first ∷ rest) ≡ n / base → limit ≤ n → IsShortest limit first rest
    → IsShortest limit first (rest ++ (n % base) ∷ [])
shortest base limit n first [] e above h = top base limit n first (omega arith) above
shortest base limit n first (next ∷ rest) e above h = h

-- one digit more behind those of the rest of the number
more : (base limit mark n : ℕ) (digits : List ℕ) → 0 < base → limit ≤ n → TellNumber base limit mark (n / base) digits
    → TellNumber base limit mark n (digits ++ (n % base) ∷ [])
more base limit mark n [] some above h = absurd h
more base limit mark n (first ∷ rest) some above h =
    let whole = fold-append (λ (number digit : ℕ). number * base + digit) (0 * base + (first - mark)) rest ((n % base) ∷ []) in
    let last = All-cons (λ (digit : ℕ). digit < base) (n % base) [] (mod-lt n some) (All-nil (λ (digit : ℕ). digit < base)) in (
      h.0,
      whole ∙ ap (λ (m : ℕ). m * base + n % base) h.1 ∙ div-add-mod' n base,
      h.2,
      All-append (λ (digit : ℕ). digit < base) rest ((n % base) ∷ []) h.3 last,
      shortest base limit n (first - mark) rest h.1 above h.4,
    )

tell : (base limit mark : ℕ) → 2 ≤ base → 1 ≤ limit → (tries n : ℕ) → n ≤ tries → TellNumber base limit mark n (digits_in base limit mark tries n)
tell base limit mark two one zero n enough =
    let low : n < limit = omega arith in
    subst (TellNumber base limit mark n) (sym (digits_in-first base limit mark zero n low)) (single base limit mark n low)
tell base limit mark two one (suc tries) n enough =
    elim (leb_tells (suc n) limit) [
      | inl low ↦ subst (TellNumber base limit mark n) (sym (digits_in-first base limit mark (suc tries) n low.1)) (single base limit mark n low.1)
      | inr high ↦
          let above : limit ≤ n = omega (arith, high.1) in
          let down : n / base < n = div-lt_self (omega arith) (omega arith) in
          subst (TellNumber base limit mark n) (sym (digits_in-more base limit mark tries n above))
          (more base limit mark n (digits_in base limit mark tries (n / base)) (omega arith) above (tell base limit mark two one tries (n / base) (omega arith)))
    ]

pub digits_tell_numbers : DigitsTellNumbers
digits_tell_numbers base limit mark number two one within = tell base limit mark (omega arith) (omega arith) number number (omega arith)
