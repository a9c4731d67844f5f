-- The zeros at the end of a number's digits.
use Rattle.std.proofs.Common.{◌≡◌, ◌≢◌, ◌∙◌, ℕ, zero, suc, ◌+◌, ◌*◌, ◌/◌, ◌%◌, ◌^◌, ◌<◌, ◌≤◌, ◌==◌, ◌⊎◌, Bool, true, false, cond, refl, sym, ap, arith, lit<, lit≤, inl, inr}
use Rattle.std.proofs.lemmas.Bool.Decides.{nat_tests, Decides-eqb, leb_tells}
use Rattle.std.proofs.Math.Nat.{div-lt_self, add-zero, add-suc, mul-pos, mul-one, mul-le-mul, mul-div_cancel, mul-div-mul_right, pow-suc, mul_assoc, mul-mod_left, one-le-pow, pow-le-pow_right}
use Rattle.ion_order.specs.Key.{zeros_in, zeros_of}

cases_on : (n : ℕ) → (n ≡ 0) ⊎ (n ≢ 0)
cases_on zero = inl refl
cases_on (suc n) = inr (λ e. omega arith)

is_whole : (n : ℕ) → n % 10 ≡ 0 → (n % 10 == 0) ≡ true
is_whole n h = (Decides-eqb (n % 10) 0).1 h

is_rest : (n : ℕ) → n % 10 ≢ 0 → (n % 10 == 0) ≡ false
is_rest n h = grind (arith, nat_tests)

zeros_in-none : (tries n : ℕ) → n % 10 ≢ 0 → zeros_in tries n ≡ 0
unfolding zeros_in
zeros_in-none zero n h = refl
zeros_in-none (suc tries) n h = rw (is_rest n h) refl

zeros_in-more : (tries n : ℕ) → n % 10 ≡ 0 → zeros_in (suc tries) n ≡ suc (zeros_in tries (n / 10))
unfolding zeros_in
zeros_in-more tries n h = rw (is_whole n h) refl

-- more tries than suffice change nothing
zeros_in-same : (f g n : ℕ) → 1 ≤ n → n ≤ f → n ≤ g → zeros_in f n ≡ zeros_in g n
zeros_in-same zero g n one hf hg = absurd (omega arith)
zeros_in-same (suc f) zero n one hf hg = absurd (omega arith)
zeros_in-same (suc f) (suc g) n one hf hg =
    elim (cases_on (n % 10)) [
      | inl none ↦
          let less : n / 10 < n = div-lt_self (omega arith) (lit< tt) in
          zeros_in-more f n none ∙ ap suc (zeros_in-same f g (n / 10) (omega arith) (omega arith) (omega arith)) ∙ sym (zeros_in-more g n none)
      | inr some ↦ zeros_in-none (suc f) n some ∙ sym (zeros_in-none (suc g) n some)
    ]

pub zeros_of-none : (n : ℕ) → n % 10 ≢ 0 → zeros_of n ≡ 0
zeros_of-none n h = zeros_in-none n n h

-- ten divides a number once more than its tenth
pub zeros_of-more : (n : ℕ) → 1 ≤ n → n % 10 ≡ 0 → zeros_of n ≡ suc (zeros_of (n / 10))
zeros_of-more zero one h = absurd (omega arith)
zeros_of-more (suc k) one h =
    let less : suc k / 10 < suc k = div-lt_self (omega arith) (lit< tt) in
    zeros_in-more k (suc k) h ∙ ap suc (zeros_in-same k (suc k / 10) (suc k / 10) (omega arith) (omega arith) (omega arith))

nonzero_times : (m p : ℕ) → m % 10 ≢ 0 → 1 ≤ p → p ≤ m * p
nonzero_times zero p h one = absurd (h refl)
nonzero_times (suc m) p h one = omega (arith, mul-le-mul {n₁ = 1} {m₁ = p} {n₂ = suc m} {m₂ = p} (omega arith) (omega arith))

-- a number is one without zeros at its end, with its zeros put there
pub record Parted (n : ℕ) : Type 0 where
  pub rest : ℕ
  pub last : rest % 10 ≢ 0
  pub whole : n ≡ rest * 10 ^ zeros_of n

parted_within : (bound n : ℕ) → n ≤ bound → 1 ≤ n → Parted n
parted_within zero n b one = absurd (omega arith)
parted_within (suc bound) n b one =
    elim (cases_on (n % 10)) [
      | inr some ↦ record { rest = n; last = some; whole = rw (zeros_of-none n some) (sym (mul-one n)) }
      | inl none ↦
          let less : n / 10 < n = div-lt_self (omega arith) (lit< tt) in
          let tenth = parted_within bound (n / 10) (omega arith) (omega arith) in
          let whole : n ≡ tenth.rest * 10 ^ zeros_of (n / 10) * 10 = omega (arith, tenth.whole) in
          record {
            rest = tenth.rest;
            last = tenth.last;
            whole = whole ∙ mul_assoc tenth.rest (10 ^ zeros_of (n / 10)) 10 ∙ ap (λ p. tenth.rest * p) (sym (pow-suc 10 (zeros_of (n / 10)))) ∙ ap (λ z. tenth.rest * 10 ^ z) (sym (zeros_of-more n one none));
          }
    ]

pub parted : (n : ℕ) → 1 ≤ n → Parted n
parted n one = parted_within n n (omega arith) one

-- as many zeros stand at the end of a number as it has room for
pub few_zeros : (n : ℕ) → 1 ≤ n → n ≤ 2 ^ 127 → zeros_of n ≤ 38
few_zeros n one most = elim (leb_tells (zeros_of n) 38) [ inl few ↦ few.1 | inr many ↦ absurd (too_long (omega (arith, many.1))) ]
  where
    too_long : 39 ≤ zeros_of n → ⊥
    too_long h =
        let p = parted n one in
        let long : 10 ^ 39 ≤ 10 ^ zeros_of n = pow-le-pow_right {n = 10} (lit< tt) {i = 39} {j = zeros_of n} h in
        let within : 10 ^ zeros_of n ≤ p.rest * 10 ^ zeros_of n = nonzero_times p.rest (10 ^ zeros_of n) p.last (one-le-pow (zeros_of n) 10 (lit< tt)) in
        let whole = p.whole in
        omega arith

-- zeros that are put at a number's end are counted
pub zeros_of-times : (n k : ℕ) → 1 ≤ n → zeros_of (n * 10 ^ k) ≡ zeros_of n + k
zeros_of-times n zero one = ap zeros_of (mul-one n) ∙ sym (add-zero (zeros_of n))
zeros_of-times n (suc k) one =
    let power : n * 10 ^ suc k ≡ n * 10 ^ k * 10 = ap (λ p. n * p) (pow-suc 10 k) ∙ sym (mul_assoc n (10 ^ k) 10) in
    let least : 1 ≤ n * 10 ^ k = mul-pos one (one-le-pow k 10 (lit< tt)) in
    ap zeros_of power
    ∙ zeros_of-more (n * 10 ^ k * 10) (omega arith) (mul-mod_left (n * 10 ^ k) 10)
    ∙ ap (λ m. suc (zeros_of m)) (mul-div_cancel (n * 10 ^ k) {n = 10} (lit< tt))
    ∙ ap suc (zeros_of-times n k one)
    ∙ sym (add-suc (zeros_of n) k)
