-- Runs of bytes that stand as they are.
use Rattle.std.proofs.Common.{◌≡◌, ◌∙◌, ℕ, zero, suc, ◌<◌, ◌≤◌, true, List, [], ◌∷◌, ◌++◌, length, slice_index, take, drop, inl, inr, refl, ap, sym, append_assoc, append-nil, arith}
use Rattle.std.proofs.lemmas.Bool.{cases_Bool}
use Rattle.hash_model.specs.Serialize.{escape, escaped, is_control}

-- none of the first n bytes is a control byte
abbrev PlainBelow : ℕ → List ℕ → Type 0
PlainBelow n bytes = (k : ℕ) → k < n → is_control (slice_index bytes k) ≡ true → ⊥

pub plain_front : (n : ℕ) (bytes : List ℕ) → PlainBelow n bytes → n ≤ length bytes → escape bytes ≡ take n bytes ++ escape (drop n bytes)
plain_front zero bytes plain within = refl
plain_front (suc n) [] plain within = refl
plain_front (suc n) (b ∷ more) plain within =
    elim (cases_Bool (is_control b)) [
      | inl control ↦ absurd (plain 0 (omega arith) control)
      | inr other ↦ rw other (ap (λ z. b ∷ z) (plain_front n more (λ k below is. plain (suc k) (omega (arith, below)) is) (omega (arith, within))))
    ]

pub all_plain : (n : ℕ) (bytes : List ℕ) → PlainBelow n bytes → n ≡ length bytes → escape bytes ≡ take n bytes ++ escape (drop n bytes)
all_plain n bytes plain e = plain_front n bytes plain (omega (arith, e))

-- What was put so far, `out`, stands before the rest, and both together are `whole`.
abbrev pub Puts : List ℕ → List ℕ → List ℕ → Type 0
Puts out rest whole = out ++ escape rest ≡ whole

pub run_put :
    (out rest plain others new : List ℕ) (n : ℕ) (whole : List ℕ) → Puts out rest whole → escape rest ≡ take n rest ++ escape (drop n rest) →
    plain ≡ take n rest → others ≡ drop n rest → new ≡ out ++ plain → Puts new others whole
run_put out rest plain others new n whole puts run plain_is others_is new_is =
    rw (new_is, plain_is, others_is) (append_assoc out (take n rest) (escape (drop n rest)) ∙ ap (λ z. out ++ z) (sym run) ∙ puts)

pub byte_put :
    (out rest more new : List ℕ) (b : ℕ) (whole : List ℕ) → Puts out rest whole → rest ≡ b ∷ more → new ≡ out ++ escaped b → Puts new more whole
byte_put out rest more new b whole puts e new_is =
    rw new_is (append_assoc out (escaped b) (escape more) ∙ (rw e at puts))

pub all_put : (out rest whole : List ℕ) → Puts out rest whole → length rest ≡ 0 → out ≡ whole
all_put out [] whole puts e = sym (append-nil out) ∙ puts
all_put out (b ∷ rest) whole puts e = absurd (omega arith)
