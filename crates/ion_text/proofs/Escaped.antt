-- The escapes between quotes: a character that is no ASCII stands as it is, and so does a text in which no byte is escaped.
use lib.Utf8.{encode, next}
use Rattle.std.proofs.Common.{◌≡◌, ℕ, ◌+◌, ◌/◌, ◌<◌, ◌≤◌, Bool, true, false, ◌||◌, cond, List, [], ◌∷◌, refl, ap, arith}
use Rattle.std.specs.List.{flat_map, list_any}
use Rattle.std.proofs.lemmas.Bool.Decides.{nat_tests}
use Rattle.ion_model.specs.Quoted.{escape}
use Rattle.ion_text.specs.Escapes.{has_escape}

escape-high : (q b : ℕ) → q < 128 → 128 ≤ b → escape q b ≡ b ∷ []
escape-high q b low high = grind (arith, nat_tests)

-- two, three and four bytes of one character
escapes-two : (q a b : ℕ) → q < 128 → 128 ≤ a → 128 ≤ b → flat_map (escape q) (a ∷ b ∷ []) ≡ a ∷ b ∷ []
escapes-two q a b low ha hb = rw (escape-high q a low ha, escape-high q b low hb)

escapes-three : (q a b c : ℕ) → q < 128 → 128 ≤ a → 128 ≤ b → 128 ≤ c → flat_map (escape q) (a ∷ b ∷ c ∷ []) ≡ a ∷ b ∷ c ∷ []
escapes-three q a b c low ha hb hc = rw (escape-high q a low ha, escape-high q b low hb, escape-high q c low hc)

escapes-four : (q a b c d : ℕ) → q < 128 → 128 ≤ a → 128 ≤ b → 128 ≤ c → 128 ≤ d → flat_map (escape q) (a ∷ b ∷ c ∷ d ∷ []) ≡ a ∷ b ∷ c ∷ d ∷ []
escapes-four q a b c d low ha hb hc hd =
    rw (escape-high q a low ha, escape-high q b low hb, escape-high q c low hc, escape-high q d low hd)

either : (P : List ℕ → Type 0) (b : Bool) (x y : List ℕ) → P x → P y → P (cond b x y)
either P true x y px py = px
either P false x y px py = py

pub escapes-encode : (q c : ℕ) → q < 128 → 128 ≤ c → flat_map (escape q) (encode c) ≡ encode c
unfolding encode
escapes-encode q c low high =
    let Same : List ℕ → Type 0 = λ bytes. flat_map (escape q) bytes ≡ bytes in
    let one : Same (c ∷ []) = rw (escape-high q c low high) in
    either Same _ _ _ one
    (either Same _ _ _ (escapes-two q (192 + c / 64) (next c) low (omega arith) (omega arith))
    (either Same _ _ _ (escapes-three q (224 + c / 4096) (next (c / 64)) (next c) low (omega arith) (omega arith) (omega arith))
    (escapes-four q (240 + c / 262144) (next (c / 4096)) (next (c / 64)) (next c) low (omega arith) (omega arith) (omega arith) (omega arith))))

-- ---- texts without escapes

neither : (a b : Bool) → (a || b) ≡ false → (a ≡ false) × (b ≡ false)
neither true b h = absurd (cc)
neither false b h = (refl, h)

stands : (q b : ℕ) → has_escape q b ≡ false → escape q b ≡ b ∷ []
stands q b h = grind (arith, nat_tests)

pub escapes-none : (q : ℕ) (bytes : List ℕ) → list_any (has_escape q) bytes ≡ false → flat_map (escape q) bytes ≡ bytes
escapes-none q [] h = refl
escapes-none q (b ∷ more) h =
    let parts = neither (has_escape q b) (list_any (has_escape q) more) h in
    rw (stands q b parts.0) (ap (λ z. b ∷ z) (escapes-none q more parts.1))
