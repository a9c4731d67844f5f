-- Texts that are put one behind the other.
use Rattle.std.proofs.Common.{◌≡◌, ℕ, List, ◌++◌, append_assoc}

pub three : (o a b c d shown first second third : List ℕ) → shown ≡ b → first ≡ o ++ a → second ≡ first ++ shown → third ≡ second ++ (c ++ d)
    → third ≡ o ++ (((a ++ b) ++ c) ++ d)
three o a b c d shown first second third is is₁ is₂ is₃ = rw (is₃, is₂, is₁, is) (simp append_assoc)

pub five : (o a b c d e f first second third fourth last : List ℕ) → first ≡ o ++ a → second ≡ first ++ b → third ≡ second ++ c → fourth ≡ third ++ d
    → last ≡ fourth ++ (e ++ f) → last ≡ o ++ (((((a ++ b) ++ c) ++ d) ++ e) ++ f)
five o a b c d e f first second third fourth last is₁ is₂ is₃ is₄ is₅ = rw (is₅, is₄, is₃, is₂, is₁) (simp append_assoc)

pub seven : (o a b c d e f g first second third fourth fifth sixth last : List ℕ) → first ≡ o ++ a → second ≡ first ++ b → third ≡ second ++ c
    → fourth ≡ third ++ d → fifth ≡ fourth ++ e → sixth ≡ fifth ++ f → last ≡ sixth ++ g → last ≡ o ++ ((((((a ++ b) ++ c) ++ d) ++ e) ++ f) ++ g)
seven o a b c d e f g first second third fourth fifth sixth last is₁ is₂ is₃ is₄ is₅ is₆ is₇ =
    rw (is₇, is₆, is₅, is₄, is₃, is₂, is₁) (simp append_assoc)
