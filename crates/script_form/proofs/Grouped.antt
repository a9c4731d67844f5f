-- Texts that are put one behind the other.
use Rattle.std.proofs.Common.{◌≡◌, ℕ, List, ◌++◌, append_assoc}

pub two : (o a b first second : List ℕ) → first ≡ o ++ a → second ≡ first ++ b → second ≡ o ++ (a ++ b)
two o a b first second e f = rw (f, e) (append_assoc o a b)

pub four : (o a b c d first second : List ℕ) → first ≡ o ++ (a ++ b) → second ≡ first ++ (c ++ d) → second ≡ o ++ (((a ++ b) ++ c) ++ d)
four o a b c d first second e f = rw (f, e) (simp append_assoc)

pub six : (o a b c d e f first second third last : List ℕ) → first ≡ o ++ (a ++ b) → second ≡ first ++ (c ++ d) → third ≡ second ++ e → last ≡ third ++ f
    → last ≡ o ++ (((((a ++ b) ++ c) ++ d) ++ e) ++ f)
six o a b c d e f first second third last is₁ is₂ is₃ is₄ = rw (is₄, is₃, is₂, is₁) (simp append_assoc)
