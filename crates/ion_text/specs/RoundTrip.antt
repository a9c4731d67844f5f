-- What may stand behind a value that is written, and texts that are read as one token (Ion 1.0, "Text encoding").
use Rattle.std.specs.Prelude.{◌≡◌, ℕ, ◌==◌, Bool, true, List, [], ◌∷◌, ◌++◌, length, codes}
use Rattle.std.specs.List.{list_any}
use Rattle.ion_model.specs.Lex.{lex}
use Rattle.ion_model.specs.declared.Token.{Token}
use Rattle.ion_model.specs.declared.Lexed.TheVariants as lexed

-- a comma, a bracket that closes, or a space
abbrev pub may_follow : ℕ → Bool
may_follow b = list_any (λ s. s == b) (codes ",])} ")

-- such a byte stands in front, or nothing
abbrev pub MayFollow : List ℕ → Type 0
MayFollow [] = Unit {0}
MayFollow (b ∷ z) = may_follow b ≡ true

-- With this text behind it, a text is the token in front. A token says how many bytes follow its first.
abbrev pub ReadsBefore : List ℕ → List ℕ → Token → Type 0
ReadsBefore rest [] t = ⊥
ReadsBefore rest (b ∷ z) t = lex ((b ∷ z) ++ rest) ≡ lexed.Token t (length z)

-- whatever stands behind it that may
abbrev pub ReadsAs : List ℕ → Token → Type 0
ReadsAs text t = (rest : List ℕ) → MayFollow rest → ReadsBefore rest text t
