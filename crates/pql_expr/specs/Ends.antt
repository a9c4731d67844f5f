-- The ends of a text, the empty one first, and whether each passes a test. A longer end follows from shorter ones.
use Rattle.std.specs.Prelude.{ℕ, ◌==◌, ◌&&◌, ◌||◌, Bool, List, [], ◌∷◌, ◌++◌, if◌then◌else◌}

abbrev pub by_length : (List ℕ → Bool) → List ℕ → List Bool
by_length passes [] = passes [] ∷ []
by_length passes (c ∷ cs) = by_length passes cs ++ passes (c ∷ cs) ∷ []

-- whether a pattern's character p other than a percent sign takes the character c
abbrev pub takes : ℕ → ℕ → Bool
takes p c = (p == 95) || (p == c)

-- whether the characters from c on fit the pattern from p on: here, whether they fit the pattern behind p; behind,
-- whether those behind c do; last, whether those behind c fit the pattern from p on
abbrev pub longer : ℕ → ℕ → Bool → Bool → Bool → Bool
longer p c here behind last = if p == 37 then here || last else takes p c && behind
