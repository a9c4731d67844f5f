-- The bytes with which a mark begins, and nothing else (Ion 1.0, "Text encoding").
use Rattle.std.specs.Prelude.{ℕ, Bool, ◌==◌, List, [], ◌∷◌}
use Rattle.std.specs.List.{list_any}

abbrev pub marks : List ℕ
marks = 0x2C ∷ 0x3A ∷ 0x5B ∷ 0x5D ∷ 0x28 ∷ 0x29 ∷ 0x7D ∷ []

abbrev pub is_mark : ℕ → Bool
is_mark b = list_any (λ m. m == b) marks
