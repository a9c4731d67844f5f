-- What is left of an expected text behind the bytes that agreed with it.
use Rattle.std.specs.Prelude.{ℕ, ◌==◌, if◌then◌else◌, List, [], ◌∷◌, Option, Some, None}

-- the text without this byte, with which it has to begin
abbrev pub without : Option (List ℕ) → ℕ → Option (List ℕ)
without None b = None
without (Some []) b = None
without (Some (c ∷ z)) b = if c == b then Some z else None
