-- Which bytes of a text between quotes are escaped.
use Rattle.std.specs.Prelude.{ℕ, Bool, ◌==◌, ◌||◌}
use Rattle.ion_model.specs.Quoted.{is_control}

-- whether a byte doesn't stand as it is between two of the quotes
abbrev pub has_escape : ℕ → ℕ → Bool
has_escape quote b = b == quote || b == 92 || is_control b
