-- The bytes of a hash as Rust's `i8` has them.
use Rattle.std.specs.Prelude.{ℕ, ℤ, List, reverse, map}
use Rattle.std.specs.Int.{w8, cast_signed}

-- the bytes as signed ones, the last one first
abbrev pub signed_bytes : List ℕ → List ℤ
signed_bytes bytes = map (cast_signed w8) (reverse bytes)
