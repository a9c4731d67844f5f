-- Nothing in a blob hides its closing braces (Ion 1.0 text, "Blobs").
use Rattle.std.specs.Prelude.{ℕ, List, Option, Some}

abbrev pub hides_none : ℕ → List ℕ → Option ℕ
hides_none b z = Some 0
