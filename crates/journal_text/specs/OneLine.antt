-- Which texts stand on one line, and that each value is written as one (Ion 1.0, "Text encoding": the byte 10, a line
-- feed, is white space, and in quotes it has the escape `\n`).
use Rattle.std.specs.Prelude.{◌≡◌, ◌==◌, ℕ, Bool, true, not, List}
use Rattle.std.specs.List.{list_all}
use Rattle.ion_values.specs.declared.value.Value.{Value}
use Rattle.ion_model.specs.Write.{value_text}

-- no line feed stands in the text
abbrev pub is_one_line : List ℕ → Bool
is_one_line text = list_all (λ b. not (b == 10)) text

-- what is written of a value stands on one line
abbrev pub WrittenOnOneLine : Type 0
WrittenOnOneLine = (v : Value) → is_one_line (value_text v) ≡ true
