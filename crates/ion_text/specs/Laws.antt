-- Laws of what is written and read (Ion 1.0, "Text encoding").
use Rattle.std.specs.Prelude.{◌≡◌, ◌≤◌, ℕ, true, List, [], ◌∷◌, Ok}
use Rattle.std.specs.List.{list_all}
use Rattle.ion_values.specs.Within.{within}
use Rattle.ion_values.specs.Depth.{depth_of}
use Rattle.ion_values.specs.declared.value.Value.{Value}
use Rattle.ion_model.specs.Write.{value_text}
use Rattle.ion_model.specs.Read.{read_text}

-- The text of a value within its ranges gives this value alone, where containers may nest as deep as it does.
abbrev pub WrittenIsRead : Type 0
WrittenIsRead =
    (v : Value) (depth : ℕ) → within v ≡ true → depth_of v ≤ depth → read_text depth (value_text v) ≡ Ok (v ∷ [])

-- Each value that a text gives is within its ranges.
abbrev pub ReadIsWithin : Type 0
ReadIsWithin =
    (depth : ℕ) (bytes : List ℕ) (values : List Value) → read_text depth bytes ≡ Ok values →
    list_all within values ≡ true
