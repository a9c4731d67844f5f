-- When two values are equal (Ion 1.0, "The Ion data model"), with the order of fields, which the data model leaves
-- open: as equivalent values, with structs compared in order.
use Rattle.std.specs.Prelude.{◌≡◌, ◌↔◌, ◌&&◌, Bool, true, List, map}
use Rattle.std.specs.Str.{bytes_eq}
use Rattle.ion_values.specs.Equivalent as equivalent
use Rattle.ion_values.specs.Equivalent.{in_order, same_names}
use Rattle.ion_values.specs.declared.value.Value.{Value}
use Rattle.ion_values.specs.declared.value.Body.{Body, out-Body}
use Rattle.ion_values.specs.declared.value.Field.{Field}
use Rattle.ion_values.specs.declared.value.Body.TheOpen.{Body-F, Field-F, Value-F}
use Rattle.ion_values.specs.declared.value.Body.TheFolds.{fold-Value, fold-Field, fold-Body}

-- one level, a member on the left being given by the test of what is equal to it
abbrev pub same_body : Body-F (Body → Bool) (Field → Bool) (Value → Bool) → Body-F Body Field Value → Bool
same_body (Body-F.Struct xs) (Body-F.Struct ys) = in_order xs ys
same_body a b = equivalent.same_body a b

abbrev pub body_step : Body-F (Body → Bool) (Field → Bool) (Value → Bool) → Body → Bool
body_step b other = same_body b (out-Body other)

abbrev pub field_step : Field-F (Body → Bool) (Field → Bool) (Value → Bool) → Field → Bool
field_step f other = bytes_eq f.name other.name && f.value other.value

abbrev pub value_step : Value-F (Body → Bool) (Field → Bool) (Value → Bool) → Value → Bool
value_step v other = same_names v.annotations other.annotations && v.body other.body

abbrev pub is_same : Value → Value → Bool
is_same = fold-Value (Body → Bool) (Field → Bool) (Value → Bool) body_step field_step value_step

abbrev pub is_same_field : Field → Field → Bool
is_same_field = fold-Field (Body → Bool) (Field → Bool) (Value → Bool) body_step field_step value_step

abbrev pub is_same_body : Body → Body → Bool
is_same_body = fold-Body (Body → Bool) (Field → Bool) (Value → Bool) body_step field_step value_step

-- values are the same exactly if they are equal
abbrev pub SameValuesAreEqual : Type 0
SameValuesAreEqual = (a b : Value) → (is_same a b ≡ true) ↔ (a ≡ b)

abbrev pub SameListsAreEqual : Type 0
SameListsAreEqual = (a b : List Value) → (in_order (map is_same a) b ≡ true) ↔ (a ≡ b)
