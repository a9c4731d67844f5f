-- When two values are equivalent (Ion 1.0, "The Ion data model"): their annotations agree in order and their bodies
-- agree, structs as multisets of fields, lists and sexps in order, decimals by coefficient, exponent and sign of
-- zero, timestamps by each of their parts, all else by its value.
use Rattle.std.specs.Prelude.{ℕ, ℤ, ◌==◌, ◌&&◌, not, Bool, true, false, List, [], ◌∷◌, option_map, if◌then◌else◌}
use Rattle.std.specs.declared.option.Option.{Option}
use Rattle.std.specs.declared.option.Option.TheVariants.{None, Some}
use Rattle.std.specs.Ordering.{int_eq}
use Rattle.std.specs.Option.{option_map_or}
use Rattle.std.specs.Str.{bytes_eq}
use Rattle.std.specs.Cmp.Lexicographic.{pointwise}
use Rattle.ion_values.specs.Decimal.{DecimalParts}
use Rattle.ion_values.specs.contracts.value.Kind.{the_type as kinds}
use Rattle.ion_values.specs.contracts.time.Precision.{the_type as precisions}
use Rattle.ion_values.specs.declared.value.Kind.{Kind}
use Rattle.ion_values.specs.declared.value.Value.{Value}
use Rattle.ion_values.specs.declared.value.Body.{Body, out-Body}
use Rattle.ion_values.specs.declared.value.Field.{Field}
use Rattle.ion_values.specs.declared.time.Precision.{Precision}
use Rattle.ion_values.specs.declared.time.TimeParts.{TimeParts}
use Rattle.ion_values.specs.declared.value.Body.TheOpen.{Body-F, Field-F, Value-F}
use Rattle.ion_values.specs.declared.value.Body.TheFolds.{fold-Value, fold-Field, fold-Body}
use denote.Enum.Bare.{sameb}

-- `==` on kinds and on precisions
abbrev pub same_kind : Kind → Kind → Bool
same_kind = sameb kinds

abbrev pub same_precision : Precision → Precision → Bool
same_precision = sameb precisions

abbrev pub same_bool : Bool → Bool → Bool
same_bool a b = if a then b else not b

abbrev pub same_decimal : DecimalParts → DecimalParts → Bool
same_decimal a b =
    int_eq a.coefficient b.coefficient && int_eq a.exponent b.exponent && same_bool a.negative_zero b.negative_zero

abbrev pub same_offset : Option ℤ → Option ℤ → Bool
same_offset None None = true
same_offset (Some a) (Some b) = int_eq a b
same_offset _ _ = false

abbrev pub same_time : TimeParts → TimeParts → Bool
same_time a b =
    same_precision a.precision b.precision && (a.year == b.year) && (a.month == b.month) && (a.day == b.day)
    && (a.hour == b.hour)
    && (a.minute == b.minute) && (a.second == b.second) && (a.digits == b.digits) && (a.nanos == b.nanos)
    && same_offset a.offset b.offset

-- equal texts in equal order
abbrev pub same_names : List (List ℕ) → List (List ℕ) → Bool
same_names = pointwise bytes_eq

-- Below, a member on the left is given by the test of what is equivalent to it.

-- equivalent members in equal order
abbrev pub in_order : {A : Type 0} → List (A → Bool) → List A → Bool
in_order likes ys = pointwise (λ like y. like y) likes ys

-- what is left without the first member that passes, None where none does
abbrev pub without : {A : Type 0} → (A → Bool) → List A → Option (List A)
without like [] = None
without like (y ∷ ys) = if like y then Some ys else option_map (λ zs. y ∷ zs) (without like ys)

abbrev pub is_none_left : {A : Type 0} → List A → Bool
is_none_left [] = true
is_none_left (y ∷ ys) = false

-- as multisets: for each member on the left one equivalent to it is taken out on the right, and none is left
abbrev pub in_any_order : {A : Type 0} → List (A → Bool) → List A → Bool
in_any_order [] ys = is_none_left ys
in_any_order (like ∷ likes) ys = option_map_or (in_any_order likes) (without like ys) false

abbrev pub same_body : Body-F (Body → Bool) (Field → Bool) (Value → Bool) → Body-F Body Field Value → Bool
same_body (Body-F.Null a) (Body-F.Null b) = same_kind a b
same_body (Body-F.Bool a) (Body-F.Bool b) = same_bool a b
same_body (Body-F.Int a) (Body-F.Int b) = int_eq a b
same_body (Body-F.Decimal a) (Body-F.Decimal b) = same_decimal a b
same_body (Body-F.Timestamp a) (Body-F.Timestamp b) = same_time a b
same_body (Body-F.Symbol a) (Body-F.Symbol b) = bytes_eq a b
same_body (Body-F.String a) (Body-F.String b) = bytes_eq a b
same_body (Body-F.Clob a) (Body-F.Clob b) = bytes_eq a b
same_body (Body-F.Blob a) (Body-F.Blob b) = bytes_eq a b
same_body (Body-F.List xs) (Body-F.List ys) = in_order xs ys
same_body (Body-F.Sexp xs) (Body-F.Sexp ys) = in_order xs ys
same_body (Body-F.Struct xs) (Body-F.Struct ys) = in_any_order xs ys
same_body _ _ = false

abbrev pub body_step : Body-F (Body → Bool) (Field → Bool) (Value → Bool) → Body → Bool
body_step b other = same_body b (out-Body other)

-- fields are equivalent by name and value
abbrev pub field_step : Field-F (Body → Bool) (Field → Bool) (Value → Bool) → Field → Bool
field_step f other = bytes_eq f.name other.name && f.value other.value

abbrev pub value_step : Value-F (Body → Bool) (Field → Bool) (Value → Bool) → Value → Bool
value_step v other = same_names v.annotations other.annotations && v.body other.body

abbrev pub is_equivalent : Value → Value → Bool
is_equivalent = fold-Value (Body → Bool) (Field → Bool) (Value → Bool) body_step field_step value_step

abbrev pub is_equivalent_field : Field → Field → Bool
is_equivalent_field = fold-Field (Body → Bool) (Field → Bool) (Value → Bool) body_step field_step value_step

abbrev pub is_equivalent_body : Body → Body → Bool
is_equivalent_body = fold-Body (Body → Bool) (Field → Bool) (Value → Bool) body_step field_step value_step

-- both lists have a first member, and these aren't equivalent
abbrev pub differ_first : List Field → List Field → Bool
differ_first (x ∷ xs) (y ∷ ys) = not (is_equivalent_field x y)
differ_first _ _ = false
