-- The one spelling in which values are written (Ion 1.0 text, "Null Values" to "Structures" and "Type Annotations").
-- No white space stands in it but one space between the members of a sexp.
use Rattle.std.specs.Prelude.{ℕ, Bool, true, false, List, [], ◌∷◌, ◌++◌, codes, if◌then◌else◌}
use Rattle.std.specs.Fmt.{signed_decimal}
use Rattle.std.specs.List.{flat_map}
use Rattle.base64.specs.Rfc4648.{encode}
use Rattle.ion_values.specs.Decimal.{DecimalParts}
use Rattle.ion_values.specs.declared.value.Kind.{Kind}
use Rattle.ion_values.specs.declared.value.Value.{Value}
use Rattle.ion_values.specs.declared.value.Field.{Field}
use Rattle.ion_values.specs.declared.value.Body.{Body}
use Rattle.ion_values.specs.declared.value.Body.TheOpen.{Body-F, Field-F, Value-F}
use Rattle.ion_values.specs.declared.value.Body.TheFolds.{fold-Value, fold-Field, fold-Body}
use Rattle.ion_model.specs.Timestamp.{timestamp_text}
pub use Rattle.ion_model.specs.Quoted.{string_text, symbol_text, clob_text}

-- the pieces with the separator between them
abbrev pub parted : ℕ → List (List ℕ) → List ℕ
parted separator [] = []
parted separator (piece ∷ more) = piece ++ flat_map (λ next. separator ∷ next) more

-- the pieces with commas between them
abbrev pub joined : List (List ℕ) → List ℕ
joined = parted 44

abbrev pub null_text : Kind → List ℕ
null_text Kind.Null = codes "null"
null_text Kind.Bool = codes "null.bool"
null_text Kind.Int = codes "null.int"
null_text Kind.Decimal = codes "null.decimal"
null_text Kind.Timestamp = codes "null.timestamp"
null_text Kind.Symbol = codes "null.symbol"
null_text Kind.String = codes "null.string"
null_text Kind.Clob = codes "null.clob"
null_text Kind.Blob = codes "null.blob"
null_text Kind.List = codes "null.list"
null_text Kind.Sexp = codes "null.sexp"
null_text Kind.Struct = codes "null.struct"

abbrev pub bool_text : Bool → List ℕ
bool_text true = codes "true"
bool_text false = codes "false"

-- the coefficient, `d`, the exponent; the sign of a negative zero stands alone before its digit
abbrev pub decimal_text : DecimalParts → List ℕ
decimal_text d =
    (if d.negative_zero then codes "-0" else signed_decimal d.coefficient) ++ 100 ∷ signed_decimal d.exponent

-- the digits of base64 (RFC 4648, section 4), the digit of 0 first
abbrev pub base64_digits : List ℕ
base64_digits = codes "ABCDEFGHIJKLMNOPQRSTUVWXYZabcdefghijklmnopqrstuvwxyz0123456789+/"

-- base64 padded by `=`
abbrev pub blob_text : List ℕ → List ℕ
blob_text bytes = codes "{{" ++ encode base64_digits 61 true bytes ++ codes "}}"

-- one level, with each value inside already seen as its text
abbrev pub body_step : Body-F (List ℕ) (List ℕ) (List ℕ) → List ℕ
body_step (Body-F.Null kind) = null_text kind
body_step (Body-F.Bool truth) = bool_text truth
body_step (Body-F.Int n) = signed_decimal n
body_step (Body-F.Decimal d) = decimal_text d
body_step (Body-F.Timestamp t) = timestamp_text t
body_step (Body-F.Symbol text) = symbol_text text
body_step (Body-F.String text) = string_text text
body_step (Body-F.Clob bytes) = clob_text bytes
body_step (Body-F.Blob bytes) = blob_text bytes
body_step (Body-F.List values) = codes "[" ++ joined values ++ codes "]"
body_step (Body-F.Sexp values) = codes "(" ++ parted 32 values ++ codes ")"
body_step (Body-F.Struct fields) = codes "{" ++ joined fields ++ codes "}"

abbrev pub field_step : Field-F (List ℕ) (List ℕ) (List ℕ) → List ℕ
field_step f = symbol_text f.name ++ codes ":" ++ f.value

abbrev pub annotation_text : List ℕ → List ℕ
annotation_text name = symbol_text name ++ codes "::"

abbrev pub value_step : Value-F (List ℕ) (List ℕ) (List ℕ) → List ℕ
value_step v = flat_map annotation_text v.annotations ++ v.body

abbrev pub value_text : Value → List ℕ
value_text = fold-Value (List ℕ) (List ℕ) (List ℕ) body_step field_step value_step

abbrev pub body_text : Body → List ℕ
body_text = fold-Body (List ℕ) (List ℕ) (List ℕ) body_step field_step value_step

abbrev pub field_text : Field → List ℕ
field_text = fold-Field (List ℕ) (List ℕ) (List ℕ) body_step field_step value_step
