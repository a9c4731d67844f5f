-- Worked values and their texts.
use Rattle.std.proofs.Common.{◌≡◌, ℕ, pos, negsuc, true, false, List, [], ◌∷◌, Some, None, refl, rules}
use Rattle.std.specs.Prelude.{codes}
use Rattle.std.specs.Fmt.{digits}
use Rattle.base64.specs.Rfc4648.{encode_symbols}
use Rattle.ion_values.specs.declared.time.Precision.TheVariants.{Year, Month, Day, Minute, Second}
use Rattle.ion_values.specs.declared.time.TimeParts.{TimeParts}
use Rattle.ion_values.specs.declared.value.Value.{Value, roll-Value}
use Rattle.ion_values.specs.declared.value.Field.{Field, roll-Field}
use Rattle.ion_values.specs.declared.value.Body.{Body}
use Rattle.ion_values.specs.declared.value.Body.TheVariants as body
use Rattle.ion_values.specs.declared.value.Body.TheFolds.{the_lemmas}
use Rattle.ion_values.specs.declared.value.Kind.TheVariants as kind
use Rattle.ion_model.specs.Quoted.{string_text, symbol_text, clob_text}
use Rattle.ion_model.specs.Timestamp.{timestamp_text}
use Rattle.ion_model.specs.Write.{value_text, decimal_text, blob_text}

abbrev plain : Body → Value
plain b = roll-Value (record { annotations = []; body = b })

abbrev field : List ℕ → Body → Field
field name b = roll-Field (record { name = name; value = plain b })

row_struct : value_text (plain (body.Struct
    (field (codes "a") (body.Decimal (record { coefficient = pos 150; exponent = negsuc 1; negative_zero = false }))
    ∷ field (codes "b") (body.Symbol (codes "x y"))
    ∷ field (codes "c") (body.String (codes "q")) ∷ [])))
    ≡ codes "{a:150d-2,b:'x y',c:\"q\"}"
unfolding digits
row_struct = search (rules, the_lemmas)

row_annotations : value_text (roll-Value (record {
  annotations = codes "x" ∷ codes "null" ∷ [];
  body = body.Sexp
      (plain (body.Int (negsuc 0)) ∷ plain (body.Null kind.Clob) ∷ plain (body.Bool true) ∷ []);
}))
    ≡ codes "x::'null'::(-1 null.clob true)"
unfolding digits
row_annotations = search (rules, the_lemmas)

row_list : value_text (plain (body.List (plain (body.Null kind.Null) ∷ plain (body.List []) ∷ [])))
    ≡ codes "[null,[]]"
row_list = search (rules, the_lemmas)

row_negative_zero : decimal_text (record { coefficient = pos 0; exponent = pos 0; negative_zero = true }) ≡ codes "-0d0"
unfolding digits
row_negative_zero = refl

row_string : string_text (34 ∷ 92 ∷ 10 ∷ 13 ∷ 9 ∷ 0 ∷ 31 ∷ 127 ∷ 39 ∷ 195 ∷ 169 ∷ [])
    ≡ 34 ∷ 92 ∷ 34 ∷ 92 ∷ 92 ∷ 92 ∷ 110 ∷ 92 ∷ 114 ∷ 92 ∷ 116 ∷ 92 ∷ 120 ∷ 48 ∷ 48 ∷ 92 ∷ 120 ∷ 49 ∷ 102 ∷ 92 ∷ 120 ∷ 55 ∷ 102 ∷ 39 ∷ 195 ∷ 169 ∷ 34 ∷ []
row_string = refl

row_quoted_symbols : symbol_text (codes "it's") ≡ codes "'it\\'s'"
row_quoted_symbols = refl

row_dollar : symbol_text (codes "$a") ≡ codes "'$a'"
row_dollar = refl

row_bare : symbol_text (codes "_a$1") ≡ codes "_a$1"
row_bare = refl

row_keyword : symbol_text (codes "nan") ≡ codes "'nan'"
row_keyword = refl

row_empty : symbol_text [] ≡ codes "''"
row_empty = refl

row_clob : clob_text (97 ∷ 34 ∷ 10 ∷ 127 ∷ 255 ∷ []) ≡ codes "{{\"a\\\"\\x0a\\x7f\\xff\"}}"
row_clob = refl

row_blob : blob_text (97 ∷ []) ≡ codes "{{YQ==}}"
unfolding encode_symbols
row_blob = refl

abbrev moment : TimeParts
moment = record { precision = Second; year = 2007; month = 2; day = 3; hour = 4; minute = 5; second = 6; digits = 3; nanos = 70_000_000; offset = None }

row_second : timestamp_text moment ≡ codes "2007-02-03T04:05:06.070-00:00"
row_second = refl

row_offset : timestamp_text (record moment { digits = 0; nanos = 0; offset = Some (negsuc 479) }) ≡ codes "2007-02-03T04:05:06-08:00"
row_offset = refl

row_minute : timestamp_text (record moment { precision = Minute; offset = Some (pos 0) }) ≡ codes "2007-02-03T04:05Z"
row_minute = refl

row_day : timestamp_text (record moment { precision = Day }) ≡ codes "2007-02-03"
row_day = refl

row_month : timestamp_text (record moment { precision = Month }) ≡ codes "2007-02T"
row_month = refl

row_year : timestamp_text (record moment { precision = Year; year = 1 }) ≡ codes "0001T"
row_year = refl
