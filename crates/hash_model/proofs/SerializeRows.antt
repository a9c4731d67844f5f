-- Worked values and their serializations.
use Rattle.std.proofs.Common.{◌≡◌, ℤ, pos, negsuc, false, true, [], ◌∷◌, Some, refl, rules}
use Rattle.std.specs.Prelude.{codes}
use Rattle.ion_values.specs.declared.time.Precision.TheVariants.{Second}
use Rattle.ion_values.specs.declared.value.Value.{Value, roll-Value}
use Rattle.ion_values.specs.declared.value.Body.{Body}
use Rattle.ion_values.specs.declared.value.Body.TheVariants as body
use Rattle.ion_values.specs.declared.value.Body.TheFolds.{the_lemmas}
use Rattle.ion_values.specs.declared.value.Kind.TheVariants as kind
use Rattle.hash_model.specs.Numbers.{digits_in, ended}
use Rattle.hash_model.specs.Serialize.{in_order, serialize}
use Rattle.hash_model.specs.Tree.{pad_form}

abbrev plain : Body → Value
plain b = roll-Value (record { annotations = []; body = b })

abbrev int : ℤ → Value
int n = plain (body.Int n)

row_null : serialize (plain (body.Null kind.Null)) ≡ 0x0B ∷ 0x0F ∷ 0x0E ∷ []
row_null = search (rules, the_lemmas)

row_zero : serialize (int (pos 0)) ≡ 0x0B ∷ 0x20 ∷ 0x0E ∷ []
row_zero = search (rules, the_lemmas)

row_minus_one : serialize (int (negsuc 0)) ≡ 0x0B ∷ 0x30 ∷ 0x01 ∷ 0x0E ∷ []
unfolding digits_in
row_minus_one = search (rules, the_lemmas)

-- a control byte is escaped
row_eleven : serialize (int (pos 11)) ≡ 0x0B ∷ 0x20 ∷ 0x0C ∷ 0x0B ∷ 0x0E ∷ []
unfolding digits_in
row_eleven = search (rules, the_lemmas)

row_two_bytes : serialize (int (pos 256)) ≡ 0x0B ∷ 0x20 ∷ 0x01 ∷ 0x00 ∷ 0x0E ∷ []
unfolding digits_in
row_two_bytes = search (rules, the_lemmas)

row_empty_string : serialize (plain (body.String [])) ≡ 0x0B ∷ 0x80 ∷ 0x0E ∷ []
row_empty_string = search (rules, the_lemmas)

row_empty_struct : serialize (plain (body.Struct [])) ≡ 0x0B ∷ 0xD0 ∷ 0x0E ∷ []
unfolding in_order
row_empty_struct = search (rules, the_lemmas)

row_list : serialize (plain (body.List (int (pos 1) ∷ int (pos 2) ∷ int (pos 3) ∷ [])))
    ≡ 0x0B ∷ 0xB0 ∷ 0x0B ∷ 0x20 ∷ 0x01 ∷ 0x0E ∷ 0x0B ∷ 0x20 ∷ 0x02 ∷ 0x0E ∷ 0x0B ∷ 0x20 ∷ 0x03 ∷ 0x0E ∷ 0x0E ∷ []
unfolding digits_in
row_list = search (rules, the_lemmas)

-- 1.0, 1.00, 0d0, -0d0 and 1.1
row_one_point_zero : serialize (plain (body.Decimal (record { coefficient = pos 10; exponent = negsuc 0; negative_zero = false }))) ≡ 0x0B ∷ 0x50 ∷ 0xC1 ∷ 0x0A ∷ 0x0E ∷ []
unfolding digits_in ended
row_one_point_zero = search (rules, the_lemmas)

row_one_point_zero_zero : serialize (plain (body.Decimal (record { coefficient = pos 100; exponent = negsuc 1; negative_zero = false }))) ≡ 0x0B ∷ 0x50 ∷ 0xC2 ∷ 0x64 ∷ 0x0E ∷ []
unfolding digits_in ended
row_one_point_zero_zero = search (rules, the_lemmas)

row_zero_decimal : serialize (plain (body.Decimal (record { coefficient = pos 0; exponent = pos 0; negative_zero = false }))) ≡ 0x0B ∷ 0x50 ∷ 0x0E ∷ []
row_zero_decimal = search (rules, the_lemmas)

row_negative_zero : serialize (plain (body.Decimal (record { coefficient = pos 0; exponent = pos 0; negative_zero = true }))) ≡ 0x0B ∷ 0x50 ∷ 0x80 ∷ 0x80 ∷ 0x0E ∷ []
unfolding digits_in ended
row_negative_zero = search (rules, the_lemmas)

row_one_point_one : serialize (plain (body.Decimal (record { coefficient = pos 11; exponent = negsuc 0; negative_zero = false }))) ≡ 0x0B ∷ 0x50 ∷ 0xC1 ∷ 0x0C ∷ 0x0B ∷ 0x0E ∷ []
unfolding digits_in ended
row_one_point_one = search (rules, the_lemmas)

row_annotated : serialize (roll-Value (record { annotations = codes "x" ∷ []; body = body.Int (pos 1) }))
    ≡ 0x0B ∷ 0xE0 ∷ 0x0B ∷ 0x70 ∷ 0x78 ∷ 0x0E ∷ 0x0B ∷ 0x20 ∷ 0x01 ∷ 0x0E ∷ 0x0E ∷ []
unfolding digits_in
row_annotated = search (rules, the_lemmas)

-- 2000-01-01T00:00:00Z
row_moment : serialize (plain (body.Timestamp (record {
  precision = Second;
  year = 2000;
  month = 1;
  day = 1;
  hour = 0;
  minute = 0;
  second = 0;
  digits = 0;
  nanos = 0;
  offset = Some (pos 0);
}))) ≡ 0x0B ∷ 0x60 ∷ 0x80 ∷ 0x0F ∷ 0xD0 ∷ 0x81 ∷ 0x81 ∷ 0x80 ∷ 0x80 ∷ 0x80 ∷ 0x0E ∷ []
unfolding digits_in ended
row_moment = search (rules, the_lemmas)

row_pad : pad_form ≡ 0x0B ∷ 0x70 ∷ 0x70 ∷ 0x61 ∷ 0x64 ∷ 0x0E ∷ []
row_pad = refl
