-- Worked streams: their values and their bytes.
use Rattle.std.proofs.Common.{◌≡◌, ℤ, pos, negsuc, false, true, List, [], ◌∷◌, refl, rules}
use Rattle.std.specs.Prelude.{codes}
use Rattle.ion_values.specs.declared.value.Value.{Value, roll-Value}
use Rattle.ion_values.specs.declared.value.Field.{roll-Field}
use Rattle.ion_values.specs.declared.value.Body.{Body}
use Rattle.ion_values.specs.declared.value.Body.TheVariants as body
use Rattle.ion_values.specs.declared.value.Body.TheFolds.{the_lemmas}
use Rattle.hash_model.specs.Numbers.{digits_in, ended}
use Rattle.ion_binary_out.specs.BinaryText.{binary_text, typed}

abbrev plain : Body → Value
plain b = roll-Value (record { annotations = []; body = b })

abbrev int : ℤ → Value
int n = plain (body.Int n)

-- no values
row_empty : binary_text [] ≡ 0xE0 ∷ 0x01 ∷ 0x00 ∷ 0xEA ∷ []
unfolding binary_text
row_empty = refl

-- {a:1}
row_field : binary_text (plain (body.Struct (roll-Field (record { name = codes "a"; value = int (pos 1) }) ∷ [])) ∷ [])
    ≡ 0xE0 ∷ 0x01 ∷ 0x00 ∷ 0xEA ∷ 0xE7 ∷ 0x81 ∷ 0x83 ∷ 0xD4 ∷ 0x87 ∷ 0xB2 ∷ 0x81 ∷ 0x61 ∷ 0xD3 ∷ 0x8A ∷ 0x21 ∷ 0x01 ∷ []
unfolding binary_text typed digits_in ended
row_field = search (rules, the_lemmas)

-- [x::true, -256, 1.0]
row_list : binary_text
    (plain (body.List (
    roll-Value (record { annotations = codes "x" ∷ []; body = body.Bool true })
    ∷ int (negsuc 255)
    ∷ plain (body.Decimal (record { coefficient = pos 10; exponent = negsuc 0; negative_zero = false }))
    ∷ []
    )) ∷ [])
    ≡ 0xE0 ∷ 0x01 ∷ 0x00 ∷ 0xEA ∷ 0xE7 ∷ 0x81 ∷ 0x83 ∷ 0xD4 ∷ 0x87 ∷ 0xB2 ∷ 0x81 ∷ 0x78 ∷ 0xBA ∷ 0xE3 ∷ 0x81 ∷ 0x8A ∷ 0x11 ∷ 0x32
    ∷ 0x01 ∷ 0x00 ∷ 0x52 ∷ 0xC1 ∷ 0x0A ∷ []
unfolding binary_text typed digits_in ended
row_list = search (rules, the_lemmas)

-- "0123456789abcd"
row_long : binary_text (plain (body.String (codes "0123456789abcd")) ∷ [])
    ≡ 0xE0 ∷ 0x01 ∷ 0x00 ∷ 0xEA ∷ 0x8E ∷ 0x8E ∷ codes "0123456789abcd"
unfolding binary_text typed digits_in ended
row_long = search (rules, the_lemmas)
