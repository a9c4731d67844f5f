-- The keys by which values are looked up (own): equal for values that compare as equal, and for no others. A number's
-- key is its coefficient without the zeros at its end, and the exponent so raised.
use Rattle.std.specs.Prelude.{ℕ, zero, suc, ◌/◌, ◌%◌, ◌^◌, ◌==◌, ℤ, pos, ◌+ℤ◌, int_div, unsigned_abs, option_map, if◌then◌else◌}
use Rattle.std.specs.declared.option.Option.{Option}
use Rattle.ion_values.specs.Decimal.{DecimalParts}
use Rattle.ion_values.specs.Within.{is_zero}
use Rattle.ion_values.specs.declared.value.Value.{Value}
use Rattle.ion_values.specs.declared.value.Key.{Key}
use Rattle.ion_values.specs.declared.value.Key.TheVariants as key
use Rattle.ion_order.specs.Compare.{Scalar, truth, number, moment, text, clob, blob, scalar_of}

-- how often ten divides the number, with tries that suffice
unfoldable pub zeros_in : ℕ → ℕ → ℕ
zeros_in zero n = 0
zeros_in (suc tries) n = if n % 10 == 0 then suc (zeros_in tries (n / 10)) else 0

-- the zeros at the end of the digits of a number that isn't 0
abbrev pub zeros_of : ℕ → ℕ
zeros_of n = zeros_in n n

-- of zero the coefficient and the exponent are 0
unfoldable pub key_of_number : DecimalParts → Key
key_of_number d =
    let zeros = zeros_of (unsigned_abs d.coefficient) in
    if is_zero d.coefficient then key.Number (pos 0) (pos 0)
    else key.Number (int_div d.coefficient (pos (10 ^ zeros))) (d.exponent +ℤ pos zeros)

abbrev pub key_of_scalar : Scalar → Key
key_of_scalar (truth b) = key.Bool b
key_of_scalar (number d) = key_of_number d
key_of_scalar (moment n) = key.Moment n
key_of_scalar (text bytes) = key.Text bytes
key_of_scalar (clob bytes) = key.Clob bytes
key_of_scalar (blob bytes) = key.Blob bytes

-- None for a null and for a container
abbrev pub key_of : Value → Option Key
key_of v = option_map key_of_scalar (scalar_of v)
