-- Arithmetic (PartiQL, arithmetic operators; the rules for results out of range are the ledger's own): MISSING where
-- an operand is MISSING, else NULL where one is null, else MISSING where one is no number, where the divisor is zero
-- and where the result is out of range. With a decimal on one side the int is a decimal of exponent 0.
use Rattle.std.specs.Prelude.{ℤ, ◌+ℤ◌, ◌-ℤ◌, ◌*ℤ◌, pos, int_div, int_rem, if◌then◌else◌}
use Rattle.std.specs.declared.option.Option.{Option}
use Rattle.std.specs.declared.option.Option.TheVariants.{None, Some}
use Rattle.std.specs.Option.{option_map_or}
use Rattle.ion_values.specs.Decimal.{DecimalParts}
use Rattle.ion_values.specs.Within.{is_zero}
use Rattle.ion_values.specs.declared.value.Value.{Value}
use Rattle.ion_values.specs.declared.value.Body.TheVariants as body
use Rattle.ion_values.specs.declared.value.Body.TheOpen.{Body-F}
use Rattle.ion_order.specs.Numbers.{number, whole, fitting}
use Rattle.ion_order.specs.Arithmetic.{sum_of, difference_of, product_of}
use Rattle.pql_model.specs.declared.scope.Evaluated.{Evaluated}
use Rattle.pql_model.specs.declared.scope.Evaluated.TheVariants.{Missing}
use Rattle.pql_model.specs.Made.{Seen, seen, answer, null, is_null, onward, of_two}

abbrev pub int_seen : Seen → Option ℤ
int_seen (Body-F.Int n) = Some n
int_seen _ = None

abbrev pub int_of : Value → Option ℤ
int_of v = int_seen (seen v)

-- a number as a decimal
abbrev pub decimal_seen : Seen → Option DecimalParts
decimal_seen (Body-F.Int n) = Some (whole n)
decimal_seen (Body-F.Decimal d) = Some d
decimal_seen _ = None

abbrev pub decimal_of : Value → Option DecimalParts
decimal_of v = decimal_seen (seen v)

abbrev pub some_int : Option ℤ → Evaluated
some_int result = option_map_or (λ n. answer (body.Int n)) result Missing

-- the int, and MISSING where it is out of range
abbrev pub int_answer : ℤ → Evaluated
int_answer n = some_int (fitting n)

-- the decimal, and MISSING where there is none in range
abbrev pub decimal_answer : Option DecimalParts → Evaluated
decimal_answer result = option_map_or (λ d. answer (body.Decimal d)) result Missing

-- two ints give an int, any other two numbers a decimal, and all else MISSING
abbrev pub combined : (ℤ → ℤ → ℤ) → (DecimalParts → DecimalParts → Option DecimalParts) → Value → Value → Evaluated
combined ints decimals v w =
    of_two (λ a b. int_answer (ints a b)) (int_of v) (int_of w)
    (of_two (λ a b. decimal_answer (decimals a b)) (decimal_of v) (decimal_of w) Missing)

-- ints alone, and no divisor of zero
abbrev pub divided : (ℤ → ℤ → ℤ) → Value → Value → Evaluated
divided ints v w = of_two (λ a b. if is_zero b then Missing else int_answer (ints a b)) (int_of v) (int_of w) Missing

abbrev pub sum : Value → Value → Evaluated
sum = combined (λ a b. a +ℤ b) sum_of

abbrev pub difference : Value → Value → Evaluated
difference = combined (λ a b. a -ℤ b) difference_of

abbrev pub product : Value → Value → Evaluated
product = combined (λ a b. a *ℤ b) product_of

-- the quotient of two ints, truncated towards zero
abbrev pub quotient : Value → Value → Evaluated
quotient = divided int_div

-- the remainder of two ints, with the dividend's sign
abbrev pub remainder : Value → Value → Evaluated
remainder = divided int_rem

-- a zero of the same exponent less the number: the other sign, and a positive zero
abbrev pub decimal_negated : DecimalParts → Option DecimalParts
decimal_negated d = difference_of (number (pos 0) d.exponent) d

abbrev pub negated : Value → Evaluated
negated v =
    option_map_or (λ n. int_answer (pos 0 -ℤ n)) (int_of v)
    (option_map_or (λ d. decimal_answer (decimal_negated d)) (decimal_of v) Missing)

abbrev pub opposite : Value → Evaluated
opposite v = if is_null v then null else negated v

abbrev pub minus : Evaluated → Evaluated
minus = onward opposite
