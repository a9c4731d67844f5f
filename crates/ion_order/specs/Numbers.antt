-- The numbers (Ion 1.0, "Decimal"): a decimal is its coefficient times ten to the exponent. That an int is a decimal of
-- exponent 0, and a number's other coefficients, are the ledger's own.
use Rattle.std.specs.Prelude.{ℤ, pos, ◌^◌, ◌-ℤ◌, ◌*ℤ◌, false, unsigned_abs, if◌then◌else◌}
use Rattle.std.specs.declared.option.Option.{Option}
use Rattle.std.specs.declared.option.Option.TheVariants.{None, Some}
use Rattle.std.specs.Int.{int_min}
use Rattle.ion_values.specs.Decimal.{DecimalParts}
use Rattle.ion_values.specs.Within.{int_within}

abbrev pub number : ℤ → ℤ → DecimalParts
number coefficient exponent = record { coefficient = coefficient; exponent = exponent; negative_zero = false }

-- an int is a decimal of exponent 0
abbrev pub whole : ℤ → DecimalParts
whole n = number n (pos 0)

-- the lesser of the two exponents
abbrev pub lesser : DecimalParts → DecimalParts → ℤ
lesser a b = int_min a.exponent b.exponent

-- the coefficient that the number has at an exponent that isn't above its own
unfoldable pub brought : DecimalParts → ℤ → ℤ
brought d exponent = d.coefficient *ℤ pos (10 ^ unsigned_abs (d.exponent -ℤ exponent))

-- the coefficient, where an i128 holds it
abbrev pub fitting : ℤ → Option ℤ
fitting n = if int_within n then Some n else None
