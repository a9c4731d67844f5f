-- Sums, differences and products of numbers (Ion 1.0, "Decimal", for the numbers; the rules are the ledger's own). A
-- coefficient is within i128, and None says that a result is out of range. A zero that results is positive.
use Rattle.std.specs.Prelude.{ℤ, ◌+ℤ◌, ◌-ℤ◌, ◌*ℤ◌, ◌&&◌, if◌then◌else◌}
use Rattle.std.specs.declared.option.Option.{Option}
use Rattle.std.specs.declared.option.Option.TheVariants.{None, Some}
use Rattle.ion_values.specs.Decimal.{DecimalParts}
use Rattle.ion_values.specs.Within.{exponent_within, int_within}
use Rattle.ion_order.specs.Numbers.{brought, fitting, lesser, number}

-- the number, if it is in range
abbrev pub in_range : ℤ → ℤ → Option DecimalParts
in_range coefficient exponent =
    if int_within coefficient && exponent_within exponent then Some (number coefficient exponent) else None

-- what the two are combined to, None where one of them is missing
abbrev pub of_both : Option ℤ → Option ℤ → (ℤ → ℤ → Option DecimalParts) → Option DecimalParts
of_both (Some x) (Some y) combine = combine x y
of_both _ _ combine = None

-- at the lesser exponent, to which both operands can be brought within range
abbrev pub at_lesser : DecimalParts → DecimalParts → (ℤ → ℤ → ℤ) → Option DecimalParts
at_lesser a b combine =
    let exponent = lesser a b in
    of_both (fitting (brought a exponent)) (fitting (brought b exponent)) (λ x y. in_range (combine x y) exponent)

abbrev pub sum_of : DecimalParts → DecimalParts → Option DecimalParts
sum_of a b = at_lesser a b (λ x y. x +ℤ y)

abbrev pub difference_of : DecimalParts → DecimalParts → Option DecimalParts
difference_of a b = at_lesser a b (λ x y. x -ℤ y)

-- the product of the coefficients, at the sum of the exponents
abbrev pub product_of : DecimalParts → DecimalParts → Option DecimalParts
product_of a b = in_range (a.coefficient *ℤ b.coefficient) (a.exponent +ℤ b.exponent)
