-- A decimal number (Ion 1.0, "Decimal"), as contracts see it.
use Rattle.std.specs.Prelude.{◌≡◌, ℤ, pos, negsuc, ◌≤ℤ◌, Bool, true}

pub record DecimalParts : Type 0 where
  pub coefficient : ℤ
  pub exponent : ℤ
  pub negative_zero : Bool

-- the exponent is within the limits, and a zero alone may be negative
pub record IsDecimal (coefficient exponent : ℤ) (negative_zero : Bool) : Type 0 where
  pub least : negsuc 32766 ≤ℤ exponent
  pub most : exponent ≤ℤ pos 32767
  pub zero : negative_zero ≡ true → coefficient ≡ pos 0
