-- Which values compare, and how (PartiQL, comparison operators; the rule for each kind is the ledger's own).
-- Annotations don't count.
use Rattle.std.specs.Prelude.{ℕ, ℤ, Bool, List}
use Rattle.std.specs.declared.option.Option.{Option}
use Rattle.std.specs.declared.option.Option.TheVariants.{None, Some}
use Rattle.std.specs.declared.cmp.Ordering.{Ordering}
use Rattle.std.specs.Ordering.{bool_cmp, int_cmp, nat_cmp}
use Rattle.std.specs.Cmp.Lexicographic.{slice_cmp}
use Rattle.ion_values.specs.Decimal.{DecimalParts}
use Rattle.ion_values.specs.Time.{instant_of}
use Rattle.ion_values.specs.declared.value.Value.{Value}
use Rattle.ion_values.specs.declared.value.Field.{Field}
use Rattle.ion_values.specs.declared.value.Body.{Body, out-Body}
use Rattle.ion_values.specs.declared.value.Body.TheOpen.{Body-F}
use Rattle.ion_order.specs.Numbers.{brought, lesser, whole}

-- what counts of a value where it is compared
pub data Scalar : Type 0 where
  truth : Bool → Scalar
  number : DecimalParts → Scalar
  moment : ℤ → Scalar
  text : List ℕ → Scalar
  clob : List ℕ → Scalar
  blob : List ℕ → Scalar

-- ints and decimals are numbers, a timestamp is its instant, symbols and strings are texts; nulls and containers
-- don't compare
abbrev pub scalar_of_body : Body-F Body Field Value → Option Scalar
scalar_of_body (Body-F.Bool b) = Some (truth b)
scalar_of_body (Body-F.Int n) = Some (number (whole n))
scalar_of_body (Body-F.Decimal d) = Some (number d)
scalar_of_body (Body-F.Timestamp t) = Some (moment (instant_of t))
scalar_of_body (Body-F.Symbol bytes) = Some (text bytes)
scalar_of_body (Body-F.String bytes) = Some (text bytes)
scalar_of_body (Body-F.Clob bytes) = Some (clob bytes)
scalar_of_body (Body-F.Blob bytes) = Some (blob bytes)
scalar_of_body _ = None

abbrev pub scalar_of : Value → Option Scalar
scalar_of v = scalar_of_body (out-Body v.body)

-- by value: as the coefficients at the lesser exponent
abbrev pub compare_numbers : DecimalParts → DecimalParts → Ordering
compare_numbers a b = int_cmp (brought a (lesser a b)) (brought b (lesser a b))

-- byte by byte from the first, what ends first being less
abbrev pub compare_bytes : List ℕ → List ℕ → Ordering
compare_bytes = slice_cmp nat_cmp

-- false is before true
abbrev pub compare_scalars : Scalar → Scalar → Option Ordering
compare_scalars (truth a) (truth b) = Some (bool_cmp a b)
compare_scalars (number a) (number b) = Some (compare_numbers a b)
compare_scalars (moment a) (moment b) = Some (int_cmp a b)
compare_scalars (text a) (text b) = Some (compare_bytes a b)
compare_scalars (clob a) (clob b) = Some (compare_bytes a b)
compare_scalars (blob a) (blob b) = Some (compare_bytes a b)
compare_scalars _ _ = None

abbrev pub compare_found : Option Scalar → Option Scalar → Option Ordering
compare_found (Some a) (Some b) = compare_scalars a b
compare_found _ _ = None

-- None where the values don't compare
abbrev pub compare_of : Value → Value → Option Ordering
compare_of v w = compare_found (scalar_of v) (scalar_of w)
