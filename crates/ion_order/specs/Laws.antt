-- What holds of comparisons and keys (own).
use Rattle.std.specs.Prelude.{◌≡◌, ◌↔◌, Bool}
use Rattle.std.specs.declared.option.Option.TheVariants.{Some}
use Rattle.std.specs.Cmp.{IsPartialOrder, IsTotalOrder}
use Rattle.std.specs.declared.cmp.Ordering.TheVariants.{Equal}
use Rattle.std.specs.Ordering.{is_eq, is_some_and}
use Rattle.ion_values.specs.declared.value.Value.{Value}
use Rattle.ion_values.specs.declared.value.Key.{Key}
use Rattle.ion_order.specs.Compare.{compare_numbers, compare_of}
use Rattle.ion_order.specs.Key.{key_of}

-- both have a key, and it is the same
abbrev pub SameKey : Value → Value → Type 0
SameKey v w = (key : Key) × (key_of v ≡ Some key) × (key_of w ≡ Some key)

-- two values compare as equal exactly where they have the same key
abbrev pub KeysTellEqual : Type 0
KeysTellEqual = (v w : Value) → (compare_of v w ≡ Some Equal) ↔ SameKey v w

-- numbers are in one total order, whatever their exponents
abbrev pub NumbersAreOrdered : Type 0
NumbersAreOrdered = IsTotalOrder compare_numbers

abbrev pub is_tie : Value → Value → Bool
is_tie v w = is_some_and is_eq (compare_of v w)

-- the other way round a comparison is reversed, it chains, and values that compare as equal compare alike with all
-- others
abbrev pub ValuesAreOrdered : Type 0
ValuesAreOrdered = IsPartialOrder is_tie compare_of
