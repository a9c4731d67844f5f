-- When two keys are equal, and the order in which keys are kept (own): keys of one kind by what they hold, a number's
-- by its coefficient and then its exponent, and keys of different kinds as the type lists them.
use Rattle.std.specs.Prelude.{ℕ, ◌≡◌, ◌↔◌, ◌&&◌, Bool, true, false}
use Rattle.std.specs.Cmp.{IsTotalOrder}
use Rattle.std.specs.Cmp.Lexicographic.{slice_cmp}
use Rattle.std.specs.Ordering.{bool_cmp, int_cmp, int_eq, nat_cmp, ordering_then}
use Rattle.std.specs.Str.{bytes_eq}
use Rattle.std.specs.declared.cmp.Ordering.{Ordering}
use Rattle.std.specs.declared.cmp.Ordering.TheVariants.{Equal}
use Rattle.ion_values.specs.declared.value.Key.{Key}
use Rattle.ion_values.specs.declared.value.Key.TheVariants as key
use Rattle.ion_values.specs.Equivalent.{same_bool}

abbrev pub is_same_key : Key → Key → Bool
is_same_key (key.Bool a) (key.Bool b) = same_bool a b
is_same_key (key.Number c e) (key.Number d f) = int_eq c d && int_eq e f
is_same_key (key.Text a) (key.Text b) = bytes_eq a b
is_same_key (key.Moment a) (key.Moment b) = int_eq a b
is_same_key (key.Clob a) (key.Clob b) = bytes_eq a b
is_same_key (key.Blob a) (key.Blob b) = bytes_eq a b
is_same_key _ _ = false

-- the place of a key's kind among the kinds
abbrev pub kind_of : Key → ℕ
kind_of (key.Bool b) = 0
kind_of (key.Number c e) = 1
kind_of (key.Text text) = 2
kind_of (key.Moment n) = 3
kind_of (key.Clob bytes) = 4
kind_of (key.Blob bytes) = 5

abbrev pub compare_keys : Key → Key → Ordering
compare_keys (key.Bool a) (key.Bool b) = bool_cmp a b
compare_keys (key.Number c e) (key.Number d f) = ordering_then (int_cmp c d) (int_cmp e f)
compare_keys (key.Text a) (key.Text b) = slice_cmp nat_cmp a b
compare_keys (key.Moment a) (key.Moment b) = int_cmp a b
compare_keys (key.Clob a) (key.Clob b) = slice_cmp nat_cmp a b
compare_keys (key.Blob a) (key.Blob b) = slice_cmp nat_cmp a b
compare_keys a b = nat_cmp (kind_of a) (kind_of b)

-- two keys are equal exactly where they are one
abbrev pub EqualKeysAreOne : Type 0
EqualKeysAreOne = (a b : Key) → (is_same_key a b ≡ true) ↔ (a ≡ b)

-- keys are in one total order, in which equal keys alone tie
abbrev pub KeysAreOrdered : Type 0
KeysAreOrdered = IsTotalOrder compare_keys × ((a b : Key) → (compare_keys a b ≡ Equal) ↔ (a ≡ b))
