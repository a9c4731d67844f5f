-- The value of an expression is at most as much deeper than what it is made from as the expression nests.
use Rattle.std.proofs.Common.{zero, suc, slice_get, ◌≡◌, ℕ, ◌≤◌, max, ℤ, pos, ◌+ℤ◌, ◌-ℤ◌, ◌*ℤ◌, int_div, int_rem, Bool, true, false, not, cond, if◌then◌else◌, ◌||◌, ◌&&◌, List, [], ◌∷◌, map, length, reverse, refl, arith, rules}
use Rattle.std.specs.declared.option.Option.{Option}
use Rattle.std.specs.declared.option.Option.TheVariants.{None, Some}
use Rattle.std.specs.Option.{option_map_or}
use Rattle.std.specs.List.{find, list_any}
use Rattle.std.specs.Str.{chars}
use Rattle.ion_values.specs.Within.{is_zero}
use Rattle.ion_order.specs.Numbers.{fitting}
use Rattle.ion_order.specs.Arithmetic.{sum_of, difference_of, product_of}
use Rattle.ion_order.specs.Compare.{compare_of}
use Rattle.std.specs.Ordering.{is_lt, is_le, is_gt, is_ge}
use Rattle.std.specs.declared.cmp.Ordering.{Ordering}
use Rattle.std.proofs.lemmas.List.{map-append}
use Rattle.std.proofs.lemmas.Grind.{reverse_onto}
use Rattle.ion_values.specs.Decimal.{DecimalParts}
use Rattle.ion_values.specs.Depth.{depth_of, deepest}
use Rattle.ion_values.specs.declared.value.Value.{Value}
use Rattle.ion_values.specs.declared.value.Body.TheVariants as body
use Rattle.ion_values.specs.declared.value.Body.TheFolds as values
use Rattle.ql_types.specs.declared.DocId.{DocId}
use Rattle.pql_model.specs.declared.scope.Bound.{Bound}
use Rattle.pql_model.specs.declared.scope.Evaluated.{Evaluated}
use Rattle.pql_model.specs.declared.scope.Evaluated.TheVariants.{Missing, Found}
use Rattle.pql_model.specs.declared.expr.Operator.{Operator}
use Rattle.pql_model.specs.declared.expr.Operator.TheVariants as op
use Rattle.pql_model.specs.Made.{seen, truth, null, answer, onward, of_two, is_null, is_unknown}
use Rattle.pql_model.specs.Comparisons.{of_both, in_order, are_equal, at_least, at_most}
use Rattle.pql_model.specs.Logic.{conjunction, disjunction, negation, is_true, is_false, truth_in, truth_of}
use Rattle.pql_model.specs.Arithmetic.{some_int, decimal_answer, int_of, decimal_of, combined, divided, negated, opposite, minus}
use Rattle.pql_model.specs.Texts.{joined, like, text_of, length_of, char_length}
use Rattle.pql_model.specs.Lists.{any_of, is_among, is_equal_to, is_null_answer, is_in, between, members_of, size_of, size, list_seen}
use Rattle.pql_model.specs.Names.{called_in_row, resolve}
use Rattle.pql_model.specs.declared.names.Resolved.{Resolved}
use Rattle.pql_model.specs.declared.names.Resolved.TheVariants.{Variable, Id}
use Rattle.pql_model.specs.Steps.{id_answer, field_of_only, meant_by, meant_in, place_of, named, field_of}
use Rattle.pql_model.specs.Meaning.{of_values, operate}
use Rattle.pql_model.specs.MeaningDepth.{depth_in}
use Rattle.pql_model.proofs.Depths.{found_depth, field_of_depth, deepest_append, bool_depth, int_depth, string_depth}

-- ---- answers that are no deeper than a scalar

abbrev pub Flat : Evaluated → Type 0
Flat e = depth_in e ≡ 0

pub null_flat : Flat null
null_flat = search (rules, values.the_lemmas)

decimal_flat : (d : DecimalParts) → Flat (answer (body.Decimal d))
decimal_flat d = search (rules, values.the_lemmas)

pub truth_flat : (b : Bool) → Flat (truth b)
truth_flat b = bool_depth b

choice_flat : (b : Bool) (x y : Evaluated) → Flat x → Flat y → Flat (if b then x else y)
choice_flat true x y f g = f
choice_flat false x y f g = g

onward_flat : (f : Value → Evaluated) → ((v : Value) → Flat (f v)) → (e : Evaluated) → Flat (onward f e)
onward_flat f h Missing = refl
onward_flat f h (Found v) = h v

of_both_flat : (f : Value → Value → Evaluated) → ((v w : Value) → Flat (f v w)) → (a b : Evaluated) → Flat (of_both f a b)
of_both_flat f h Missing b = refl
of_both_flat f h (Found v) Missing = refl
of_both_flat f h (Found v) (Found w) = choice_flat (is_null v || is_null w) null (f v w) null_flat (h v w)

of_two_flat : {A : Type 0} → (f : A → A → Evaluated) (x y : Option A) (other : Evaluated) → ((a b : A) → Flat (f a b)) → Flat other → Flat (of_two f x y other)
of_two_flat f (Some a) (Some b) other h g = h a b
of_two_flat f None y other h g = g
of_two_flat f (Some a) None other h g = g

map_or_flat : {A : Type 0} → (f : A → Evaluated) (x : Option A) (other : Evaluated) → ((a : A) → Flat (f a)) → Flat other → Flat (option_map_or f x other)
map_or_flat f None other h g = g
map_or_flat f (Some a) other h g = h a

some_int_flat : (n : Option ℤ) → Flat (some_int n)
some_int_flat None = refl
some_int_flat (Some n) = int_depth n

decimal_answer_flat : (d : Option DecimalParts) → Flat (decimal_answer d)
decimal_answer_flat None = refl
decimal_answer_flat (Some d) = decimal_flat d

conjunction_flat : (a b : Option Bool) → Flat (conjunction a b)
conjunction_flat a b =
    choice_flat (is_false a || is_false b) _ _ (truth_flat false) (choice_flat (is_true a && is_true b) _ _ (truth_flat true) null_flat)

disjunction_flat : (a b : Option Bool) → Flat (disjunction a b)
disjunction_flat a b =
    choice_flat (is_true a || is_true b) _ _ (truth_flat true) (choice_flat (is_false a && is_false b) _ _ (truth_flat false) null_flat)

pub negation_flat : (a : Option Bool) → Flat (negation a)
negation_flat a = choice_flat (is_true a) _ _ (truth_flat false) (choice_flat (is_false a) _ _ (truth_flat true) null_flat)

combined_flat : (ints : ℤ → ℤ → ℤ) (decimals : DecimalParts → DecimalParts → Option DecimalParts) (v w : Value) → Flat (combined ints decimals v w)
combined_flat ints decimals v w =
    of_two_flat _ (int_of v) (int_of w) _ (λ a b. some_int_flat _) (of_two_flat _ (decimal_of v) (decimal_of w) _ (λ a b. decimal_answer_flat _) refl)

divided_flat : (ints : ℤ → ℤ → ℤ) (v w : Value) → Flat (divided ints v w)
divided_flat ints v w = of_two_flat _ (int_of v) (int_of w) _ (λ a b. choice_flat (is_zero b) _ _ refl (some_int_flat (fitting (ints a b)))) refl

in_order_flat : (holds : Ordering → Bool) (v w : Value) → Flat (in_order holds v w)
unfolding in_order
in_order_flat holds v w = map_or_flat (λ o. truth (holds o)) (compare_of v w) Missing (λ o. truth_flat (holds o)) refl

joined_flat : (v w : Value) → Flat (joined v w)
joined_flat v w = of_two_flat _ (text_of v) (text_of w) _ (λ a b. string_depth _) refl

like_flat : (v w : Value) → Flat (like v w)
like_flat v w = of_two_flat _ (text_of v) (text_of w) _ (λ a b. truth_flat _) refl

of_values_flat : (o : Operator) (v w : Value) → Flat (of_values o v w)
of_values_flat op.Or v w = disjunction_flat (truth_of v) (truth_of w)
of_values_flat op.And v w = conjunction_flat (truth_of v) (truth_of w)
of_values_flat op.Equal v w = truth_flat (are_equal v w)
of_values_flat op.NotEqual v w = truth_flat (not (are_equal v w))
of_values_flat op.Less v w = in_order_flat is_lt v w
of_values_flat op.AtMost v w = in_order_flat is_le v w
of_values_flat op.Greater v w = in_order_flat is_gt v w
of_values_flat op.AtLeast v w = in_order_flat is_ge v w
of_values_flat op.Concat v w = joined_flat v w
of_values_flat op.Plus v w = combined_flat (λ a b. a +ℤ b) sum_of v w
of_values_flat op.Minus v w = combined_flat (λ a b. a -ℤ b) difference_of v w
of_values_flat op.Times v w = combined_flat (λ a b. a *ℤ b) product_of v w
of_values_flat op.Divide v w = divided_flat int_div v w
of_values_flat op.Remainder v w = divided_flat int_rem v w

pub operate_flat : (o : Operator) (a b : Evaluated) → Flat (operate o a b)
operate_flat op.Or a b = disjunction_flat (truth_in a) (truth_in b)
operate_flat op.And a b = conjunction_flat (truth_in a) (truth_in b)
operate_flat op.Equal a b = of_both_flat (of_values op.Equal) (of_values_flat op.Equal) a b
operate_flat op.NotEqual a b = of_both_flat (of_values op.NotEqual) (of_values_flat op.NotEqual) a b
operate_flat op.Less a b = of_both_flat (of_values op.Less) (of_values_flat op.Less) a b
operate_flat op.AtMost a b = of_both_flat (of_values op.AtMost) (of_values_flat op.AtMost) a b
operate_flat op.Greater a b = of_both_flat (of_values op.Greater) (of_values_flat op.Greater) a b
operate_flat op.AtLeast a b = of_both_flat (of_values op.AtLeast) (of_values_flat op.AtLeast) a b
operate_flat op.Concat a b = of_both_flat (of_values op.Concat) (of_values_flat op.Concat) a b
operate_flat op.Plus a b = of_both_flat (of_values op.Plus) (of_values_flat op.Plus) a b
operate_flat op.Minus a b = of_both_flat (of_values op.Minus) (of_values_flat op.Minus) a b
operate_flat op.Times a b = of_both_flat (of_values op.Times) (of_values_flat op.Times) a b
operate_flat op.Divide a b = of_both_flat (of_values op.Divide) (of_values_flat op.Divide) a b
operate_flat op.Remainder a b = of_both_flat (of_values op.Remainder) (of_values_flat op.Remainder) a b

pub is_like_flat : (a b : Evaluated) → Flat (of_both like a b)
is_like_flat a b = of_both_flat like like_flat a b

pub minus_flat : (e : Evaluated) → Flat (minus e)
minus_flat e =
    onward_flat opposite
    (λ v. choice_flat (is_null v) null (negated v) null_flat (map_or_flat _ (int_of v) _ (λ n. some_int_flat _) (map_or_flat _ (decimal_of v) _ (λ d. decimal_answer_flat _) refl)))
    e

any_of_flat : (answers : List Evaluated) → Flat (any_of answers)
any_of_flat answers =
    choice_flat (list_any (λ e. is_true (truth_in e)) answers) _ _ (truth_flat true) (choice_flat (list_any is_null_answer answers) _ _ null_flat (truth_flat false))

pub is_in_flat : (x e : Evaluated) → Flat (is_in x e)
is_in_flat x e =
    onward_flat (λ v. option_map_or (is_among x) (list_seen (seen v)) Missing) (λ v. map_or_flat (is_among x) (list_seen (seen v)) Missing (λ vs. any_of_flat (map (is_equal_to x) vs)) refl) e

pub between_flat : (x low high : Evaluated) → Flat (between x low high)
between_flat x low high = conjunction_flat (truth_in (at_least x low)) (truth_in (at_most x high))

pub size_flat : (e : Evaluated) → Flat (size e)
size_flat e = onward_flat size_of (λ v. choice_flat (is_null v) _ _ null_flat (map_or_flat (λ n. answer (body.Int (pos n))) (members_of v) Missing (λ n. int_depth (pos n)) refl)) e

pub char_length_flat : (e : Evaluated) → Flat (char_length e)
char_length_flat e = onward_flat length_of (λ v. choice_flat (is_null v) _ _ null_flat (map_or_flat (λ text. answer (body.Int (pos (length (chars text))))) (text_of v) Missing (λ text. int_depth (pos (length (chars text)))) refl)) e

-- ---- answers that are found

abbrev of_bound : Bound → ℕ
of_bound b = depth_of b.value

id_flat : (id : Option DocId) → Flat (id_answer id)
id_flat None = refl
id_flat (Some id) = string_depth _

choice_depth : (b : Bool) (x y : Evaluated) (n : ℕ) → depth_in x ≤ n → depth_in y ≤ n → depth_in (if b then x else y) ≤ n
choice_depth true x y n f g = f
choice_depth false x y n f g = g

meant_by_depth : (r : Resolved) (b : Bound) → depth_in (meant_by r b) ≤ of_bound b
meant_by_depth (Variable place) b = omega arith
meant_by_depth (Id place) b = omega (arith, id_flat b.id)

place_depth : (r : Resolved) (place : ℕ) (scope : List Bound) → depth_in (option_map_or (meant_by r) (slice_get scope place) Missing) ≤ deepest (map of_bound scope)
place_depth r place [] = omega arith
place_depth r zero (b ∷ bs) = omega (arith, meant_by_depth r b)
place_depth r (suc place) (b ∷ bs) = omega (arith, place_depth r place bs)

only_depth : (name : List ℕ) (whole : Bool) (scope : List Bound) → depth_in (field_of_only name whole scope) ≤ deepest (map of_bound scope)
only_depth name false scope = omega arith
only_depth name true [] = omega arith
only_depth name true (b ∷ []) = omega (arith, found_depth (field_of name b.value), field_of_depth name b.value)
only_depth name true (b ∷ c ∷ bs) = omega arith

resolved_depth : (o : Option Resolved) (other : Evaluated) (scope : List Bound) → depth_in other ≤ deepest (map of_bound scope)
    → depth_in (option_map_or (meant_in scope) o other) ≤ deepest (map of_bound scope)
resolved_depth None other scope h = h
resolved_depth (Some r) other scope h = place_depth r (place_of r) scope

pub named_depth : (name : List ℕ) (whole : Bool) (scope : List Bound) → depth_in (named name whole scope) ≤ deepest (map of_bound scope)
named_depth name whole scope =
    resolved_depth (resolve name (map called_in_row scope)) (field_of_only name whole scope) scope (only_depth name whole scope)

pub coalesce_step : (e rest : Evaluated) (n : ℕ) → depth_in e ≤ n → depth_in rest ≤ n → depth_in (if is_unknown e then rest else e) ≤ n
coalesce_step e rest n f g = choice_depth (is_unknown e) rest e n g f
