-- How deep what a SELECT answers can be, by its rows, its parameters and its expressions.
use Rattle.std.proofs.Common.{max, ◌≡◌, ℕ, ◌+◌, ◌≤◌, Bool, true, false, if◌then◌else◌, List, [], ◌∷◌, ◌++◌, map, length, pos, refl, arith, rules}
use Rattle.std.specs.declared.option.Option.{Option}
use Rattle.std.specs.declared.option.Option.TheVariants.{None, Some}
use Rattle.std.specs.declared.cmp.Ordering.{Ordering}
use Rattle.std.specs.Option.{option_map_or}
use Rattle.std.specs.Ordering.{is_lt, is_gt}
use Rattle.std.specs.List.{filter, flat_map}
use Rattle.std.proofs.lemmas.List.{map-append}
use Rattle.ion_values.specs.Decimal.{DecimalParts}
use Rattle.ion_values.specs.Depth.{depth_of, field_depth, deepest}
use Rattle.ion_values.specs.declared.value.Body.TheOpen.{Body-F}
use Rattle.ion_values.specs.declared.value.Value.{Value}
use Rattle.ion_order.specs.Compare.{compare_of}
use Rattle.pql_model.specs.declared.expr.Expr.{Expr, out-Expr, roll-Expr}
use Rattle.pql_model.specs.declared.expr.Expr.TheFolds.{the_lemmas}
use Rattle.pql_model.specs.declared.expr.Expr.TheOpen.{Expr-F}
use Rattle.pql_model.specs.declared.expr.Member.{Member}
use Rattle.pql_model.specs.declared.expr.Path.{Path}
use Rattle.pql_model.specs.declared.expr.PathStep.{PathStep}
use Rattle.pql_model.specs.declared.scope.Bound.{Bound}
use Rattle.pql_model.specs.declared.scope.Evaluated.{Evaluated}
use Rattle.pql_model.specs.declared.scope.Evaluated.TheVariants.{Missing, Found}
use Rattle.pql_model.specs.declared.statement.FromClause.{FromClause}
use Rattle.pql_model.specs.declared.statement.Select.{Select}
use Rattle.pql_model.specs.declared.statement.Select.TheVariants as select
use Rattle.pql_model.specs.declared.statement.SelectItem.{SelectItem}
use Rattle.pql_model.specs.declared.statement.Source.{Source}
use Rattle.pql_model.specs.declared.statement.SourceKind.{SourceKind}
use Rattle.pql_model.specs.declared.statement.SourceKind.TheVariants as source
use Rattle.pql_model.specs.declared.tables.Row.{Row}
use Rattle.pql_model.specs.declared.tables.View.TheVariants as view
use Rattle.pql_model.specs.Answers.{aggregate, aggregate_seen, answered, are_aggregates, best_from, best_of, better, count_of, fields_from, fields_of, fields_or, in_row, item_name, items_of, known, known_in, number_or_missing, starred, struct_from, sum_of, summed}
use Rattle.pql_model.specs.Arithmetic.{decimal_of, sum}
use Rattle.pql_model.specs.Comparisons.{of_both}
use Rattle.pql_model.specs.From.{Combined, Viewed, bound_element, bound_of, bound_row, combined, combined_with, elements_of, elements_or_none, extended, given, given_by, is_kept, rows_of}
use Rattle.pql_model.specs.Lists.{field_in, list_seen, value_in}
use Rattle.pql_model.specs.Made.{Seen, is_unknown, onward, seen}
use Rattle.pql_model.specs.Meaning.{before, meaning_of_path, under}
use Rattle.pql_model.specs.MeaningDepth.{depth_in}
use Rattle.pql_model.specs.Tables.{table_named, view_named}
use Rattle.pql_model.specs.Shallow.{AnswersAreShallow, AreWithin, IsShallowSelect, expr_depth, item_depth}
use Rattle.pql_model.specs.declared.expr.Operator.TheVariants as op
use Rattle.pql_model.proofs.Depths.{at_field, at_value, deepest_append, int_depth, level, struct_depth}
use Rattle.pql_model.proofs.MeaningBound.{depth_is_bounded}
use Rattle.pql_model.proofs.MeaningDepths.{null_flat, operate_flat}
use Rattle.pql_model.proofs.PathDepths.{path_is_bounded, scope_depth}

-- ---- lists

-- what is made of each is no deeper than n, where each is no greater than m
map_depth : {A B : Type 0} → (size : A → ℕ) (depth : B → ℕ) (f : A → B) (m n : ℕ) → ((x : A) → size x ≤ m → depth (f x) ≤ n) → (xs : List A) → deepest (map size xs) ≤ m → deepest (map depth (map f xs)) ≤ n
map_depth size depth f m n h [] le = omega arith
map_depth size depth f m n h (x ∷ xs) le =
    let here : depth (f x) ≤ n = h x (omega arith) in
    omega (arith, map_depth size depth f m n h xs (omega arith))

flat_map_depth : {A B : Type 0} → (size : A → ℕ) (depth : B → ℕ) (f : A → List B) (m n : ℕ) → ((x : A) → size x ≤ m → deepest (map depth (f x)) ≤ n) → (xs : List A) → deepest (map size xs) ≤ m → deepest (map depth (flat_map f xs)) ≤ n
flat_map_depth size depth f m n h [] le = omega arith
flat_map_depth size depth f m n h (x ∷ xs) le =
    let here : deepest (map depth (f x)) ≤ n = h x (omega arith) in
    rw (map-append depth (f x) (flat_map f xs), deepest_append) (omega (arith, flat_map_depth size depth f m n h xs (omega arith)))

kept_depth : {A : Type 0} → (size : A → ℕ) (test : A → Bool) (xs : List A) → deepest (map size (filter test xs)) ≤ deepest (map size xs)
kept_depth size test [] = omega arith
kept_depth size test (x ∷ xs) =
    elim (test x) as (λ b. deepest (map size (if b then x ∷ filter test xs else filter test xs)) ≤ deepest (map size (x ∷ xs))) [
      | true ↦ omega (arith, kept_depth size test xs)
      | false ↦ omega (arith, kept_depth size test xs)
    ]

-- ---- parts of answers

abbrev all_rows_depth : List Combined → ℕ
all_rows_depth rows = deepest (map scope_depth rows)

abbrev bound_depth : Bound → ℕ
bound_depth b = depth_of b.value

abbrev row_depth : Row → ℕ
row_depth r = depth_of r.value

elements_seen_depth : (s : Seen) → deepest (map depth_of (elements_or_none (list_seen s))) ≤ level s
elements_seen_depth (Body-F.List values) = omega arith
elements_seen_depth _ = omega arith

elements_depth : (e : Evaluated) → deepest (map depth_of (elements_of e)) ≤ depth_in e
elements_depth Missing = omega arith
elements_depth (Found v) = omega (arith, at_value v, elements_seen_depth (seen v))

fields_or_depth : (name : List ℕ) (v : Value) (s : Seen) → level s ≤ depth_of v → deepest (map field_depth (fields_or name v s)) ≤ depth_of v
fields_or_depth name v (Body-F.Struct fields) h = omega arith
fields_or_depth name v _ h = omega (arith, at_field (record { name = name; value = v }))

field_in_depth : (name : List ℕ) (e : Evaluated) → deepest (map field_depth (field_in name e)) ≡ depth_in e
field_in_depth name Missing = refl
field_in_depth name (Found v) = omega (arith, at_field (record { name = name; value = v }))

value_in_depth : (e : Evaluated) → deepest (map depth_of (value_in e)) ≡ depth_in e
value_in_depth Missing = refl
value_in_depth (Found v) = omega arith

known_in_depth : (e : Evaluated) → deepest (map depth_of (known_in e)) ≤ depth_in e
known_in_depth e =
    elim (is_unknown e) as (λ b. deepest (map depth_of (if b then [] else value_in e)) ≤ depth_in e) [
      | true ↦ omega arith
      | false ↦ omega (arith, value_in_depth e)
    ]

number_depth : (v : Value) (n : Option DecimalParts) → depth_in (option_map_or (λ d. Found v) n Missing) ≤ depth_of v
number_depth v None = omega arith
number_depth v (Some d) = omega arith

at_sum : (e : Expr) → expr_depth (roll-Expr (Expr-F.Sum e)) ≡ expr_depth e
at_sum e = search (rules, the_lemmas)

at_min : (e : Expr) → expr_depth (roll-Expr (Expr-F.Min e)) ≡ expr_depth e
at_min e = search (rules, the_lemmas)

at_max : (e : Expr) → expr_depth (roll-Expr (Expr-F.Max e)) ≡ expr_depth e
at_max e = search (rules, the_lemmas)

out_depth : (e : Expr) → expr_depth (roll-Expr (out-Expr e)) ≡ expr_depth e
out_depth e = search (rules, the_lemmas)

-- one level of an expression, with what its parts are told to be
abbrev opened_depth : Expr-F Expr PathStep Member Path → ℕ
opened_depth (Expr-F.Sum e) = expr_depth e
opened_depth (Expr-F.Min e) = expr_depth e
opened_depth (Expr-F.Max e) = expr_depth e
opened_depth _ = 0

at_inner : (x : Expr-F Expr PathStep Member Path) → opened_depth x ≤ expr_depth (roll-Expr x)
at_inner (Expr-F.Sum e) = omega (arith, at_sum e)
at_inner (Expr-F.Min e) = omega (arith, at_min e)
at_inner (Expr-F.Max e) = omega (arith, at_max e)
at_inner _ = omega arith

-- ---- where what is given is at most d deep

module _ (d : ℕ) (low : 64 ≤ d) where
  -- ---- rows

  module _ (views : Viewed) (params : List Value) (shallow : AreWithin d views) where
    given_rows : (s : Source) (kind : SourceKind) (scope : Combined) → scope_depth scope ≤ d → scope_depth (given_by views params s kind scope) ≤ d
    given_rows s (source.Table name) scope h =
        map_depth row_depth bound_depth (bound_row s) d d (λ r le. le) (views (table_named name) (view_named name)) (shallow _ _)
    given_rows s (source.History table start end) scope h =
        map_depth row_depth bound_depth (bound_row s) d d (λ r le. le) (views table (view.History (bound_of params start) (bound_of params end))) (shallow _ _)
    given_rows s (source.Path path) scope h =
        map_depth depth_of bound_depth (bound_element s) d d (λ v le. le)
        (elements_of (meaning_of_path path (before scope params)))
        (omega (arith, elements_depth (meaning_of_path path (before scope params)), path_is_bounded path (before scope params)))

    extended_depth : (s : Source) (before : Combined) → scope_depth before ≤ d → all_rows_depth (extended views params s before) ≤ d
    extended_depth s before h =
        map_depth bound_depth scope_depth (λ b. before ++ b ∷ []) d d
        (λ b le. rw (map-append bound_depth before (b ∷ []), deepest_append) (omega arith))
        (given views params s before)
        (given_rows s s.from before h)

    combined_depth : (combinations : List Combined) (ss : List Source) → all_rows_depth combinations ≤ d → all_rows_depth (combined_with views params combinations ss) ≤ d
    combined_depth combinations [] h = h
    combined_depth combinations (s ∷ ss) h =
        combined_depth (flat_map (extended views params s) combinations) ss
        (flat_map_depth scope_depth scope_depth (extended views params s) d d (extended_depth s) combinations h)

    rows_of_depth : (from : FromClause) → all_rows_depth (rows_of views params from) ≤ d
    rows_of_depth from =
        omega
        (arith, kept_depth scope_depth (is_kept params from) (combined views params from.sources), combined_depth ([] ∷ []) from.sources (omega arith))

  -- ---- `*`

  fields_of_depth : (b : Bound) → bound_depth b ≤ d → deepest (map field_depth (fields_of b)) ≤ d
  fields_of_depth b h = omega (arith, fields_or_depth b.variable b.value (seen b.value) (omega (arith, at_value b.value)))

  starred_depth : (scope : Combined) → scope_depth scope ≤ d → depth_of (starred scope) ≤ d + 65
  starred_depth scope h =
      rw struct_depth (omega (arith, flat_map_depth bound_depth field_depth fields_of d d fields_of_depth scope h))

  -- ---- items

  -- what a shallow item gives is at most 64 deeper
  abbrev IsBounded : (Expr → Evaluated) → Type 0
  IsBounded value = (e : Expr) → expr_depth e ≤ 64 → depth_in (value e) ≤ d + 64

  fields_from_depth : (value : Expr → Evaluated) → IsBounded value → (place : ℕ) (items : List SelectItem) → deepest (map item_depth items) ≤ 64 → deepest (map field_depth (fields_from value place items)) ≤ d + 64
  fields_from_depth value bounded place [] h = omega arith
  fields_from_depth value bounded place (i ∷ items) h =
      let here : depth_in (value i.value) ≤ d + 64 = bounded i.value (omega arith) in
      rw (map-append field_depth (field_in (item_name place i.name i.value) (value i.value)) _, deepest_append, field_in_depth)
      (omega (arith, fields_from_depth value bounded (place + 1) items (omega arith)))

  struct_from_depth : (value : Expr → Evaluated) → IsBounded value → (items : List SelectItem) → deepest (map item_depth items) ≤ 64 → depth_of (struct_from value items) ≤ d + 65
  struct_from_depth value bounded items h = rw struct_depth (omega (arith, fields_from_depth value bounded 1 items h))

  in_row_depth : (params : List Value) → deepest (map depth_of params) ≤ d → (scope : Combined) → scope_depth scope ≤ d → IsBounded (in_row params scope)
  in_row_depth params given scope h e shallow = omega (arith, depth_is_bounded e (under scope params))

  -- ---- aggregates

  known_depth : (params : List Value) → deepest (map depth_of params) ≤ d → (rows : List Combined) → all_rows_depth rows ≤ d → (e : Expr) → expr_depth e ≤ 64 → deepest (map depth_of (known params rows e)) ≤ d + 64
  known_depth params given rows h e shallow =
      flat_map_depth scope_depth depth_of (λ scope. known_in (in_row params scope e)) d (d + 64)
      (λ scope le. omega (arith, known_in_depth (in_row params scope e), in_row_depth params given scope le e shallow))
      rows h

  count_depth : {A : Type 0} → (xs : List A) → depth_in (count_of xs) ≤ d + 64
  count_depth xs = omega (arith, int_depth (pos (length xs)))

  summed_depth : (so_far : Evaluated) (vs : List Value) → depth_in so_far ≤ d + 64 → depth_in (summed so_far vs) ≤ d + 64
  summed_depth so_far [] h = h
  summed_depth so_far (v ∷ vs) h = summed_depth (of_both sum so_far (Found v)) vs (omega (arith, operate_flat op.Plus so_far (Found v)))

  sum_depth : (vs : List Value) → deepest (map depth_of vs) ≤ d + 64 → depth_in (sum_of vs) ≤ d + 64
  sum_depth [] h = omega (arith, null_flat)
  sum_depth (v ∷ vs) h = summed_depth (number_or_missing v) vs (omega (arith, number_depth v (decimal_of v)))

  choice_depth : (b : Bool) (v w : Value) → depth_of v ≤ d + 64 → depth_of w ≤ d + 64 → depth_of (if b then v else w) ≤ d + 64
  choice_depth true v w f g = f
  choice_depth false v w f g = g

  better_depth : (goes_first : Ordering → Bool) (next best : Value) (o : Option Ordering) → depth_of next ≤ d + 64 → depth_of best ≤ d + 64 → depth_in (option_map_or (λ o. Found (if goes_first o then next else best)) o Missing) ≤ d + 64
  better_depth goes_first next best None f g = omega arith
  better_depth goes_first next best (Some o) f g = choice_depth (goes_first o) next best f g

  onward_depth : (goes_first : Ordering → Bool) (v : Value) (best : Evaluated) → depth_of v ≤ d + 64 → depth_in best ≤ d + 64 → depth_in (onward (better goes_first v) best) ≤ d + 64
  onward_depth goes_first v Missing f g = omega arith
  onward_depth goes_first v (Found best) f g = better_depth goes_first v best (compare_of v best) f g

  best_from_depth : (goes_first : Ordering → Bool) (best : Evaluated) (vs : List Value) → depth_in best ≤ d + 64 → deepest (map depth_of vs) ≤ d + 64 → depth_in (best_from goes_first best vs) ≤ d + 64
  best_from_depth goes_first best [] f g = f
  best_from_depth goes_first best (v ∷ vs) f g =
      best_from_depth goes_first (onward (better goes_first v) best) vs (onward_depth goes_first v best (omega arith) f) (omega arith)

  best_depth : (goes_first : Ordering → Bool) (vs : List Value) → deepest (map depth_of vs) ≤ d + 64 → depth_in (best_of goes_first vs) ≤ d + 64
  best_depth goes_first [] h = omega (arith, null_flat)
  best_depth goes_first (v ∷ vs) h = best_from_depth goes_first (Found v) vs (omega arith) (omega arith)

  aggregate_seen_depth : (params : List Value) → deepest (map depth_of params) ≤ d → (rows : List Combined) → all_rows_depth rows ≤ d → (x : Expr-F Expr PathStep Member Path) → opened_depth x ≤ 64 → depth_in (aggregate_seen params rows x) ≤ d + 64
  aggregate_seen_depth params given rows h Expr-F.CountAll shallow = count_depth rows
  aggregate_seen_depth params given rows h (Expr-F.Count e) shallow = count_depth (known params rows e)
  aggregate_seen_depth params given rows h (Expr-F.Sum e) shallow = sum_depth (known params rows e) (known_depth params given rows h e shallow)
  aggregate_seen_depth params given rows h (Expr-F.Min e) shallow = best_depth is_lt (known params rows e) (known_depth params given rows h e shallow)
  aggregate_seen_depth params given rows h (Expr-F.Max e) shallow = best_depth is_gt (known params rows e) (known_depth params given rows h e shallow)
  aggregate_seen_depth params given rows h _ shallow = omega arith

  aggregate_depth : (params : List Value) → deepest (map depth_of params) ≤ d → (rows : List Combined) → all_rows_depth rows ≤ d → IsBounded (aggregate params rows)
  aggregate_depth params given rows h e shallow = aggregate_seen_depth params given rows h (out-Expr e) (omega (arith, at_inner (out-Expr e), out_depth e))

  -- ---- the whole

  items_of_depth : (params : List Value) → deepest (map depth_of params) ≤ d → (rows : List Combined) → all_rows_depth rows ≤ d → (items : List SelectItem) → deepest (map item_depth items) ≤ 64 → deepest (map depth_of (items_of params rows items)) ≤ d + 65
  items_of_depth params given rows h items shallow =
      elim (are_aggregates items) as (λ b. deepest (map depth_of (if b then struct_from (aggregate params rows) items ∷ [] else map (λ scope. struct_from (in_row params scope) items) rows)) ≤ d + 65) [
        | true ↦ omega (arith, struct_from_depth (aggregate params rows) (aggregate_depth params given rows h) items shallow)
        | false ↦ map_depth scope_depth depth_of (λ scope. struct_from (in_row params scope) items) d (d + 65)
            (λ scope le. struct_from_depth (in_row params scope) (in_row_depth params given scope le) items shallow)
            rows h
      ]

  answered_depth : (params : List Value) → deepest (map depth_of params) ≤ d → (rows : List Combined) → all_rows_depth rows ≤ d → (s : Select) → IsShallowSelect s → deepest (map depth_of (answered params rows s)) ≤ d + 65
  answered_depth params given rows h select.Star shallow = map_depth scope_depth depth_of starred d (d + 65) starred_depth rows h
  answered_depth params given rows h (select.Value e) shallow =
      flat_map_depth scope_depth depth_of (λ scope. value_in (in_row params scope e)) d (d + 65)
      (λ scope le. omega (arith, value_in_depth (in_row params scope e), in_row_depth params given scope le e shallow))
      rows h
  answered_depth params given rows h (select.Items items) shallow = items_of_depth params given rows h items shallow

pub answers_are_shallow : AnswersAreShallow
answers_are_shallow d views params from s shallow given selected =
    let low : 64 ≤ max d 64 = omega arith in
    answered_depth (max d 64) low params (omega arith) (rows_of views params from)
    (rows_of_depth (max d 64) low views params (λ name view. omega (arith, shallow name view)) from)
    s
    selected
