-- How deep what is found in a value and what is made of values can be.
use Rattle.std.proofs.Common.{◌≡◌, ℕ, zero, suc, ◌+◌, ◌≤◌, max, ℤ, pos, negsuc, Bool, true, false, cond, List, [], ◌∷◌, ◌++◌, map, refl, arith, rules, slice_get}
use Rattle.std.specs.declared.option.Option.{Option}
use Rattle.std.specs.declared.option.Option.TheVariants.{None, Some}
use Rattle.std.specs.Option.{option_map, option_map_or}
use Rattle.std.specs.List.{find}
use Rattle.std.specs.Str.{bytes_eq}
use Rattle.ion_values.specs.Depth.{depth_of, field_depth, deepest}
use Rattle.ion_values.specs.declared.value.Value.{Value}
use Rattle.ion_values.specs.declared.value.Field.{Field}
use Rattle.ion_values.specs.declared.value.Body.TheVariants as body
use Rattle.ion_values.specs.declared.value.Body.TheOpen.{Body-F}
use Rattle.ion_values.specs.declared.value.Body.TheFolds.{the_lemmas}
use Rattle.pql_model.specs.Made.{Seen, seen, made, found}
use Rattle.pql_model.specs.MeaningDepth.{depth_in}
use Rattle.pql_model.specs.Steps.{field_of, field_seen, at_place, element_seen, indexed_seen, indexed}

-- one level, with the members' depths
abbrev pub level : Seen → ℕ
level (Body-F.List values) = deepest (map depth_of values) + 1
level (Body-F.Sexp values) = deepest (map depth_of values) + 1
level (Body-F.Struct fields) = deepest (map field_depth fields) + 1
level _ = 0

pub at_value : (v : Value) → depth_of v ≡ level (seen v)
at_value v = search (rules, the_lemmas)

pub at_field : (f : Field) → field_depth f ≡ depth_of f.value
at_field f = search (rules, the_lemmas)

abbrev pub depth_some : Option Value → ℕ
depth_some o = option_map_or depth_of o 0

pub found_depth : (o : Option Value) → depth_in (found o) ≡ depth_some o
found_depth None = refl
found_depth (Some v) = refl

pub place_depth : (values : List Value) (n : ℕ) → depth_some (slice_get values n) ≤ deepest (map depth_of values)
place_depth [] n = omega arith
place_depth (v ∷ vs) zero = omega arith
place_depth (v ∷ vs) (suc n) = omega (arith, place_depth vs n)

first_of : (b : Bool) (f : Field) (rest : Option Field) (n : ℕ) → depth_some (option_map (λ g. g.value) rest) ≤ n → depth_some (option_map (λ g. g.value) (cond b (Some f) rest)) ≤ max (field_depth f) n
first_of true f rest n h = omega (arith, at_field f)
first_of false f rest n h = omega (arith, h)

pub first_depth : (test : Field → Bool) (fields : List Field) → depth_some (option_map (λ g. g.value) (find test fields)) ≤ deepest (map field_depth fields)
first_depth test [] = omega arith
first_depth test (f ∷ fs) = first_of (test f) f (find test fs) (deepest (map field_depth fs)) (first_depth test fs)

field_seen_depth : (name : List ℕ) (s : Seen) → depth_some (field_seen name s) ≤ level s
field_seen_depth name (Body-F.Struct fields) = omega (arith, first_depth (λ f. bytes_eq f.name name) fields)
field_seen_depth name _ = omega arith

pub field_of_depth : (name : List ℕ) (v : Value) → depth_some (field_of name v) ≤ depth_of v
field_of_depth name v = rw at_value (field_seen_depth name (seen v))

at_place_depth : (n : ℤ) (values : List Value) → depth_some (at_place n values) ≤ deepest (map depth_of values)
at_place_depth (pos n) values = place_depth values n
at_place_depth (negsuc n) values = omega arith

element_depth : (n : ℤ) (s : Seen) → depth_some (element_seen n s) ≤ level s
element_depth n (Body-F.List values) = omega (arith, at_place_depth n values)
element_depth n (Body-F.Sexp values) = omega (arith, at_place_depth n values)
element_depth n _ = omega arith

indexed_seen_depth : (i : Seen) (v : Value) → depth_some (indexed_seen i v) ≤ depth_of v
indexed_seen_depth (Body-F.Int n) v = rw at_value (element_depth n (seen v))
indexed_seen_depth (Body-F.Symbol name) v = field_of_depth name v
indexed_seen_depth (Body-F.String name) v = field_of_depth name v
indexed_seen_depth _ v = omega arith

pub indexed_depth : (i v : Value) → depth_some (indexed i v) ≤ depth_of v
indexed_depth i v = indexed_seen_depth (seen i) v

-- ---- lists

pub deepest_append : (xs ys : List ℕ) → deepest (xs ++ ys) ≡ max (deepest xs) (deepest ys)
deepest_append [] ys = omega arith
deepest_append (x ∷ xs) ys = omega (arith, deepest_append xs ys)

-- ---- made values

pub list_depth : (values : List Value) → depth_of (made (body.List values)) ≡ deepest (map depth_of values) + 1
list_depth values = search (rules, the_lemmas)

pub struct_depth : (fields : List Field) → depth_of (made (body.Struct fields)) ≡ deepest (map field_depth fields) + 1
struct_depth fields = search (rules, the_lemmas)

pub bool_depth : (b : Bool) → depth_of (made (body.Bool b)) ≡ 0
bool_depth b = search (rules, the_lemmas)

pub int_depth : (n : ℤ) → depth_of (made (body.Int n)) ≡ 0
int_depth n = search (rules, the_lemmas)

pub string_depth : (text : List ℕ) → depth_of (made (body.String text)) ≡ 0
string_depth text = search (rules, the_lemmas)
