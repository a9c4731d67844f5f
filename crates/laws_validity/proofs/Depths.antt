-- How deep the answer of a SELECT nests: its expressions and their literals nest at most 64 deep, as a text gives
-- them.
use Rattle.std.proofs.Common.{◌≡◌, ◌≤◌, ℕ, List, [], ◌∷◌, map, Ok, arith}
use Rattle.std.specs.List.{AllByRecursion}
use Rattle.ion_values.specs.Depth.{depth_of, deepest}
use Rattle.ion_values.specs.declared.value.Value.{Value}
use Rattle.pql_model.specs.declared.statement.FromClause.{FromClause}
use Rattle.pql_model.specs.declared.statement.Select.{Select}
use Rattle.pql_model.specs.declared.statement.Statement.TheVariants as statement
use Rattle.pql_model.specs.declared.tables.View.{View}
use Rattle.pql_model.specs.Answers.{answered}
use Rattle.pql_model.specs.From.{Viewed, rows_of}
use Rattle.pql_model.specs.Parse.{parsed}
use Rattle.pql_model.specs.Shallow.{IsShallowSelect}
use Rattle.pql_model.proofs.AnswerDepths.{answers_are_shallow}
use Rattle.pql_model.proofs.ParsedDepths.{parsed_is_shallow}
use Rattle.laws_validity.proofs.Lists.{all_like}
use Rattle.laws_validity.proofs.Shapes.{Shallow}

-- ---- the deepest of a list, and each of it

deepest_of : {X : Type 0} (f : X → ℕ) (d : ℕ) (xs : List X) → AllByRecursion (λ x. f x ≤ d) xs
    → deepest (map f xs) ≤ d
deepest_of f d [] h = omega arith
deepest_of f d (x ∷ xs) h = let here = h.0 in let rest = deepest_of f d xs h.1 in omega (arith, here, rest)

each_of : {X : Type 0} (f : X → ℕ) (d e : ℕ) (xs : List X) → d ≤ e → deepest (map f xs) ≤ d
    → AllByRecursion (λ x. f x ≤ e) xs
each_of f d e [] l h = tt
each_of f d e (x ∷ xs) l h = (omega (arith, l, h), each_of f d e xs l (omega (arith, h)))

-- ---- the answer

select_shallow : (text : List ℕ) (select : Select) (from : FromClause)
    → parsed text ≡ Ok (statement.Select select from) → IsShallowSelect select
select_shallow text select from e = let whole =
    parsed_is_shallow text (statement.Select select from) e in omega (arith, whole)

-- what a SELECT of a text answers of rows of at most 65 deep, as views of documents have them, and parameters of at
-- most 64
pub answer_shallow : (views : Viewed) (params : List Value) (text : List ℕ) (select : Select) (from : FromClause)
    → ((name : List ℕ) (v : View) → AllByRecursion (λ r. Shallow 65 r.value) (views name v))
    → AllByRecursion (Shallow 64) params
    → parsed text ≡ Ok (statement.Select select from)
    → AllByRecursion (Shallow 130) (answered params (rows_of views params from) select)
answer_shallow views params text select from rows given e =
    each_of depth_of 130 130 _ (omega arith)
    (answers_are_shallow 65 views params from select
    (λ name v. deepest_of (λ r. depth_of r.value) 65 (views name v) (rows name v))
    (deepest_of depth_of 65 params (all_like (Shallow 64) (Shallow 65) (λ v h. omega (arith, h)) params given))
    (select_shallow text select from e))
