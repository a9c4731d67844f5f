use Rattle.std.proofs.Common.{◌≡◌, ◌+◌, ◌*◌, ◌≤◌}
use Rattle.pql_model.specs.Expressions.{chain, operators, parted, tall}
use Rattle.pql_expr_parser.specs.Closed.{list_of, member, members, steps, steps_behind}
use Rattle.pql_expr_parser.specs.Gives.{seen, tall_of}
use Rattle.pql_expr_parser.specs.Layers.{layer_of, operator_in}
use Rattle.pql_expr_parser.specs.declared.expressions.Layer.TheVariants as layer
use Rattle.pql_expr_parser.proofs.Rank.{rank}
use Rattle.pql_expr_parser.proofs.+expression.Given as goal

abbrev pub decreases-expressions::read_layer : goal.decreases-expressions::read_layer
decreases-expressions::read_layer l = 40 * l.levels + rank l.which

abbrev pub decreases-expressions::chain : goal.decreases-expressions::chain
decreases-expressions::chain l = 40 * (l.below + 1) + rank l.operands + 1

abbrev pub decreases-expressions::negation : goal.decreases-expressions::negation
decreases-expressions::negation l = 40 * (l.below + 1) + 33

abbrev pub decreases-expressions::comparison : goal.decreases-expressions::comparison
decreases-expressions::comparison l = 40 * (l.below + 1) + 32

abbrev pub decreases-predicates::related : goal.decreases-predicates::related
decreases-predicates::related l = 40 * (l.below + 1) + 31

abbrev pub decreases-predicates::predicated : goal.decreases-predicates::predicated
decreases-predicates::predicated l = 40 * (l.below + 1) + 30

abbrev pub decreases-predicates::predicate : goal.decreases-predicates::predicate
decreases-predicates::predicate l = 40 * (l.below + 1) + 29

abbrev pub decreases-predicates::matched : goal.decreases-predicates::matched
decreases-predicates::matched l = 40 * (l.below + 1) + 28

abbrev pub decreases-predicates::contained : goal.decreases-predicates::contained
decreases-predicates::contained l = 40 * (l.below + 1)

abbrev pub decreases-predicates::patterned : goal.decreases-predicates::patterned
decreases-predicates::patterned l = 40 * (l.below + 1)

abbrev pub decreases-predicates::bounded : goal.decreases-predicates::bounded
decreases-predicates::bounded l = 40 * (l.below + 1) + 1

abbrev pub decreases-predicates::upper_bound : goal.decreases-predicates::upper_bound
decreases-predicates::upper_bound l = 40 * (l.below + 1)

abbrev pub decreases-expressions::unary : goal.decreases-expressions::unary
decreases-expressions::unary l = 40 * (l.below + 1) + 20

abbrev pub decreases-primaries::primary : goal.decreases-primaries::primary
decreases-primaries::primary l = 40 * (l.below + 1) + 19

abbrev pub decreases-primaries::bracket : goal.decreases-primaries::bracket
decreases-primaries::bracket l = 40 * (l.below + 1) + 18

abbrev pub decreases-primaries::constructed : goal.decreases-primaries::constructed
decreases-primaries::constructed l = 40 * (l.below + 1) + 17

abbrev pub decreases-primaries::called : goal.decreases-primaries::called
decreases-primaries::called l = 40 * (l.below + 1) + 16

abbrev pub decreases-primaries::aggregate : goal.decreases-primaries::aggregate
decreases-primaries::aggregate l = 40 * (l.below + 1) + 15

abbrev pub decreases-primaries::named : goal.decreases-primaries::named
decreases-primaries::named l = 40 * (l.below + 1) + 14

abbrev pub decreases-primaries::folded : goal.decreases-primaries::folded
decreases-primaries::folded l = 40 * (l.below + 1) + 14

abbrev pub decreases-primaries::count : goal.decreases-primaries::count
decreases-primaries::count l = 40 * (l.below + 1) + 13

abbrev pub decreases-primaries::coalesce : goal.decreases-primaries::coalesce
decreases-primaries::coalesce l = 40 * (l.below + 1) + 13

abbrev pub decreases-primaries::call : goal.decreases-primaries::call
decreases-primaries::call l = 40 * (l.below + 1) + 13

abbrev pub decreases-primaries::struct_of : goal.decreases-primaries::struct_of
decreases-primaries::struct_of l = 40 * (l.below + 1) + 13

abbrev pub decreases-primaries::enclosed : goal.decreases-primaries::enclosed
decreases-primaries::enclosed l = 40 * (l.below + 1) + 13

abbrev pub decreases-primaries::bracketed : goal.decreases-primaries::bracketed
decreases-primaries::bracketed l = 40 * (l.below + 1) + 12

abbrev pub decreases-primaries::list_of : goal.decreases-primaries::list_of
decreases-primaries::list_of l = 40 * (l.below + 1) + 12

abbrev pub decreases-primaries::members : goal.decreases-primaries::members
decreases-primaries::members l = 40 * (l.below + 1) + 12

abbrev pub decreases-primaries::member : goal.decreases-primaries::member
decreases-primaries::member l = 40 * (l.below + 1) + 11

abbrev pub decreases-paths::path_from : goal.decreases-paths::path_from
decreases-paths::path_from l = 40 * (l.below + 1) + 12

abbrev pub decreases-paths::steps : goal.decreases-paths::steps
decreases-paths::steps l = 40 * (l.below + 1) + 11

abbrev pub decreases-paths::step : goal.decreases-paths::step
decreases-paths::step l = 40 * (l.below + 1) + 10

-- ---- loops: what was read so far and what is left give the whole

abbrev pub invariant-expressions::chain-operators : goal.invariant-expressions::chain-operators
invariant-expressions::chain-operators l = record {
  height : l.left.height ≤ l.below + 1;
  same :
      operators l.more l.below (operator_in l.operators) (layer_of l.operands l.below) (tall_of l.left) (seen l.parser)
      ≡ chain l.below (operator_in l.operators) (layer_of l.operands l.below) (layer_of l.operands (l.below + 1)) (seen l.fn.parser);
}

abbrev pub decreases-expressions::chain-operators : goal.decreases-expressions::chain-operators
decreases-expressions::chain-operators l = l.more

abbrev pub invariant-primaries::list_of-parts : goal.invariant-primaries::list_of-parts
invariant-primaries::list_of-parts l = record {
  height : l.height ≤ l.below;
  same : parted l.more (layer_of layer.Disjunction l.below) (tall l.tree l.height) (seen l.parser) ≡ list_of l.below (seen l.fn.parser);
}

abbrev pub decreases-primaries::list_of-parts : goal.decreases-primaries::list_of-parts
decreases-primaries::list_of-parts l = l.more

abbrev pub invariant-primaries::members-parts : goal.invariant-primaries::members-parts
invariant-primaries::members-parts l = record {
  height : l.height ≤ l.below;
  same : parted l.more (member l.below) (tall l.tree l.height) (seen l.parser) ≡ members l.below (seen l.fn.parser);
}

abbrev pub decreases-primaries::members-parts : goal.decreases-primaries::members-parts
decreases-primaries::members-parts l = l.more

abbrev pub invariant-paths::steps-steps : goal.invariant-paths::steps-steps
invariant-paths::steps-steps l = record {
  height : l.height ≤ l.below;
  same : steps_behind l.more l.below (tall l.tree l.height) (seen l.parser) ≡ steps l.below (seen l.fn.parser);
}

abbrev pub decreases-paths::steps-steps : goal.decreases-paths::steps-steps
decreases-paths::steps-steps l = l.more
