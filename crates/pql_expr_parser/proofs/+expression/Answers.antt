use Rattle.std.proofs.Common.{◌≡◌, ◌≤◌, ◌+◌, ◌-◌, max, Some, Result, Ok, arith, ap, sym, ◌∙◌}
use Rattle.pql_model.specs.Expressions.{Tall, operators, tall}
use Rattle.pql_model.specs.declared.expr.Expr.{Expr}
use Rattle.pql_model.specs.Productions.{Fault, Found, Reader, advanced}
use Rattle.pql_expr_parser.specs.Closed as closed
use Rattle.pql_expr_parser.specs.Gives.{seen, tall_of}
use Rattle.pql_expr_parser.specs.Layers.{layer_of, operator_in}
use Rattle.pql_expr_parser.proofs.Steps.{operator_more}
use Rattle.pql_expr_parser.proofs.StepTurns.{step_more}
use Rattle.pql_expr_parser.proofs.+expression.Goals as goal

pub paths::steps-steps-preserved : goal.paths::steps-steps-preserved
paths::steps-steps-preserved t c =
    let same : closed.step c.args.below (seen c.steps.parser) ≡ Ok (record { tree = Some (tall_of c.in-Some.step); reader = seen c.step.new.parser }) = rw c.in-Some.is at c.in_ok-step.ensures.exact in
    let low : c.in-Some.step.height ≤ c.args.below = rw c.in-Some.is at c.in_ok-step.ensures.height in
    let more = step_more c.steps.more c.args.below (tall c.steps.tree c.steps.height) (seen c.steps.parser) (seen c.step.new.parser) (tall_of c.in-Some.step) (omega arith) same in
    record { height = omega arith; same = cc c.in_ok-push.ensures.ok }

pub expressions::chain-operators-preserved : goal.expressions::chain-operators-preserved
expressions::chain-operators-preserved t c =
    let found : layer_of c.args.operands c.args.below (advanced (seen c.operators.parser)) ≡ Ok (record { tree = tall_of c.in_ok-right.right; reader = seen c.read_layer-in-operators.new.parser }) =
    ap (λ (r : Reader). layer_of c.args.operands c.args.below r) (sym c.in_ok-operate.ensures.1) ∙ c.in_ok-right.ensures.exact in
    let more = operator_more c.operators.more c.args.below (operator_in c.args.operators) (layer_of c.args.operands c.args.below) (tall_of c.operators.left) (tall_of c.in_ok-right.right) (seen c.operators.parser) (seen c.read_layer-in-operators.new.parser) c.in-Some.operator (omega arith) (sym c.in-Some.ensures) c.in_ok-operate.ensures.0 found in
    let high : c.in_ok-left-2.left.height ≡ max c.operators.left.height c.in_ok-right.right.height + 1 = ap (λ (m : Tall Expr). m.height) c.in_ok-left-2.ensures in
    let behind : Tall Expr → Result (Found (Tall Expr)) Fault =
    λ x. operators (c.operators.more - 1) c.args.below (operator_in c.args.operators) (layer_of c.args.operands c.args.below) x (seen c.read_layer-in-operators.new.parser) in
    record { height = omega (arith, c.in_ok-right.ensures.height, c.in_ok-operate.ensures.0); same = ap behind c.in_ok-left-2.ensures ∙ sym more ∙ c.operators.invariant.same }
