-- The words and signs of PartiQL that stand with one operand or between two, as the meaning of expressions has them.
use Rattle.pql_model.specs.declared.scope.Evaluated.{Evaluated}
use Rattle.pql_model.specs.Arithmetic.{minus}
use Rattle.pql_model.specs.Comparisons.{of_both}
use Rattle.pql_model.specs.Lists.{is_in, size}
use Rattle.pql_model.specs.Logic.{negation, truth_in}
use Rattle.pql_model.specs.Made.{is_missing, is_unknown, truth}
use Rattle.pql_model.specs.Meaning.{operate}
use Rattle.pql_model.specs.Texts.{char_length, like}
use Rattle.pql_expr.specs.declared.words.OneOperand.{OneOperand}
use Rattle.pql_expr.specs.declared.words.OneOperand.TheVariants as one
use Rattle.pql_expr.specs.declared.words.TwoOperands.{TwoOperands}
use Rattle.pql_expr.specs.declared.words.TwoOperands.TheVariants as two

abbrev pub with_one : OneOperand → Evaluated → Evaluated
with_one one.Negate e = minus e
with_one one.Not e = negation (truth_in e)
with_one one.IsNull e = truth (is_unknown e)
with_one one.IsMissing e = truth (is_missing e)
with_one one.Size e = size e
with_one one.CharLength e = char_length e

abbrev pub with_two : TwoOperands → Evaluated → Evaluated → Evaluated
with_two (two.Operator o) left right = operate o left right
with_two two.In left right = is_in left right
with_two two.Like left right = of_both like left right
