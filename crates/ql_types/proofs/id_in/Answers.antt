use Rattle.std.proofs.Common.{arith, ◌≡◌, ◌∙◌, sym, Some, None, length, if◌then◌else◌}
use Rattle.std.specs.Prelude.{◌==◌}
use Rattle.std.proofs.lemmas.Grind.{common_steps}
use Rattle.ql_types.proofs.Spelled.{id_in_spelled, spelled_behind}
use Rattle.ql_types.proofs.id_in.Goals as goal

pub returns-in_err-value_of : goal.returns-in_err-value_of
unfolding spelled_behind
returns-in_err-value_of c =
    let is : c.from_residual.result ≡ (if length c.args.text.now == 22 then spelled_behind 0 c.args.text.now else None) = grind (arith, common_steps) in
    is ∙ sym (id_in_spelled c.args.text.now)

pub returns-in_err-number : goal.returns-in_err-number
unfolding spelled_behind
returns-in_err-number c =
    let is : c.from_residual-in_err-number.result ≡ (if length c.args.text.now == 22 then spelled_behind 0 c.args.text.now else None) = grind (arith, common_steps) in
    is ∙ sym (id_in_spelled c.args.text.now)

pub returns : goal.returns
unfolding spelled_behind
returns c =
    let is : Some c.digits.number ≡ (if length c.args.text.now == 22 then spelled_behind 0 c.args.text.now else None) = grind (arith, common_steps) in
    is ∙ sym (id_in_spelled c.args.text.now)
