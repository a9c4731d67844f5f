use Rattle.std.proofs.Common.{◌≡◌, ◌∙◌, true, rules, arith}
use Rattle.std.proofs.lemmas.Grind.{common_steps}
use Rattle.cli_args.specs.Numbers.{is_number}
use Rattle.cli_args.proofs.Digits.{parsed}
use Rattle.cli_args.proofs.numbers.number_of.Goals as goal

pub returns : goal.returns
returns c =
    let is : is_number c.args.word.now ≡ true = first_of (search rules, grind (arith, common_steps), cc) in
    c.ok.ensures.value ∙ parsed 64 c.args.word.now c.parse.result c.parse.ensures.value.0 is
