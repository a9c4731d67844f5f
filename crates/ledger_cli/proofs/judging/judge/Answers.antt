use Rattle.std.proofs.Common.{◌≤◌, length, arith}
use Rattle.script_form.proofs.Countable.{countable}
use Rattle.ledger_cli.proofs.judging.judge.Goals as goal

pub judge_values-requires : goal.judge_values-requires
judge_values-requires c =
    let n = length c.args.input.now in
    let fits : n ≤ 16777216 = omega arith in
    countable n c.in-Ok.values (omega (arith, fits)) c.in-Ok.ensures.short
