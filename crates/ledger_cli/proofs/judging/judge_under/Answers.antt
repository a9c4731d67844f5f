use Rattle.std.proofs.Common.{◌≡◌, subst, sym}
use Rattle.ledger_model.specs.ReadScript.{read_script}
use Rattle.cli_model.specs.Judging.{Judged}
use Rattle.ledger_cli.specs.Judgements.{JudgesTo}
use Rattle.ledger_cli.proofs.UnderRules.{fault_under, script_under_is}
use Rattle.ledger_cli.proofs.judging.judge_under.Goals as goal

pub returns-in-Ok-clause-judged : goal.returns-in-Ok-clause-judged
returns-in-Ok-clause-judged c =
    subst (λ (j : Judged). JudgesTo c.put_under.result j)
    (sym (script_under_is c.args.rules.now (read_script c.args.values) c.in-Ok.script c.in-Ok.ensures.judged))
    c.put_under.ensures.under

pub returns-in-Err-clause-judged : goal.returns-in-Err-clause-judged
returns-in-Err-clause-judged c = fault_under c.args.rules.now (read_script c.args.values) c.in-Err.why c.in-Err.ensures.judged
