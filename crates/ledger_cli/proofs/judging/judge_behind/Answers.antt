use Rattle.std.proofs.Common.{◌≡◌, ◌∙◌, List, Err, subst, sym, ap}
use Rattle.std.specs.List.{All}
use Rattle.ion_values.specs.declared.value.Value.{Value}
use Rattle.ledger_model.specs.ReadScript.{read_script}
use Rattle.access_rules.specs.declared.rule.Rule.{Rule}
use Rattle.access_rules.specs.Answers.{Gives}
use Rattle.cli_model.specs.Judging.{Judged, judged_behind, judged_under}
use Rattle.script_form.specs.Answers.{IsCountable}
use Rattle.ledger_cli.specs.declared.command_fault.CommandFault.{CommandFault}
use Rattle.ledger_cli.specs.Judgements.{JudgesTo, rules_in_front}
use Rattle.ledger_cli.proofs.UnderRules.{all_behind, fault_in_front, under_front}
use Rattle.ledger_cli.proofs.judging.judge_behind.Goals as goal

pub judge_under-requires : goal.judge_under-requires
judge_under-requires c =
    subst (λ (vs : List Value). All IsCountable vs) (sym c.behind_first.ensures)
    (all_behind IsCountable c.args.values c.requires)

pub returns-in-Ok-clause-judged : goal.returns-in-Ok-clause-judged
returns-in-Ok-clause-judged c =
    let name = c.args.name.now in
    let gives = ap (λ (vs : List Value). rules_in_front name vs) (sym c.as_slice.ensures) ∙ c.in-Ok.ensures in
    subst (λ (j : Judged). JudgesTo c.judge_under.result j)
    (ap (λ (vs : List Value). judged_under c.in-Ok.rules (read_script vs)) c.behind_first.ensures
    ∙ sym (under_front name c.args.values c.in-Ok.rules gives))
    c.judge_under.ensures.judged

pub returns-in-Err-clause-judged : goal.returns-in-Err-clause-judged
returns-in-Err-clause-judged c =
    let name = c.args.name.now in
    let gives =
    subst (λ (vs : List Value). Gives {A = List Rule} (Err c.in-Err.why) (rules_in_front name vs)) c.as_slice.ensures
    c.in-Err.ensures in
    subst (λ (stop : CommandFault). JudgesTo (Err stop) (judged_behind name c.args.values)) (sym c.rules_stop.ensures)
    (fault_in_front name c.args.values c.in-Err.why gives)
