use Rattle.std.proofs.Common.{◌≡◌, ℕ, List, Result, Err, sym, ap, subst, rules}
use Rattle.ledger_model.specs.declared.script.Job.{Job}
use Rattle.laws_history.specs.Calls.{span}
use Rattle.cli_model.specs.Judging.{judged}
use Rattle.ledger_cli.specs.declared.command_fault.CommandFault.{CommandFault}
use Rattle.ledger_cli.specs.Inputs.{ReadsScript}
use Rattle.ledger_cli.specs.Judgements.{JudgesTo}
use Rattle.ledger_cli.proofs.Runnable.{reads_input, unread_input}
use Rattle.ledger_cli.proofs.work.read_script.Goals as goal

pub returns-in_err-input-clause-reads : goal.returns-in_err-input-clause-reads
returns-in_err-input-clause-reads g c =
    let source = span (g.So.Source.told c.args.source.now) (g.So.Source.told c.read_all.new.source) in
    let is : c.from_residual.result ≡ Err c.in_err-input.field-0.0 = search rules in
    subst (λ (r : Result (List (List Job)) CommandFault). ReadsScript c.args.rules.now r source) (sym is)
    (unread_input c.args.rules.now source c.in_err-input.field-0.0 c.in_err-input.ensures.stop
    (λ same. c.in_err-input.ensures.too_long (ap (λ (why : CommandFault). Err why) same)))

pub returns-clause-reads : goal.returns-clause-reads
returns-clause-reads g c =
    let source = span (g.So.Source.told c.args.source.now) (g.So.Source.told c.read_all.new.source) in
    let is : c.deref.result.now ≡ c.in_ok-input.input.items = search rules in
    reads_input c.args.rules.now source c.in_ok-input.input.items c.judge.result c.in_ok-input.ensures.read c.in_ok-input.ensures.fine
    (subst (λ (bytes : List ℕ). JudgesTo c.judge.result (judged c.args.rules.now bytes)) is c.judge.ensures.judged)
    c.judge.ensures.numbered
