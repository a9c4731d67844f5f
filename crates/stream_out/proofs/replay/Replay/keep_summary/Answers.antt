use Rattle.std.proofs.Common.{◌≡◌, Bool, Result, Ok, Err, refl, sym, subst, rules}
use Rattle.stream_out.specs.declared.record.Record.TheVariants as kind
use Rattle.stream_out.specs.declared.replay.ReplayFault.{ReplayFault}
use Rattle.stream_out.specs.declared.replay.ReplayFault.TheVariants as fault
use Rattle.std.specs.BTreeMap.{get}
use Rattle.std.specs.Ordering.{nat_cmp}
use Rattle.stream_out.specs.Replays.{number_of, Admits, Keeps}
use Rattle.stream_out.proofs.Kept.{keeps_summary, summary_kept, summary_lost, summary_refused}
use Rattle.stream_out.proofs.replay.Replay.keep_summary.Goals as goal

pub returns-in_err-admits_summary-clause-keeps : goal.returns-in_err-admits_summary-clause-keeps
returns-in_err-admits_summary-clause-keeps c = λ kept h.
    let out : c.from_residual.result ≡ Err c.in_err-admits_summary.field-0.0 = search rules in
    subst (λ (o : Result (Unit {0}) ReplayFault). Keeps kept (kind.Summary c.args.summary) c.args.self.now o c.args.self.now) (sym out)
    (summary_refused kept c.args.summary c.args.self.now c.in_err-admits_summary.field-0.0 h c.in_err-admits_summary.ensures)

pub returns-then-not-branch-clause-keeps : goal.returns-then-not-branch-clause-keeps
returns-then-not-branch-clause-keeps c = λ kept h.
    let a = subst (λ (b : Bool). Admits c.args.self.now.from (kind.Summary c.args.summary) (get nat_cmp c.args.self.now.summaries (number_of c.args.summary)) c.args.summary (Ok b))
    c.if-not-branch.true c.in_ok-admits_summary.ensures in
    keeps_summary kept c.args.summary c.args.self.now h a.0 a.1

pub returns-in_err-insert-clause-keeps : goal.returns-in_err-insert-clause-keeps
returns-in_err-insert-clause-keeps c = λ kept h.
    let a = subst (λ (b : Bool). Admits c.args.self.now.from (kind.Summary c.args.summary) (get nat_cmp c.args.self.now.summaries (number_of c.args.summary)) c.args.summary (Ok b))
    c.if-not-branch.false c.in_ok-admits_summary.ensures in
    let out : c.from_residual-in_err-insert.result ≡ Err fault.OutOfMemory = search rules in
    summary_lost kept c.args.summary c.args.self.now _ c.from_residual-in_err-insert.result out h a refl refl c.in_err-insert.ensures.err (λ n id. refl)

pub returns-clause-keeps : goal.returns-clause-keeps
returns-clause-keeps c = λ kept h.
    let a = subst (λ (b : Bool). Admits c.args.self.now.from (kind.Summary c.args.summary) (get nat_cmp c.args.self.now.summaries (number_of c.args.summary)) c.args.summary (Ok b))
    c.if-not-branch.false c.in_ok-admits_summary.ensures in
    summary_kept kept c.args.summary c.args.self.now _ h a refl refl (λ n. c.in_ok-insert.ensures.updates.0 n) (λ n id. refl)
