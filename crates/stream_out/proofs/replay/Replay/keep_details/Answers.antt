use Rattle.std.proofs.Common.{◌≡◌, Bool, Result, Ok, Err, refl, sym, subst, rules}
use Rattle.stream_out.specs.declared.record.Record.TheVariants as kind
use Rattle.stream_out.specs.declared.replay.ReplayFault.{ReplayFault}
use Rattle.stream_out.specs.declared.replay.ReplayFault.TheVariants as fault
use Rattle.stream_out.specs.Replays.{details_number, document_of, kept_details, Admits, Keeps}
use Rattle.stream_out.proofs.Kept.{keeps_details, details_kept, details_lost, details_refused}
use Rattle.stream_out.proofs.replay.Replay.keep_details.Goals as goal

pub returns-in_err-admits_details-clause-keeps : goal.returns-in_err-admits_details-clause-keeps
returns-in_err-admits_details-clause-keeps c = λ kept h.
    let out : c.from_residual.result ≡ Err c.in_err-admits_details.field-0.0 = search rules in
    subst (λ (o : Result (Unit {0}) ReplayFault). Keeps kept (kind.Details c.args.details) c.args.self.now o c.args.self.now) (sym out)
    (details_refused kept c.args.details c.args.self.now c.in_err-admits_details.field-0.0 h c.in_err-admits_details.ensures)

pub returns-then-not-branch-clause-keeps : goal.returns-then-not-branch-clause-keeps
returns-then-not-branch-clause-keeps c = λ kept h.
    let a = subst (λ (b : Bool). Admits c.args.self.now.from (kind.Details c.args.details) (kept_details c.args.self.now (details_number c.args.details) (document_of c.args.details)) c.args.details (Ok b))
    c.if-not-branch.true c.in_ok-admits_details.ensures in
    keeps_details kept c.args.details c.args.self.now h a.0 a.1

pub returns-in_err-insert-clause-keeps : goal.returns-in_err-insert-clause-keeps
returns-in_err-insert-clause-keeps c = λ kept h.
    let a = subst (λ (b : Bool). Admits c.args.self.now.from (kind.Details c.args.details) (kept_details c.args.self.now (details_number c.args.details) (document_of c.args.details)) c.args.details (Ok b))
    c.if-not-branch.false c.in_ok-admits_details.ensures in
    let out : c.from_residual-in_err-insert.result ≡ Err fault.OutOfMemory = search rules in
    details_lost kept c.args.details c.args.self.now _ c.from_residual-in_err-insert.result out h a refl refl (λ n. refl) c.in_err-insert.ensures.err

pub returns-clause-keeps : goal.returns-clause-keeps
returns-clause-keeps c = λ kept h.
    let a = subst (λ (b : Bool). Admits c.args.self.now.from (kind.Details c.args.details) (kept_details c.args.self.now (details_number c.args.details) (document_of c.args.details)) c.args.details (Ok b))
    c.if-not-branch.false c.in_ok-admits_details.ensures in
    details_kept kept c.args.details c.args.self.now _ h a refl refl (λ n. refl) (λ n id. c.in_ok-insert.ensures.updates.0 (n, id))
