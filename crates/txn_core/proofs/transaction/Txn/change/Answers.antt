use Rattle.std.proofs.Common.{◌≡◌, Err, ap, rules, ◌∙◌}
use Rattle.ledger_model.specs.Writing.{first_own, is_root}
use Rattle.txn_core.specs.Writes.{writes}
use Rattle.txn_core.proofs.Written.{changed_nowhere, changed_own, changed_there}
use Rattle.txn_core.proofs.transaction.Txn.change.Goals as goal

pub returns-in-Some : goal.returns-in-Some
returns-in-Some c =
    changed_own c.args.self.now.base c.args.self.now.done c.args.params.now c.args.over.from.now c.args.change.now
    (writes c.in_ok-written.written) (c.in_ok-written.ensures ∙ ap (λ ss. is_root ss c.args.change.now) c.as_slice-sources.ensures) _ _
    (c.in_ok-cause.ensures ∙ ap (λ ss. first_own (writes c.in_ok-written.written) 0 ss) c.as_slice-sources.ensures) c.in-Some.is

pub returns-in_err-rows : goal.returns-in_err-rows
returns-in_err-rows c =
    let is : c.from_residual-in_err-rows.result ≡ Err c.in_err-rows.field-0.0 = search rules in
    rw is (changed_nowhere c.args.self.now.base c.args.self.now.done c.args.params.now c.args.over.from.now c.args.change.now
    (writes c.in_ok-written.written) (c.in_ok-written.ensures ∙ ap (λ ss. is_root ss c.args.change.now) c.as_slice-sources.ensures) _ c.in_err-rows.field-0.0
    (c.in_ok-cause.ensures ∙ ap (λ ss. first_own (writes c.in_ok-written.written) 0 ss) c.as_slice-sources.ensures) c.in_default.is c.in_err-rows.ensures)

pub returns : goal.returns
returns c =
    changed_there c.args.self.now.base c.args.self.now.done c.args.params.now c.args.over.from.now c.args.change.now
    (writes c.in_ok-written.written) (c.in_ok-written.ensures ∙ ap (λ ss. is_root ss c.args.change.now) c.as_slice-sources.ensures) _ c.in_ok-rows.rows
    c.in_ok-documents.documents c.keep_all.result
    (c.in_ok-cause.ensures ∙ ap (λ ss. first_own (writes c.in_ok-written.written) 0 ss) c.as_slice-sources.ensures) c.in_default.is
    c.in_ok-rows.ensures c.in_ok-documents.ensures c.keep_all.ensures
