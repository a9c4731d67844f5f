use Rattle.std.proofs.Common.{◌≡◌, Err, true, ap, rules, ◌∙◌}
use Rattle.ledger_model.specs.Writing.{first_own}
use Rattle.txn_core.proofs.Written.{deleted_nowhere, deleted_own, deleted_there}
use Rattle.txn_core.proofs.transaction.Txn.delete.Goals as goal

pub returns-in-Some : goal.returns-in-Some
returns-in-Some c =
    deleted_own c.args.self.now.base c.args.self.now.done c.args.params.now c.args.over.from.now _ _
    (c.in_ok-cause.ensures ∙ ap (λ ss. first_own (λ n. true) 0 ss) c.as_slice-sources.ensures) c.in-Some.is

pub returns-in_err-rows : goal.returns-in_err-rows
returns-in_err-rows c =
    let is : c.from_residual-in_err-rows.result ≡ Err c.in_err-rows.field-0.0 = search rules in
    rw is (deleted_nowhere c.args.self.now.base c.args.self.now.done c.args.params.now c.args.over.from.now _ c.in_err-rows.field-0.0
    (c.in_ok-cause.ensures ∙ ap (λ ss. first_own (λ n. true) 0 ss) c.as_slice-sources.ensures) c.in_default.is c.in_err-rows.ensures)

pub returns : goal.returns
returns c =
    deleted_there c.args.self.now.base c.args.self.now.done c.args.params.now c.args.over.from.now
    _ c.in_ok-rows.rows c.in_ok-documents.documents c.end_all.result
    (c.in_ok-cause.ensures ∙ ap (λ ss. first_own (λ n. true) 0 ss) c.as_slice-sources.ensures) c.in_default.is
    c.in_ok-rows.ensures c.in_ok-documents.ensures c.end_all.ensures
