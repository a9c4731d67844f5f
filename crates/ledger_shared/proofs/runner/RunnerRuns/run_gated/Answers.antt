use Rattle.std.proofs.Common.{◌≡◌, ◌+◌, Err, refl, ap, subst}
use Rattle.ledger_model.specs.declared.script.Request.{Request}
use Rattle.ledger_model.specs.Run.{run, run_from}
use Rattle.txn_core.specs.declared.stopped.ExecuteFault.TheVariants.{Refused}
use Rattle.txn_core.specs.Opened.{IsStopped, Steps, asked, step_of}
use Rattle.txn_core.proofs.Running.{run-on, run-refused, run-done}
use Rattle.ledger_shared.proofs.runner.RunnerRuns.run_gated.Goals as goal

pub statements-init : goal.statements-init
statements-init g c = record {
  so_far = ap (λ p. run_from c.args.txn.begun c.args.txn.base 1 p c.args.asked.now) c.requires.fresh;
  same = refl;
}

pub statements-preserved : goal.statements-preserved
statements-preserved g c =
    let t = c.statements.txn in
    let same : asked c.as_str-text.result.now c.as_slice-params.result.now ≡ c.request-item.result = λ i. record { text = c.as_str-text.ensures i; params = c.as_slice-params.ensures i } in
    let steps : Steps t c.request-item.result c.perform.new.self = subst (λ (r : Request). Steps t r c.perform.new.self) same c.in-Ok.ensures in
    record {
      so_far = run-on t c.perform.new.self (c.statements.statement + 1) c.args.asked.now c.statements.request-index c.request-item.result
          (run c.args.txn.begun c.args.txn.base c.args.asked.now) c.statements-test.true c.request-item.is steps c.statements.invariant.so_far;
      same = rw (steps.rest) (rw (c.statements.invariant.same) refl);
    }

pub returns-in-Err-Refused-clause-ran : goal.returns-in-Err-Refused-clause-ran
returns-in-Err-Refused-clause-ran g c =
    let t = c.statements.txn in
    let same : asked c.as_str-text.result.now c.as_slice-params.result.now ≡ c.request-item.result = λ i. record { text = c.as_str-text.ensures i; params = c.as_slice-params.ensures i } in
    let refused : IsStopped t (asked c.as_str-text.result.now c.as_slice-params.result.now) (Refused c.in-Err-Refused.cause) c.perform.new.self = rw c.in-Err-Refused.field-0-is at c.in-Err-Refused.ensures in
    let stopped = subst (λ (r : Request). step_of t r ≡ Err c.in-Err-Refused.cause) same refused.0 in
    rw c.in-Err-Refused.field-0-is (run-refused t (c.statements.statement + 1) c.args.asked.now c.statements.request-index c.request-item.result
    (run c.args.txn.begun c.args.txn.base c.args.asked.now) c.in-Err-Refused.cause c.statements-test.true c.request-item.is stopped c.statements.invariant.so_far)

pub returns-clause-ran : goal.returns-clause-ran
returns-clause-ran g c =
    run-done c.statements.txn (c.statements.statement + 1) c.args.asked.now c.statements.request-index
    (run c.args.txn.begun c.args.txn.base c.args.asked.now) c.statements-test.false c.statements.invariant.so_far
