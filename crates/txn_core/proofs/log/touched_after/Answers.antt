use Rattle.std.proofs.Common.{◌≤◌, length, subst, arith}
use Rattle.std.proofs.lemmas.List.{take_all}
use Rattle.txn_core.proofs.Logged.{AreAfter, after_next}
use Rattle.txn_core.proofs.log.touched_after.Goals as goal

pub more-preserved : goal.more-preserved
more-preserved c = (
  omega (arith, c.more.invariant.0, c.in_ok-place.ensures),
  after_next c.args.count c.more.draft-index c.more.place c.args.more.now c.draft-item.result c.args.touched.now c.more.new c.put.new.touched
      c.more-test.true c.draft-item.is c.more.invariant.0 c.in_ok-put.ensures c.more.invariant.1,
)

pub returns : goal.returns
returns c =
    let past : length c.args.more.now ≤ c.more.draft-index = omega arith in
    subst (λ xs. AreAfter c.args.count c.args.touched.now xs c.more.new) (take_all c.more.draft-index c.args.more.now past) c.more.invariant.1
