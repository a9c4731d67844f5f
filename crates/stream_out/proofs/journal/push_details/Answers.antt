use Rattle.std.proofs.Common.{arith, rules}
use Rattle.stream_out.proofs.Told.{details_step, details_end}
use Rattle.stream_out.proofs.journal.push_details.Goals as goal

pub revisions-preserved : goal.revisions-preserved
revisions-preserved c = λ changes h.
    details_step changes c.args.tables.now c.args.revisions.now c.revisions.at _ c.index-revisions-at.result c.in_ok-details.details
    (omega arith) (omega arith) (search rules) c.index-revisions-at.is (c.in_ok-details.ensures changes h) c.revisions.records c.push.new.self _ (c.revisions.invariant changes h) c.in_ok-push.ensures.ok

pub returns : goal.returns
returns c = λ changes h.
    details_end changes c.args.tables.now c.args.revisions.now c.revisions.at (omega arith) c.revisions.records _ (c.revisions.invariant changes h)
