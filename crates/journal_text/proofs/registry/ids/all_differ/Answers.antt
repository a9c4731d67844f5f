use Rattle.std.proofs.Common.{◌+◌, get_or, refl, arith}
use Rattle.journal_text.proofs.Passes.{all_seen, repeated, seen_more, still_differ}
use Rattle.journal_text.proofs.registry.ids.all_differ.Goals as goal

pub returns-then-not-branch : goal.returns-then-not-branch
returns-then-not-branch c =
    let id = get_or c.args.ids.now c.ids.id-index 0 in
    repeated c.ids.seen c.args.ids.now c.ids.id-index id c.in_ok-insert.field-0 (omega arith) refl c.ids.invariant.members c.in_ok-insert.ensures.added c.if-not-branch.true

pub ids-preserved : goal.ids-preserved
ids-preserved c =
    let id = get_or c.args.ids.now c.ids.id-index 0 in
    record {
      members = seen_more c.ids.seen c.insert.new.self c.args.ids.now c.ids.id-index (c.ids.id-index + 1) id (omega arith) (omega arith) refl c.ids.invariant.members c.in_ok-insert.ensures.updates.0;
      differ = still_differ c.ids.seen c.args.ids.now c.ids.id-index (c.ids.id-index + 1) id c.in_ok-insert.field-0 (omega arith) (omega arith) refl c.ids.invariant.members
          c.ids.invariant.differ c.in_ok-insert.ensures.added c.if-not-branch.false;
    }

pub returns : goal.returns
returns c = all_seen c.args.ids.now c.ids.id-index (omega arith) c.ids.invariant.differ
