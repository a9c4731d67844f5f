use Rattle.std.proofs.Common.{sym, ◌∙◌}
use Rattle.std.specs.Option.{option_copied}
use Rattle.versions.proofs.Trees.{index_kept, index_moved, same_or_none}
use Rattle.versions.proofs.indexes.index_after.Goals as goal

pub returns-then-is_same : goal.returns-then-is_same
returns-then-is_same c = λ ds spot is.
    index_kept ds c.args.index.now c.args.postings.now c.args.item.now c.args.spot.now.at (option_copied c.args.spot.now.old) c.in_ok-old.old c.in_ok-new.new
    c.in_ok-old.ensures c.in_ok-new.ensures spot is c.in_ok-same.same c.in_ok-same.ensures (same_or_none _ _ (sym c.is_same.ensures ∙ c.if-is_same.true))

pub returns : goal.returns
returns c = λ ds spot is.
    index_moved ds c.args.index.now c.args.postings.now c.args.item.now c.args.spot.now.at (option_copied c.args.spot.now.old) c.in_ok-old.old c.in_ok-new.new
    c.in_ok-old.ensures c.in_ok-new.ensures spot is c.in_ok-after-2.after _ _ c.as_ref.ensures.value c.as_ref-2.ensures.value
    (rw (c.in_ok-after-2.ensures, ← c.get.ensures) c.in_ok-after.ensures)
