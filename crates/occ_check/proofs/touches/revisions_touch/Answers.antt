use Rattle.std.proofs.Common.{◌≤◌, length, sym, ◌∙◌, arith}
use Rattle.occ_check.specs.Behind.{revision_touches}
use Rattle.occ_check.proofs.Standing.{none_left}
use Rattle.occ_check.proofs.touches.revisions_touch.Goals as goal

pub returns : goal.returns
returns c =
    let past : length c.args.revisions.now ≤ c.revisions.at = omega arith in
    sym (none_left (revision_touches c.args.journal.blocks.now c.args.journal.now.now c.args.item.now) c.args.tables.now c.args.revisions.now c.revisions.at past) ∙ c.revisions.invariant
