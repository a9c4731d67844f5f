use Rattle.std.proofs.Common.{◌∙◌, ap}
use Rattle.std.specs.Ordering.{is_lt}
use Rattle.pair_hash.proofs.Order.{signed_bytes-slice_cmp}
use Rattle.pair_hash.proofs.before_by_all.Goals as goal

pub returns : goal.returns
returns c =
    let a = c.signed_from_last-a.ensures in
    let b = c.signed_from_last-b.ensures in
    let order = signed_bytes-slice_cmp c.args.a.now.bytes c.args.b.now.bytes a.in_range b.in_range in
    c.is_lt.ensures ∙ ap is_lt (c.cmp.ensures ∙ rw (← a.signed, ← b.signed) at order)
