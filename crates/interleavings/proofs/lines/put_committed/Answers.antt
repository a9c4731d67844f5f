use Rattle.std.proofs.Common.{codes}
use Rattle.std.specs.Fmt.{decimal}
use Rattle.ion_model.specs.Timestamp.{timestamp_text}
use Rattle.ion_model.specs.Write.{blob_text}
use Rattle.interleavings.specs.Lines.{read}
use Rattle.interleavings.proofs.Grouped.{seven}
use Rattle.interleavings.proofs.lines.put_committed.Goals as goal

pub returns : goal.returns
returns c =
    seven c.args.out.now (codes "{committed:") (decimal c.args.receipt.now.block) (codes ",hash:") (blob_text c.args.receipt.now.hash.bytes) (codes ",time:")
    (timestamp_text c.args.receipt.now.time) (read c.args.footprint.now) _ _ _ _ _ _ _
    c.in_ok-push_str.ensures.ok c.in_ok-put_number.ensures c.in_ok-push_str-2.ensures.ok c.in_ok-put_blob.ensures c.in_ok-push_str-3.ensures.ok
    c.in_ok-put_time.ensures c.in_ok-put_read.ensures
