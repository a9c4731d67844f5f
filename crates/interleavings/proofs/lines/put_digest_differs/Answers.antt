use Rattle.std.proofs.Common.{codes}
use Rattle.ion_model.specs.Write.{blob_text}
use Rattle.interleavings.specs.Lines.{ending}
use Rattle.interleavings.proofs.Grouped.{five}
use Rattle.interleavings.proofs.lines.put_digest_differs.Goals as goal

pub returns : goal.returns
returns c =
    five c.args.out.now (codes "{digest_differs:{mine:") (blob_text c.args.mine.now.bytes) (codes ",given:") (blob_text c.args.given.now.bytes)
    (codes "}") ending _ _ _ _ _
    c.in_ok-push_str.ensures.ok c.in_ok-put_blob.ensures c.in_ok-push_str-2.ensures.ok c.in_ok-put_blob-2.ensures c.in_ok-push_str-3.ensures.ok
