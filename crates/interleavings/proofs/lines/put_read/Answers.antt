use Rattle.std.proofs.Common.{codes}
use Rattle.interleavings.specs.Lines.{ending}
use Rattle.interleavings.proofs.Grouped.{three}
use Rattle.interleavings.proofs.lines.put_read.Goals as goal

pub returns : goal.returns
returns c =
    three c.args.out.now (codes ",footprint:[") c.args.footprint.now (codes "]") ending _ _ _ _
    c.as_str.ensures c.in_ok-push_str.ensures.ok c.in_ok-push_str-2.ensures.ok c.in_ok-push_str-3.ensures.ok
