-- A piece without a line feed was read.
use Rattle.std.proofs.Common.{◌++◌, take, sym, ◌∙◌}
use Rattle.std.proofs.KnownBytes.{Consumes-trans}
use Rattle.outside.proofs.Scanned.{none_more}
use Rattle.outside.proofs.adapters.journals.has_line_feed.Goals as goal

pub pieces-preserved : goal.pieces-preserved
pieces-preserved g c =
    let (done, taken, none) = c.pieces.invariant in
    let now = take c.in_ok-count.count c.read.new.out in
    (done ++ now, Consumes-trans _ _ _ _ _ taken c.in_ok-count.ensures.bytes.0, none_more done now none (sym c.contains.ensures.value ∙ c.if-contains.false))
