use Rattle.std.proofs.Common.{map, ap, ◌∙◌}
use Rattle.txn_core.proofs.Touched.{marks_newest}
use Rattle.txn_core.proofs.touching.marks_of.Goals as goal

pub returns : goal.returns
returns c =
    c.in_ok-marks.ensures
    ∙ marks_newest c.args.log.now (map (λ d. d.now) c.as_slice.result.now) (ap (map (λ d. d.now)) c.as_slice.ensures ∙ c.in_ok-newest.ensures)
