-- The front and the start of a line are compared as far as both go.
use Rattle.std.proofs.Common.{◌≡◌, min, length, arith}
use Rattle.std.proofs.lemmas.Slice.Eq.{slice_eq-Decides}
use Rattle.std.proofs.lemmas.Bool.Decides.{Decides-eqb}
use Rattle.outside.specs.JournalFiles.{line_start}
use Rattle.outside.proofs.Scanned.{begins_told}
use Rattle.outside.proofs.adapters.journals.begins_line.Goals as goal

pub returns : goal.returns
returns c =
    let least : c.min-count.result ≡ min (length c.args.front.now) (length line_start) = omega arith in
    begins_told c.args.front.now c.min-count.result _ least (slice_eq-Decides Decides-eqb _ _ _ c.eq.ensures)
