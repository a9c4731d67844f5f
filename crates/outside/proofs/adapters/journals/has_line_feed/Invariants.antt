-- No line feed was read so far.
use Rattle.std.proofs.Common.{◌≡◌, ℕ, List, false}
use Rattle.std.specs.Io.KnownBytes.{Consumes}
use Rattle.outside.specs.JournalFiles.{has_line_feed}
use Rattle.outside.proofs.adapters.journals.has_line_feed.Given as goal

abbrev pub invariant-pieces : goal.invariant-pieces
invariant-pieces g l = (done : List ℕ) × Consumes (g.R.Read.remaining l.initial.reader) (g.R.Read.remaining l.reader) done × (has_line_feed done ≡ false)
