-- A read that was interrupted took nothing.
use Rattle.std.proofs.Common.{◌≡◌, length}
use Rattle.std.specs.Io.KnownBytes.{Keeps}
use Rattle.outside.proofs.adapters.retry.read.Given as goal

abbrev pub invariant-tries : goal.invariant-tries
invariant-tries g l = (length l.out ≡ length l.initial.out) × Keeps (g.R.Read.remaining l.initial.reader) (g.R.Read.remaining l.reader)
