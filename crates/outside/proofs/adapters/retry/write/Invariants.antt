-- A write that was interrupted gave nothing.
use Rattle.std.specs.Io.KnownBytes.{Keeps}
use Rattle.outside.proofs.adapters.retry.write.Given as goal

abbrev pub invariant-tries : goal.invariant-tries
invariant-tries g l = Keeps (g.W.Write.contents l.initial.writer) (g.W.Write.contents l.writer)
