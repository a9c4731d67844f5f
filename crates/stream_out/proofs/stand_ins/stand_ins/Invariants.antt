use Rattle.std.proofs.Common.{◌≡◌, map, take}
use Rattle.stream_out.specs.Records.{stand_in}
use Rattle.stream_out.proofs.stand_ins.stand_ins.Given as goal

abbrev pub invariant-loop-one : goal.invariant-loop-one
invariant-loop-one l = l.revisions.items ≡ map stand_in (take l.one-index l.listed)
