use Rattle.std.proofs.Common.{◌≡◌, map, take}
use Rattle.stream_out.specs.Records.{listed_value}
use Rattle.stream_out.proofs.values.listed_values.Given as goal

abbrev pub invariant-loop-one : goal.invariant-loop-one
invariant-loop-one l = l.values ≡ map listed_value (take l.one-index l.listed)
