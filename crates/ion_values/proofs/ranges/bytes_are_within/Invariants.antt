use Rattle.std.proofs.Common.{◌≡◌, drop}
use Rattle.ion_values.specs.Within.{bytes_within}
use Rattle.ion_values.proofs.ranges.bytes_are_within.Given as goal

-- those in front are within
abbrev pub invariant-bytes : goal.invariant-bytes
invariant-bytes l = bytes_within (drop l.byte-index l.bytes) ≡ bytes_within l.bytes
