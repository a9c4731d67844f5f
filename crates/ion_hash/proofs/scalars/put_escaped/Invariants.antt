use Rattle.std.proofs.Common.{◌++◌, length}
use Rattle.hash_model.specs.Serialize.{escape}
use Rattle.ion_hash.proofs.Plain.{Puts}
use Rattle.ion_hash.proofs.scalars.put_escaped.Given as goal

abbrev pub invariant-runs : goal.invariant-runs
invariant-runs l = Puts l.out l.rest (l.initial.out ++ escape l.bytes)

abbrev pub decreases-runs : goal.decreases-runs
decreases-runs l = length l.rest
