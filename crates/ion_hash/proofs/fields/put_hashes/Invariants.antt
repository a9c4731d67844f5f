use Rattle.std.proofs.Common.{◌≡◌, ◌++◌, take}
use Rattle.hash_model.specs.Serialize.{escape, joined}
use Rattle.ion_hash.proofs.fields.put_hashes.Given as goal

abbrev pub invariant-loop-hash : goal.invariant-loop-hash
invariant-loop-hash l = l.out ≡ l.initial.out ++ escape (joined (take l.hash-index l.hashes))
