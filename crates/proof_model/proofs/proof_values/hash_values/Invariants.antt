use Rattle.std.proofs.Common.{◌≡◌, map, take}
use Rattle.ledger_model.specs.Journal.{hash_value}
use Rattle.proof_model.proofs.proof_values.hash_values.Given as goal

abbrev pub invariant-loop-hash : goal.invariant-loop-hash
invariant-loop-hash l = l.values ≡ map hash_value (take l.hash-index l.hashes)
