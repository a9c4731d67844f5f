use Rattle.std.proofs.Common.{◌≡◌, drop}
use Rattle.ledger_model.specs.Script.{each}
use Rattle.value_codec.specs.ReadParts.{hash_in}
use Rattle.value_codec.proofs.Each.{behind}
use Rattle.proof_model.proofs.read_proofs.hashes_of.Given as goal

-- what was read so far and what the rest gives is what all give
abbrev pub invariant-hashes : goal.invariant-hashes
invariant-hashes l = behind l.hashes (each hash_in (drop l.value-index l.values)) ≡ each hash_in l.values
