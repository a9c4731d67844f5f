use Rattle.std.proofs.Common.{◌≡◌, drop}
use Rattle.ledger_model.specs.Script.{each}
use Rattle.block_form.specs.Hashed.{metadata_hash_in}
use Rattle.value_codec.proofs.Each.{behind}
use Rattle.block_form.proofs.part_hashes.metadata_hashes_in.Given as goal

-- what was made so far and what the rest gives is what all give
abbrev pub invariant-revisions : goal.invariant-revisions
invariant-revisions l = behind l.hashes.items (each metadata_hash_in (drop l.value-index l.values)) ≡ each metadata_hash_in l.values
