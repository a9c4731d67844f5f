use Rattle.std.proofs.Common.{◌≡◌, drop}
use Rattle.ledger_model.specs.Script.{each}
use Rattle.block_form.specs.Hashed.{hash_for}
use Rattle.value_codec.proofs.Each.{behind}
use Rattle.block_form.proofs.part_hashes.hashes_for.Given as goal

-- what was hashed so far and what the rest gives is what all give
abbrev pub invariant-fields : goal.invariant-fields
invariant-fields l = behind l.hashes.items (each hash_for (drop l.field-index l.fields)) ≡ each hash_for l.fields
