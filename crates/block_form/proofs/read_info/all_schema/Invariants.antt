use Rattle.std.proofs.Common.{◌≡◌, length, drop}
use Rattle.ledger_model.specs.Script.{each}
use Rattle.block_form.specs.ReadBack.{schema_in}
use Rattle.value_codec.proofs.Each.{behind}
use Rattle.block_form.proofs.read_info.all_schema.Given as goal

-- what was read so far and what the rest gives is what all give
abbrev pub invariant-changes : goal.invariant-changes
invariant-changes l = behind l.schema (each schema_in (drop (length l.yielded) l.fn.values)) ≡ each schema_in l.fn.values
