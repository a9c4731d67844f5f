use Rattle.std.proofs.Common.{◌≡◌, length, drop}
use Rattle.ledger_model.specs.Script.{each}
use Rattle.block_form.specs.ReadBack.{said_in}
use Rattle.value_codec.proofs.Each.{behind}
use Rattle.block_form.proofs.read_info.all_said.Given as goal

-- what was read so far and what the rest gives is what all give
abbrev pub invariant-statements : goal.invariant-statements
invariant-statements l = behind l.said (each said_in (drop (length l.yielded) l.fn.values)) ≡ each said_in l.fn.values
