use Rattle.std.proofs.Common.{◌≡◌, length, drop}
use Rattle.ledger_model.specs.Script.{each}
use Rattle.block_form.specs.ReadBack.{revision_in}
use Rattle.value_codec.proofs.Each.{behind}
use Rattle.block_form.proofs.read_revisions.into_revisions.Given as goal

-- what was read so far and what the rest gives is what all give
abbrev pub invariant-revisions : goal.invariant-revisions
invariant-revisions l = behind l.revisions (each revision_in (drop (length l.yielded) l.fn.values)) ≡ each revision_in l.fn.values
