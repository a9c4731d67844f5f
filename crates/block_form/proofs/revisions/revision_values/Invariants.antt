use Rattle.std.proofs.Common.{◌≡◌, map, take}
use Rattle.ledger_model.specs.Journal.{revision_value}
use Rattle.block_form.proofs.revisions.revision_values.Given as goal

abbrev pub invariant-loop-revision : goal.invariant-loop-revision
invariant-loop-revision l = l.values ≡ map revision_value (take l.revision-index l.revisions)
