use Rattle.std.proofs.Common.{◌≡◌, ◌≤◌, ◌-◌, ◌++◌, drop, length}
use Rattle.ledger_model.specs.Journal.{journal_bytes}
use Rattle.ledger_model.specs.Damages.{Undamaged}
use Rattle.journal_text.specs.Reading.{StandsBehind}
use Rattle.journal_text.proofs.journal.read_journal.Given as goal

abbrev pub invariant-lines : goal.invariant-lines
invariant-lines l = record {
  within : l.at ≤ length l.bytes;
  lines : l.bytes ≡ journal_bytes l.blocks.list ++ drop l.at l.bytes;
  undamaged : Undamaged l.blocks.list;
  stands : StandsBehind l.blocks.list l.registry;
}

abbrev pub decreases-lines : goal.decreases-lines
decreases-lines l = length l.bytes - l.at
