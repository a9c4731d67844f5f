-- what was read stands at the front of the piece, and the store keeps its bytes
use Rattle.std.proofs.Common.{◌≡◌, ◌-◌, ◌≤◌, length}
use Rattle.std.specs.Prelude.{IfSome}
use Rattle.journal_reader.proofs.Filled.{IsFilled}
use Rattle.journal_reader.proofs.reading.fill_piece.Given as goal

abbrev pub invariant-reads : goal.invariant-reads
invariant-reads g l = record {
  same_length : length l.piece ≡ length l.initial.piece;
  within : l.filled ≤ length l.piece;
  bytes : IfSome (g.S.JournalStore.told l.initial.store).content (λ content. IsFilled content.bytes l.at l.piece l.filled);
  content : (g.S.JournalStore.told l.store).content ≡ (g.S.JournalStore.told l.initial.store).content;
  fine : (g.S.JournalStore.told l.store).faults ≡ (g.S.JournalStore.told l.initial.store).faults;
}

abbrev pub decreases-reads : goal.decreases-reads
decreases-reads g l = length l.piece - l.filled
