use Rattle.std.proofs.Common.{◌≡◌, ◌-◌, ◌≤◌, ◌<◌, None, length, take}
use Rattle.std.specs.Prelude.{IfSome}
use Rattle.outside.specs.Told.{held}
use Rattle.journal_text.specs.Feeding.{taken}
use Rattle.journal_reader.proofs.reading.read_stored_by.Given as goal

-- what was read is the front part of the bytes, and the store keeps them
abbrev pub invariant-shared : goal.invariant-shared
invariant-shared g l = record {
  front : IfSome (held (g.S.JournalStore.told l.fn.store)) (λ bytes. (l.whole ≡ length bytes) × (taken l.reader ≡ take (length (taken l.reader)) bytes));
  size : l.size ≡ length (taken l.reader);
  within : l.size ≤ l.whole;
  reads : l.reader.damaged ≡ None;
  content : (g.S.JournalStore.told l.store).content ≡ (g.S.JournalStore.told l.fn.store).content;
  wide : 0 < length l.piece;
  fine : (g.S.JournalStore.told l.store).faults ≡ (g.S.JournalStore.told l.fn.store).faults;
}

abbrev pub decreases-shared : goal.decreases-shared
decreases-shared g l = l.whole - l.size
