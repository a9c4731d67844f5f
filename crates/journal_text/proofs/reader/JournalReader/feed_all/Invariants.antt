use Rattle.std.proofs.Common.{◌≡◌, ◌-◌, ◌≤◌, ◌++◌, None, length, take}
use Rattle.journal_text.specs.Feeding.{taken}
use Rattle.journal_text.proofs.reader.JournalReader.feed_all.Given as goal

-- what was taken so far is a front part of the piece
abbrev pub invariant-lines : goal.invariant-lines
invariant-lines l = record {
  within : l.at ≤ length l.piece;
  taken : taken l.self ≡ taken l.fn.self ++ take l.at l.piece;
  reads : l.self.damaged ≡ None;
}

abbrev pub decreases-lines : goal.decreases-lines
decreases-lines l = length l.piece - l.at
