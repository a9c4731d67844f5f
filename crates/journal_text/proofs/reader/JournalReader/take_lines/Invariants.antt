use Rattle.std.specs.Prelude.{vec_len}
use Rattle.journal_text.specs.Shares.{AreReadIn, IsTakenTo}
use Rattle.journal_text.proofs.reader.JournalReader.take_lines.Given as goal

-- the lines that are left were read in the piece, and it is taken up to the end of the others
abbrev pub invariant-lines : goal.invariant-lines
invariant-lines l = record {
  read : AreReadIn l.piece l.lines.items;
  taken : IsTakenTo l.piece l.at l.to l.fn.self l.self;
}

abbrev pub decreases-lines : goal.decreases-lines
decreases-lines l = vec_len l.lines
