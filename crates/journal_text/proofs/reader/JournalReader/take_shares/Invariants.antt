use Rattle.std.specs.Prelude.{All, IfOk, vec_len}
use Rattle.journal_text.specs.Shares.{AreReadIn, IsTakenTo}
use Rattle.journal_text.proofs.reader.JournalReader.take_shares.Given as goal

-- the lines that are left were read in the piece, and it is taken up to the end of the others
abbrev pub invariant-shares : goal.invariant-shares
invariant-shares l = record {
  read : All (λ share. IfOk share (λ lines. AreReadIn l.piece lines.items)) l.shares.items;
  taken : IsTakenTo l.piece 0 l.at l.fn.self l.self;
}

abbrev pub decreases-shares : goal.decreases-shares
decreases-shares l = vec_len l.shares
