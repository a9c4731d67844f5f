-- What the bytes of a journal hold is one thing: either these blocks and this rest, or this damage. (Ion 1.0 text: a
-- value can be written on one line, and its text gives no other value.)
use Rattle.std.specs.Prelude.{◌≡◌, ℕ, ◌≤◌, true, List, ◌++◌, length, drop}
use Rattle.ledger_model.specs.declared.block.Block.{Block}
use Rattle.ledger_model.specs.declared.damage.Damage.{Damage}
use Rattle.ledger_model.specs.Journal.{journal_bytes}
use Rattle.ledger_model.specs.Damages.{Undamaged}
use Rattle.ledger_model.specs.HashesAsked.{AreAsked}
use Rattle.ledger_model.specs.Recovered.{has_no_line_feed, IsJournal, IsDamaged}

pub record JournalsTell : Type 0 where
  -- the lines of an undamaged journal, and a rest that is no whole line, are a journal of its blocks
  pub written : (blocks : List Block) (rest : List ℕ) →
      Undamaged blocks → AreAsked blocks → has_no_line_feed rest ≡ true →
      IsJournal (journal_bytes blocks ++ rest) blocks rest
  -- of no other blocks and no other rest
  pub one_journal : (bytes : List ℕ) (a b : List Block) (r s : List ℕ) → IsJournal bytes a r → IsJournal bytes b s →
      (a ≡ b) × (r ≡ s)
  -- so the rest begins where their lines end
  pub offset :
      (blocks read : List Block) (rest : List ℕ) (at : ℕ) → Undamaged blocks → has_no_line_feed rest ≡ true →
      at ≤ length (journal_bytes blocks ++ rest) →
      IsJournal (journal_bytes blocks ++ rest) read (drop at (journal_bytes blocks ++ rest)) →
      (read ≡ blocks) × (at ≡ length (journal_bytes blocks))
  -- no block of a journal is damaged
  pub undamaged : (bytes : List ℕ) (blocks : List Block) (rest : List ℕ) (sequence : ℕ) (kind : Damage) →
      IsJournal bytes blocks rest → IsDamaged bytes sequence kind → ⊥
  -- one block is the first that is damaged, and fails one check first
  pub one_damage : (bytes : List ℕ) (m n : ℕ) (j k : Damage) → IsDamaged bytes m j → IsDamaged bytes n k →
      (m ≡ n) × (j ≡ k)
