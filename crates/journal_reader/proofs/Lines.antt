-- The length of a journal's lines.
use Rattle.std.proofs.Common.{◌≡◌, ◌∙◌, ℕ, ◌+◌, ◌-◌, ◌≤◌, List, length, drop, length-append, length-drop, ap, arith}
use Rattle.ledger_model.specs.declared.block.Block.{Block}
use Rattle.ledger_model.specs.Journal.{journal_bytes}
use Rattle.ledger_model.specs.Recovered.{IsJournal}

split-at : (at n total : ℕ) → total ≡ n + (total - at) → at ≤ total → at ≡ n
split-at at n total e p = omega (arith, e, p)

pub lines-end : (bytes : List ℕ) (blocks : List Block) (at : ℕ) → IsJournal bytes blocks (drop at bytes) → at ≤ length bytes → at ≡ length (journal_bytes blocks)
lines-end bytes blocks at j p =
    split-at at (length (journal_bytes blocks)) (length bytes)
    (ap length j.lines ∙ length-append (journal_bytes blocks) (drop at bytes) ∙ ap (λ n. length (journal_bytes blocks) + n) (length-drop at bytes)) p
