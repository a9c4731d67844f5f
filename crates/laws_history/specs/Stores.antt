-- What a run finds and leaves in its store, where the store tells it.
use Rattle.std.specs.Prelude.{◌≡◌, ℕ, true, List, ◌++◌, length, Option, IfSome}
use Rattle.outside.specs.Told.{StoreTold}
use Rattle.ledger_model.specs.declared.block.Block.{Block}
use Rattle.ledger_model.specs.Journal.{journal_bytes}
use Rattle.ledger_model.specs.Recovered.{has_no_line_feed, IsJournal}

-- the store holds the journal of these blocks, which are undamaged, and behind it perhaps a rest that is no whole line
abbrev pub HasJournal : List Block → Option (List ℕ) → Type 0
HasJournal blocks held = IfSome held (λ bytes. (rest : List ℕ) × IsJournal bytes blocks rest)

-- the store holds the journal of these blocks and nothing else
abbrev pub Holding : List Block → Option (List ℕ) → Type 0
Holding blocks held = IfSome held (λ bytes. bytes ≡ journal_bytes blocks)

-- the store holds the lines of these blocks, and behind them these bytes
abbrev pub HoldsBehind : List Block → List ℕ → Option (List ℕ) → Type 0
HoldsBehind blocks rest held = IfSome held (λ bytes. bytes ≡ journal_bytes blocks ++ rest)

-- all bytes of the store are synced
abbrev pub IsSynced : StoreTold → Type 0
IsSynced told = IfSome told.content (λ content. content.synced ≡ length content.bytes)

-- the store holds the journal of these blocks, and behind it perhaps a rest that is no whole line
abbrev pub HoldingWithRest : List Block → Option (List ℕ) → Type 0
HoldingWithRest blocks held =
    IfSome held (λ bytes. (rest : List ℕ) × (bytes ≡ journal_bytes blocks ++ rest) × (has_no_line_feed rest ≡ true))
