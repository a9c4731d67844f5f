-- The command `stream`, which writes a journal as a stream of records (Amazon QLDB, "Streaming journal data"), without
-- what its blocks redact.
use Rattle.std.specs.Prelude.{◌≡◌, ◌<◌, ◌≤◌, ◌⊎◌, ℕ, List, length, Option, Some, None}
use Rattle.std.specs.List.{flat_map}
use Rattle.ledger_model.specs.declared.block.Block.{Block}
use Rattle.ledger_model.specs.Compaction.{compacted}
use Rattle.proof_issue.specs.declared.NoSuch.TheVariants as none_such
use Rattle.stream_out.specs.declared.record.Record.{Record}
use Rattle.stream_out.specs.Records.{record_text}
use Rattle.stream_out.specs.Streams.{stream}
use Rattle.cli_model.specs.Calls.{Outside}
use Rattle.cli_model.specs.Claims.{Claim, Status, DamagedLine, StoreLine, bad_input, damaged, store_failed, tells_none}
use Rattle.cli_model.specs.Inputs.{IsIdle}
use Rattle.cli_model.specs.Lines.{bad_range_line, no_such_line}
use Rattle.cli_model.specs.Stores.{IsUnchanged, Reads}

-- the number that the words give, or how many blocks there are
abbrev pub end_in : Option ℕ → List Block → ℕ
end_in (Some to) blocks = to
end_in None blocks = length blocks

-- the lines of records, in order
abbrev pub records_text : List Record → List ℕ
records_text records = flat_map record_text records

-- The range is one of the blocks, and the text is that of the stream of these, without what all blocks redact.
pub record IsStreamOf (from to : ℕ) (blocks : List Block) (text : List ℕ) : Type 0 where
  pub there : to ≤ length blocks
  pub order : from ≤ to
  pub text_is : text ≡ records_text (stream (compacted blocks) from to)

-- the range ends past the last block
abbrev pub IsPastEnd : ℕ → List Block → Type 0
IsPastEnd to blocks = length blocks < to

-- it doesn't, and ends before it begins
pub record IsBadRange (from to : ℕ) (blocks : List Block) : Type 0 where
  pub there : to ≤ length blocks
  pub past : to < from

-- ---- the claim

-- the journal was read, and the text is its stream
pub record StreamGives (from : ℕ) (to : Option ℕ) (x : Outside) (text : List ℕ) : Type 0 where
  pub blocks : List Block
  pub reads : Reads x.store blocks
  pub is : IsStreamOf from (end_in to blocks) blocks text

-- the journal that was read has no block before the end of the range
pub record PastEndLine (to : Option ℕ) (x : Outside) (line : List ℕ) : Type 0 where
  pub blocks : List Block
  pub reads : Reads x.store blocks
  pub past : IsPastEnd (end_in to blocks) blocks
  pub line_is : line ≡ no_such_line (none_such.Block (end_in to blocks) (length blocks))

-- the range ends before it begins
pub record BadRangeLine (from : ℕ) (to : Option ℕ) (x : Outside) (line : List ℕ) : Type 0 where
  pub blocks : List Block
  pub reads : Reads x.store blocks
  pub bad : IsBadRange from (end_in to blocks) blocks
  pub line_is : line ≡ bad_range_line from (end_in to blocks)

-- At 2 the range ends past the last block, or else before it begins. At 3 the journal is damaged, and at 5 the store
-- failed when it was read.
abbrev pub StreamRefuses : ℕ → Option ℕ → Outside → Status → List ℕ → Type 0
StreamRefuses from to x status line =
    ((status ≡ bad_input) × PastEndLine to x line)
    ⊎ ((status ≡ bad_input) × BadRangeLine from to x line)
    ⊎ ((status ≡ damaged) × DamagedLine x line)
    ⊎ ((status ≡ store_failed) × StoreLine x line)

-- The store's content stays as it is, and the source isn't read.
abbrev pub streams : ℕ → Option ℕ → Claim
streams from to = record {
  gives = StreamGives from to;
  refuses = λ same x status line. StreamRefuses from to x status line;
  keeps = λ same x. IsUnchanged x.store × IsIdle x.source;
  tells = tells_none;
}
