-- The stream of a journal, and what comes of the command that writes it.
use Rattle.std.specs.Prelude.{◌≡◌, ◌≤◌, ◌+◌, ◌⊎◌, ℕ, List, [], ◌++◌, length, take, slice_get, Option, Some, None, Result, Ok, Err}
use Rattle.ledger_model.specs.declared.block.Block.{Block}
use Rattle.ledger_model.specs.Compaction.{compacted}
use Rattle.ledger_model.specs.Damages.{Undamaged}
use Rattle.outside.specs.Told.{StoreTold}
use Rattle.proof_issue.specs.declared.NoSuch.TheVariants as none_such
use Rattle.redact_tool.specs.Fronts.{redacting_front}
use Rattle.redact_tool.specs.Redacting.{AreRedactions}
use Rattle.stream_out.specs.Named.{NamesStand}
use Rattle.stream_out.specs.Streams.{block_records, changes_in, stream}
use Rattle.stream_out.specs.declared.names.Names.{Names}
use Rattle.laws_history.specs.Calls.{Span}
use Rattle.cli_model.specs.Stores.{IsUnchanged, Reads}
use Rattle.cli_model.specs.Streams.{IsBadRange, IsPastEnd, IsStreamOf, end_in, records_text}
use Rattle.ledger_cli.specs.Extracting.{IsUnloaded}
use Rattle.ledger_cli.specs.declared.command_fault.CommandFault.{CommandFault}
use Rattle.ledger_cli.specs.declared.command_fault.CommandFault.TheVariants as stop
use Rattle.ledger_cli.specs.declared.stream.Part.{Part}
use Rattle.ledger_cli.specs.declared.stream.Shown.{Shown}

-- ---- the stream

-- the blocks are undamaged, and the others are theirs
pub record IsShown (s : Shown) : Type 0 where
  pub undamaged : Undamaged s.blocks.list
  pub redactions : AreRedactions s.blocks.list s.redactions
  pub front : s.front ≡ redacting_front s.blocks.list

-- the range is one of the blocks, and the names are those of the tables that the blocks before it created
pub record IsStream (s : Shown) (names : Names) (part : Part) : Type 0 where
  pub shown : IsShown s
  pub order : part.from ≤ part.to
  pub there : part.to ≤ length s.blocks.list
  pub named : NamesStand (changes_in (take part.from (compacted s.blocks.list))) names

abbrev pub stream_text : ℕ → ℕ → List Block → List ℕ
stream_text from to blocks = records_text (stream (compacted blocks) from to)

-- the lines of the records of the block of this number, if there is one
abbrev pub text_of : List Block → ℕ → Option Block → List ℕ
text_of blocks at None = []
text_of blocks at (Some b) = records_text (block_records (changes_in (take at blocks) ++ b.info.schema) b)

abbrev pub block_text : List Block → ℕ → List ℕ
block_text blocks at = text_of blocks at (slice_get blocks at)

-- ---- the command

-- the text is the journal's stream, or it has none of this range, or memory ran out
abbrev pub StreamsFrom : ℕ → Option ℕ → Result (List ℕ) CommandFault → List Block → Type 0
StreamsFrom from to (Ok text) blocks = IsStreamOf from (end_in to blocks) blocks text
StreamsFrom from to (Err (stop.NoSuch why)) blocks =
    IsPastEnd (end_in to blocks) blocks × (why ≡ none_such.Block (end_in to blocks) (length blocks))
StreamsFrom from to (Err (stop.BadRange first last)) blocks =
    IsBadRange from (end_in to blocks) blocks × (first ≡ from) × (last ≡ end_in to blocks)
StreamsFrom from to (Err stop.OutOfMemory) blocks = Unit {0}
StreamsFrom from to (Err _) blocks = ⊥

-- the journal was read
pub record IsReadFor (from : ℕ) (to : Option ℕ) (came : Result (List ℕ) CommandFault) (store : Span StoreTold)
    : Type 0 where
  pub blocks : List Block
  pub reads : Reads store blocks
  pub streams : StreamsFrom from to came blocks

-- or it wasn't; and the store's content is as before
abbrev pub Tells : ℕ → Option ℕ → Result (List ℕ) CommandFault → Span StoreTold → Type 0
Tells from to came store = (IsReadFor from to came store ⊎ IsUnloaded came store) × IsUnchanged store
