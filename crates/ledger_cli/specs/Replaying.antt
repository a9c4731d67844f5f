-- What comes of the records of an input, which is read in pieces.
use Rattle.std.specs.Prelude.{◌≡◌, ◌≤◌, ◌++◌, ℕ, List, [], ◌∷◌, length, Option, Some, None, Result, Ok, Err}
use Rattle.ion_model.specs.Read.{read_text}
use Rattle.ion_pieces.specs.Pieces.{gives, led}
use Rattle.ion_values.specs.declared.value.Value.{Value}
use Rattle.outside.specs.Told.{SourceTold}
use Rattle.stream_out.specs.declared.record.Record.{Record}
use Rattle.stream_out.specs.declared.replay.Replay.{Replay}
use Rattle.stream_out.specs.Replays.{Holds, IsDelivery, IsRebuilt, IsSettled}
use Rattle.laws_history.specs.Calls.{Span}
use Rattle.laws_history.specs.Streams.{WasRead}
use Rattle.cli_model.specs.Inputs.{HasValuesWithin, IsFine, SourceFailed, longest}
use Rattle.cli_model.specs.Replays.{AreDelivered, IsNoRecord, IsNoReplay, IsOtherRecord, StopsAt, AreRebuilt, deepest_record}
use Rattle.ledger_model.specs.Damages.{Undamaged}
use Rattle.ledger_model.specs.Journal.{journal_bytes}
use Rattle.ledger_model.specs.declared.block.Block.{Block}
use Rattle.containers.specs.declared.memory.OutOfMemory.{OutOfMemory}
use Rattle.ledger_cli.specs.Bundles.{IsFaulty}
use Rattle.ledger_cli.specs.Judgements.{cause_of}
use Rattle.ledger_cli.specs.declared.lines.BadInput.{BadInput}
use Rattle.ledger_cli.specs.declared.lines.BadInput.TheVariants as cause
use Rattle.ledger_cli.specs.declared.command_fault.CommandFault.{CommandFault}
use Rattle.ledger_cli.specs.declared.command_fault.CommandFault.TheVariants as stop
use Rattle.ledger_cli.specs.declared.replay.Course.{Course}
use Rattle.ledger_cli.specs.declared.replay.Course.TheVariants as course
use Rattle.ledger_cli.specs.declared.replay.Reading.{Reading}

-- ---- values

-- the replay holds the records of the values, and no further block can stand
pub record HasDelivered (values : List Value) (r : Replay) : Type 0 where
  pub records : List Record
  pub delivered : AreDelivered values records
  pub from : r.from ≡ 0
  pub holds : Holds records r
  pub settled : IsSettled records r

-- the replay holds the records of `count` values
pub record IsReplaying (count : ℕ) (r : Replay) : Type 0 where
  pub values : List Value
  pub count_is : length values ≡ count
  pub has : HasDelivered values r

-- which of the values isn't delivered, and why
abbrev pub IsUndelivered : BadInput → List Value → Type 0
IsUndelivered (cause.NotARecord at) values = StopsAt values at IsNoRecord
IsUndelivered (cause.RecordDiffers at sequence) values = StopsAt values at (IsOtherRecord sequence)
IsUndelivered _ values = ⊥

-- one value more is delivered, or it isn't, whatever values follow, unless memory runs out
abbrev pub DeliversNext : List Value → Value → Result (Option BadInput) OutOfMemory → Replay → Type 0
DeliversNext before v (Ok None) new = HasDelivered (before ++ v ∷ []) new
DeliversNext before v (Ok (Some why)) new = (more : List Value) → IsUndelivered why (before ++ v ∷ more)
DeliversNext before v (Err e) new = Unit {0}

-- the values are delivered, or one of them isn't, whatever values follow
abbrev pub CameTo : List Value → Course → Type 0
CameTo values (course.Delivered replay count) = HasDelivered values replay × (length values ≡ count)
CameTo values (course.Stopped why) = (more : List Value) → IsUndelivered why (values ++ more)

-- ---- the text of the values

-- behind these bytes the reader has handed out values, and they came to this
pub record Reads (input : List ℕ) (r : Reading) : Type 0 where
  pub values : List Value
  pub text_of : (more : List ℕ) → read_text deepest_record (input ++ more) ≡ led values (gives r.reader more)
  pub came : CameTo values r.course

-- the bytes are the text of values that came to this
pub record CameIn (input : List ℕ) (c : Course) : Type 0 where
  pub values : List Value
  pub text_of : read_text deepest_record input ≡ Ok values
  pub came : CameTo values c

-- or they are no text of values, or memory ran out
abbrev pub Ends : List ℕ → Result Course CommandFault → Type 0
Ends input (Ok c) = CameIn input c
Ends input (Err (stop.BadInput why)) = IsFaulty deepest_record why input
Ends input (Err stop.OutOfMemory) = Unit {0}
Ends input (Err _) = ⊥

-- ---- the input

-- its values are those of records that agree, and the text is that of the blocks that are rebuilt
pub record IsReplayed (source : Span SourceTold) (text : List ℕ) : Type 0 where
  pub values : List Value
  pub has : HasValuesWithin deepest_record source values
  pub records : List Record
  pub delivered : AreDelivered values records
  pub blocks : List Block
  pub rebuilt : AreRebuilt records blocks
  pub of_stream : (journal : List Block) → Undamaged journal → IsDelivery journal 0 records
      → IsRebuilt [] journal records blocks
  pub text_is : text ≡ journal_bytes blocks

-- or a cause why not: the source failed only where that is the cause
abbrev pub ReplaysInput : Result (List ℕ) CommandFault → Span SourceTold → Type 0
ReplaysInput (Ok text) source = IsReplayed source text × IsFine source
ReplaysInput (Err (stop.BadInput why)) source = IsNoReplay (cause_of why) source × IsFine source
ReplaysInput (Err stop.SourceFailed) source = SourceFailed source
ReplaysInput (Err stop.OutOfMemory) source = IsFine source
ReplaysInput (Err _) source = ⊥

-- the whole input is the text of values that came to this
pub record IsCourse (source : Span SourceTold) (c : Course) : Type 0 where
  pub input : List ℕ
  pub read : WasRead source input
  pub short : length input ≤ longest
  pub came : CameIn input c
  pub fine : IsFine source

-- or there is a cause why not
abbrev pub CourseOf : Result Course CommandFault → Span SourceTold → Type 0
CourseOf (Ok c) source = IsCourse source c
CourseOf (Err why) source = ReplaysInput (Err why) source
