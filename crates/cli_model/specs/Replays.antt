-- The command `replay`, which writes the blocks that are rebuilt from the records of its input (own). Some of them
-- may be lost, repeated or in another order.
use Rattle.std.specs.Prelude.{◌≡◌, ◌≢◌, ◌<◌, ◌^◌, ◌⊎◌, ℕ, List, [], ◌∷◌, ◌++◌, length, Some, None}
use Rattle.ion_values.specs.declared.value.Value.{Value}
use Rattle.ledger_model.specs.declared.block.Block.{Block}
use Rattle.ledger_model.specs.Damages.{Undamaged}
use Rattle.ledger_model.specs.Journal.{journal_bytes}
use Rattle.outside.specs.Told.{SourceTold}
use Rattle.stream_out.specs.declared.record.Record.{Record}
use Rattle.stream_out.specs.Records.{IsRecord, record_value}
use Rattle.stream_out.specs.Replays.{Agrees, AreBlocks, DiffersFrom, IsDelivery, IsRebuilt, block_among, record_number}
use Rattle.laws_history.specs.Calls.{Span}
use Rattle.cli_model.specs.Calls.{Outside}
use Rattle.cli_model.specs.Claims.{Claim, Status, BadInputLine, SourceLine, bad_input, source_failed, tells_none}
use Rattle.cli_model.specs.Inputs.{HasNoValuesWithin, HasValuesWithin, IsTooLong}
use Rattle.cli_model.specs.Lines.{BadInput}
use Rattle.cli_model.specs.Lines as bad
use Rattle.cli_model.specs.Stores.{IsUncalled}

-- how deep the values of records may nest: a block's value nests at most 256 deep
abbrev pub deepest_record : ℕ
deepest_record = 257

-- ---- records

-- the value is that of the record
pub record IsValueOf (r : Record) (v : Value) : Type 0 where
  pub value_is : v ≡ record_value r
  pub is : IsRecord r

abbrev pub AreRecords : List Value → List Record → Type 0
AreRecords [] [] = Unit {0}
AreRecords (v ∷ vs) (r ∷ rs) = IsValueOf r v × AreRecords vs rs
AreRecords [] (r ∷ rs) = ⊥
AreRecords (v ∷ vs) [] = ⊥

-- behind those that were told, each agrees with the one of its place before it
abbrev pub AllAgree : List Record → List Record → Type 0
AllAgree told [] = Unit {0}
AllAgree told (r ∷ rs) = Agrees told r × AllAgree (told ++ r ∷ []) rs

-- the values are those of records, and each agrees with the one of its place before it
pub record AreDelivered (values : List Value) (records : List Record) : Type 0 where
  pub are : AreRecords values records
  pub agree : AllAgree [] records

-- the blocks are those from number 0 up to the first of which a record isn't there
pub record AreRebuilt (records : List Record) (blocks : List Block) : Type 0 where
  pub are : AreBlocks records 0 blocks
  pub end : length blocks < 2 ^ 64 → block_among records (length blocks) ≡ None

-- ---- values that aren't delivered

-- the values before this one are delivered, and this is so of it
pub record StopsAt (values : List Value) (at : ℕ) (Is : List Record → Value → Type 0) : Type 0 where
  pub before : List Value
  pub value : Value
  pub behind : List Value
  pub values_are : values ≡ before ++ value ∷ behind
  pub at_is : at ≡ length before
  pub records : List Record
  pub delivered : AreDelivered before records
  pub is : Is records value

-- it is the value of no record
abbrev pub IsNoRecord : List Record → Value → Type 0
IsNoRecord records v = (r : Record) → IsRecord r → v ≢ record_value r

-- it is that of a record with this number, and what was told of its place isn't equal
pub record IsOtherRecord (sequence : ℕ) (records : List Record) (v : Value) : Type 0 where
  pub told : Record
  pub of_value : IsValueOf told v
  pub number_is : record_number told ≡ Some sequence
  pub differs : DiffersFrom records told

-- ---- the claim

-- The input is the text of values of records that agree, and the text is that of the blocks that are rebuilt from them.
-- If they are records of the stream of an undamaged journal, these are its blocks up to the first of which one is lost.
pub record ReplayGives (x : Outside) (text : List ℕ) : Type 0 where
  pub values : List Value
  pub has : HasValuesWithin deepest_record x.source values
  pub records : List Record
  pub delivered : AreDelivered values records
  pub blocks : List Block
  pub rebuilt : AreRebuilt records blocks
  pub of_stream : (journal : List Block) → Undamaged journal → IsDelivery journal 0 records
      → IsRebuilt [] journal records blocks
  pub text_is : text ≡ journal_bytes blocks

-- the input is the text of values, of which this is the first that isn't delivered
pub record StopsIn (source : Span SourceTold) (at : ℕ) (Is : List Record → Value → Type 0) : Type 0 where
  pub values : List Value
  pub has : HasValuesWithin deepest_record source values
  pub stops : StopsAt values at Is

-- why nothing is rebuilt from the input
abbrev pub IsNoReplay : BadInput → Span SourceTold → Type 0
IsNoReplay bad.too_long source = IsTooLong source
IsNoReplay (bad.faulty fault) source = HasNoValuesWithin deepest_record source fault
IsNoReplay bad.bad_rules source = ⊥
IsNoReplay bad.no_such_rules source = ⊥
IsNoReplay (bad.misspelt fault) source = ⊥
IsNoReplay (bad.not_a_record at) source = StopsIn source at IsNoRecord
IsNoReplay (bad.record_differs at sequence) source = StopsIn source at (IsOtherRecord sequence)

-- At 2 the input is no text of values, or the first value that isn't delivered is no record or differs. At 4 the source
-- failed.
abbrev pub ReplayRefuses : Outside → Status → List ℕ → Type 0
ReplayRefuses x status line =
    ((status ≡ bad_input) × BadInputLine (λ cause. IsNoReplay cause x.source) line)
    ⊎ ((status ≡ source_failed) × SourceLine x line)

-- The store isn't called.
abbrev pub replays : Claim
replays = record {
  gives = ReplayGives;
  refuses = λ same x status line. ReplayRefuses x status line;
  keeps = λ same x. IsUncalled same x.store;
  tells = tells_none;
}
