-- An outcome's numbers, texts and bytes are within the ranges of their types. In a law a number is unbounded, so a law
-- about outcomes that are written speaks of those within. Each outcome of a run is: its numbers have at most 128 bits,
-- its texts are UTF-8, and its bytes are below 256, by their types, and an action has one of nine names.
use Rattle.std.specs.Prelude.{◌≡◌, ◌==◌, ◌<◌, ◌^◌, ℕ, ℤ, Bool, true, not, List, Option, Some, None, IsTrue, unsigned_abs}
use Rattle.std.specs.List.{list_all}
use Rattle.ion_values.specs.Within.{bytes_within, text_within}
use Rattle.ion_values.specs.declared.value.Key.{Key}
use Rattle.ion_values.specs.declared.value.Key.TheVariants as key
use Rattle.ledger_model.specs.declared.outcome.Refusal.{Refusal}
use Rattle.ledger_model.specs.declared.outcome.Refusal.TheVariants as refusal
use Rattle.ledger_model.specs.declared.outcome.Item.{Item}
use Rattle.ledger_model.specs.declared.outcome.Item.TheVariants as item
use Rattle.ledger_model.specs.declared.outcome.Outcome.{Outcome}
use Rattle.ledger_model.specs.declared.outcome.Outcome.TheVariants as outcome
use Rattle.ledger_model.specs.declared.outcome.PlacedOutcome.{PlacedOutcome}

-- it fits 128 bits
abbrev pub IsNumber : ℕ → Type 0
IsNumber n = n < 2 ^ 128

abbrev pub IsInt : ℤ → Type 0
IsInt z = unsigned_abs z < 2 ^ 128

-- well-formed UTF-8
abbrev pub IsText : List ℕ → Type 0
IsText text = IsTrue (text_within text)

abbrev pub AreBytes : List ℕ → Type 0
AreBytes bytes = IsTrue (bytes_within bytes)

abbrev pub IsKey : Key → Type 0
IsKey (key.Bool truth) = Unit {0}
IsKey (key.Number coefficient exponent) = IsInt coefficient × IsInt exponent
IsKey (key.Text text) = IsText text
IsKey (key.Moment moment) = IsInt moment
IsKey (key.Clob bytes) = AreBytes bytes
IsKey (key.Blob bytes) = AreBytes bytes

abbrev pub IsItem : Item → Type 0
IsItem (item.TableName name) = IsText name
IsItem item.TableList = Unit {0}
IsItem (item.Table table) = IsNumber table.raw
IsItem (item.Doc table id) = IsNumber table.raw × IsNumber id.raw
IsItem (item.IndexValue table field k) = IsNumber table.raw × IsText field × IsKey k

abbrev pub IsCause : Refusal → Type 0
IsCause (refusal.ParseFault at kind) = IsNumber at
IsCause (refusal.NoSuchTable name) = IsText name
IsCause (refusal.TableExists name) = IsText name
IsCause (refusal.ReservedName name) = IsText name
IsCause (refusal.IndexExists name field) = IsText name × IsText field
IsCause (refusal.TooManyTables count) = IsNumber count
IsCause (refusal.TooManyIndexes count) = IsNumber count
IsCause (refusal.TooManyRevisions count) = IsNumber count
IsCause (refusal.DocumentTooLarge bytes) = IsNumber bytes
IsCause (refusal.NotADocument kind) = Unit {0}
IsCause (refusal.ParameterCount wanted given) = IsNumber wanted × IsNumber given
IsCause (refusal.TooDeep depth) = IsNumber depth
IsCause refusal.Ended = Unit {0}
IsCause refusal.OutOfMemory = Unit {0}
IsCause refusal.NoSuchRevision = Unit {0}
IsCause (refusal.StillLatest version) = IsNumber version
IsCause (refusal.AlreadyRedacted version) = IsNumber version
IsCause (refusal.TooManyRedactions count) = IsNumber count

-- it is a name in which no comma stands
abbrev pub is_of_name : ℕ → Bool
is_of_name byte = not (byte == 44)

abbrev pub IsName : List ℕ → Type 0
IsName name = list_all is_of_name name ≡ true

-- the name of a rule, or none
abbrev pub IsRule : Option (List ℕ) → Type 0
IsRule None = Unit {0}
IsRule (Some name) = IsText name

abbrev pub IsOutcome : Outcome → Type 0
IsOutcome (outcome.Committed tx block) = IsNumber tx.raw × IsNumber block
IsOutcome (outcome.Conflict tx since named) =
    IsNumber tx.raw × IsNumber since × IsNumber named.block × IsItem named.item
IsOutcome (outcome.Refused tx since statement cause) =
    IsNumber tx.raw × IsNumber since × IsNumber statement × IsCause cause
IsOutcome (outcome.DigestDiffers tx since mine given) =
    IsNumber tx.raw × IsNumber since × AreBytes mine.bytes × AreBytes given.bytes
IsOutcome (outcome.StoreFault tx count) = IsNumber tx.raw × IsNumber count
IsOutcome (outcome.JournalFull tx full) = IsNumber tx.raw × IsNumber full
IsOutcome (outcome.IdsSpent last) = IsNumber last
IsOutcome (outcome.Aborted tx since) = IsNumber tx.raw × IsNumber since
IsOutcome (outcome.Denied statement action table rule) = IsNumber statement × IsName action × IsText table × IsRule rule
IsOutcome outcome.OutOfMemory = Unit {0}

abbrev pub IsWritable : PlacedOutcome → Type 0
IsWritable o = IsNumber o.place.session × IsNumber o.place.transaction × IsOutcome o.outcome
