-- The codes of refusals, and the law that a transaction's statement is refused with one from 1 to 12 or from 15 to 18.
use Rattle.std.specs.Prelude.{◌≡◌, ◌≤◌, ◌⊎◌, ℕ, List}
use Rattle.ledger_model.specs.declared.outcome.Refusal.{Refusal}
use Rattle.ledger_model.specs.declared.outcome.Refusal.TheVariants as refusal
use Rattle.ledger_model.specs.declared.script.Request.{Request}
use Rattle.ledger_model.specs.Run.{Begun, refused, run}
use Rattle.ledger_model.specs.State.{State}

-- the code with which a report tells the refusal
abbrev pub code_of : Refusal → ℕ
code_of (refusal.ParseFault at k) = 1
code_of (refusal.NoSuchTable name) = 2
code_of (refusal.TableExists name) = 3
code_of (refusal.ReservedName name) = 4
code_of (refusal.IndexExists name field) = 5
code_of (refusal.TooManyTables count) = 6
code_of (refusal.TooManyIndexes count) = 7
code_of (refusal.TooManyRevisions count) = 8
code_of (refusal.DocumentTooLarge bytes) = 9
code_of (refusal.NotADocument k) = 10
code_of (refusal.ParameterCount wanted given) = 11
code_of (refusal.TooDeep depth) = 12
code_of refusal.Ended = 13
code_of refusal.OutOfMemory = 14
code_of refusal.NoSuchRevision = 15
code_of (refusal.StillLatest version) = 16
code_of (refusal.AlreadyRedacted version) = 17
code_of (refusal.TooManyRedactions count) = 18

pub record IsBetween (first last n : ℕ) : Type 0 where
  pub least : first ≤ n
  pub most : n ≤ last

-- the refusal is one of a statement's own
abbrev pub HasOwnCode : Refusal → Type 0
HasOwnCode cause = IsBetween 1 12 (code_of cause) ⊎ IsBetween 15 18 (code_of cause)

abbrev pub StatementsAreRefused : Type 0
StatementsAreRefused =
    (b : Begun) (s : State) (asked : List Request) (statement : ℕ) (cause : Refusal)
    → run b s asked ≡ refused statement cause → HasOwnCode cause
