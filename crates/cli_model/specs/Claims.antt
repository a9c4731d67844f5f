-- What is claimed of a command, and the causes of a refusal that several commands share.
use Rattle.std.specs.Prelude.{◌≡◌, ℕ, List, codes}
use Rattle.ledger_model.specs.declared.damage.Damage.{Damage}
use Rattle.cli_model.specs.Calls.{Outside}
use Rattle.cli_model.specs.Inputs.{SourceFailed}
use Rattle.cli_model.specs.Lines.{BadInput, input_line, damaged_line, faults_line}
use Rattle.cli_model.specs.Stores.{HasFailed, ReadsDamage}

-- how a command ends
pub data Status : Type 0 where
  done : Status
  bad_words : Status
  bad_input : Status
  damaged : Status
  source_failed : Status
  store_failed : Status
  sink_failed : Status
  not_accepted : Status
  out_of_memory : Status

-- the exit status
abbrev pub number_of : Status → ℕ
number_of done = 0
number_of bad_words = 1
number_of bad_input = 2
number_of damaged = 3
number_of source_failed = 4
number_of store_failed = 5
number_of sink_failed = 6
number_of not_accepted = 7
number_of out_of_memory = 8

-- The claim of a command, in terms of what the call was told. `gives`: this text is what was asked for. `refuses`: it
-- isn't given, for a cause with this status and this line. `keeps`: what is so at every status. `tells`: the store has
-- failed as often as the outcomes of the command's run say. The store is the one that was given, where `same` holds.
pub record Claim : Type 1 where
  pub gives : Outside → List ℕ → Type 0
  pub refuses : (same : Type 0) → Outside → Status → List ℕ → Type 0
  pub keeps : (same : Type 0) → Outside → Type 0
  pub tells : Outside → Type 0

-- the command runs nothing, so no outcome tells of a failure
abbrev pub tells_none : Outside → Type 0
tells_none x = ⊥

-- ---- causes

-- the input is refused for this cause
pub record BadInputLine (Is : BadInput → Type 0) (line : List ℕ) : Type 0 where
  pub cause : BadInput
  pub is : Is cause
  pub line_is : line ≡ input_line cause

-- the journal that was read is damaged
pub record DamagedLine (x : Outside) (line : List ℕ) : Type 0 where
  pub sequence : ℕ
  pub kind : Damage
  pub reads : ReadsDamage x.store sequence kind
  pub line_is : line ≡ damaged_line sequence kind

-- the source failed
pub record SourceLine (x : Outside) (line : List ℕ) : Type 0 where
  pub failed : SourceFailed x.source
  pub line_is : line ≡ faults_line (codes "4") x.source.after.faults

-- the store failed, in its last call too
pub record StoreLine (x : Outside) (line : List ℕ) : Type 0 where
  pub failed : HasFailed x.store
  pub line_is : line ≡ faults_line (codes "5") x.store.after.faults
