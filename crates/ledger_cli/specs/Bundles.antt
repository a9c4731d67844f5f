-- What comes of an input that is to be a bundle.
use Rattle.std.specs.Prelude.{◌≡◌, ℕ, List, Result, Ok, Err}
use Rattle.ion_model.specs.Read.{read_text}
use Rattle.ion_values.specs.declared.value.Value.{Value}
use Rattle.outside.specs.Told.{SourceTold}
use Rattle.proof_verify.specs.declared.ProofFault.{ProofFault}
use Rattle.proof_verify.specs.declared.ProofFault.TheVariants as fault
use Rattle.laws_history.specs.Calls.{Span}
use Rattle.cli_model.specs.Bundles.{IsAccepted, IsNotAccepted}
use Rattle.cli_model.specs.Inputs.{HasValues, IsFine, IsNoText, SourceFailed}
use Rattle.cli_model.specs.Outputs.{verified_text}
use Rattle.ledger_cli.specs.Judgements.{cause_of}
use Rattle.ledger_cli.specs.declared.lines.BadInput.{BadInput}
use Rattle.ledger_cli.specs.declared.lines.BadInput.TheVariants as cause
use Rattle.ledger_cli.specs.declared.command_fault.CommandFault.{CommandFault}
use Rattle.ledger_cli.specs.declared.command_fault.CommandFault.TheVariants as stop

-- the input is no text, by this fault, or memory ran out
abbrev pub IsFaulty : ℕ → BadInput → List ℕ → Type 0
IsFaulty depth (cause.Faulty fault) input = read_text depth input ≡ Err fault
IsFaulty depth _ input = ⊥

-- it is the text of values that nest at most so deep
abbrev pub ReadsValues : ℕ → Result (List Value) CommandFault → List ℕ → Type 0
ReadsValues depth (Ok values) input = read_text depth input ≡ Ok values
ReadsValues depth (Err (stop.BadInput why)) input = IsFaulty depth why input
ReadsValues depth (Err stop.OutOfMemory) input = Unit {0}
ReadsValues depth (Err _) input = ⊥

-- the values are no bundle whose proof is accepted, by this fault, or memory ran out
abbrev pub IsUnproved : List Value → ProofFault → Type 0
IsUnproved values fault.OutOfMemory = Unit {0}
IsUnproved values why = IsNotAccepted values why

abbrev pub Decides : Result (List ℕ) CommandFault → List Value → Type 0
Decides (Ok text) values = IsAccepted values × (text ≡ verified_text)
Decides (Err (stop.NotAccepted why)) values = IsNotAccepted values why
Decides (Err stop.OutOfMemory) values = Unit {0}
Decides (Err _) values = ⊥

-- the input is a bundle whose proof is accepted
pub record IsVerified (source : Span SourceTold) (text : List ℕ) : Type 0 where
  pub values : List Value
  pub has : HasValues source values
  pub accepted : IsAccepted values
  pub text_is : text ≡ verified_text

-- its values are none
pub record IsRefused (source : Span SourceTold) (why : ProofFault) : Type 0 where
  pub values : List Value
  pub has : HasValues source values
  pub is : IsNotAccepted values why

abbrev pub Verifies : Result (List ℕ) CommandFault → Span SourceTold → Type 0
Verifies (Ok text) source = IsVerified source text × IsFine source
Verifies (Err stop.BadWords) source = ⊥
Verifies (Err (stop.BadInput why)) source = IsNoText (cause_of why) source × IsFine source
Verifies (Err (stop.NoSuch why)) source = ⊥
Verifies (Err (stop.Damaged sequence kind)) source = ⊥
Verifies (Err stop.SourceFailed) source = SourceFailed source
Verifies (Err stop.StoreFailed) source = ⊥
Verifies (Err (stop.NotEmpty blocks)) source = ⊥
Verifies (Err (stop.BadRange from to)) source = ⊥
Verifies (Err (stop.NotAccepted why)) source = IsRefused source why × IsFine source
Verifies (Err stop.NotPublished) source = ⊥
Verifies (Err stop.OutOfMemory) source = IsFine source
