-- What comes of an input that is to be a bundle, and of that bundle in a journal.
use Rattle.std.specs.Prelude.{◌≡◌, ◌⊎◌, ℕ, List, Result, Ok, Err}
use Rattle.ion_values.specs.declared.value.Value.{Value}
use Rattle.ledger_model.specs.declared.block.Block.{Block}
use Rattle.outside.specs.Told.{SourceTold, StoreTold}
use Rattle.proof_verify.specs.Bundles.{AreWithin, IsBundle}
use Rattle.laws_history.specs.Calls.{Span}
use Rattle.cli_model.specs.Bundles.{IsMalformed}
use Rattle.cli_model.specs.Extracts.{HasBundle, HasNoBundle, IsExtractOf, IsUnpublished, IsUnverified}
use Rattle.cli_model.specs.Inputs.{IsFine, IsNoText, SourceFailed}
use Rattle.cli_model.specs.Stores.{IsUnchanged, Reads}
use Rattle.journal_reader.specs.Loads.{IsCause}
use Rattle.journal_reader.specs.declared.cause.LoadCause.{LoadCause}
use Rattle.ledger_cli.specs.Judgements.{cause_of}
use Rattle.ledger_cli.specs.Stops.{load_stop}
use Rattle.ledger_cli.specs.declared.command_fault.CommandFault.{CommandFault}
use Rattle.ledger_cli.specs.declared.command_fault.CommandFault.TheVariants as stop
use Rattle.ledger_cli.specs.declared.extract.Bundle.{Bundle}

-- ---- the input

-- the values are this bundle, or none, or memory ran out
abbrev pub SpellsBundle : Result Bundle CommandFault → List Value → Type 0
SpellsBundle (Ok b) values = IsBundle values b.digest b.revision b.proof × AreWithin b.digest b.proof
SpellsBundle (Err (stop.NotAccepted why)) values = IsMalformed values why
SpellsBundle (Err stop.OutOfMemory) values = Unit {0}
SpellsBundle (Err _) values = ⊥

-- why there is no bundle: the source failed only where that is the cause, and a store is not asked
abbrev pub IsBundleStop : CommandFault → Span SourceTold → Type 0
IsBundleStop stop.BadWords source = ⊥
IsBundleStop (stop.BadInput why) source = IsNoText (cause_of why) source × IsFine source
IsBundleStop (stop.NoSuch why) source = ⊥
IsBundleStop (stop.Damaged sequence kind) source = ⊥
IsBundleStop stop.SourceFailed source = SourceFailed source
IsBundleStop stop.StoreFailed source = ⊥
IsBundleStop (stop.NotEmpty blocks) source = ⊥
IsBundleStop (stop.BadRange from to) source = ⊥
IsBundleStop (stop.NotAccepted why) source = HasNoBundle source why × IsFine source
IsBundleStop stop.NotPublished source = ⊥
IsBundleStop stop.OutOfMemory source = IsFine source

-- there is a bundle, or a cause why not
abbrev pub ReadsBundle : Result Bundle CommandFault → Span SourceTold → Type 0
ReadsBundle (Ok b) source = HasBundle source b.digest b.revision b.proof × IsFine source
ReadsBundle (Err why) source = IsBundleStop why source

-- ---- the journal

-- the text is the answer to the bundle in these blocks; or the fault is the one that is found
abbrev pub ExtractsFrom : Result (List ℕ) CommandFault → Bundle → List Block → Type 0
ExtractsFrom (Ok text) b blocks = IsExtractOf b.digest b.revision b.proof blocks text
ExtractsFrom (Err (stop.NotAccepted why)) b blocks = IsUnverified b.digest b.revision b.proof blocks why
ExtractsFrom (Err stop.NotPublished) b blocks = IsUnpublished b.digest blocks
ExtractsFrom (Err stop.OutOfMemory) b blocks = Unit {0}
ExtractsFrom (Err _) b blocks = ⊥

-- the journal was read
pub record IsReadFor (came : Result (List ℕ) CommandFault) (b : Bundle) (store : Span StoreTold) : Type 0 where
  pub blocks : List Block
  pub reads : Reads store blocks
  pub extracts : ExtractsFrom came b blocks

-- it wasn't, for this cause
pub record IsUnloaded (came : Result (List ℕ) CommandFault) (store : Span StoreTold) : Type 0 where
  pub cause : LoadCause
  pub is : came ≡ Err (load_stop cause)
  pub of_cause : IsCause cause store.before store.after

-- and the store's content is as before
abbrev pub ExtractsIn : Result (List ℕ) CommandFault → Bundle → Span StoreTold → Type 0
ExtractsIn came b store = (IsReadFor came b store ⊎ IsUnloaded came store) × IsUnchanged store
