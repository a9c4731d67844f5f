-- What is so of a source whose input is read, and of the script that it spells.
use Rattle.std.specs.Prelude.{◌≡◌, ℕ, List, Option, Result, Ok, Err}
use Rattle.ledger_model.specs.declared.script.Job.{Job}
use Rattle.outside.specs.Told.{SourceTold}
use Rattle.laws_history.specs.Calls.{Span}
use Rattle.cli_model.specs.Inputs.{HasScript, IsFine, IsNoScript, SourceFailed}
use Rattle.ledger_shared.specs.Sessions.{AreNumbered}
use Rattle.ledger_cli.specs.Judgements.{cause_of}
use Rattle.ledger_cli.specs.declared.lines.BadInput.TheVariants as bad
use Rattle.ledger_cli.specs.declared.command_fault.CommandFault.{CommandFault}
use Rattle.ledger_cli.specs.declared.command_fault.CommandFault.TheVariants as stop

-- why an input wasn't read: it is too long, or the source failed, or memory ran out
abbrev pub IsUnread : CommandFault → Span SourceTold → Type 0
IsUnread stop.BadWords source = ⊥
IsUnread (stop.BadInput cause) source = (cause ≡ bad.TooLong) × IsFine source
IsUnread (stop.NoSuch why) source = ⊥
IsUnread (stop.Damaged sequence kind) source = ⊥
IsUnread stop.SourceFailed source = SourceFailed source
IsUnread stop.StoreFailed source = ⊥
IsUnread (stop.NotEmpty blocks) source = ⊥
IsUnread (stop.BadRange from to) source = ⊥
IsUnread (stop.NotAccepted fault) source = ⊥
IsUnread stop.NotPublished source = ⊥
IsUnread stop.OutOfMemory source = IsFine source

-- why there is no script: the source failed only where that is the cause, and a store is not asked
abbrev pub IsReadStop : Option (List ℕ) → CommandFault → Span SourceTold → Type 0
IsReadStop rules stop.BadWords source = ⊥
IsReadStop rules (stop.BadInput cause) source = IsNoScript rules (cause_of cause) source × IsFine source
IsReadStop rules (stop.NoSuch why) source = ⊥
IsReadStop rules (stop.Damaged sequence kind) source = ⊥
IsReadStop rules stop.SourceFailed source = SourceFailed source
IsReadStop rules stop.StoreFailed source = ⊥
IsReadStop rules (stop.NotEmpty blocks) source = ⊥
IsReadStop rules (stop.BadRange from to) source = ⊥
IsReadStop rules (stop.NotAccepted fault) source = ⊥
IsReadStop rules stop.NotPublished source = ⊥
IsReadStop rules stop.OutOfMemory source = IsFine source

-- there is a script, under the rules of that name if one is given, or a cause why not
abbrev pub ReadsScript : Option (List ℕ) → Result (List (List Job)) CommandFault → Span SourceTold → Type 0
ReadsScript rules (Ok script) source = HasScript rules source script × AreNumbered script × IsFine source
ReadsScript rules (Err why) source = IsReadStop rules why source
