-- Why a command has no output.
use Rattle.std.specs.Prelude.{List}
use Rattle.access_rules.specs.declared.rule.RulesAnswer.{RulesAnswer}
use Rattle.access_rules.specs.declared.rule.RulesAnswer.TheVariants as rules
use Rattle.ledger_model.specs.declared.block.Block.{Block}
use Rattle.outside.specs.Told.{StoreTold}
use Rattle.proof_issue.specs.declared.NoSuch.{NoSuch}
use Rattle.proof_issue.specs.declared.NoSuch.TheVariants as none_such
use Rattle.proof_verify.specs.declared.ProofFault.{ProofFault}
use Rattle.proof_verify.specs.declared.ProofFault.TheVariants as fault
use Rattle.laws_history.specs.Calls.{Span}
use Rattle.cli_model.specs.declared.Question.{Question}
use Rattle.cli_model.specs.Journals.{HasNone}
use Rattle.cli_model.specs.Stores.{HasFailed, IsUnfailed, ReadsDamage}
use Rattle.journal_keeper.specs.declared.keeping.SettleFault.{SettleFault}
use Rattle.journal_keeper.specs.declared.keeping.SettleFault.TheVariants as settle
use Rattle.journal_reader.specs.declared.cause.LoadCause.{LoadCause}
use Rattle.journal_reader.specs.declared.cause.LoadCause.TheVariants as load
use Rattle.ledger_cli.specs.declared.command_fault.CommandFault.{CommandFault}
use Rattle.ledger_cli.specs.declared.command_fault.CommandFault.TheVariants as stop
use Rattle.ledger_cli.specs.declared.lines.BadInput.TheVariants as cause

-- by why there are no rules
abbrev pub rules_stop : RulesAnswer → CommandFault
rules_stop rules.BadRules = stop.BadInput cause.BadRules
rules_stop rules.NoSuchRules = stop.BadInput cause.NoSuchRules
rules_stop rules.OutOfMemory = stop.OutOfMemory

-- by why no journal was loaded
abbrev pub load_stop : LoadCause → CommandFault
load_stop (load.Damaged sequence kind) = stop.Damaged sequence kind
load_stop (load.StoreFault count) = stop.StoreFailed
load_stop load.OutOfMemory = stop.OutOfMemory

-- by why nothing was cut
abbrev pub settle_stop : SettleFault → CommandFault
settle_stop (settle.StoreFault count) = stop.StoreFailed
settle_stop settle.OutOfMemory = stop.OutOfMemory

-- by why there is no such digest or proof
abbrev pub no_such_stop : NoSuch → CommandFault
no_such_stop none_such.OutOfMemory = stop.OutOfMemory
no_such_stop why = stop.NoSuch why

-- and by why a proof isn't accepted
abbrev pub proof_stop : ProofFault → CommandFault
proof_stop fault.OutOfMemory = stop.OutOfMemory
proof_stop why = stop.NotAccepted why

-- Why a tail wasn't settled: the store failed, in its last call too; or memory ran out, and it didn't fail.
abbrev pub IsTailStop : CommandFault → Span StoreTold → Type 0
IsTailStop stop.BadWords store = ⊥
IsTailStop (stop.BadInput cause) store = ⊥
IsTailStop (stop.NoSuch why) store = ⊥
IsTailStop (stop.Damaged sequence kind) store = ⊥
IsTailStop stop.SourceFailed store = ⊥
IsTailStop stop.StoreFailed store = HasFailed store
IsTailStop (stop.NotEmpty blocks) store = ⊥
IsTailStop (stop.BadRange from to) store = ⊥
IsTailStop (stop.NotAccepted fault) store = ⊥
IsTailStop stop.NotPublished store = ⊥
IsTailStop stop.OutOfMemory store = IsUnfailed store

-- Why a run ended: the store's journal is damaged there, and it was only read; or the store failed. Nothing is said if
-- memory ran out.
abbrev pub IsLoadStop : CommandFault → Span StoreTold → Type 0
IsLoadStop stop.BadWords store = ⊥
IsLoadStop (stop.BadInput cause) store = ⊥
IsLoadStop (stop.NoSuch why) store = ⊥
IsLoadStop (stop.Damaged sequence kind) store = ReadsDamage store sequence kind
IsLoadStop stop.SourceFailed store = ⊥
IsLoadStop stop.StoreFailed store = HasFailed store
IsLoadStop (stop.NotEmpty blocks) store = ⊥
IsLoadStop (stop.BadRange from to) store = ⊥
IsLoadStop (stop.NotAccepted fault) store = ⊥
IsLoadStop stop.NotPublished store = ⊥
IsLoadStop stop.OutOfMemory store = Unit {0}

-- the blocks have no answer to the question, or memory ran out
abbrev pub IsAnswerStop : Question → List Block → CommandFault → Type 0
IsAnswerStop question blocks stop.BadWords = ⊥
IsAnswerStop question blocks (stop.BadInput cause) = ⊥
IsAnswerStop question blocks (stop.NoSuch why) = HasNone question blocks why
IsAnswerStop question blocks (stop.Damaged sequence kind) = ⊥
IsAnswerStop question blocks stop.SourceFailed = ⊥
IsAnswerStop question blocks stop.StoreFailed = ⊥
IsAnswerStop question blocks (stop.NotEmpty count) = ⊥
IsAnswerStop question blocks (stop.BadRange from to) = ⊥
IsAnswerStop question blocks (stop.NotAccepted fault) = ⊥
IsAnswerStop question blocks stop.NotPublished = ⊥
IsAnswerStop question blocks stop.OutOfMemory = Unit {0}
