-- What is so where a command ends, by its output or by why it has none.
use Rattle.std.specs.Prelude.{◌≡◌, ◌⊎◌, ℕ, List, [], ◌∷◌, ◌++◌, codes, Option, Result, Ok, Err}
use Rattle.std.specs.Fmt.{decimal}
use Rattle.outside.specs.Told.{SinkTold}
use Rattle.cli_args.specs.declared.Command.{Command}
use Rattle.laws_history.specs.Calls.{Span}
use Rattle.cli_model.specs.Calls.{Outside}
use Rattle.cli_model.specs.Claims as top
use Rattle.cli_model.specs.Inputs.{IsFine}
use Rattle.cli_model.specs.Lines.{words_line, memory_line, input_line, no_such_line, not_empty_line, bad_range_line, damaged_line, faults_line, proof_fault_line, unpublished_line}
use Rattle.cli_model.specs.Top.{Gives, Refuses, TellsStore}
use Rattle.cli_model.specs.Written.{WritesAll, WritesLine, FailsIn, RunsOutIn}
use Rattle.ledger_cli.specs.Judgements.{cause_of}
use Rattle.ledger_cli.specs.declared.ends.Status.{Status}
use Rattle.ledger_cli.specs.declared.ends.Status.TheVariants as status
use Rattle.ledger_cli.specs.declared.command_fault.CommandFault.{CommandFault}
use Rattle.ledger_cli.specs.declared.command_fault.CommandFault.TheVariants as stop

-- how the command ends
abbrev pub status_of : Status → top.Status
status_of status.Done = top.done
status_of status.BadWords = top.bad_words
status_of status.BadInput = top.bad_input
status_of status.Damaged = top.damaged
status_of status.SourceFailed = top.source_failed
status_of status.StoreFailed = top.store_failed
status_of status.SinkFailed = top.sink_failed
status_of status.NotAccepted = top.not_accepted
status_of status.OutOfMemory = top.out_of_memory

-- ---- what the command came to

-- the source didn't fail, and the store only as the outcomes of a run say
pub record IsTold (what : Option Command) (x : Outside) : Type 0 where
  pub source : IsFine x.source
  pub store : TellsStore what x

-- what was asked for, or a cause why not, with its status and its line
abbrev pub Works : Type 0 → Option Command → Result (List ℕ) CommandFault → Outside → Type 0
Works same what (Ok text) x = Gives what x text × IsTold what x
Works same what (Err stop.BadWords) x = Refuses same what x top.bad_words words_line × IsTold what x
Works same what (Err (stop.BadInput cause)) x =
    Refuses same what x top.bad_input (input_line (cause_of cause)) × IsTold what x
Works same what (Err (stop.NoSuch why)) x = Refuses same what x top.bad_input (no_such_line why) × IsTold what x
Works same what (Err (stop.Damaged sequence kind)) x =
    Refuses same what x top.damaged (damaged_line sequence kind) × IsTold what x
Works same what (Err stop.SourceFailed) x =
    Refuses same what x top.source_failed (faults_line (codes "4") x.source.after.faults) × TellsStore what x
Works same what (Err stop.StoreFailed) x =
    Refuses same what x top.store_failed (faults_line (codes "5") x.store.after.faults) × IsFine x.source
Works same what (Err (stop.NotEmpty blocks)) x =
    Refuses same what x top.bad_input (not_empty_line blocks) × IsTold what x
Works same what (Err (stop.BadRange from to)) x =
    Refuses same what x top.bad_input (bad_range_line from to) × IsTold what x
Works same what (Err (stop.NotAccepted fault)) x =
    Refuses same what x top.not_accepted (proof_fault_line fault) × IsTold what x
Works same what (Err stop.NotPublished) x = Refuses same what x top.not_accepted unpublished_line × IsTold what x
Works same what (Err stop.OutOfMemory) x = IsTold what x

-- ---- how it is written

-- this status and the line; or the sink had no memory for all of the line
abbrev pub IsOwnLine : Status → Status → Span SinkTold → List ℕ → Type 0
IsOwnLine s own sink text =
    ((s ≡ own) × WritesLine sink text) ⊎ ((s ≡ status.OutOfMemory) × RunsOutIn sink text)

-- the line of status 8, or the part of it for which the sink had memory
abbrev pub WritesMemoryLine : Span SinkTold → Type 0
WritesMemoryLine sink = WritesLine sink memory_line ⊎ RunsOutIn sink memory_line

-- or there was no memory to make the line
abbrev pub IsLine : Status → Status → Span SinkTold → List ℕ → Type 0
IsLine s own sink text = IsOwnLine s own sink text ⊎ ((s ≡ status.OutOfMemory) × WritesMemoryLine sink)

-- this text, a count in decimal digits, a bracket and a line feed
abbrev pub count_line : List ℕ → ℕ → List ℕ
count_line front count = front ++ decimal count ++ codes "}" ++ 10 ∷ []

-- all of the output was written, or the sink failed or had no memory for it
abbrev pub IsOutputEnd : Status → Span SinkTold → List ℕ → Type 0
IsOutputEnd s sink text =
    ((s ≡ status.Done) × WritesAll sink text)
    ⊎ ((s ≡ status.SinkFailed) × FailsIn sink text)
    ⊎ ((s ≡ status.OutOfMemory) × RunsOutIn sink text)

-- with the output or an error line, if these are the numbers of failures of the source and the store
abbrev pub EndsBy : Result (List ℕ) CommandFault → Status → ℕ → ℕ → Span SinkTold → Type 0
EndsBy (Ok text) s source_faults store_faults sink = IsOutputEnd s sink text
EndsBy (Err stop.BadWords) s source_faults store_faults sink = IsOwnLine s status.BadWords sink words_line
EndsBy (Err (stop.BadInput cause)) s source_faults store_faults sink =
    IsLine s status.BadInput sink (input_line (cause_of cause))
EndsBy (Err (stop.NoSuch why)) s source_faults store_faults sink = IsLine s status.BadInput sink (no_such_line why)
EndsBy (Err (stop.Damaged sequence kind)) s source_faults store_faults sink =
    IsLine s status.Damaged sink (damaged_line sequence kind)
EndsBy (Err stop.SourceFailed) s source_faults store_faults sink =
    IsOwnLine s status.SourceFailed sink (faults_line (codes "4") source_faults)
EndsBy (Err stop.StoreFailed) s source_faults store_faults sink =
    IsOwnLine s status.StoreFailed sink (faults_line (codes "5") store_faults)
EndsBy (Err (stop.NotEmpty blocks)) s source_faults store_faults sink =
    IsLine s status.BadInput sink (not_empty_line blocks)
EndsBy (Err (stop.BadRange from to)) s source_faults store_faults sink =
    IsLine s status.BadInput sink (bad_range_line from to)
EndsBy (Err (stop.NotAccepted fault)) s source_faults store_faults sink =
    IsLine s status.NotAccepted sink (proof_fault_line fault)
EndsBy (Err stop.NotPublished) s source_faults store_faults sink = IsOwnLine s status.NotAccepted sink unpublished_line
EndsBy (Err stop.OutOfMemory) s source_faults store_faults sink =
    (s ≡ status.OutOfMemory) × WritesMemoryLine sink
