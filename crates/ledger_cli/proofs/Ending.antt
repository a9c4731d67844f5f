-- What is so where a command ends, by its exit status.
use Rattle.std.proofs.Common.{◌≡◌, ℕ, List, [], arith, ap, sym, refl, subst, inl, inr, Option, Some, None, Result, Ok, Err}
use Rattle.std.specs.Prelude.{option_map}
use Rattle.std.specs.Io.KnownBytes.{Consumes}
use Rattle.outside.specs.Store.{Content}
use Rattle.outside.specs.Told.{SourceTold, SinkTold, StoreTold, held}
use Rattle.cli_args.specs.declared.Command.{Command}
use Rattle.cli_args.specs.declared.Command.TheVariants as command
use Rattle.cli_args.specs.declared.RunOptions.{RunOptions}
use Rattle.laws_history.specs.Calls.{Span, span}
use Rattle.laws_history.specs.Streams.{TakesFew}
use Rattle.cli_model.specs.Calls.{Outside, Call}
use Rattle.cli_model.specs.Claims as top
use Rattle.cli_model.specs.Inputs.{IsIdle}
use Rattle.cli_model.specs.Lines.{memory_line}
use Rattle.cli_model.specs.Runs.{LeavesRun}
use Rattle.cli_model.specs.Stores.{IsUncalled}
use Rattle.cli_model.proofs.Imaged.{stays_still}
use Rattle.cli_model.specs.Top.{Gives, Refuses, Keeps, Ends, RunsOut, WritesLast, Does, asked_by}
use Rattle.cli_model.specs.Written.{WritesLine, RunsOutIn}
use Rattle.ledger_cli.specs.declared.ends.Status.{Status}
use Rattle.ledger_cli.specs.declared.ends.Status.TheVariants as status
use Rattle.ledger_cli.specs.declared.command_fault.CommandFault.{CommandFault}
use Rattle.ledger_cli.specs.declared.command_fault.CommandFault.TheVariants as stop
use Rattle.ledger_cli.specs.Ends.{EndsBy, IsLine, IsOwnLine, IsOutputEnd, IsTold, Works, WritesMemoryLine, status_of}

-- ---- the store and the source

-- the bytes are those of the content
pub same_held : (before after : StoreTold) → after.content ≡ before.content → held after ≡ held before
same_held before after same = ap (λ (c : Option Content). option_map (λ (x : Content). x.bytes) c) same

consumes_none : (left : Option (List ℕ)) → Consumes left left []
consumes_none None = tt
consumes_none (Some bytes) = refl

-- nothing was taken
pub takes_none : (told : SourceTold) → TakesFew (span told told)
takes_none told = ([], record { consumed = consumes_none told.left; few = omega arith })

-- where neither is called, all is kept
pub keeps_all : (same : Type 0) (what : Option Command) (x : Outside) → IsUncalled same x.store → IsIdle x.source → Keeps same what x
keeps_all same None x un idle = (un, idle)
keeps_all same (Some (command.Run options)) x un idle = inl (stays_still x.store (ap (λ (t : StoreTold). t.content) un.told))
keeps_all same (Some (command.Digest tip)) x un idle = (ap (λ (t : StoreTold). t.content) un.told, idle)
keeps_all same (Some (command.Prove sequence index tip)) x un idle = (ap (λ (t : StoreTold). t.content) un.told, idle)
keeps_all same (Some command.Verify) x un idle = un
keeps_all same (Some command.Extract) x un idle = ap (λ (t : StoreTold). t.content) un.told
keeps_all same (Some command.Audit) x un idle = (ap (λ (t : StoreTold). t.content) un.told, idle)
keeps_all same (Some command.Compact) x un idle = (ap (λ (t : StoreTold). t.content) un.told, idle)
keeps_all same (Some command.Export) x un idle = (ap (λ (t : StoreTold). t.content) un.told, idle)
keeps_all same (Some (command.Stream from to)) x un idle = (ap (λ (t : StoreTold). t.content) un.told, idle)
keeps_all same (Some command.Replay) x un idle = un
keeps_all same (Some (command.Make options)) x un idle = (inl (stays_still x.store (ap (λ (t : StoreTold). t.content) un.told)), idle)

-- a run that isn't begun leaves what there was
pub keeps_run_all : (options : RunOptions) (x : Outside) → x.store.after ≡ x.store.before → LeavesRun options x
keeps_run_all options x same = inl (stays_still x.store (ap (λ (s : StoreTold). s.content) same))

-- ---- how a command comes to its end

module _ (same : Type 0) (what : Option Command) (x : Outside) (sink : Span SinkTold) where
  abbrev EndsSo : Status → Type 0
  EndsSo s = Ends same what x sink (status_of s)

  -- if memory ran out
  runs_out : (s : Status) → s ≡ status.OutOfMemory → RunsOut same what x sink → EndsSo s
  runs_out s is out = subst (λ (t : Status). EndsSo t) (sym is) out

  -- no failure is hidden
  told_out : IsTold what x → WritesLast same what x sink → RunsOut same what x sink
  told_out told last = record { last = last; of_source = inl told.source; of_store = inl told.store }

  last_line : WritesMemoryLine sink → WritesLast same what x sink
  last_line (inl line) = inr (inr (inl line))
  last_line (inr out) = inr (inr (inr out))

  -- by its output
  output_ends : (s : Status) (text : List ℕ) → Gives what x text → IsTold what x → IsOutputEnd s sink text → EndsSo s
  output_ends s text given told (inl all) =
      subst (λ (t : Status). EndsSo t) (sym all.0) (record { text = text; given = given; written = all.1 }, told.source)
  output_ends s text given told (inr (inl fails)) =
      subst (λ (t : Status). EndsSo t) (sym fails.0) (record { text = text; given = given; written = fails.1 }, told.source)
  output_ends s text given told (inr (inr out)) =
      runs_out s out.0 (told_out told (inl (record { text = text; given = given; written = out.1 })))

  module _ (s t : Status) (text : List ℕ) (cause : Refuses same what x (status_of t) text) where
    -- the sink had no memory for the line
    broken : RunsOutIn sink text → WritesLast same what x sink
    broken out = inr (inl (status_of t, record { line = text; cause = cause; written = out }))

    -- by an error line that takes no memory but the sink's
    own_line_ends : IsOwnLine s t sink text → (WritesLine sink text → EndsSo t) → (RunsOutIn sink text → RunsOut same what x sink) → EndsSo s
    own_line_ends (inl line) ends out = subst (λ (y : Status). EndsSo y) (sym line.0) (ends line.1)
    own_line_ends (inr part) ends out = runs_out s part.0 (out part.1)

    -- by one that takes memory, too
    line_ends : IsLine s t sink text → IsTold what x → (WritesLine sink text → EndsSo t) → EndsSo s
    line_ends (inl own) told ends = own_line_ends own ends (λ out. told_out told (broken out))
    line_ends (inr want) told ends = runs_out s want.0 (told_out told (last_line want.1))

  pub by_work : (came : Result (List ℕ) CommandFault) (s : Status) → Works same what came x
      → EndsBy came s x.source.after.faults x.store.after.faults sink → EndsSo s
  by_work (Ok text) s works end = output_ends s text works.0 works.1 end
  by_work (Err stop.BadWords) s works end =
      own_line_ends s status.BadWords _ works.0 end (λ line. (record { line = _; cause = works.0; written = line }, works.1.source))
      (λ out. told_out works.1 (broken s status.BadWords _ works.0 out))
  by_work (Err (stop.BadInput cause)) s works end =
      line_ends s status.BadInput _ works.0 end works.1 (λ line. (record { line = _; cause = works.0; written = line }, works.1.source))
  by_work (Err (stop.NoSuch why)) s works end =
      line_ends s status.BadInput _ works.0 end works.1 (λ line. (record { line = _; cause = works.0; written = line }, works.1.source))
  by_work (Err (stop.Damaged sequence kind)) s works end =
      line_ends s status.Damaged _ works.0 end works.1 (λ line. (record { line = _; cause = works.0; written = line }, works.1.source))
  by_work (Err stop.SourceFailed) s works end =
      own_line_ends s status.SourceFailed _ works.0 end (λ line. record { line = _; cause = works.0; written = line })
      (λ out. record { last = broken s status.SourceFailed _ works.0 out; of_source = inr out; of_store = inl works.1 })
  by_work (Err stop.StoreFailed) s works end =
      own_line_ends s status.StoreFailed _ works.0 end (λ line. (record { line = _; cause = works.0; written = line }, works.1))
      (λ out. record { last = broken s status.StoreFailed _ works.0 out; of_source = inl works.1; of_store = inr out })
  by_work (Err (stop.NotEmpty blocks)) s works end =
      line_ends s status.BadInput _ works.0 end works.1 (λ line. (record { line = _; cause = works.0; written = line }, works.1.source))
  by_work (Err (stop.BadRange from to)) s works end =
      line_ends s status.BadInput _ works.0 end works.1 (λ line. (record { line = _; cause = works.0; written = line }, works.1.source))
  by_work (Err (stop.NotAccepted fault)) s works end =
      line_ends s status.NotAccepted _ works.0 end works.1 (λ line. (record { line = _; cause = works.0; written = line }, works.1.source))
  by_work (Err stop.NotPublished) s works end =
      own_line_ends s status.NotAccepted _ works.0 end (λ line. (record { line = _; cause = works.0; written = line }, works.1.source))
      (λ out. told_out works.1 (broken s status.NotAccepted _ works.0 out))
  by_work (Err stop.OutOfMemory) s works end = runs_out s end.0 (told_out works (last_line end.1))

-- ---- words that ask for nothing

-- neither the source nor the store failed
pub idle_told : (same : Type 0) (what : Option Command) (x : Outside) → IsUncalled same x.store → IsIdle x.source → IsTold what x
idle_told same what x un idle = record {
  source = ap (λ (t : SourceTold). t.faults) idle;
  store = inl (ap (λ (t : StoreTold). t.faults) un.told);
}

pub wanted_works : (same : Type 0) (what : Option Command) (x : Outside) → IsUncalled same x.store → IsIdle x.source
    → Works same what (Err stop.OutOfMemory) x
wanted_works same what x un idle = idle_told same what x un idle

pub refused_works : (same : Type 0) (what : Option Command) (x : Outside) → what ≡ None → IsUncalled same x.store → IsIdle x.source
    → Works same what (Err stop.BadWords) x
refused_works same what x is un idle =
    subst (λ (w : Option Command). Works same w (Err stop.BadWords) x) (sym is) ((refl, refl), idle_told same None x un idle)

pub refused_keeps : (same : Type 0) (what : Option Command) (x : Outside) → what ≡ None → IsUncalled same x.store → IsIdle x.source
    → Keeps same what x
refused_keeps same what x is un idle = subst (λ (w : Option Command). Keeps same w x) (sym is) (un, idle)

-- ---- the error lines

-- the line that says that memory ran out
pub memory_line_of : (s : Status) (sink : Span SinkTold) → IsOwnLine s status.OutOfMemory sink memory_line → WritesMemoryLine sink
memory_line_of s sink (inl line) = inl line.1
memory_line_of s sink (inr out) = inr out.1

pub own_memory : (s : Status) (sink : Span SinkTold) → IsOwnLine s status.OutOfMemory sink memory_line → s ≡ status.OutOfMemory
own_memory s sink (inl line) = line.0
own_memory s sink (inr out) = out.0

-- a line that was made
pub made_line : (s own : Status) (sink : Span SinkTold) (made text : List ℕ) → made ≡ text → IsOwnLine s own sink made → IsLine s own sink text
made_line s own sink made text is line = inl (subst (λ (t : List ℕ). IsOwnLine s own sink t) is line)

-- the same line
pub same_line : (s own : Status) (sink : Span SinkTold) (made text : List ℕ) → made ≡ text → IsOwnLine s own sink made → IsOwnLine s own sink text
same_line s own sink made text is line = subst (λ (t : List ℕ). IsOwnLine s own sink t) is line

-- ---- the whole call

pub does_so : (same : Type 0) (call : Call) (s : Status) (n : ℕ) → n ≡ top.number_of (status_of s)
    → Ends same (asked_by call) call.told call.sink (status_of s) → Keeps same (asked_by call) call.told → TakesFew call.told.source
    → Does same call n
does_so same call s n is ends keeps few = record {
  status = status_of s;
  number_is = is;
  ends = ends;
  keeps = keeps;
  few = few;
}
