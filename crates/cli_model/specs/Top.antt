-- What the program does, by the command that its words ask for and the status with which it ends.
use Rattle.std.specs.Prelude.{◌≡◌, ◌⊎◌, ℕ, List, map, codes, string_bytes, Option, Some, None, Bool, true, false, is_none, ◌||◌}
use Rattle.cli_args.specs.Words.{asked}
use Rattle.cli_args.specs.declared.Command.{Command}
use Rattle.cli_args.specs.declared.Command.TheVariants as command
use Rattle.cli_args.specs.declared.IdSource.{IdSource}
use Rattle.cli_args.specs.declared.IdSource.TheVariants as ids
use Rattle.outside.specs.Told.{SinkTold}
use Rattle.laws_history.specs.Calls.{Span}
use Rattle.laws_history.specs.Streams.{TakesFew}
use Rattle.cli_model.specs.declared.Question.TheVariants as asks
use Rattle.cli_model.specs.Bundles.{verifies}
use Rattle.cli_model.specs.Calls.{Outside, Call}
use Rattle.cli_model.specs.Claims.{Claim, Status, done, bad_words, bad_input, damaged, source_failed, store_failed, sink_failed, not_accepted, out_of_memory, number_of, tells_none}
use Rattle.cli_model.specs.Extracts.{extracts}
use Rattle.cli_model.specs.Inputs.{IsFine, IsIdle}
use Rattle.cli_model.specs.Journals.{asks_journal}
use Rattle.cli_model.specs.Lines.{words_line, faults_line, memory_line}
use Rattle.cli_model.specs.Making.{makes}
use Rattle.cli_model.specs.Replays.{replays}
use Rattle.cli_model.specs.Runs.{runs}
use Rattle.cli_model.specs.Stores.{IsUncalled, IsUnfailed}
use Rattle.cli_model.specs.Streams.{streams}
use Rattle.cli_model.specs.Written.{WritesAll, WritesLine, FailsIn, RunsOutIn}

-- ---- by what the words ask for

-- Words that ask for nothing are refused, at 1. The store isn't called, and the source isn't read.
abbrev pub refuses_words : Claim
refuses_words = record {
  gives = λ x text. ⊥;
  refuses = λ same x status line. (status ≡ bad_words) × (line ≡ words_line);
  keeps = λ same x. IsUncalled same x.store × IsIdle x.source;
  tells = tells_none;
}

-- the claim of each command
abbrev pub claim_of : Option Command → Claim
claim_of None = refuses_words
claim_of (Some (command.Run options)) = runs options
claim_of (Some (command.Digest tip)) = asks_journal (asks.Digest tip)
claim_of (Some (command.Prove sequence index tip)) = asks_journal (asks.Proof sequence index tip)
claim_of (Some command.Verify) = verifies
claim_of (Some command.Extract) = extracts
claim_of (Some command.Audit) = asks_journal asks.Counts
claim_of (Some command.Compact) = asks_journal asks.Compact
claim_of (Some command.Export) = asks_journal asks.Export
claim_of (Some (command.Stream from to)) = streams from to
claim_of (Some command.Replay) = replays
claim_of (Some (command.Make options)) = makes options

-- this text is what was asked for
abbrev pub Gives : Option Command → Outside → List ℕ → Type 0
Gives what x text = (claim_of what).gives x text

-- it isn't given, for a cause with this status and this line
abbrev pub Refuses : Type 0 → Option Command → Outside → Status → List ℕ → Type 0
Refuses same what x status line = (claim_of what).refuses same x status line

-- what is so at every status
abbrev pub Keeps : Type 0 → Option Command → Outside → Type 0
Keeps same what x = (claim_of what).keeps same x

-- the store didn't fail, or as often as the outcomes of the command's run say
abbrev pub TellsStore : Option Command → Outside → Type 0
TellsStore what x = IsUnfailed x.store ⊎ (claim_of what).tells x

-- ---- the end

-- what was asked for, and as much of it as was written
pub record GivesText (what : Option Command) (x : Outside) (Written : List ℕ → Type 0) : Type 0 where
  pub text : List ℕ
  pub given : Gives what x text
  pub written : Written text

-- it isn't given for a cause with this status, and as much of the cause's line as was written
pub record GivesCause (same : Type 0) (what : Option Command) (x : Outside) (status : Status)
    (Written : List ℕ → Type 0) : Type 0 where
  pub line : List ℕ
  pub cause : Refuses same what x status line
  pub written : Written line

-- there was no memory for the rest of the output, or of a cause's line; or the line of status 8 was written, or there
-- was no memory for the rest of that
abbrev pub WritesLast : Type 0 → Option Command → Outside → Span SinkTold → Type 0
WritesLast same what x sink =
    GivesText what x (RunsOutIn sink)
    ⊎ ((status : Status) × GivesCause same what x status (RunsOutIn sink))
    ⊎ WritesLine sink memory_line
    ⊎ RunsOutIn sink memory_line

-- Memory ran out. No failure is hidden: the source failed only if the line that says so was begun. The store failed
-- only if the line that says so was begun, or as the outcomes of a run say. The sink failed only at the line of
-- status 8.
pub record RunsOut (same : Type 0) (what : Option Command) (x : Outside) (sink : Span SinkTold) : Type 0 where
  pub last : WritesLast same what x sink
  pub of_source : IsFine x.source ⊎ RunsOutIn sink (faults_line (codes "4") x.source.after.faults)
  pub of_store : TellsStore what x ⊎ RunsOutIn sink (faults_line (codes "5") x.store.after.faults)

-- At 0 what was asked for was written, and at 6 the sink failed when it was. At 8 memory ran out. At each other status
-- the cause's line was written. Where no failure is told, the source and the sink didn't fail.
abbrev pub Ends : Type 0 → Option Command → Outside → Span SinkTold → Status → Type 0
Ends same what x sink done = GivesText what x (WritesAll sink) × IsFine x.source
Ends same what x sink bad_words = GivesCause same what x bad_words (WritesLine sink) × IsFine x.source
Ends same what x sink bad_input = GivesCause same what x bad_input (WritesLine sink) × IsFine x.source
Ends same what x sink damaged = GivesCause same what x damaged (WritesLine sink) × IsFine x.source
Ends same what x sink source_failed = GivesCause same what x source_failed (WritesLine sink)
Ends same what x sink store_failed = GivesCause same what x store_failed (WritesLine sink) × IsFine x.source
Ends same what x sink sink_failed = GivesText what x (FailsIn sink) × IsFine x.source
Ends same what x sink not_accepted = GivesCause same what x not_accepted (WritesLine sink) × IsFine x.source
Ends same what x sink out_of_memory = RunsOut same what x sink

-- what the words ask for
abbrev pub asked_by : Call → Option Command
asked_by call = asked (map string_bytes call.words)

-- What a call does whose exit status is this number. That the store is the one that was given is what `same` says.
pub record Does (same : Type 0) (call : Call) (number : ℕ) : Type 0 where
  pub status : Status
  pub number_is : number ≡ number_of status
  pub ends : Ends same (asked_by call) call.told call.sink status
  pub keeps : Keeps same (asked_by call) call.told
  pub few : TakesFew call.told.source

-- ---- the clock

abbrev pub is_first_answer : IdSource → Bool
is_first_answer ids.Plain = false
is_first_answer (ids.Seed seed) = false
is_first_answer ids.FirstAnswer = true

-- Only a run asks the clock, where the words leave out its time or the source of its ids, and a workload's always does.
abbrev pub asks_clock : Option Command → Bool
asks_clock (Some (command.Run options)) = is_none options.time || is_first_answer options.ids
asks_clock (Some (command.Make options)) = true
asks_clock _ = false
