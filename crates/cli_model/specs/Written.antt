-- How much of a text the sink took.
use Rattle.std.specs.Prelude.{◌≡◌, ◌<◌, ◌⊎◌, ℕ, List}
use Rattle.outside.specs.Told.{SinkTold}
use Rattle.laws_history.specs.Calls.{Span}
use Rattle.laws_history.specs.Streams.{Writes, BreaksOff}

-- all of the text was written, and the sink didn't fail
pub record WritesAll (sink : Span SinkTold) (text : List ℕ) : Type 0 where
  pub written : Writes sink text
  pub fine : sink.after.faults ≡ sink.before.faults

-- a front part of the text was written and not all, and the sink failed
pub record FailsIn (sink : Span SinkTold) (text : List ℕ) : Type 0 where
  pub part : BreaksOff sink text
  pub failed : sink.before.faults < sink.after.faults

-- a front part of the text was written and not all, and there was no memory for the next part
pub record RunsOutIn (sink : Span SinkTold) (text : List ℕ) : Type 0 where
  pub part : BreaksOff sink text
  pub fine : sink.after.faults ≡ sink.before.faults

-- all of an error line was written, or the sink failed
abbrev pub WritesLine : Span SinkTold → List ℕ → Type 0
WritesLine sink line = WritesAll sink line ⊎ FailsIn sink line
