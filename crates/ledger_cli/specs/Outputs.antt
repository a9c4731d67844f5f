-- What a command writes, and how much of it was written.
use Rattle.std.specs.Prelude.{ℕ, List, Result, OnOk, OnErr}
use Rattle.outside.specs.Causes.{HasCause}
use Rattle.outside.specs.Told.{SinkTold}
use Rattle.outside.specs.declared.traits.OutFault.{OutFault}
use Rattle.ledger_model.specs.Journal.{journal_bytes}
use Rattle.laws_history.specs.Calls.{Span}
use Rattle.laws_history.specs.Streams.{Writes, BreaksOff}
use Rattle.ledger_cli.specs.declared.output.Held.{Held}
use Rattle.ledger_cli.specs.declared.output.Held.TheVariants as held

-- the lines of rebuilt blocks, or what is there already
abbrev pub output_bytes : Held → List ℕ
output_bytes (held.Whole bytes) = bytes
output_bytes (held.Records lines) = lines
output_bytes (held.Blocks replay) = journal_bytes replay.blocks.list

-- all of the text was written, or a front part of it and not all, as the sink failed or there was no memory
pub record IsWritten (result : Result (Unit {0}) OutFault) (sink : Span SinkTold) (text : List ℕ) : Type 0 where
  pub written : OnOk result (Writes sink text)
  pub broken : OnErr result (BreaksOff sink text)
  pub cause : HasCause sink.before.faults sink.after.faults result
