use Rattle.std.proofs.Common.{◌≡◌, drop}
use Rattle.ledger_model.specs.Script.{each}
use Rattle.value_codec.proofs.Each.{behind}
use Rattle.stream_out.specs.ReadRecords.{listed_in}
use Rattle.stream_out.proofs.read_records.all_listed.Given as goal

-- what was read so far and what the rest gives is what all give
abbrev pub invariant-revisions : goal.invariant-revisions
invariant-revisions l = behind l.listed.items (each listed_in (drop l.value-index l.values)) ≡ each listed_in l.values
