use Rattle.std.proofs.Common.{◌≡◌, drop, length}
use Rattle.ledger_model.specs.Script.{each}
use Rattle.value_codec.proofs.Each.{behind}
use Rattle.interleavings.specs.Events.{time_in}
use Rattle.interleavings.proofs.events.all_times.Given as goal

-- what was read so far and what the rest gives is what all give, and it is as long as what was gone over
abbrev pub invariant-times : goal.invariant-times
invariant-times l = (behind l.times (each time_in (drop l.value-index l.values)) ≡ each time_in l.values) × (length l.times ≡ l.value-index)
