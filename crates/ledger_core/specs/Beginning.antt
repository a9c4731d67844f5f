-- The begin of a transaction: the number that is drawn for it, what it runs on, and why none begins.
use Rattle.std.specs.Prelude.{◌≡◌, ◌+◌, ◌-◌, ◌^◌, ◌<◌, false, length}
use Rattle.ql_types.specs.declared.Place.{Place}
use Rattle.ledger_model.specs.Run.{start}
use Rattle.ledger_model.specs.State.{state}
use Rattle.laws_history.specs.Standings.{Standing, next}
use Rattle.txn_core.specs.Opened.{Opened}
use Rattle.ledger_core.specs.declared.begin.BeginFault.{BeginFault}
use Rattle.ledger_core.specs.declared.begin.BeginFault.TheVariants.{IdsSpent, OutOfMemory}

-- one number more was drawn
abbrev pub drawn : Standing → Standing
drawn s = record s { last = s.last + 1 }

-- the transaction of the next number, which has done nothing so far, on the state of all blocks
abbrev pub begun_on : Standing → Place → Opened
begun_on s place = record {
  begun = next s;
  place = place;
  base = state s.blocks;
  since = length s.blocks;
  done = start;
  ended = false;
}

-- no number is left exactly if the last one is the greatest u64
abbrev pub IsBeginFault : Standing → BeginFault → Type 0
IsBeginFault s (IdsSpent last) = (s.last ≡ 2 ^ 64 - 1) × (last ≡ 2 ^ 64 - 1)
IsBeginFault s OutOfMemory = s.last + 1 < 2 ^ 64
