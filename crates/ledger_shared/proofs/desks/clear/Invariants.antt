use Rattle.std.proofs.Common.{◌≡◌, ◌+◌, ◌≤◌, ◌++◌, map}
use Rattle.std.specs.Prelude.{reverse, vec_capacity, vec_len}
use Rattle.atomic_table.specs.Seated.{TableId}
use Rattle.turn_lock.specs.Rule.{Each}
use Rattle.turn_lock.specs.Seats.{Rests, known}
use Rattle.ledger_core.specs.Tails.{TailHeld}
use Rattle.ledger_shared.specs.Behind.{IsRightFor}
use Rattle.ledger_shared.specs.Desks.{IsAt, knowns}
use Rattle.ledger_shared.proofs.desks.clear.Given as goal

-- the passes of the last desks are out, the last one first
abbrev pub invariant-desks : goal.invariant-desks
invariant-desks g l =
    record {
      each : (table : TableId) (opened : TailHeld _ _) → Each (IsAt table opened) l.initial.desks.items
          → Each (IsAt table opened) l.desks.items × Each (Rests (IsRightFor g.S.JournalStore.told) table opened) l.passes.items;
      known : knowns l.initial.desks.items ≡ knowns l.desks.items ++ reverse (map known l.passes.items);
      room : vec_len l.desks + vec_len l.passes ≤ vec_capacity l.passes;
    }

abbrev pub decreases-desks : goal.decreases-desks
decreases-desks g l = vec_len l.desks
