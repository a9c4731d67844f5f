-- A ledger as its callers know it: the table behind its turn, and the tail as it was when the ledger was made.
use Rattle.std.specs.Prelude.{Option}
use Rattle.outside.specs.Told.{StoreTold}
use Rattle.atomic_table.specs.Seated.{TableId}
use Rattle.atomic_table.specs.declared.shared.Seat.{Seat}
use Rattle.turn_lock.specs.declared.view.View.{View}
use Rattle.turn_lock.specs.Seats.{HoldsTurn, Rests}
use Rattle.laws_machine.specs.Entries.{Entry, Opening}
use Rattle.ledger_core.specs.Tails.{TailHeld}
use Rattle.ledger_shared.specs.declared.ledger.Ledger.{Ledger}
use Rattle.ledger_shared.specs.Behind.{IsRightFor, opening_of}

module _ {S C : Type 0} where
  abbrev pub table_of : Ledger S C → TableId
  table_of l = l.turns.table.shared.table_id

  abbrev pub opened_of : Ledger S C → TailHeld S C
  opened_of l = l.turns.table.shared.key.value.opened

module _ {S C T : Type 0} (told : S → StoreTold) (l : Ledger S C) where
  -- a pass of this ledger that doesn't hold its turn
  abbrev pub IsPass : Seat (Option T) (View Entry (TailHeld S C)) → Type 0
  IsPass pass = Rests (IsRightFor told) (table_of l) (opened_of l) pass

  -- a pass of this ledger that holds it
  abbrev pub HasTurn : Seat (Option T) (View Entry (TailHeld S C)) → Type 0
  HasTurn pass = HoldsTurn (IsRightFor told) (table_of l) (opened_of l) pass

-- the ledger as the opening of its entries
abbrev pub begins_with : {S C : Type 0} → (S → StoreTold) → Ledger S C → Opening
begins_with told l = opening_of told (opened_of l)
