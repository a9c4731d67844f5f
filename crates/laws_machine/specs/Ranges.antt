-- What the ledger's types hold of the events that come to a machine: a mask of 128 bits, places and times that fit,
-- and texts, values and names within their ranges in what a transaction that comes to its commit did.
use Rattle.std.specs.Prelude.{ℕ, ◌^◌, ◌<◌, List, [], ◌∷◌, Option, Some, None, IsTrue}
use Rattle.ion_values.specs.Time.{is_time}
use Rattle.ledger_model.specs.declared.block.Block.{Block}
use Rattle.ledger_model.specs.Damages.{Undamaged}
use Rattle.ledger_model.specs.Run.{Ran, ran, refused}
use Rattle.ledger_model.specs.Whole.{place_fits}
use Rattle.laws_validity.specs.Before.{HasStrand}
use Rattle.laws_validity.specs.Makes.{IsWithinAll}
use Rattle.laws_machine.specs.Machine.{Event, Machine, Transaction, abort, begin, commit, execute, happens, named}

-- the blocks at the opening are undamaged, and their strand, where there is one, is that of the mask
pub record IsOpening (mask : ℕ) (blocks : List Block) : Type 0 where
  pub mask_fits : mask < 2 ^ 128
  pub undamaged : Undamaged blocks
  pub strand : HasStrand mask blocks

-- what its statements did is within its ranges
abbrev pub DidWithin : Ran → Type 0
DidWithin (ran p) = IsWithinAll p
DidWithin (refused statement cause) = Unit {0}

abbrev pub IfOpenWithin : Option Transaction → Type 0
IfOpenWithin None = Unit {0}
IfOpenWithin (Some t) = DidWithin t.done

abbrev pub Fits : Machine → Event → Type 0
Fits m (begin place) = IsTrue (place_fits place)
Fits m (execute number r) = Unit {0}
Fits m (commit number c) = IsTrue (is_time c.time) × IfOpenWithin (named number m.underway)
Fits m (abort number) = Unit {0}

-- each event where it comes
abbrev pub AllFit : List Event → Machine → Type 0
AllFit [] m = Unit {0}
AllFit (e ∷ es) m = Fits m e × AllFit es (happens m e).now
