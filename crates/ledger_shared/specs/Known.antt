-- What a pass of the ledger knows of it, before a call and after it.
use Rattle.std.specs.Prelude.{◌≡◌, ◌≤◌, ℕ, List, [], ◌∷◌, length, take, Some}
use mathlib.Core.List.{IsPrefix}
use Rattle.ledger_model.specs.declared.script.Request.{Request}
use Rattle.ledger_model.specs.Run.{ran, run}
use Rattle.ledger_model.specs.State.{state}
use Rattle.turn_lock.specs.declared.view.Known.{Known}
use Rattle.turn_lock.specs.declared.view.Placed.{Placed}
use Rattle.turn_lock.specs.History.{MayAdd, Stands, placed}
use Rattle.laws_machine.specs.Entries.{Entry, Opening, begun_at}
use Rattle.laws_history.specs.Seen.{blocks_in}
use Rattle.laws_history.specs.Steps.{knows_behind}
use Rattle.txn_core.specs.Opened.{Opened}
use Rattle.ledger_shared.specs.Told.{opened_by, used_by}

-- With these entries in front, later ones of others among them, the call did this, and the pass knows the entry that it
-- added, if it added one.
pub record Calls (k now : Known Entry) (Does : (front added : List Entry) → Type 0) : Type 0 where
  pub front : List Entry
  pub added : List Entry
  pub later : IsPrefix k.seen front
  pub does : Does front added
  pub knows : now ≡ knows_behind k front added

-- The transaction was opened with the pass, none of the pass's entries uses its number, and it stands on a front part
-- of the blocks that the pass has seen. What it has done is what some statements come to.
pub record MayCommit (o : Opening) (k : Known Entry) (t : Opened) : Type 0 where
  pub mask : t.begun.mask ≡ o.mask
  pub since : t.since ≤ length (blocks_in o k.seen)
  pub base : t.base ≡ state (take t.since (blocks_in o k.seen))
  pub at : ℕ
  pub opened : Stands (placed at (begun_at t.place t.begun.number t.since)) k.own
  pub unused : (x : Placed Entry) → Stands x k.own → used_by x.entry ≡ Some t.begun.number → ⊥
  pub asked : List Request
  pub runs : run t.begun t.base asked ≡ ran t.done

-- the entry may be added, or there is none
abbrev pub MayJoin : List Entry → List (Placed Entry) → List Entry → Type 0
MayJoin seen own [] = Unit {0}
MayJoin seen own (e ∷ []) = MayAdd opened_by used_by seen own e
MayJoin seen own (e ∷ f ∷ es) = ⊥
