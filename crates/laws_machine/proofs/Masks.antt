-- No event changes the mask.
use Rattle.std.proofs.Common.{◌≡◌, ◌∙◌, ◌-◌, ◌^◌, Bool, true, false, List, [], ◌∷◌, refl, Option, Some, None, if◌then◌else◌}
use Rattle.std.specs.Prelude.{nat_lt}
use Rattle.ql_types.specs.declared.Place.{Place}
use Rattle.ledger_model.specs.declared.script.Request.{Request}
use Rattle.ledger_model.specs.Run.{Ran, ran, refused}
use Rattle.laws_machine.specs.Machine.{Event, Machine, Step, Transaction, abort, aborts, begin, behind, commit, commits, draws, execute, executes, executes_on, happens, if_open, named, spent}

begun_mask : (m : Machine) (place : Place) (b : Bool)
    → (if b then draws m place else record { answer = spent m.last; now = m }).now.mask ≡ m.mask
begun_mask m place true = refl
begun_mask m place false = refl

executed_mask : (m : Machine) (r : Request) (t : Transaction) (x : Ran) → (executes_on m r t x).now.mask ≡ m.mask
executed_mask m r t (ran p) = refl
executed_mask m r t (refused statement cause) = refl

open_mask : (m : Machine) (f : Transaction → Step) (o : Option Transaction)
    → ((t : Transaction) → (f t).now.mask ≡ m.mask)
    → (if_open m o f).now.mask ≡ m.mask
open_mask m f None h = refl
open_mask m f (Some t) h = h t

pub mask_after : (m : Machine) (e : Event) → (happens m e).now.mask ≡ m.mask
mask_after m (begin place) = begun_mask m place (nat_lt m.last (2 ^ 64 - 1))
mask_after m (execute n r) = open_mask m (executes m r) (named n m.underway) (λ t. executed_mask m r t t.done)
mask_after m (commit n c) = open_mask m (commits m c) (named n m.underway) (λ t. refl)
mask_after m (abort n) = open_mask m (aborts m) (named n m.underway) (λ t. refl)

pub mask_behind : (es : List Event) (m : Machine) → (behind es m).mask ≡ m.mask
mask_behind [] m = refl
mask_behind (e ∷ es) m = mask_behind es (happens m e).now ∙ mask_after m e
