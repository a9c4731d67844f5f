-- Desks that are put behind one another, each with a pass that is split from one.
use Rattle.std.proofs.Common.{◌≡◌, ◌∙◌, ℕ, ◌<◌, ◌≤◌, List, [], ◌∷◌, ◌++◌, length, length-append, ap, arith, inl, inr, refl, subst, sym, Result, Ok, Err}
use Rattle.std.proofs.lemmas.Bool.{cases_lt}
use Rattle.std.proofs.lemmas.List.{get_or_append_left, get_or_at, map-append}
use Rattle.std.specs.Prelude.{OnOk, slice_index_or}
use Rattle.atomic_table.specs.Seated.{TableId}
use Rattle.ledger_model.specs.declared.script.Job.{Job}
use Rattle.turn_lock.specs.declared.view.Known.{Known}
use Rattle.turn_lock.specs.History.{AreWhole, IsNamed, Stands, after_split, newborn, split_off}
use Rattle.turn_lock.specs.Rule.{Each}
use Rattle.turn_lock.proofs.Lists.{each-append, each_map}
use Rattle.laws_machine.specs.Entries.{Entry}
use Rattle.ledger_core.specs.Tails.{TailHeld}
use Rattle.ledger_shared.specs.declared.workers.Desk.{Desk}
use Rattle.ledger_shared.specs.Desks.{AreReady, HasRoom, HaveRoom, IsAt, IsIdle, IsOf, knowns}
use Rattle.ledger_shared.specs.Workers.{WorkerHeld}
use Rattle.ledger_shared.proofs.Running.{each_mapped}
use Rattle.ledger_shared.proofs.Whole.{whole_split}

-- the first pass is all passes
module _ {E : Type 0} where
  abbrev alone : List (Known E)
  alone = newborn ∷ []

  none_lent : (x : Known E) (i : ℕ) → 1 ≤ i → i ≤ x.splits → Stands x alone → IsNamed alone (x.name ++ i ∷ [])
  none_lent x i low high (inl e) = let zero : x.splits ≡ 0 = ap (λ (y : Known E). y.splits) e in absurd (omega (arith, low, high, zero))
  none_lent x i low high (inr e) = absurd e

  whole_alone : AreWhole alone
  whole_alone = ((newborn, inl refl, refl), λ x i s low high. none_lent x i low high s)

pub whole_first : {E : Type 0} (ks : List (Known E)) (k : Known E) → ks ≡ [] → k ≡ newborn → AreWhole (ks ++ k ∷ [])
whole_first {E} ks k none first =
    subst (λ l. AreWhole (l ++ k ∷ [])) (sym none) (subst (λ (x : Known E). AreWhole (x ∷ [])) (sym first) whole_alone)

module _ {S C G : Type 0} (desks desks' : List (Desk S C G)) (d : Desk S C G) (worker : WorkerHeld S C)
    (more : desks' ≡ desks ++ d ∷ []) (is : d.worker ≡ worker) where
  pub knows_more : knowns desks' ≡ knowns desks ++ worker.known ∷ []
  knows_more =
      ap knowns more ∙ map-append (λ (x : Desk S C G). x.worker.known) desks (d ∷ [])
      ∙ ap (λ (w : WorkerHeld S C). knowns desks ++ w.known ∷ []) is

  pub next_idle : (table : TableId) (opened : TailHeld S C) → IsOf table opened worker → worker.known.own ≡ [] → d.outcomes.items ≡ []
      → Each (IsIdle table opened) desks → Each (IsIdle table opened) desks'
  next_idle table opened of own none each =
      subst (λ l. Each (IsIdle table opened) l) (sym more) (each-append (IsIdle table opened) desks (d ∷ []) each (
        (
            subst (λ (w : WorkerHeld S C). IsOf table opened w × (w.known.own ≡ []) × (d.outcomes.items ≡ [])) (sym is) (of, own, none)
            ),
        tt,
      ))

  pub next_whole : (last last' : WorkerHeld S C) → worker.known ≡ split_off last.known → last'.known ≡ after_split last.known
      → AreWhole (knowns desks ++ last.known ∷ []) → AreWhole (knowns desks' ++ last'.known ∷ [])
  next_whole last last' split after whole =
      subst (λ l. AreWhole (l ++ last'.known ∷ [])) (sym knows_more)
      (subst (λ k. AreWhole ((knowns desks ++ worker.known ∷ []) ++ k ∷ [])) (sym after)
      (subst (λ k. AreWhole ((knowns desks ++ k ∷ []) ++ after_split last.known ∷ [])) (sym split)
      (whole_split (knowns desks) last.known whole)))

  pub next_room : (workers : ℕ) (script : List (List Job)) (place : ℕ) → length desks ≡ place → HasRoom workers script place d
      → HaveRoom workers script desks → HaveRoom workers script desks'
  next_room workers script place long room have i e low =
      let low' : i < length (desks ++ d ∷ []) = subst (λ l. i < length l) more low in
      subst (λ l. HasRoom workers script i (slice_index_or l i e)) (sym more)
      (elim (cases_lt i (length desks)) [
        | inl less ↦ subst (λ x. HasRoom workers script i x) (sym (get_or_append_left desks (d ∷ []) e i less)) (have i e less)
        | inr past ↦
            let at : i ≡ place = omega (arith, low', past, long, length-append desks (d ∷ [])) in
            let there : length desks ≡ i = long ∙ sym at in
            subst (λ x. HasRoom workers script i x) (sym (get_or_at desks d [] e i there))
            (subst (λ k. HasRoom workers script k d) (sym at) room)
      ])

  -- the desk of the last worker
  pub last_ready : (table : TableId) (opened : TailHeld S C) → IsOf table opened worker → worker.known.own ≡ [] → d.outcomes.items ≡ []
      → Each (IsIdle table opened) desks → AreWhole (knowns desks ++ worker.known ∷ []) → AreReady table opened desks'
  last_ready table opened of own none each whole = record {
    idle = next_idle table opened of own none each;
    whole = subst AreWhole (sym knows_more) whole;
  }

-- the passes of desks that are ready own nothing
pub owns_none : {S C G : Type 0} (table : TableId) (opened : TailHeld S C) (desks : List (Desk S C G)) → AreReady table opened desks
    → Each (λ (k : Known Entry). k.own ≡ []) (knowns desks)
owns_none {S} {C} {G} table opened desks ready =
    each_mapped (λ (x : Desk S C G). x.worker.known) (λ (k : Known Entry). k.own ≡ []) desks
    (each_map (IsIdle table opened) (λ (x : Desk S C G). x.worker.known.own ≡ []) desks (λ a s h. h.1) ready.idle)

-- their workers are of the ledger
pub are_at : {S C G : Type 0} (table : TableId) (opened : TailHeld S C) (desks : List (Desk S C G)) → AreReady table opened desks
    → Each (IsAt table opened) desks
are_at table opened desks ready = each_map (IsIdle table opened) (IsAt table opened) desks (λ a s h. h.0) ready.idle

pub on_ok : {E P Q : Type 0} (r : Result (Unit {0}) E) → (P → Q) → OnOk r P → OnOk r Q
on_ok (Ok x) f p = f p
on_ok (Err e) f p = tt
