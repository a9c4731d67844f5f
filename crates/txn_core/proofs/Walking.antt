-- What a statement does to one document after another.
use Rattle.std.proofs.Common.{◌≡◌, ◌∙◌, ℕ, ◌+◌, ◌<◌, ◌≤◌, List, [], ◌∷◌, length, get_or, drop, Option, Some, None, Result, Ok, Err, refl, sym, ap, subst}
use Rattle.std.proofs.lemmas.List.{drop_more, drop_all}
use Rattle.pql_model.specs.declared.tables.Row.{Row}
use Rattle.ql_types.specs.declared.DocId.{DocId}
use Rattle.ledger_model.specs.declared.block.Content.TheVariants.{Deleted, Kept}
use Rattle.ledger_model.specs.declared.outcome.Refusal.{Refusal}
use Rattle.ledger_model.specs.Progress.{not_kept}
use Rattle.ledger_model.specs.State as state
use Rattle.ledger_model.specs.Run.{Progress, Effect, and_then, changed_by, nothing, unless}
use Rattle.ledger_model.specs.Writing.{has_room_for, no_room, stored_changes, stored_deletes, touching}
use Rattle.txn_core.specs.declared.stopped.ExecuteFault.{ExecuteFault}
use Rattle.txn_core.specs.declared.stopped.ExecuteFault.TheVariants as stopped
use Rattle.txn_core.specs.Effects.{both}
use Rattle.txn_core.specs.Inserts.{so_far}
use Rattle.txn_core.specs.Opened.{Opened}
use Rattle.txn_core.specs.Stops.{StopsFor}
use Rattle.txn_core.proofs.Inserted.{more-so-far, nothing-first, nothing-last, nothing-so-far, then-more, then-unless}

-- why a document stands against the statement, and what is done with one
module _ {A : Type 0} (why : Progress → A → Option Refusal) (one : Progress → A → Effect) where
  abbrev pub walked : Progress → List A → Result Effect Refusal
  walked p [] = Ok nothing
  walked p (x ∷ xs) = unless (why p x) (and_then (one p x) (walked (changed_by p (one p x)) xs))

  -- behind what is done so far
  abbrev pub left_over : Opened → Effect → List A → Result Effect Refusal
  left_over t e xs = and_then e (walked (so_far t e) xs)

  pub none-walked : (t : Opened) (xs : List A) (e : Effect) → e ≡ nothing → left_over t e xs ≡ walked t.done xs
  none-walked t xs e is =
      ap (λ (x : Effect). left_over t x xs) is ∙ nothing-first (walked (so_far t nothing) xs) ∙ ap (λ (p : Progress). walked p xs) (nothing-so-far t.done)

  pub all-walked : (t : Opened) (e : Effect) (xs : List A) (i : ℕ) (all : Result Effect Refusal) → length xs ≤ i → left_over t e (drop i xs) ≡ all → all ≡ Ok e
  all-walked t e xs i all past left = sym left ∙ ap (left_over t e) (drop_all i xs past) ∙ ap (λ (x : Effect). Ok x) (nothing-last e)

  module _ (t : Opened) (e : Effect) (xs : List A) (i : ℕ) (x : A) (all : Result Effect Refusal)
      (within : i < length xs) (is : x ≡ get_or xs i x) (left : left_over t e (drop i xs) ≡ all) where
    at-next : left_over t e (x ∷ drop (i + 1) xs) ≡ all
    at-next =
        let front : drop i xs ≡ x ∷ drop (i + 1) xs = drop_more xs i x within ∙ ap (λ (y : A). y ∷ drop (i + 1) xs) (sym is) in
        subst (λ (rest : List A). left_over t e rest ≡ all) front left

    -- the next document is done
    pub one-walked : (now : Effect) → why (so_far t e) x ≡ None → now ≡ both e (one (so_far t e) x) → left_over t now (drop (i + 1) xs) ≡ all
    one-walked now free done =
        let f = one (so_far t e) x in
        let rest = walked (changed_by (so_far t e) f) (drop (i + 1) xs) in
        ap (λ (y : Effect). left_over t y (drop (i + 1) xs)) done
        ∙ sym (ap (λ (p : Progress). and_then (both e f) (walked p (drop (i + 1) xs))) (more-so-far t e f))
        ∙ sym (then-more e f rest)
        ∙ sym (then-unless e (why (so_far t e) x) (and_then f rest) free)
        ∙ at-next

    -- or the statement is refused for it
    pub walk-stops : (stopped : ExecuteFault) → StopsFor stopped (λ cause. why (so_far t e) x ≡ Some cause) → StopsFor stopped (λ cause. all ≡ Err cause)
    walk-stops (stopped.Refused cause) refused =
        let f = one (so_far t e) x in
        let rest = walked (changed_by (so_far t e) f) (drop (i + 1) xs) in
        sym at-next ∙ ap (λ (o : Option Refusal). and_then e (unless o (and_then f rest))) refused
    walk-stops stopped.OutOfMemory refused = tt

-- ---- documents that are changed, and documents that are deleted

abbrev pub why_changed : Progress → Row → Option Refusal
why_changed p d = not_kept (has_room_for p d.id) d.value

abbrev pub one_changed : state.State → Progress → Row → Effect
one_changed s p d = touching s p d.id (Kept d.value)

abbrev pub one_ended : state.State → Progress → DocId → Effect
one_ended s p id = touching s p id Deleted

pub changes_walk : (s : state.State) (ds : List Row) (p : Progress) → stored_changes s p ds ≡ walked why_changed (one_changed s) p ds
changes_walk s [] p = refl
changes_walk s (d ∷ ds) p =
    let one = one_changed s p d in
    ap (λ (r : Result Effect Refusal). unless (why_changed p d) (and_then one r)) (changes_walk s ds (changed_by p one))

pub deletes_walk : (s : state.State) (ids : List DocId) (p : Progress) → stored_deletes s p ids ≡ walked no_room (one_ended s) p ids
deletes_walk s [] p = refl
deletes_walk s (id ∷ ids) p =
    let one = one_ended s p id in
    ap (λ (r : Result Effect Refusal). unless (no_room p id) (and_then one r)) (deletes_walk s ids (changed_by p one))
