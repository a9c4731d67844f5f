-- Passes that are taken out of desks, those of the last desk first.
use Rattle.std.proofs.Common.{◌≡◌, ◌∙◌, List, [], ◌∷◌, ◌++◌, append_assoc, ap, arith, length, map, refl, subst, sym}
use Rattle.std.proofs.lemmas.List.{map-append, reverse-append}
use Rattle.std.specs.Prelude.{reverse}
use Rattle.atomic_table.specs.Seated.{TableId}
use Rattle.turn_lock.specs.declared.view.Known.{Known}
use Rattle.turn_lock.specs.History.{AreWhole, newborn}
use Rattle.turn_lock.specs.Rule.{Each}
use Rattle.turn_lock.proofs.Lists.{each-append, each_front, each_last}
use Rattle.laws_machine.specs.Entries.{Entry}
use Rattle.ledger_core.specs.Tails.{TailHeld}
use Rattle.ledger_shared.specs.declared.workers.Desk.{Desk}
use Rattle.ledger_shared.specs.Desks.{IsAt, knowns}
use Rattle.ledger_shared.proofs.Setting.{whole_first}

pub emptied : {A : Type 0} (xs : List A) → length xs ≡ 0 → xs ≡ []
emptied [] none = refl
emptied (x ∷ xs) none = absurd (omega (arith, none))

map_turned : {A B : Type 0} (f : A → B) (xs : List A) → map f (reverse xs) ≡ reverse (map f xs)
map_turned f [] = refl
map_turned f (x ∷ xs) =
    ap (map f) (reverse-append (x ∷ []) xs) ∙ map-append f (reverse xs) (x ∷ []) ∙ ap (λ l. l ++ f x ∷ []) (map_turned f xs)
    ∙ sym (reverse-append (f x ∷ []) (map f xs))

each_turned : {A : Type 0} (P : A → Type 0) (xs : List A) → Each P xs → Each P (reverse xs)
each_turned P [] h = tt
each_turned P (x ∷ xs) h =
    subst (λ l. Each P l) (sym (reverse-append (x ∷ []) xs)) (each-append P (reverse xs) (x ∷ []) (each_turned P xs h.1) (h.0, tt))

module _ {S C G P : Type 0} (name : P → Known Entry) (R : TableId → TailHeld S C → P → Type 0) (desks : List (Desk S C G)) (passes passes' : List P) where
  -- the pass of the last desk comes behind the others
  module _ (rest : List (Desk S C G)) (d : Desk S C G) (p : P) (items : desks ≡ rest ++ d ∷ []) (puts : passes' ≡ passes ++ p ∷ []) where
    pub each_next : R d.worker.table d.worker.opened p → (table : TableId) (opened : TailHeld S C)
        → Each (IsAt table opened) desks × Each (R table opened) passes → Each (IsAt table opened) rest × Each (R table opened) passes'
    each_next here table opened both =
        let of : IsAt table opened d = each_last (IsAt table opened) rest desks d items both.0 in
        let right : R table opened p = subst (λ o. R table o p) of.1 (subst (λ t. R t d.worker.opened p) of.0 here) in (
          each_front (IsAt table opened) rest desks d items both.0,
          subst (λ l. Each (R table opened) l) (sym puts) (each-append (R table opened) passes (p ∷ []) both.1 (right, tt)),
        )

    pub known_next : name p ≡ d.worker.known → knowns desks ++ reverse (map name passes) ≡ knowns rest ++ reverse (map name passes')
    known_next is =
        ap (λ l. knowns l ++ reverse (map name passes)) items
        ∙ ap (λ l. l ++ reverse (map name passes)) (map-append (λ (x : Desk S C G). x.worker.known) rest (d ∷ []))
        ∙ append_assoc (knowns rest) (d.worker.known ∷ []) (reverse (map name passes))
        ∙ ap (λ x. knowns rest ++ (x ∷ reverse (map name passes))) (sym is)
        ∙ ap (λ l. knowns rest ++ l) (sym (reverse-append (map name passes) (name p ∷ [])))
        ∙ ap (λ l. knowns rest ++ reverse l) (sym (map-append name passes (p ∷ [])))
        ∙ ap (λ l. knowns rest ++ reverse (map name l)) (sym puts)

  -- all passes are out
  module _ (turned : passes' ≡ reverse passes) where
    pub each_done : (table : TableId) (opened : TailHeld S C) → Each (R table opened) passes → Each (R table opened) passes'
    each_done table opened h = subst (λ l. Each (R table opened) l) (sym turned) (each_turned (R table opened) passes h)

    pub known_done : desks ≡ [] → (first : List (Known Entry)) → first ≡ knowns desks ++ reverse (map name passes) → map name passes' ≡ first
    known_done none first is =
        ap (map name) turned ∙ map_turned name passes ∙ ap (λ (l : List (Desk S C G)). knowns l ++ reverse (map name passes)) (sym none) ∙ sym is

-- a pass stands alone
module _ {P : Type 0} (name : P → Known Entry) (passes passes' : List P) (p : P) (none : passes ≡ []) (puts : passes' ≡ passes ++ p ∷ []) where
  lone : passes' ≡ p ∷ []
  lone = puts ∙ ap (λ l. l ++ p ∷ []) none

  pub each_lone : (Q : P → Type 0) → Q p → Each Q passes'
  each_lone Q h = subst (λ l. Each Q l) (sym lone) (h, tt)

  pub whole_lone : name p ≡ newborn → AreWhole (map name passes')
  whole_lone is = subst (λ l. AreWhole (map name l)) (sym lone) (whole_first [] (name p) refl is)

  pub idle_lone : name p ≡ newborn → Each (λ (k : Known Entry). k.own ≡ []) (map name passes')
  idle_lone is = subst (λ l. Each (λ (k : Known Entry). k.own ≡ []) (map name l)) (sym lone) (ap (λ (k : Known Entry). k.own) is, tt)
