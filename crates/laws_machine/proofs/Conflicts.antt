-- A commit of a machine that was reached: its block is made of its statements, and it is in conflict exactly where a
-- later block touched what they read.
use Rattle.std.proofs.Common.{◌≡◌, ◌∙◌, ℕ, ◌-◌, ◌^◌, Bool, true, false, length, refl, sym, ap, subst, Option, Some, None, if◌then◌else◌}
use Rattle.std.specs.Prelude.{nat_lt}
use Rattle.ledger_model.specs.declared.block.Block.{Block}
use Rattle.ledger_model.specs.declared.outcome.Named.{Named}
use Rattle.ledger_model.specs.Damages.{same_hash}
use Rattle.ledger_model.specs.Run.{Progress, Ran, ran, refused}
use Rattle.laws_footprint.specs.Conflicts.{IsFirst, Tells}
use Rattle.laws_footprint.specs.Touches.{conflict}
use Rattle.laws_footprint.proofs.Conflicts.{conflict_is_first}
use Rattle.laws_machine.specs.History.{CommitIsMade, ConflictComesExactly, IsInConflict, Reached}
use Rattle.laws_machine.specs.Machine.{Commit, Ending, Machine, Service, Transaction, commit, commits, conflict_of, conflicts, differs, ending, ends, ends_by, full, happens, if_open, no_memory, opened, own_block, own_digest, served, store_failed, store_wants, unless_conflict, unless_full}
use Rattle.laws_machine.proofs.Endings.{comes}
use Rattle.laws_machine.proofs.Good.{Good, Numbered, made_of}
use Rattle.laws_machine.proofs.Histories.{good_behind}
use Rattle.laws_machine.proofs.Lists.{found}
use Rattle.laws_machine.proofs.OnBase.{AllOnBase, OnBase, all_on_base}

-- ---- endings that are conflicts

no_service : (s : Service) (own : Block) (since : ℕ) (named_one : Named)
    → ends_by s own ≡ conflicts since named_one → ⊥
no_service served own since f h = cc h
no_service no_memory own since f h = cc h
no_service store_wants own since f h = cc h
no_service (store_failed count) own since f h = cc h

no_room : (b : Bool) (count : ℕ) (s : Service) (own : Block) (since : ℕ) (f : Named)
    → (if b then ends_by s own else full count) ≡ conflicts since f → ⊥
no_room true count s own since f h = no_service s own since f h
no_room false count s own since f h = cc h

-- ---- a machine that was reached

module _ (m : Machine) (number : ℕ) (t : Transaction) (r : Reached m number t) where
  good : Good r.before m
  good = subst (Good r.before) (sym r.is) (good_behind r.mask r.before r.events r.opening r.fit)

  numbered : Numbered m.mask m.blocks m.last t
  numbered = (found (Numbered m.mask m.blocks m.last) number m.underway t good.numbered r.names).0

  on_base : OnBase m.mask m.blocks t
  on_base =
      let all = subst AllOnBase (sym r.is) (all_on_base r.events (opened r.mask r.before) tt) in
      (found (OnBase m.mask m.blocks) number m.underway t all r.names).0

  answer_is : (c : Commit) → (happens m (commit number c)).answer ≡ ends (ending m c t t.done)
  answer_is c = ap (λ o. (if_open m o (commits m c)).answer) r.names

  is_first : (since : ℕ) (p : Progress) (f : Named) → conflict m.blocks since p.footprint ≡ Some f
      → IsFirst m.blocks since p.footprint f
  is_first since p f e = subst (Tells m.blocks since p.footprint) e (conflict_is_first m.blocks since p.footprint)

  by_conflict : (c : Commit) (p : Progress) (o : Option Named) (since : ℕ) (f : Named) → t.done ≡ ran p
      → same_hash (own_digest m t) c.digest ≡ true → conflict_of m t p ≡ o
      → unless_conflict t.since o (unless_full m.blocks (ends_by c.service (own_block m t c p))) ≡ conflicts since f
      → IsInConflict m t c since f
  by_conflict c p None since f done digest e h =
      absurd (no_room (nat_lt (length m.blocks) (2 ^ 32 - 1)) (length m.blocks) c.service
      (own_block m t c p) since f h)
  by_conflict c p (Some f') since f done digest e h =
      let since_is : t.since ≡ since = cc h in
      let same : f' ≡ f = cc h in
      let finds : conflict m.blocks since p.footprint ≡ Some f =
      subst (λ n. conflict m.blocks n p.footprint ≡ Some f) since_is (e ∙ ap Some same) in
      record {
        progress = p;
        runs = on_base.runs ∙ done;
        digest = digest;
        since_is = since_is;
        finds = finds;
        first = is_first since p f finds;
      }

  by_digest : (c : Commit) (p : Progress) (b : Bool) (since : ℕ) (f : Named) → t.done ≡ ran p
      → same_hash (own_digest m t) c.digest ≡ b
      → (if b then unless_conflict t.since (conflict_of m t p)
      (unless_full m.blocks (ends_by c.service (own_block m t c p)))
      else differs (own_digest m t) c.digest) ≡ conflicts since f
      → IsInConflict m t c since f
  by_digest c p true since f done e h = by_conflict c p (conflict_of m t p) since f done e refl h
  by_digest c p false since f done e h = cc h

  by_done : (c : Commit) (x : Ran) (since : ℕ) (f : Named) → t.done ≡ x → ending m c t x ≡ conflicts since f
      → IsInConflict m t c since f
  by_done c (ran p) since f done h = by_digest c p (same_hash (own_digest m t) c.digest) since f done refl h
  by_done c (refused statement cause) since f done h = cc h

  only : (c : Commit) (since : ℕ) (f : Named) → (happens m (commit number c)).answer ≡ ends (conflicts since f)
      → IsInConflict m t c since f
  only c since f h =
      let is : ends (ending m c t t.done) ≡ ends (conflicts since f) = sym (answer_is c) ∙ h in
      let same : ending m c t t.done ≡ conflicts since f = cc is in
      by_done c t.done since f refl same

  always : (c : Commit) (since : ℕ) (f : Named) → IsInConflict m t c since f
      → (happens m (commit number c)).answer ≡ ends (conflicts since f)
  always c since f i =
      let p = i.progress in
      let next : Ending = unless_full m.blocks (ends_by c.service (own_block m t c p)) in
      let done : t.done ≡ ran p = sym on_base.runs ∙ i.runs in
      let finds : conflict_of m t p ≡ Some f = ap (λ n. conflict m.blocks n p.footprint) i.since_is ∙ i.finds in
      answer_is c ∙ ap (λ x. ends (ending m c t x)) done
      ∙ ap (λ b. ends (if b then unless_conflict t.since (conflict_of m t p) next else differs
      (own_digest m t) c.digest)) i.digest
      ∙ ap (λ o. ends (unless_conflict t.since o next)) finds
      ∙ ap (λ n. ends (conflicts n f)) i.since_is

pub conflict_comes_exactly : ConflictComesExactly
conflict_comes_exactly m number t c r = record { only = only m number t r c; always = always m number t r c }

pub commit_is_made : CommitIsMade
commit_is_made m number t c block r h =
    made_of r.before m (good m number t r) t (numbered m number t r) (on_base m number t r) c block
    (comes m c t block h)
