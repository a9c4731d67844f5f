-- Where one worker runs all jobs, the claim of a run leaves no room for a conflict, and its blocks come in the script's
-- order.
use Rattle.std.proofs.Common.{◌≡◌, ◌⊎◌, ℕ, ◌+◌, ◌-◌, ◌<◌, ◌≤◌, false, List, [], ◌∷◌, ◌++◌, map, length, sym, refl, ap, ◌∙◌, subst, inl, inr, arith}
use Rattle.std.specs.List.{AllByRecursion}
use Rattle.std.proofs.lemmas.Option.{slice_get_within}
use Rattle.ql_types.specs.declared.TxId.{TxId}
use Rattle.ledger_model.specs.declared.outcome.Named.{Named}
use Rattle.ledger_model.specs.declared.outcome.Outcome.{Outcome}
use Rattle.ledger_model.specs.declared.outcome.Outcome.TheVariants.{Committed, Conflict}
use Rattle.ledger_model.specs.declared.outcome.PlacedOutcome.{PlacedOutcome}
use Rattle.ledger_model.specs.Script.{Placed}
use Rattle.laws_footprint.specs.Conflicts.{IsFirst}
use Rattle.session_driver.specs.Retries.{is_conflict}
use Rattle.turn_lock.specs.History.{Stands}
use Rattle.laws_validity.proofs.Lists.{all_like, all_mapped}
use Rattle.laws_history.specs.Records.{RunRecord, HaveOneWorker}
use Rattle.laws_history.proofs.Lists.{reaches, all_stand, many_stand, stands_all, stands_map}
use Rattle.laws_history.specs.Alone.{HasOneWorker, InRow, MeetsNoConflict, NoneConflicts, told_block, told_blocks}
use Rattle.laws_history.specs.Claims.{Fits, Holds, IsInConflict, RunsBefore}
use Rattle.laws_history.specs.Runs.{Served, told_of}
use Rattle.laws_history.proofs.Grown.{found_first}
use Rattle.laws_history.proofs.InRows.{AllLess, Rise, TellsLess, in_row, room_for, told_rise}
use Rattle.laws_history.proofs.Made.{IsMade, holds_of, made_at, served, told_made}
use Rattle.laws_history.proofs.Pairs.{AreInOrder, one_first}
use Rattle.laws_history.proofs.Told.{IsOne, all_tells, stands_told, tells}

-- ---- the blocks that are told

one_block : (x : Outcome) → IsOne (told_block x)
one_block (Committed tx block) = tt
one_block other = tt

blocks_told : (ss : List Served) → told_blocks (map told_of ss) ≡ tells told_block ss
blocks_told [] = refl
blocks_told (s ∷ ss) = ap (λ (xs : List ℕ). told_block s.outcome ++ xs) (blocks_told ss)

module _ (t : RunRecord) (h : Fits t) (alone : HasOneWorker t) where
  abbrev all : List Served
  all = (served t h).all

  job_among : (s : Served) → Stands s all → Stands s.placed t.jobs
  job_among s a =
      subst (λ (ps : List Placed). Stands s.placed ps) (served t h).jobs (stands_map (λ (x : Served). x.placed) s all a)

  one_worker : (s r : Served) → Stands s all → Stands r all
      → HaveOneWorker t.workers s.placed.place.session r.placed.place.session
  one_worker s r a b =
      stands_all (λ (q : Placed). HaveOneWorker t.workers s.placed.place.session q.place.session) r.placed t.jobs
      (stands_all
      (λ (p : Placed). AllByRecursion (λ (q : Placed). HaveOneWorker t.workers p.place.session q.place.session) t.jobs)
      s.placed t.jobs alone (job_among s a)) (job_among r b)

  -- ---- no conflict

  module _ (p : Placed) (tx : TxId) (since : ℕ) (named : Named)
      (among : Stands (record { placed = p; outcome = Conflict tx since named }) all)
      (c : IsInConflict t p tx since named) where
    abbrev own : Served
    own = record { placed = p; outcome = Conflict tx since named }

    first : IsFirst t.after since c.progress.footprint named
    first = found_first t.after since c.progress.footprint named c.finds

    block : IsMade t h named.block
    block = made_at t h named.block (omega (arith, c.fresh.from_before, (first).late)) (first).there

    against : (by : Served) (x : TxId) → by.outcome ≡ Committed x named.block
        → (own ≡ by)
        ⊎ (RunsBefore t (Conflict tx since named) by.placed by.outcome
        ⊎ RunsBefore t by.outcome p (Conflict tx since named))
        → ⊥
    against by x e (inl one) =
        let bad : ⊥ = cc (one, e) in bad
    against by x e (inr (inl before)) =
        let less : named.block + 1 + 0 ≤ named.block =
        (subst (λ (o : Outcome). RunsBefore t (Conflict tx since named) by.placed o) e before).blocks in
        omega (arith, less)
    against by x e (inr (inr before)) =
        let less : named.block + 1 + p.job.retries ≤ since =
        (subst (λ (o : Outcome). RunsBefore t o p (Conflict tx since named)) e before).blocks in
        omega (arith, less, (first).late)

    never : ⊥
    never =
        against (block).by (block).block.header.tx (told_made t h named.block block)
        (one_first t all own (block).by (served t h).in_order among (block).among
        (one_worker own (block).by among (block).among) (one_worker (block).by own (block).among among))

  calm_by : (s : Served) (x : Outcome) → s.outcome ≡ x → Stands s all → Holds t s.placed x
      → is_conflict x ≡ false
  calm_by s (Conflict tx since named) e a k =
      absurd (never s.placed tx since named
      (subst (λ (o : Outcome). Stands (record { placed = s.placed; outcome = o }) all) e a) k)
  calm_by s other e a k = refl

  pub none_met : MeetsNoConflict t
  none_met =
      subst (λ (os : List PlacedOutcome). AllByRecursion (λ (o : PlacedOutcome). is_conflict o.outcome ≡ false) os)
      (served t h).outcomes
      (all_mapped (λ (o : PlacedOutcome). is_conflict o.outcome ≡ false) told_of all
      (all_stand (λ (s : Served). is_conflict s.outcome ≡ false) all
      (λ s a. calm_by s s.outcome refl a (holds_of t h s a))))

  -- ---- the blocks in order

  less_behind : (tx : TxId) (m : ℕ) (r : Served) (y : Outcome)
      → RunsBefore t (Committed tx m) r.placed y → AllByRecursion (λ n. m < n) (told_block y)
  less_behind tx m r (Committed x n) before = let less : m + 1 + 0 ≤ n = before.blocks in (omega (arith, less), tt)
  less_behind tx m r other before = tt

  less_by : (r : Served) (x : Outcome) → RunsBefore t x r.placed r.outcome → TellsLess told_block x r.outcome
  less_by r (Committed tx m) before = (less_behind tx m r r.outcome before, tt)
  less_by r other before = tt

  all_less : (xs : List Served) → ((s : Served) → Stands s xs → Stands s all) → AreInOrder t xs
      → AllLess told_block xs
  all_less [] among order = tt
  all_less (s ∷ xs) among order = (
    all_stand (λ (r : Served). TellsLess told_block s.outcome r.outcome) xs
        (λ r a. less_by r s.outcome
        (stands_all
        (λ (x : Served). HaveOneWorker t.workers s.placed.place.session x.placed.place.session
        → RunsBefore t s.outcome x.placed x.outcome) r xs order.0 a
        (one_worker s r (among s (inl refl)) (among r (inr a))))),
    all_less xs (λ r a. among r (inr a)) order.1,
  )

  -- it is one of the blocks that were made
  record IsNew (m : ℕ) : Type 0 where
    from_before : length t.before ≤ m
    within : m < length t.after

  new_by : (p : Placed) (x : Outcome) → Holds t p x → AllByRecursion IsNew (told_block x)
  new_by p (Committed tx m) k =
      (record { from_before = k.is_new; within = slice_get_within t.after m k.sealed k.there }, tt)
  new_by p other k = tt

  abbrev told : List ℕ
  told = tells told_block all

  are_new : AllByRecursion IsNew told
  are_new =
      all_tells told_block IsNew all
      (all_like (λ (s : Served). Holds t s.placed s.outcome)
      (λ (s : Served). AllByRecursion IsNew (told_block s.outcome))
      (λ s k. new_by s.placed s.outcome k) all (served t h).hold)

  told_at : (m : ℕ) → length t.before ≤ m → m < length t.after → Stands m told
  told_at m low high =
      let b : IsMade t h m = made_at t h m low high in
      stands_told told_block m b.by all b.among
      (subst (λ (x : Outcome). Stands m (told_block x)) (sym (told_made t h m b)) (inl refl))

  pub blocks_in_order : InRow (length t.before) (told_blocks t.outcomes)
      × (length t.before + length (told_blocks t.outcomes) ≡ length t.after)
  blocks_in_order =
      let low : length t.before ≤ length t.after = reaches t.before t.after [] h.blocks.begins in
      let from : AllByRecursion (λ m. length t.before ≤ m) told = all_like IsNew (λ m. length t.before ≤ m)
      (λ m k. k.from_before) told are_new in
      let below : AllByRecursion (λ m. m < length t.after) told = all_like IsNew (λ m. m < length t.after)
      (λ m k. k.within) told are_new in
      let rise : Rise told = told_rise told_block one_block all
      (all_less all (λ s a. a) (served t h).in_order) in
      let room = room_for (length t.before) (length t.after) told low from below rise in
      let many = many_stand (length t.after - length t.before) (length t.before) told
      (λ m least most. told_at m least (omega (arith, most, low))) in
      subst (λ (ms : List ℕ). InRow (length t.before) ms × (length t.before + length ms ≡ length t.after))
      (sym (blocks_told all) ∙ ap told_blocks (served t h).outcomes) (
        in_row (length t.before) (length t.after) told from below rise (omega (arith, many, low)),
        omega (arith, room, many, low),
      )

pub none_conflicts : NoneConflicts
none_conflicts t alone h = none_met t h alone
