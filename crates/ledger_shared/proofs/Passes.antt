-- What a pass knows is enough for its calls, and what it knows behind them.
use Rattle.std.proofs.Common.{◌≡◌, ℕ, ◌+◌, ◌≤◌, List, [], ◌∷◌, ◌++◌, append-nil, length, length-append, take, suc, refl, sym, ap, ◌∙◌, subst, ⊎_elim, arith, Option, Some, None, Ok, Err, Result}
use Rattle.std.proofs.lemmas.List.{take-append-le}
use mathlib.Core.List.{IsPrefix}
use Rattle.std.specs.Prelude.{IfOk}
use Rattle.ql_types.specs.declared.Hash32.{Hash32}
use Rattle.ql_types.specs.declared.Place.{Place}
use Rattle.ledger_model.specs.Run.{ran}
use Rattle.ledger_model.specs.State.{state}
use Rattle.turn_lock.specs.declared.view.Known.{Known}
use Rattle.turn_lock.specs.declared.view.Placed.{Placed}
use Rattle.turn_lock.specs.History.{IsPart, MayAdd, Stands, UsesStand, placed, with_entry, with_seen}
use Rattle.turn_lock.specs.History.{Opened as OpenedIn}
use Rattle.turn_lock.proofs.Lists.{prefix_get}
use Rattle.turn_lock.proofs.Own.{part_at, stands-snoc, stands_end}
use Rattle.laws_machine.specs.Entries.{Entry, IsRunFrom, Opening, begun_at, failed, reach_at, sealed, wanted}
use Rattle.laws_history.specs.Seen.{blocks_in, reach}
use Rattle.laws_history.specs.Steps.{knows_behind}
use Rattle.laws_history.proofs.Reaches.{blocks_on, blocks_same, fewer_blocks}
use Rattle.txn_core.specs.Opened.{Opened}
use Rattle.ledger_core.specs.declared.appending.Receipt.{Receipt}
use Rattle.ledger_core.specs.declared.begin.BeginFault.{BeginFault}
use Rattle.ledger_core.specs.declared.begin.BeginFault.TheVariants as begin
use Rattle.ledger_core.specs.declared.commit.CommitFault.{CommitFault}
use Rattle.ledger_core.specs.declared.commit.CommitFault.TheVariants.{Conflict, DigestDiffers, EndedTxn, JournalFull, OutOfMemory, StoreFault}
use Rattle.ledger_shared.specs.Told.{opened_by, used_by}
use Rattle.ledger_shared.specs.Calls.{Begins, Commits, Extends, IsOpen, Opens, Wants}
use Rattle.ledger_shared.specs.Known.{Calls, MayCommit, MayJoin}
use Rattle.ledger_shared.proofs.Numbers.{Within, opened_between, used_below}

-- what comes after a front doesn't depend on how the front is given
pub append_same : {A : Type 0} (xs ys zs : List A) → xs ++ ys ≡ xs ++ zs → ys ≡ zs
append_same [] ys zs h = h
append_same (x ∷ xs) ys zs h = let rest : xs ++ ys ≡ xs ++ zs = cc in append_same xs ys zs rest

take_whole : {A : Type 0} (xs : List A) → take (length xs) xs ≡ xs
take_whole [] = refl
take_whole (x ∷ xs) = ap (λ ys. x ∷ ys) (take_whole xs)

none_within : (o : Opening) → Within (reach_at o)
none_within o u among = absurd among

-- ---- a begin

module _ (o : Opening) (seen : List Entry) (own : List (Placed Entry)) (run : IsRunFrom (reach_at o) seen) where
  may_open : (number since : ℕ) (place : Place) → number ≡ (reach o seen).last + 1
      → MayAdd opened_by used_by seen own (begun_at place number since)
  may_open number since place next = (
    λ m p old opens at opens_old.
        let high : m ≤ (reach o seen).last = (opened_between (reach_at o) seen p m old run at opens_old).1 in
        let same : number ≡ m = cc in
        omega (arith, high, same, next),
    λ m used. absurd cc,
  )

  pub begin_joins : (place : Place) (result : Result Opened BeginFault) (added : List Entry) → Begins o seen place result added
      → MayJoin seen own added
  begin_joins place (Ok t) added b =
      subst (λ es. MayJoin seen own es) (sym b.adds) (may_open t.begun.number (length (blocks_in o seen)) place b.number_is)
  begin_joins place (Err (begin.IdsSpent last)) added b = subst (λ es. MayJoin seen own es) (sym b.2) tt
  begin_joins place (Err begin.OutOfMemory) added b = subst (λ es. MayJoin seen own es) (sym b) tt

-- the transaction that has begun may be committed
module _ (o : Opening) (k : Known Entry) (part : IsPart k) (run : IsRunFrom (reach_at o) k.seen) where
  pub begun_may : (place : Place) (t : Opened) (added : List Entry) → Opens o k.seen place t added
      → MayCommit o (knows_behind k k.seen added) t
  begun_may place t added b =
      let front = k.seen in
      let e = begun_at place t.begun.number (length (blocks_in o front)) in
      let same : (blocks_in o (front ++ e ∷ [])) ≡ blocks_in o front = blocks_same (reach_at o) front e refl in
      let since_is : t.since ≡ length (blocks_in o front) = ap (λ (x : Opened). x.since) b.txn_is in
      let stood : length (blocks_in o (front ++ e ∷ [])) ≡ length (blocks_in o front) = ap length same in
      let told : begun_at t.place t.begun.number t.since ≡ e =
      ap (λ (x : Opened). begun_at x.place t.begun.number x.since) b.txn_is in
      let le : t.since ≤ length (blocks_in o (front ++ e ∷ [])) = omega (arith, since_is, stood) in
      subst (λ es. MayCommit o (knows_behind k front es) t) (sym b.adds) (record {
        mask = ap (λ (x : Opened). x.begun.mask) b.txn_is;
        since = le;
        base = ap (λ (x : Opened). x.base) b.txn_is
            ∙ ap state (sym (take_whole (blocks_in o front)) ∙ ap (λ n. take n (blocks_in o front)) (sym since_is) ∙ ap (λ bs. take t.since bs) (sym same));
        at = length front;
        opened = subst (λ x. Stands (placed (length front) x) (k.own ++ placed (length front) e ∷ [])) (sym told)
            (stands_end k.own (placed (length front) e));
        unused = λ x there used. ⊎_elim
            (λ (old : Stands x k.own).
            let low : t.begun.number ≤ (reach o front).last = used_below (reach_at o) front x.place t.begun.number x.entry run (none_within o) (part_at 0 front k.own x part old) used in
            let next = b.number_is in
            omega (arith, low, next))
            (λ (new : x ≡ placed (length front) e).
            let none : None ≡ Some t.begun.number = ap (λ (z : Placed Entry). used_by z.entry) (sym new) ∙ used in absurd cc)
            (stands-snoc k.own (placed (length front) e) x there);
        asked = [];
        runs = ap (λ (x : Opened). ran x.done) (sym b.txn_is);
      })

-- ---- a commit

module _ (o : Opening) (k : Known Entry) (t : Opened) (part : IsPart k) (may : MayCommit o k t) where
  -- it is open behind all that the pass sees at the turn
  pub open_here : (seen : List Entry) → IsPrefix k.seen seen → UsesStand opened_by used_by seen k.own → IsOpen o seen t
  open_here seen longer stand =
      let fewer = fewer_blocks (reach_at o) k.seen seen longer in
      let low = may.since in
      let grown : IsPrefix (blocks_in o k.seen) (blocks_in o seen) = blocks_on (reach_at o) k.seen seen longer in
      record {
        mask = may.mask;
        since = omega (arith, fewer, low);
        base = may.base ∙ ap state (sym (take-append-le t.since (blocks_in o k.seen) grown.0 low) ∙ ap (λ bs. take t.since bs) grown.1);
        at = may.at;
        opened = prefix_get k.seen seen may.at (begun_at t.place t.begun.number t.since) longer
            (part_at 0 k.seen k.own (placed may.at (begun_at t.place t.begun.number t.since)) part may.opened);
        unused = λ i e at used. may.unused (placed i e)
            (stand i t.begun.number e at used (placed may.at (begun_at t.place t.begun.number t.since), may.opened, refl)) used;
        asked = may.asked;
        runs = may.runs;
      }

  may_use : (seen : List Entry) (e : Entry) → opened_by e ≡ None → used_by e ≡ Some t.begun.number
      → MayAdd opened_by used_by seen k.own e
  may_use seen e opens uses = (
    λ m p old opens_now at opens_old. let none : None ≡ Some m = sym opens ∙ opens_now in absurd cc,
    λ m used.
        let same : t.begun.number ≡ m = cc in
        subst (λ i. OpenedIn opened_by used_by k.own i × ((x : Placed Entry) → Stands x k.own → used_by x.entry ≡ Some i → ⊥)) same
        ((placed may.at (begun_at t.place t.begun.number t.since), may.opened, refl), may.unused),
  )

  wanted_joins : (seen : List Entry) (sent : Option Hash32) (added : List Entry) → Wants o seen t sent added → MayJoin seen k.own added
  wanted_joins seen sent [] w = tt
  wanted_joins seen sent (begun_at place number since ∷ []) w = absurd w
  wanted_joins seen sent (sealed number block ∷ []) w = absurd w
  wanted_joins seen sent (failed number count block ∷ []) w = absurd w
  wanted_joins seen sent (wanted number None ∷ []) w = may_use seen (wanted number None) refl (ap Some w)
  wanted_joins seen sent (wanted number (Some b) ∷ []) w = may_use seen (wanted number (Some b)) refl (ap Some w.0)
  wanted_joins seen sent (begun_at place number since ∷ e ∷ es) w = absurd w
  wanted_joins seen sent (sealed number block ∷ e ∷ es) w = absurd w
  wanted_joins seen sent (failed number count block ∷ e ∷ es) w = absurd w
  wanted_joins seen sent (wanted number None ∷ e ∷ es) w = absurd w
  wanted_joins seen sent (wanted number (Some b) ∷ e ∷ es) w = absurd w

  none_joins : (seen : List Entry) (added : List Entry) → added ≡ [] → MayJoin seen k.own added
  none_joins seen added is = subst (λ es. MayJoin seen k.own es) (sym is) tt

  pub commit_joins : (seen : List Entry) (sent : Option Hash32) (result : Result Receipt CommitFault) (added : List Entry)
      → Commits o seen t sent result added → MayJoin seen k.own added
  commit_joins seen sent (Ok receipt) added c =
      subst (λ es. MayJoin seen k.own es) (sym c.adds) (may_use seen (sealed t.begun.number c.block) refl refl)
  commit_joins seen sent (Err EndedTxn) added c = none_joins seen added c.1
  commit_joins seen sent (Err (DigestDiffers mine given)) added c = none_joins seen added c.4
  commit_joins seen sent (Err (Conflict since named)) added c = none_joins seen added c.3
  commit_joins seen sent (Err (JournalFull blocks)) added c = none_joins seen added c.4
  commit_joins seen sent (Err (StoreFault count)) added c =
      subst (λ es. MayJoin seen k.own es) (sym c.adds) (may_use seen (failed t.begun.number count c.block) refl refl)
  commit_joins seen sent (Err OutOfMemory) added c = wanted_joins seen sent added c

-- ---- calls

module _ (k : Known Entry) (front : List Entry) where
  knows_again : (added : List Entry) → knows_behind (with_seen k front) front added ≡ knows_behind k front added
  knows_again [] = refl
  knows_again (e ∷ es) = refl

  knows_from : (now : Known Entry) (added : List Entry) → now ≡ with_seen k front → knows_behind now front added ≡ knows_behind k front added
  knows_from now added is = ap (λ x. knows_behind x front added) is ∙ knows_again added

-- A call at the turn is a call with all that the pass sees there in front.
pub called : (k taken now : Known Entry) (es list : List Entry) (Does : List Entry → List Entry → Type 0) → taken ≡ with_seen k taken.seen
    → IsPrefix k.seen taken.seen → es ≡ taken.seen → Extends es list (Does es)
    → ((added : List Entry) → list ≡ taken.seen ++ added → now ≡ knows_behind taken taken.seen added) → Calls k now Does
called k taken now es list Does knows longer is extends put =
    let E : Extends taken.seen list (Does taken.seen) = subst (λ xs. Extends xs list (Does xs)) is extends in
    record {
      front = taken.seen;
      added = E.0;
      later = longer;
      does = E.2;
      knows = put E.0 E.1 ∙ knows_from k taken.seen taken E.0 knows;
    }

-- what a begin adds may be added
pub begin_puts : (o : Opening) (taken : Known Entry) (es list : List Entry) (place : Place) (result : Result Opened BeginFault)
    → IsRunFrom (reach_at o) taken.seen → es ≡ taken.seen → Extends es list (Begins o es place result)
    → Extends taken.seen list (MayJoin taken.seen taken.own)
begin_puts o taken es list place result run is extends =
    let E : Extends taken.seen list (Begins o taken.seen place result) =
    subst (λ xs. Extends xs list (Begins o xs place result)) is extends in
    (E.0, E.1, begin_joins o taken.seen taken.own run place result E.0 E.2)

begun_knows : (o : Opening) (taken now : Known Entry) (list : List Entry) (place : Place) (result : Result Opened BeginFault)
    → IsPart taken → IsRunFrom (reach_at o) taken.seen → Extends taken.seen list (Begins o taken.seen place result)
    → ((added : List Entry) → list ≡ taken.seen ++ added → now ≡ knows_behind taken taken.seen added)
    → IfOk result (λ txn. MayCommit o now txn)
begun_knows o taken now list place (Ok t) part run E put =
    subst (λ k. MayCommit o k t) (sym (put E.0 E.1)) (begun_may o taken part run place t E.0 E.2)
begun_knows o taken now list place (Err f) part run E put = tt

-- the transaction that has begun may be committed with the pass
pub begun_opens : (o : Opening) (taken now : Known Entry) (es list : List Entry) (place : Place) (result : Result Opened BeginFault)
    → IsPart taken → IsRunFrom (reach_at o) taken.seen → es ≡ taken.seen → Extends es list (Begins o es place result)
    → ((added : List Entry) → list ≡ taken.seen ++ added → now ≡ knows_behind taken taken.seen added)
    → IfOk result (λ txn. MayCommit o now txn)
begun_opens o taken now es list place result part run is extends put =
    begun_knows o taken now list place result part run (subst (λ xs. Extends xs list (Begins o xs place result)) is extends) put

module _ (o : Opening) (k taken : Known Entry) (t : Opened) (part : IsPart k) (may : MayCommit o k t) (knows : taken ≡ with_seen k taken.seen)
    (longer : IsPrefix k.seen taken.seen) where
  own_is : taken.own ≡ k.own
  own_is = ap (λ (x : Known Entry). x.own) knows

  -- the transaction is open at the turn
  pub commit_opens : (es : List Entry) → es ≡ taken.seen → UsesStand opened_by used_by taken.seen taken.own → IsOpen o es t
  commit_opens es is stand =
      subst (λ xs. IsOpen o xs t) (sym is)
      (open_here o k t part may taken.seen longer (subst (λ own. UsesStand opened_by used_by taken.seen own) own_is stand))

  -- what its commit adds may be added
  pub commit_puts : (es list : List Entry) (sent : Option Hash32) (result : Result Receipt CommitFault) → es ≡ taken.seen
      → Extends es list (Commits o es t sent result) → Extends taken.seen list (MayJoin taken.seen taken.own)
  commit_puts es list sent result is extends =
      let E : Extends taken.seen list (Commits o taken.seen t sent result) =
      subst (λ xs. Extends xs list (Commits o xs t sent result)) is extends in
      (E.0, E.1, subst (λ own. MayJoin taken.seen own E.0) (sym own_is) (commit_joins o k t part may taken.seen sent result E.0 E.2))

-- ---- the turn is given back

-- one entry stands behind what was seen, or none does
pub joins_one : (seen list : List Entry) (own : List (Placed Entry)) → Extends seen list (MayJoin seen own) → (length list ≡ length seen → ⊥)
    → (e : Entry) × (list ≡ seen ++ e ∷ []) × MayAdd opened_by used_by seen own e
joins_one seen list own E longer = one_of E.0 E.1 E.2
  where
    one_of : (added : List Entry) → list ≡ seen ++ added → MayJoin seen own added
        → (e : Entry) × (list ≡ seen ++ e ∷ []) × MayAdd opened_by used_by seen own e
    one_of [] is may = absurd (longer (ap length (is ∙ append-nil seen)))
    one_of (e ∷ []) is may = (e, is, may)
    one_of (e ∷ f ∷ es) is may = absurd may

pub joins_none : (seen list : List Entry) (own : List (Placed Entry)) → Extends seen list (MayJoin seen own) → length list ≡ length seen
    → list ≡ seen
joins_none seen list own E same = none_of E.0 E.1
  where
    none_of : (added : List Entry) → list ≡ seen ++ added → list ≡ seen
    none_of [] is = is ∙ append-nil seen
    none_of (e ∷ es) is =
        let long : length list ≡ length seen + suc (length es) = ap length is ∙ length-append seen (e ∷ es) in
        absurd (omega (arith, long, same))

-- what the pass knows behind that
pub put_none : (k now : Known Entry) (list added : List Entry) → list ≡ k.seen → now ≡ k → list ≡ k.seen ++ added → now ≡ knows_behind k k.seen added
put_none k now list added same is told =
    let none : [] ≡ added = append_same k.seen [] added (append-nil k.seen ∙ sym same ∙ told) in
    is ∙ ap (λ es. knows_behind k k.seen es) none

pub put_one : (k now : Known Entry) (list added : List Entry) (e : Entry) → list ≡ k.seen ++ e ∷ [] → now ≡ with_entry k e
    → list ≡ k.seen ++ added → now ≡ knows_behind k k.seen added
put_one k now list added e one is told =
    let same : e ∷ [] ≡ added = append_same k.seen (e ∷ []) added (sym one ∙ told) in
    is ∙ ap (λ es. knows_behind k k.seen es) same
