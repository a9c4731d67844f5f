-- What stands behind the turn after a commit of the tail, with the entry that was put behind the others, if there is one.
use Rattle.std.proofs.Common.{◌≡◌, ◌∙◌, ℕ, ℤ, List, [], ◌∷◌, ◌++◌, length, slice_get, true, false, refl, sym, ap, subst, ◌⊎◌, inl, inr, Option, Some, None, Ok, Err}
use Rattle.ql_types.specs.Ids.{raw_id, transaction_in}
use Rattle.ql_types.specs.declared.Hash32.{Hash32}
use Rattle.ql_types.specs.declared.TxId.{TxId}
use Rattle.ion_values.specs.declared.time.TimeParts.{TimeParts}
use Rattle.ledger_model.specs.declared.block.Block.{Block}
use Rattle.laws_history.specs.Standings.{Standing}
use Rattle.laws_history.specs.Stores.{Holding, IsSynced}
use Rattle.outside.specs.Told.{StoreTold, held}
use Rattle.laws_machine.specs.Entries.{Entry, Opening, sealed}
use Rattle.txn_core.specs.Opened.{Opened}
use Rattle.ledger_core.specs.Committing as core
use Rattle.ledger_core.specs.Committing.{IsAnswer, IsService}
use Rattle.ledger_core.specs.Images.{IsSoundTail, KeepsSound, Settles, tried_with}
use Rattle.ledger_core.specs.Tails.{Leaves, TailHeld, joined}
use Rattle.ledger_core.specs.declared.appending.Receipt.{Receipt}
use Rattle.ledger_core.specs.declared.commit.CommitFault.{CommitFault}
use Rattle.ledger_shared.specs.declared.entry.Entry as kept
use Rattle.ledger_shared.specs.Behind.{GoesOn, HasTimes, IsKept, Keeps, opening_of}
use Rattle.ledger_shared.specs.Calls.{Commits, Extends, IsOpen, refusal_of}
use Rattle.ledger_shared.specs.Rests.{HoldsRest, tried_in}
use Rattle.ledger_shared.specs.Told.{all_told, told}
use Rattle.ledger_shared.proofs.Commits.{Ends, listed, not_moved, refused, sealed_behind, seals}
use Rattle.ledger_shared.proofs.Imaging.{images_refused, images_sealed}
use Rattle.ledger_shared.proofs.Kept.{refuse_more, refuse_none, seal_more}
use Rattle.ledger_shared.proofs.Resting.{refused_rest, rest_sealed}
use Rattle.ledger_shared.proofs.Tailed.{Holds}
use Rattle.ledger_shared.proofs.Timed.{asked_goes, made_timed, refused_timed, times_push}

pub last_in : {A : Type 0} (xs : List A) (x : A) → slice_get (xs ++ x ∷ []) (length xs) ≡ Some x
last_in [] x = refl
last_in (y ∷ xs) x = last_in xs x

-- the block of a sealed transaction stands at the number that the receipt tells
pub made_there : (s now : Standing) (t : Opened) (sent : Option Hash32) (is_told : TimeParts → Type 0) (receipt : Receipt) (blocks : List Block)
    (r : core.Seals s t sent is_told receipt now) → blocks ≡ now.blocks → slice_get blocks receipt.block ≡ Some r.block
made_there s now t sent is_told receipt blocks r same =
    let number : receipt.block ≡ length s.blocks =
    ap (λ (x : Receipt). x.block) r.receipt_is ∙ ap (λ (b : Block). b.header.address.sequence) r.comes.block_is in
    ap (λ bs. slice_get bs receipt.block) (same ∙ ap (λ (x : Standing). x.blocks) r.now_is)
    ∙ ap (λ n. slice_get (s.blocks ++ r.block ∷ []) n) number ∙ last_in s.blocks r.block

module _ {S C : Type 0} (store_told : S → StoreTold) (answers : C → Option (List ℤ)) (always : C → Option ℤ) (opened tail now : TailHeld S C)
    (items more : List kept.Entry) (h : Holds store_told answers always opened tail items) (t : Opened)
    (k : IsOpen (opening_of store_told opened) (all_told tail.standing.mask items) t) (tx : TxId)
    (tx_is : tx.raw ≡ raw_id t.begun.mask t.begun.number 0) (sent : Option Hash32)
    (asked : (now ≡ tail) ⊎ ((time : TimeParts) × IsAnswer (answers tail.clock) (answers now.clock) (always tail.clock) time))
    (always_is : always now.clock ≡ always tail.clock) where
  abbrev o : Opening
  o = opening_of store_told opened

  abbrev es : List Entry
  es = all_told tail.standing.mask items

  abbrev faults : ℕ
  faults = (store_told tail.store).faults

  abbrev Told : TimeParts → Type 0
  Told = IsAnswer (answers tail.clock) (answers now.clock) (always tail.clock)

  goes : GoesOn (answers tail.clock) (answers now.clock)
  goes = asked_goes answers always tail now asked

  of_mask : t.begun.mask ≡ tail.standing.mask
  of_mask = k.mask ∙ sym h.behind.mask

  -- the clock's one answer is the one that it was
  timed_so : (list : List Entry) → HasTimes (always opened.clock) (always tail.clock) (answers opened.clock) (answers now.clock) o list
      → HasTimes (always opened.clock) (always now.clock) (answers opened.clock) (answers now.clock) o list
  timed_so list x =
      subst (λ (a : Option ℤ). HasTimes (always opened.clock) a (answers opened.clock) (answers now.clock) o list) (sym always_is) x

  -- the mask is the tail's still
  told_here : (list : List kept.Entry) → now.standing.mask ≡ tail.standing.mask → more ≡ list
      → all_told tail.standing.mask list ≡ all_told now.standing.mask more
  told_here list same is = ap (λ n. all_told n list) (sym same) ∙ ap (all_told now.standing.mask) (sym is)

  module _ (receipt : Receipt) (r : core.Seals tail.standing t sent Told receipt now.standing) (e : kept.Entry) (more_is : more ≡ items ++ e ∷ [])
      (e_is : told tail.standing.mask e ≡ sealed (transaction_in tail.standing.mask tx.raw) r.block) where
    seal_told : es ++ sealed t.begun.number r.block ∷ [] ≡ all_told now.standing.mask more
    seal_told =
        sym (seal_more tail.standing.mask items t tx tx_is of_mask e r.block e_is)
        ∙ told_here (items ++ e ∷ []) (ap (λ (x : Standing). x.mask) r.now_is) more_is

    pub seal_keeps : (store_told now.store).faults ≡ faults → Holding now.standing.blocks (held (store_told now.store))
        → IsSynced (store_told now.store) → now.marked ≡ false
        → ((b : Block) → now.standing ≡ joined tail.standing b → (tried : List Block) → IsSoundTail store_told tried tail
        → Settles store_told tail now (tried ++ b ∷ []))
        → Holds store_told answers always opened now more
    seal_keeps fine holds synced clean settles =
        let behind = sealed_behind o opened.standing tail.standing faults es t h.behind k sent Told now.standing (store_told now.store).faults receipt r fine in
        subst (λ xs. Keeps store_told answers always opened now xs) seal_told (record {
          behind = behind;
          times = timed_so (es ++ sealed t.begun.number r.block ∷ [])
              (times_push (always opened.clock) (always tail.clock) (answers opened.clock) (answers tail.clock) (answers now.clock) o es h.times goes
              (sealed t.begun.number r.block)
              (made_timed (always opened.clock) (always tail.clock) (answers opened.clock) (answers tail.clock) (answers now.clock) o es h.times goes
              tail.standing t sent h.behind.blocks r.block r.comes));
          rest = rest_sealed (held (store_told opened.store)) opened.standing.blocks (held (store_told now.store)) now.standing.blocks
              (es ++ sealed t.begun.number r.block ∷ []) holds;
          synced = λ kept unmarked. synced;
          images = images_sealed store_told o opened tail es h.images now t.begun.number r.block clean (settles r.block r.now_is)
              h.behind.blocks behind.blocks;
        })

    pub seal_adds : Extends es (all_told now.standing.mask more) (λ added. Commits o es t sent (Ok receipt) added)
    seal_adds =
        subst (λ xs. Extends es xs (λ added. Commits o es t sent (Ok receipt) added)) seal_told
        (sealed t.begun.number r.block ∷ [], refl, seals o opened.standing tail.standing faults es t h.behind k sent Told now.standing receipt r)

  module _ (f : CommitFault) (tried : Option Block) (finds : core.CommitEnds tail.standing t sent Told (Err f) now.standing)
      (tries : core.IsTried tail.standing t sent Told f tried) (told_is : core.IsCommitFault f (store_told tail.store) (store_told now.store))
      (left : Leaves tail.standing.blocks tried (held (store_told tail.store)) (held (store_told now.store)))
      (marks : (now ≡ record tail { clock = now.clock }) ⊎ (now.marked ≡ true)) (unasked : IsService f ⊎ (now ≡ tail))
      (sound : (before : List Block) → IsSoundTail store_told before tail
      → KeepsSound store_told tail now (tried_with before tried) (tried_with before tried)) where
    -- the store is as it was, or a cut is marked
    kept_by : (now ≡ record tail { clock = now.clock }) ⊎ (now.marked ≡ true) → IsKept store_told tail → IsKept store_told now
    kept_by (inl same) kept unmarked =
        let was : tail.marked ≡ false = sym (ap (λ (x : TailHeld S C). x.marked) same) ∙ unmarked in
        subst (λ (x : S). IsSynced (store_told x)) (sym (ap (λ (x : TailHeld S C). x.store) same)) (kept was)
    kept_by (inr marked) kept unmarked = let bad : ⊥ = cc (marked, unmarked) in absurd bad

    mask_kept : now.standing.mask ≡ tail.standing.mask
    mask_kept = ap (λ (x : Standing). x.mask) (not_moved tail.standing now.standing t sent Told f finds)

    abbrev added : List Entry
    added = listed (refusal_of t.begun.number f tried)

    ends : Ends o opened.standing now.standing (store_told now.store).faults es t sent f added
    ends = refused o opened.standing tail.standing faults es t h.behind k sent Told now.standing (store_told tail.store) (store_told now.store) refl
        f tried finds tries told_is

    -- the blocks are those that they were
    rest_so : HoldsRest (held (store_told opened.store)) (held (store_told now.store)) opened.standing.blocks now.standing.blocks (tried_in (es ++ added))
    rest_so =
        subst (λ (x : Standing). HoldsRest (held (store_told opened.store)) (held (store_told now.store)) opened.standing.blocks x.blocks (tried_in (es ++ added)))
        (sym (not_moved tail.standing now.standing t sent Told f finds))
        (refused_rest (held (store_told opened.store)) opened.standing.blocks (held (store_told tail.store)) (held (store_told now.store))
        tail.standing es h.rest t sent Told t.begun.number f tried tries left)

    keeps_so : Keeps store_told answers always opened now (es ++ added)
    keeps_so = record {
      behind = ends.behind;
      times = timed_so (es ++ added)
          (refused_timed (always opened.clock) (always tail.clock) (answers opened.clock) (answers tail.clock) (answers now.clock) o es h.times goes
          tail.standing t sent h.behind.blocks t.begun.number f tried tries);
      rest = rest_so;
      synced = λ kept. kept_by marks (h.synced kept);
      images = images_refused store_told o opened tail es h.images now tried sound tail.standing t sent Told t.begun.number f tries unasked
          (sym (ap (λ (x : Standing). x.blocks) (not_moved tail.standing now.standing t sent Told f finds)) ∙ ends.behind.blocks)
          ends.behind.blocks;
    }

    extends_so : Extends es (es ++ added) (λ a. Commits o es t sent (Err f) a)
    extends_so = (added, refl, ends.commits)

    module _ (e : kept.Entry) (more_is : more ≡ items ++ e ∷ [])
        (e_is : Some (told tail.standing.mask e) ≡ refusal_of (transaction_in tail.standing.mask tx.raw) f tried) where
      refuse_told : es ++ added ≡ all_told now.standing.mask more
      refuse_told =
          sym (refuse_more tail.standing.mask items t tx tx_is of_mask f tried e e_is) ∙ told_here (items ++ e ∷ []) mask_kept more_is

      pub refuse_keeps : Holds store_told answers always opened now more
      refuse_keeps = subst (λ xs. Keeps store_told answers always opened now xs) refuse_told keeps_so

      pub refuse_adds : Extends es (all_told now.standing.mask more) (λ a. Commits o es t sent (Err f) a)
      refuse_adds = subst (λ xs. Extends es xs (λ a. Commits o es t sent (Err f) a)) refuse_told extends_so

    module _ (more_is : more ≡ items) (none : None ≡ refusal_of (transaction_in tail.standing.mask tx.raw) f tried) where
      refuse_told_none : es ++ added ≡ all_told now.standing.mask more
      refuse_told_none =
          sym (refuse_none tail.standing.mask items t tx tx_is of_mask f tried none) ∙ told_here items mask_kept more_is

      pub refuse_keeps_none : Holds store_told answers always opened now more
      refuse_keeps_none = subst (λ xs. Keeps store_told answers always opened now xs) refuse_told_none keeps_so

      pub refuse_adds_none : Extends es (all_told now.standing.mask more) (λ a. Commits o es t sent (Err f) a)
      refuse_adds_none = subst (λ xs. Extends es xs (λ a. Commits o es t sent (Err f) a)) refuse_told_none extends_so
