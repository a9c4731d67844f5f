-- What stands behind the turn after a begin of the tail, with the entry that was put behind the others.
use Rattle.std.proofs.Common.{◌≡◌, ◌∙◌, ℕ, ℤ, ◌+◌, ◌<◌, ◌^◌, List, [], ◌∷◌, ◌++◌, length, refl, sym, ap, subst, inr, Ok, Err, Option}
use Rattle.ql_types.specs.Ids.{raw_id}
use Rattle.ql_types.specs.declared.Hash32.{Hash32}
use Rattle.ql_types.specs.declared.Place.{Place}
use Rattle.ql_types.specs.declared.TxId.{TxId}
use Rattle.ledger_model.specs.declared.block.Block.{Block}
use Rattle.ledger_model.specs.Damages.{Undamaged}
use Rattle.outside.specs.Told.{StoreTold, held}
use Rattle.laws_history.specs.Standings.{IsStanding}
use Rattle.laws_machine.specs.Entries.{Entry, Opening}
use Rattle.txn_core.specs.Opened.{Opened}
use Rattle.ledger_core.specs.Beginning.{IsBeginFault, begun_on, drawn}
use Rattle.ledger_core.specs.declared.begin.BeginFault.{BeginFault}
use Rattle.ledger_core.specs.declared.begin.BeginFault.TheVariants as fault
use Rattle.ledger_core.specs.declared.commit.CommitFault.TheVariants as commit
use Rattle.ledger_core.specs.Tails.{TailHeld}
use Rattle.ledger_shared.specs.declared.entry.Entry as kept
use Rattle.ledger_shared.specs.declared.entry.Entry.TheVariants.{Begun}
use Rattle.ledger_shared.specs.Behind.{IsRightFor, Keeps, opening_of}
use Rattle.ledger_shared.specs.Calls.{Begins, Commits, Extends}
use Rattle.ledger_shared.specs.Told.{all_told}
use Rattle.ledger_shared.proofs.Imaging.{images_begun, images_none}
use Rattle.ledger_shared.proofs.Kept.{begun_behind, begun_entry, begun_extends, begun_more, nothing}
use Rattle.ledger_shared.proofs.Resting.{rest_begun}
use Rattle.ledger_shared.proofs.Timed.{times_push}
use Rattle.ledger_shared.proofs.Times.{goes_same}

module _ {S C : Type 0} (store_told : S → StoreTold) (answers : C → Option (List ℤ)) (always : C → Option ℤ) (opened : TailHeld S C) where
  abbrev o : Opening
  o = opening_of store_told opened

  -- what is true of the tail behind these entries that are kept
  abbrev pub Holds : TailHeld S C → List kept.Entry → Type 0
  Holds tail items = Keeps store_told answers always opened tail (all_told tail.standing.mask items)

  -- nothing has come to the tail so far
  pub keeps_none : IsStanding opened.standing → Keeps store_told answers always opened opened []
  keeps_none stands = record {
    behind = record {
      opening = stands;
      of_mask = refl;
      of_blocks = refl;
      of_last = refl;
      run = tt;
      mask = refl;
      blocks = refl;
      last = refl;
      counts = refl;
    };
    times = record { always_is = refl; goes_on = goes_same (answers opened.clock); timed = tt };
    rest = inr (inr (refl, refl));
    synced = λ kept. kept;
    images = images_none store_told o opened;
  }

  -- the same tail and the same entries, however they are told
  pub keeps_still : (tail now : TailHeld S C) (items more : List kept.Entry) → now ≡ tail → more ≡ items → Holds tail items → Holds now more
  keeps_still tail now items more t e h = subst (λ xs. Holds now xs) (sym e) (subst (λ x. Holds x items) (sym t) h)

  pub same_told : (tail now : TailHeld S C) (items more : List kept.Entry) → now ≡ tail → more ≡ items
      → all_told tail.standing.mask items ≡ all_told now.standing.mask more
  same_told tail now items more t e =
      ap (λ (x : TailHeld S C). all_told x.standing.mask items) (sym t) ∙ ap (all_told now.standing.mask) (sym e)

  -- the entries are right behind the opening
  pub right_of : (tail : TailHeld S C) (items : List kept.Entry) → Holds tail items → IsStanding tail.standing
      → IsRightFor store_told opened (all_told tail.standing.mask items)
  right_of tail items h stands = record {
    run = h.behind.run;
    undamaged = subst (λ (bs : List Block). Undamaged bs) h.behind.blocks stands.undamaged;
  }

  -- ---- begin

  -- no number is left where none is left of the tail's
  pub begin_refused : (tail : TailHeld S C) (items : List kept.Entry) (place : Place) (f : BeginFault) → Holds tail items
      → IsBeginFault tail.standing f → Begins o (all_told tail.standing.mask items) place (Err f) []
  begin_refused tail items place (fault.IdsSpent last) h spent = (sym h.behind.last ∙ spent.0 ∙ sym spent.1, spent.1, refl)
  begin_refused tail items place fault.OutOfMemory h spent = refl

  -- no room was found for a commit's entry
  pub commit_nothing : (tail : TailHeld S C) (items more : List kept.Entry) → more ≡ items → (t : Opened) (sent : Option Hash32)
      → Extends (all_told tail.standing.mask items) (all_told tail.standing.mask more)
      (λ added. Commits o (all_told tail.standing.mask items) t sent (Err commit.OutOfMemory) added)
  commit_nothing tail items more e t sent =
      subst (λ xs. Extends (all_told tail.standing.mask items) xs (λ added. Commits o (all_told tail.standing.mask items) t sent (Err commit.OutOfMemory) added))
      (same_told tail tail items more refl e)
      (nothing (all_told tail.standing.mask items) (λ added. Commits o (all_told tail.standing.mask items) t sent (Err commit.OutOfMemory) added) tt)

  -- none has begun
  pub begin_nothing : (tail now : TailHeld S C) (items more : List kept.Entry) → now ≡ tail → more ≡ items → (place : Place) (f : BeginFault)
      → Begins o (all_told tail.standing.mask items) place (Err f) []
      → Extends (all_told tail.standing.mask items) (all_told now.standing.mask more)
      (λ added. Begins o (all_told tail.standing.mask items) place (Err f) added)
  begin_nothing tail now items more t e place f none =
      subst (λ xs. Extends (all_told tail.standing.mask items) xs (λ added. Begins o (all_told tail.standing.mask items) place (Err f) added))
      (same_told tail now items more t e)
      (nothing (all_told tail.standing.mask items) (λ added. Begins o (all_told tail.standing.mask items) place (Err f) added) none)

  module _ (tail now : TailHeld S C) (items more : List kept.Entry) (h : Holds tail items) (place : Place) (t : Opened) (tx : TxId) (since : ℕ)
      (now_is : now ≡ record tail { standing = drawn tail.standing }) (more_is : more ≡ items ++ Begun place tx since ∷ [])
      (t_is : t ≡ begun_on tail.standing place) (tx_is : tx.raw ≡ raw_id t.begun.mask t.begun.number 0) (since_is : since ≡ t.since)
      (counted : tail.standing.last + 1 < 2 ^ 64) where
    abbrev es : List Entry
    es = all_told tail.standing.mask items

    abbrev entry : Entry
    entry = begun_entry o opened.standing tail.standing (store_told tail.store).faults items h.behind place t tx since t_is tx_is since_is counted

    -- so the entries are told
    told_is : es ++ entry ∷ [] ≡ all_told now.standing.mask more
    told_is =
        sym (begun_more o opened.standing tail.standing (store_told tail.store).faults items h.behind place t tx since t_is tx_is since_is counted)
        ∙ ap (λ (x : TailHeld S C). all_told x.standing.mask (items ++ Begun place tx since ∷ [])) (sym now_is)
        ∙ ap (all_told now.standing.mask) (sym more_is)

    keeps_more : Keeps store_told answers always opened (record tail { standing = drawn tail.standing }) (es ++ entry ∷ [])
    keeps_more = record {
      behind = begun_behind o opened.standing tail.standing (store_told tail.store).faults items h.behind place t tx since t_is tx_is since_is counted;
      times = times_push (always opened.clock) (always tail.clock) (answers opened.clock) (answers tail.clock) (answers tail.clock) o es h.times
          (goes_same (answers tail.clock)) entry tt;
      rest = rest_begun (held (store_told opened.store)) opened.standing.blocks (held (store_told tail.store)) tail.standing.blocks es place
          (tail.standing.last + 1) (length tail.standing.blocks) h.rest;
      synced = h.synced;
      images = images_begun store_told o opened tail es h.images (drawn tail.standing) refl place (tail.standing.last + 1) (length tail.standing.blocks);
    }

    pub begin_keeps : Holds now more
    begin_keeps =
        subst (λ xs. Keeps store_told answers always opened now xs) told_is
        (subst (λ (x : TailHeld S C). Keeps store_told answers always opened x (es ++ entry ∷ [])) (sym now_is) keeps_more)

    pub begin_extends : Extends es (all_told now.standing.mask more) (λ added. Begins o es place (Ok t) added)
    begin_extends =
        subst (λ xs. Extends es xs (λ added. Begins o es place (Ok t) added)) told_is
        (begun_extends o opened.standing tail.standing (store_told tail.store).faults items h.behind place t tx since t_is tx_is since_is counted)
