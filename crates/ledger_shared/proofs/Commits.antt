-- A commit behind the turn: the entry that it adds may come, and the tail stands behind it.
use Rattle.std.proofs.Common.{◌≡◌, ℕ, ◌<◌, List, [], ◌∷◌, ◌++◌, append-nil, refl, sym, ap, ◌∙◌, subst, arith, Option, Some, None, length, Err}
use Rattle.ion_values.specs.declared.time.TimeParts.{TimeParts}
use Rattle.ql_types.specs.declared.Hash32.{Hash32}
use Rattle.ledger_model.specs.declared.block.Block.{Block}
use Rattle.ledger_model.specs.declared.script.Request.{Request}
use Rattle.ledger_model.specs.Making.{IsMadeOf}
use Rattle.laws_footprint.specs.Touches.{conflict}
use Rattle.laws_history.specs.Standings.{Standing}
use Rattle.outside.specs.Told.{StoreTold}
use Rattle.laws_machine.specs.Entries.{Entry, MayMake, Opening, failed, reach_at, sealed, wanted}
use Rattle.laws_history.specs.Attempts.{begun_as}
use Rattle.laws_history.specs.Seen.{blocks_in, reach}
use Rattle.laws_history.proofs.Reaches.{reached_mask}
use Rattle.txn_core.specs.Opened.{Opened}
use Rattle.ledger_core.specs.declared.appending.Receipt.{Receipt}
use Rattle.ledger_core.specs.declared.commit.CommitFault.{CommitFault}
use Rattle.ledger_core.specs.declared.commit.CommitFault.TheVariants.{Conflict, DigestDiffers, EndedTxn, JournalFull, OutOfMemory, StoreFault}
use Rattle.ledger_core.specs.Committing.{ComesTo, CommitEnds, IsCommitFault, IsTried}
use Rattle.ledger_core.specs.Committing as core
use Rattle.ledger_shared.specs.Behind.{IsBehind}
use Rattle.ledger_shared.specs.Calls.{Commits, IsOpen, Makes, Seals, refusal_of}
use Rattle.ledger_shared.proofs.Behind.{behind_push, behind_same}
use Rattle.ledger_shared.proofs.Numbers.{may_use}

abbrev pub listed : Option Entry → List Entry
listed None = []
listed (Some e) = e ∷ []

-- the tail stands behind the entry that is added, if there is one, and this is a commit of the transaction
pub record Ends (o : Opening) (opened now : Standing) (later : ℕ) (es : List Entry) (t : Opened) (sent : Option Hash32) (fault : CommitFault)
    (added : List Entry) : Type 0 where
  pub behind : IsBehind o opened now later (es ++ added)
  pub commits : Commits o es t sent (Err fault) added

-- a commit that is refused leaves the blocks as they were
pub not_moved : (s now : Standing) (t : Opened) (sent : Option Hash32) (is_told : TimeParts → Type 0) (f : CommitFault)
    → CommitEnds s t sent is_told (Err f) now → now ≡ s
not_moved s now t sent is_told EndedTxn h = h.1
not_moved s now t sent is_told (DigestDiffers mine given) h = h.1
not_moved s now t sent is_told (Conflict since named) h = h.1
not_moved s now t sent is_told (JournalFull blocks) h = h.1
not_moved s now t sent is_told (StoreFault count) h = h.now_is
not_moved s now t sent is_told OutOfMemory h = h.1

module _ (o : Opening) (opened s : Standing) (count : ℕ) (es : List Entry) (t : Opened) (h : IsBehind o opened s count es) (k : IsOpen o es t) where
  begun_is : t.begun ≡ begun_as o t.begun.number
  begun_is = λ i. record { mask = k.mask i; number = t.begun.number }

  -- the transaction's block behind the tail's blocks is its block behind those of the entries
  here : (time : TimeParts) (asked : List Request) (b : Block) → IsMadeOf t.begun s.blocks t.place time asked b
      → IsMadeOf (begun_as o t.begun.number) (blocks_in o es) t.place time asked b
  here time asked b m =
      subst (λ begun. IsMadeOf begun (blocks_in o es) t.place time asked b) begun_is
      (subst (λ bs. IsMadeOf t.begun bs t.place time asked b) h.blocks m)

  may_make : (time : TimeParts) (b : Block) → IsMadeOf (begun_as o t.begun.number) (blocks_in o es) t.place time k.asked b
      → MayMake (reach o es) t.begun.number b
  may_make time b m = record {
    place = t.place;
    unused = may_use (reach_at o) es k.at t.begun.number t.since t.place k.opened k.unused;
    time = time;
    asked = k.asked;
    made = subst (λ n. IsMadeOf (record { mask = n; number = t.begun.number }) (blocks_in o es) t.place time k.asked b)
        (sym (reached_mask (reach_at o) es)) m;
  }

  pub makes : (sent : Option Hash32) (is_told : TimeParts → Type 0) (b : Block) → ComesTo s t sent is_told b → Makes o es t sent b
  makes sent is_told b r = record {
    ready = record { goes_on = r.checks.goes_on; digest_is = r.checks.digest_is };
    untouched = ap (λ bs. conflict bs t.since t.done.footprint) (sym h.blocks) ∙ r.checks.free;
    room = let low = r.checks.room in let is = ap length h.blocks in omega (arith, low, is);
    time = r.time;
    made = λ asked runs. here r.time asked b (r.made asked runs);
  }

  may_try : (sent : Option Hash32) (is_told : TimeParts → Type 0) (b : Block) → ComesTo s t sent is_told b
      → MayMake (reach o es) t.begun.number b
  may_try sent is_told b r = may_make r.time b (here r.time k.asked b (r.made k.asked k.runs))

  -- it stands where it stood
  module _ (now : Standing) (same : now ≡ s) where
    mask_on : now.mask ≡ (reach o es).mask
    mask_on = ap (λ (x : Standing). x.mask) same ∙ h.mask ∙ sym (reached_mask (reach_at o) es)

    blocks_on : now.blocks ≡ (reach o es).blocks
    blocks_on = ap (λ (x : Standing). x.blocks) same ∙ h.blocks

    last_on : now.last ≡ (reach o es).last
    last_on = ap (λ (x : Standing). x.last) same ∙ h.last

  module _ (sent : Option Hash32) (is_told : TimeParts → Type 0) (now : Standing) where
    -- ---- a block is sealed

    pub sealed_behind : (later : ℕ) (receipt : Receipt) (r : core.Seals s t sent is_told receipt now) → later ≡ count
        → IsBehind o opened now later (es ++ sealed t.begun.number r.block ∷ [])
    sealed_behind later receipt r fine =
        behind_push o opened s now count later es (sealed t.begun.number r.block) h (may_try sent is_told r.block r.comes)
        (record {
          mask = ap (λ (x : Standing). x.mask) r.now_is ∙ h.mask ∙ sym (reached_mask (reach_at o) es);
          blocks = ap (λ (x : Standing). x.blocks) r.now_is ∙ ap (λ bs. bs ++ r.block ∷ []) h.blocks;
          last = ap (λ (x : Standing). x.last) r.now_is ∙ h.last;
          counts = h.counts ∙ sym fine;
        })

    pub seals : (receipt : Receipt) (r : core.Seals s t sent is_told receipt now)
        → Seals o es t sent receipt (sealed t.begun.number r.block ∷ [])
    seals receipt r = record {
      block = r.block;
      makes = makes sent is_told r.block r.comes;
      receipt_is = r.receipt_is;
      adds = refl;
    }

    -- ---- a commit is refused

    no_entry : (later : ℕ) → now ≡ s → later ≡ count → IsBehind o opened now later (es ++ [])
    no_entry later same fine =
        subst (λ xs. IsBehind o opened now later xs) (sym (append-nil es)) (behind_same o opened s now count later es h same fine)

    module _ (before after : StoreTold) (is : before.faults ≡ count) where
      pub refused : (f : CommitFault) (tried : Option Block) → CommitEnds s t sent is_told (Err f) now → IsTried s t sent is_told f tried
          → IsCommitFault f before after → Ends o opened now after.faults es t sent f (listed (refusal_of t.begun.number f tried))
      refused EndedTxn None ends tries told = record {
        behind = no_entry after.faults ends.1 (told ∙ is);
        commits = (ends.0, refl);
      }
      refused EndedTxn (Some b) ends tries told = absurd tries
      refused (DigestDiffers mine given) None ends tries told =
          let found = ends.0 in
          record {
            behind = no_entry after.faults ends.1 (told ∙ is);
            commits = (found.0, found.1, found.2, found.3, refl);
          }
      refused (DigestDiffers mine given) (Some b) ends tries told = absurd tries
      refused (Conflict since named) None ends tries told =
          let found = ends.0 in
          record {
            behind = no_entry after.faults ends.1 (told ∙ is);
            commits = (
              record { goes_on = found.0; digest_is = found.1 },
              found.2,
              ap (λ bs. conflict bs t.since t.done.footprint) (sym h.blocks) ∙ found.3,
              refl,
            );
          }
      refused (Conflict since named) (Some b) ends tries told = absurd tries
      refused (JournalFull blocks) None ends tries told =
          let found = ends.0 in
          record {
            behind = no_entry after.faults ends.1 (told ∙ is);
            commits = (
              record { goes_on = found.0; digest_is = found.1 },
              ap (λ bs. conflict bs t.since t.done.footprint) (sym h.blocks) ∙ found.2,
              ap length (sym h.blocks) ∙ found.3,
              found.4,
              refl,
            );
          }
      refused (JournalFull blocks) (Some b) ends tries told = absurd tries
      refused (StoreFault n) None ends tries told = absurd tries
      refused (StoreFault n) (Some b) ends tries told =
          let rose = told.rose in let low = h.counts in
          let above : (reach o es).count < n = omega (arith, rose, low, is) in
          record {
            behind = behind_push o opened s now count after.faults es (failed t.begun.number n b) h (may_try sent is_told b tries, above)
                (record {
                  mask = mask_on now ends.now_is;
                  blocks = blocks_on now ends.now_is;
                  last = last_on now ends.now_is;
                  counts = told.count_is;
                });
            commits = record { block = b; makes = makes sent is_told b tries; rose = above; adds = refl };
          }
      refused OutOfMemory None ends tries told = record {
        behind = behind_push o opened s now count after.faults es (wanted t.begun.number None) h
            (record { place = t.place; unused = may_use (reach_at o) es k.at t.begun.number t.since t.place k.opened k.unused })
            (record {
              mask = mask_on now ends.1;
              blocks = blocks_on now ends.1;
              last = last_on now ends.1;
              counts = h.counts ∙ sym (told ∙ is);
            });
        commits = refl;
      }
      refused OutOfMemory (Some b) ends tries told = record {
        behind = behind_push o opened s now count after.faults es (wanted t.begun.number (Some b)) h (may_try sent is_told b tries)
            (record {
              mask = mask_on now ends.1;
              blocks = blocks_on now ends.1;
              last = last_on now ends.1;
              counts = h.counts ∙ sym (told ∙ is);
            });
        commits = (refl, makes sent is_told b tries);
      }
