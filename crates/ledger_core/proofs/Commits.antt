-- How a commit ends that has passed its checks, case by case.
use Rattle.std.proofs.Common.{◌≡◌, ◌∙◌, ◌⊎◌, ℕ, ◌^◌, ◌<◌, inl, inr, true, List, Option, refl, sym, ap, subst}
use Rattle.std.specs.Prelude.{IsTrue, ℤ, Some, None, Result, Ok, Err, option_map}
use Rattle.ion_values.specs.declared.time.TimeParts.{TimeParts}
use Rattle.ion_values.specs.Time.{is_time}
use Rattle.ql_types.specs.declared.Hash32.{Hash32}
use Rattle.ledger_model.specs.declared.block.Block.{Block}
use Rattle.ledger_model.specs.Whole.{place_fits}
use Rattle.laws_validity.specs.Makes.{IsWithinAll}
use Rattle.laws_history.specs.Standings.{Standing, IsStanding}
use Rattle.outside.specs.Told.{StoreTold, held}
use Rattle.txn_core.specs.Opened.{Opened}
use Rattle.ledger_core.specs.declared.appending.Receipt.{Receipt}
use Rattle.ledger_core.specs.declared.appending.Unkept.{Unkept}
use Rattle.ledger_core.specs.declared.commit.CommitFault.{CommitFault}
use Rattle.ledger_core.specs.declared.commit.CommitFault.TheVariants.{EndedTxn, DigestDiffers, Conflict, JournalFull, StoreFault, OutOfMemory}
use Rattle.journal_keeper.specs.declared.keeping.SettleFault.{SettleFault}
use Rattle.journal_keeper.specs.declared.keeping.SettleFault.TheVariants as settle
use Rattle.ledger_core.specs.NextBlock.{next_block, receipt_of}
use Rattle.ledger_core.specs.Committing.{CommitEnds, ComesTo, IsAnswer, IsCommitFault, IsFound, IsOpenOn, IsService, IsTried, MayHoldPartOf, PassesChecks, Seals, fault_of}
use Rattle.journal_keeper.specs.Calls.{CallsAtMost}
use Rattle.journal_keeper.specs.Faults.{IsSettleFault}
use Rattle.journal_keeper.proofs.Calls.{no_call}
use Rattle.ledger_core.specs.Faults.{IsTriedWith}
use Rattle.ledger_core.specs.Images.{CommitKeeps}
use Rattle.ledger_core.specs.Leaving.{AppendLeaves, CommitLeaves, HadCome}
use Rattle.ledger_core.specs.Tails.{Leaves, MayHoldPart, TailHeld, joined}
use Rattle.ledger_core.proofs.Imaging.{asked_kept, asked_unkept, refused_images}
use Rattle.ledger_core.proofs.Openings.{joined_open, open_made, open_stands, open_undamaged}

-- what is known of a transaction that has passed the checks
pub record IsReady (s : Standing) (t : Opened) (sent : Option Hash32) : Type 0 where
  pub stands : IsStanding s
  pub opened : IsOpenOn s t
  pub mask : s.mask < 2 ^ 128
  pub placed : IsTrue (place_fits t.place)
  pub ranges : IsWithinAll t.done
  pub checks : PassesChecks s t sent

pub ready : (s : Standing) (t : Opened) (sent : Option Hash32) → IsStanding s → IsOpenOn s t → s.mask < 2 ^ 128
    → IsTrue (place_fits t.place) → IsWithinAll t.done → PassesChecks s t sent → IsReady s t sent
ready s t sent stands opened mask placed ranges checks = record {
  stands = stands;
  opened = opened;
  mask = mask;
  placed = placed;
  ranges = ranges;
  checks = checks;
}

comes_to : (s : Standing) (t : Opened) (sent : Option Hash32) (told : TimeParts → Type 0) (time : TimeParts) (n : List Block) → IsReady s t sent
    → IsTrue (is_time time) → told time → n ≡ s.blocks → ComesTo s t sent told (next_block t n time)
comes_to s t sent told time n r timed is_told same =
    subst (λ (bs : List Block). ComesTo s t sent told (next_block t bs time)) (sym same)
    (record {
      checks = r.checks;
      time = time;
      is_told = is_told;
      block_is = refl;
      made = open_made s t time r.stands r.opened r.mask timed r.placed r.ranges r.checks.free r.checks.room;
      undamaged = open_undamaged s t time r.stands r.opened r.mask timed r.placed r.ranges r.checks.free r.checks.room;
    })

-- ---- a fault of memory or of the store

service : (fault : SettleFault) → IsService (fault_of fault)
service (settle.StoreFault count) = tt
service settle.OutOfMemory = tt

commit_fault : (fault : SettleFault) (before after : StoreTold) → IsSettleFault fault before after → IsCommitFault (fault_of fault) before after
commit_fault (settle.StoreFault count) before after is = is
commit_fault settle.OutOfMemory before after is = is

-- ---- a commit that is refused by a check

module _ {S C : Type 0} (told : S → StoreTold) (answers : C → Option (List ℤ)) (always : C → Option ℤ) (h : TailHeld S C) (t : Opened) (sent : Option Hash32) where
  as_it_was : (fault : CommitFault) → CommitEnds h.standing t sent (IsAnswer (answers h.clock) (answers h.clock) (always h.clock)) (Err fault) h.standing
      → IsCommitFault fault (told h.store) (told h.store) → HadCome told answers always h h t sent (Err fault) None
      → CommitLeaves told answers always h h t sent (Err fault)
  as_it_was fault ends same had = record {
    ends = ends;
    unasked = inr refl;
    marked = inl refl;
    asked = inl refl;
    always_is = refl;
    holds = tt;
    synced = tt;
    part = inl refl;
    calls = no_call 4 _ _ refl;
    fine = tt;
    fault = same;
    images = record { came = None; had_come = had; keeps = refused_images Receipt told h fault };
  }

  -- it leaves all as it was
  pub refused_leaves : (fault : CommitFault) → IsFound h.standing t sent fault → CommitLeaves told answers always h h t sent (Err fault)
  refused_leaves EndedTxn is = as_it_was EndedTxn (is, refl) refl tt
  refused_leaves (DigestDiffers mine given) is = as_it_was (DigestDiffers mine given) (is, refl) refl tt
  refused_leaves (Conflict since named) is = as_it_was (Conflict since named) (is, refl) refl tt
  refused_leaves (JournalFull blocks) is = as_it_was (JournalFull blocks) (is, refl) refl tt
  refused_leaves (StoreFault count) is = absurd is
  refused_leaves OutOfMemory is = as_it_was OutOfMemory (is, refl) refl tt

-- ---- a commit that passes its checks

-- the tail before, once the clock was asked, and once the block was to be put behind the others
module _ {S C : Type 0} (told : S → StoreTold) (answers : C → Option (List ℤ)) (always : C → Option ℤ) (h n m : TailHeld S C) (clock : C) (t : Opened)
    (sent : Option Hash32) (time : TimeParts) (r : IsReady h.standing t sent) (e : n ≡ record h { clock = clock }) where
  same : n.standing ≡ h.standing
  same = ap (λ (x : TailHeld S C). x.standing) e

  put_calls : CallsAtMost 4 (told n.store).content (told m.store).content → CallsAtMost 4 (told h.store).content (told m.store).content
  put_calls calls = subst (λ (x : TailHeld S C). CallsAtMost 4 (told x.store).content (told m.store).content) e calls

  pub put_kept : (F : Type 0) (receipt : Receipt) (came other : Option Block) → CommitKeeps told {R = Receipt} {F = Unkept} (Ok receipt) came n m
      → CommitKeeps told {R = Receipt} {F = F} (Ok receipt) other h m
  put_kept F receipt came other k =
      asked_kept told h m clock Unkept F receipt came other
      (subst (λ (x : TailHeld S C). CommitKeeps told {R = Receipt} {F = Unkept} (Ok receipt) came x m) e k)

  pub put_unkept : {F : Type 0} (u : Unkept) (f : F) (came : Option Block) → CommitKeeps told {R = Receipt} {F = Unkept} (Err u) came n m
      → CommitKeeps told {R = Receipt} {F = F} (Err f) came h m
  put_unkept {F} u f came k =
      asked_unkept told h m clock Receipt Receipt u f came
      (subst (λ (x : TailHeld S C). CommitKeeps told {R = Receipt} {F = Unkept} (Err u) came x m) e k)

  pub put_left : (came : Option Block) → Leaves n.standing.blocks came (held (told n.store)) (held (told m.store))
      → Leaves h.standing.blocks came (held (told h.store)) (held (told m.store))
  put_left came left = subst (λ (x : TailHeld S C). Leaves x.standing.blocks came (held (told x.store)) (held (told m.store))) e left

  module _ (answer : IsAnswer (answers h.clock) (answers n.clock) (always h.clock) time) where
    pub put_stands : IsStanding (joined n.standing (next_block t n.standing.blocks time))
    put_stands =
        subst (λ (x : Standing). IsStanding (joined x (next_block t x.blocks time))) (sym same)
        (open_stands h.standing t time r.stands r.opened r.mask answer.begins.is_time r.placed r.ranges r.checks.free r.checks.room)

    module _ (clocks : m.clock ≡ n.clock) where
      abbrev Told : TimeParts → Type 0
      Told = IsAnswer (answers h.clock) (answers m.clock) (always h.clock)

      is_told : Told time
      is_told = subst (λ (x : C). IsAnswer (answers h.clock) (answers x) (always h.clock) time) (sym clocks) answer

      comes : ComesTo h.standing t sent Told (next_block t n.standing.blocks time)
      comes = comes_to h.standing t sent Told time n.standing.blocks r answer.begins.is_time is_told (ap (λ (x : Standing). x.blocks) same)

      put_seals : (receipt : Receipt) → receipt ≡ receipt_of (next_block t n.standing.blocks time)
          → m.standing ≡ joined n.standing (next_block t n.standing.blocks time) → Seals h.standing t sent Told receipt m.standing
      put_seals receipt is now = record {
        block = next_block t n.standing.blocks time;
        comes = comes;
        receipt_is = is;
        now_is = now ∙ ap (λ (x : Standing). joined x (next_block t n.standing.blocks time)) same;
      }

      put_faulted : (fault : SettleFault) → m.standing ≡ n.standing → CommitEnds h.standing t sent Told (Err (fault_of fault)) m.standing
      put_faulted (settle.StoreFault count) kept = record { block = next_block t n.standing.blocks time; comes = comes; now_is = kept ∙ same }
      put_faulted settle.OutOfMemory kept = (r.checks.goes_on, kept ∙ same)

      pub put_tried : (fault : SettleFault) (tried : Option Block) → IsTriedWith (next_block t n.standing.blocks time) fault tried
          → IsTried h.standing t sent Told (fault_of fault) tried
      put_tried (settle.StoreFault count) None is = absurd is
      put_tried (settle.StoreFault count) (Some b) is = subst (λ (x : Block). ComesTo h.standing t sent Told x) (sym is) comes
      put_tried settle.OutOfMemory None is = tt
      put_tried settle.OutOfMemory (Some b) is = subst (λ (x : Block). ComesTo h.standing t sent Told x) (sym is) comes

      put_part : MayHoldPart n.standing.blocks (next_block t n.standing.blocks time) (held (told n.store)) (held (told m.store))
          → MayHoldPartOf h.standing t sent Told (held (told h.store)) (held (told m.store))
      put_part part =
          inr (
            next_block t n.standing.blocks time,
            comes,
            subst (λ (bs : List Block). MayHoldPart bs (next_block t n.standing.blocks time) (held (told h.store)) (held (told m.store)))
                (ap (λ (x : Standing). x.blocks) same)
                (subst (λ (b : Option (List ℕ)). MayHoldPart n.standing.blocks (next_block t n.standing.blocks time) b (held (told m.store)))
                (ap (λ (x : TailHeld S C). held (told x.store)) e) part),
          )

      marked_now : {P : Type 0} → (P × (m ≡ n)) ⊎ (m.marked ≡ true) → (m ≡ record h { clock = m.clock }) ⊎ (m.marked ≡ true)
      marked_now (inl kept) =
          let is : m ≡ record h { clock = clock } = kept.1 ∙ e in
          inl (is ∙ ap (λ (c : C). record h { clock = c }) (sym (ap (λ (x : TailHeld S C). x.clock) is)))
      marked_now (inr marked) = inr marked

      module _ (ever : always n.clock ≡ always h.clock) where
        -- the block is sealed
        pub sealed_leaves : (receipt : Receipt) → receipt ≡ receipt_of (next_block t n.standing.blocks time)
            → AppendLeaves told {R = Receipt} n m (next_block t n.standing.blocks time) (Ok receipt) → CommitLeaves told answers always h m t sent (Ok receipt)
        sealed_leaves receipt is l = record {
          ends = put_seals receipt is l.standing;
          unasked = tt;
          marked = tt;
          asked = inr (time, is_told);
          always_is = ap always clocks ∙ ever;
          holds = l.holds;
          synced = l.synced;
          part = tt;
          calls = put_calls l.calls;
          fine = l.fine ∙ ap (λ (x : TailHeld S C). (told x.store).faults) e;
          fault = tt;
          images = record { came = None; had_come = tt; keeps = put_kept CommitFault receipt None None l.images };
        }

        -- memory ran out, or the store failed
        pub unkept_leaves : (u : Unkept) → AppendLeaves told {R = Receipt} n m (next_block t n.standing.blocks time) (Err u)
            → CommitLeaves told answers always h m t sent (Err (fault_of u.fault))
        unkept_leaves u l = record {
          ends = put_faulted u.fault l.same;
          unasked = inl (service u.fault);
          marked = marked_now l.marked;
          asked = inr (time, is_told);
          always_is = ap always clocks ∙ ever;
          holds = tt;
          synced = tt;
          part = put_part l.part;
          calls = put_calls l.calls;
          fine = tt;
          fault = commit_fault u.fault (told h.store) (told m.store) (subst (λ (x : TailHeld S C). IsSettleFault u.fault (told x.store) (told m.store)) e l.fault);
          images = record { came = option_map (λ b. b.value) u.tried; had_come = put_tried u.fault (option_map (λ b. b.value) u.tried) l.tried; keeps = put_unkept u (fault_of u.fault) (option_map (λ b. b.value) u.tried) l.images };
        }

-- ---- other transactions

module _ (s now : Standing) (t other : Opened) (sent : Option Hash32) (told : TimeParts → Type 0) (masks : t.begun.mask ≡ s.mask)
    (differ : other.begun.number ≡ t.begun.number → ⊥) (o : IsOpenOn s other) where
  as_before : now ≡ s → IsOpenOn now other
  as_before e = subst (λ (x : Standing). IsOpenOn x other) (sym e) o

  -- they stay open, whatever is answered
  pub still_open : (answer : Result Receipt CommitFault) → CommitEnds s t sent told answer now → IsOpenOn now other
  still_open (Ok receipt) c =
      subst (λ (x : Standing). IsOpenOn x other) (sym c.now_is)
      (subst (λ (b : Block). IsOpenOn (joined s b) other) (sym c.comes.block_is) (joined_open s t other c.comes.time masks differ o))
  still_open (Err EndedTxn) c = as_before c.1
  still_open (Err (DigestDiffers mine given)) c = as_before c.1
  still_open (Err (Conflict since named)) c = as_before c.1
  still_open (Err (JournalFull blocks)) c = as_before c.1
  still_open (Err (StoreFault count)) c = as_before c.now_is
  still_open (Err OutOfMemory) c = as_before c.1
