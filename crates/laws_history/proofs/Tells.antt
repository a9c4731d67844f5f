-- What one attempt at a job's transaction tells of the whole history.
use Rattle.std.proofs.Common.{◌≡◌, ℕ, ◌+◌, ◌-◌, ◌^◌, ◌<◌, ◌≤◌, Bool, true, false, List, [], ◌∷◌, ◌++◌, length, length-append, take, slice_get, Option, None, Some, IfSome, sym, refl, ap, ◌∙◌, subst, inl, inr, arith}
use Rattle.std.specs.List.{AllByRecursion}
use mathlib.Core.List.{IsPrefix}
use Rattle.ql_types.specs.Ids.{raw_id}
use Rattle.ql_types.specs.declared.Hash32.{Hash32}
use Rattle.ql_types.specs.declared.Place.{Place}
use Rattle.ql_types.specs.declared.TxId.{TxId}
use Rattle.ledger_model.specs.declared.block.Block.{Block}
use Rattle.ledger_model.specs.declared.outcome.Named.{Named}
use Rattle.ledger_model.specs.declared.outcome.Outcome.{Outcome}
use Rattle.ledger_model.specs.declared.outcome.Outcome.TheVariants.{Committed, Conflict, Refused, DigestDiffers, StoreFault, JournalFull, IdsSpent, Aborted, Denied, OutOfMemory}
use Rattle.ledger_model.specs.declared.outcome.Refusal.{Refusal}
use Rattle.ledger_model.specs.declared.script.Denial.{Denial}
use Rattle.ledger_model.specs.Journal.{said_in}
use Rattle.ledger_model.specs.Legal.{asked_in}
use Rattle.ledger_model.specs.Making.{IsMadeOf, block_of}
use Rattle.ledger_model.specs.Run.{run}
use Rattle.ledger_model.specs.State.{state}
use Rattle.ledger_model.specs.Script.{Placed}
use Rattle.ledger_model.proofs.SaidLemmas.{said_of_run}
use Rattle.laws_footprint.specs.Conflicts.{IsFirst}
use Rattle.laws_footprint.specs.Touches.{conflict}
use Rattle.session_driver.specs.Retries.{is_conflict}
use Rattle.turn_lock.specs.declared.view.Known.{Known}
use Rattle.turn_lock.proofs.Lists.{prefix_get, prefix_trans}
use Rattle.laws_history.specs.Records.{RunRecord, CameToCommit, HasNoBlock, HasNumber, IsAborted, IsCommitted, IsDenied, IsFresh, IsJournalFull, IsOfJob, IsRefused, IsStoreFault, IsUntouched, attempts, greatest, ran_on, stood_before, told_count, told_id}
use Rattle.laws_history.proofs.Lists.{slice_get_seam, prefix_front, prefix_take}
use Rattle.laws_machine.specs.Entries.{Entry, Opening, Reach, begun_at, failed, reach_at, sealed, wanted}
use Rattle.laws_history.specs.Seen.{IsRight, blocks_in, reach}
use Rattle.laws_history.specs.Alone.{is_spent}
use Rattle.laws_history.specs.Attempts.{Adds, Attempted, Begins, Readies, SendsOwn, begun_as, ran_in}
use Rattle.laws_history.specs.Attempts as attempt
use Rattle.laws_history.specs.Claims.{Holds, RunsPast, stood_behind}
use Rattle.laws_history.specs.Claims as claim
use Rattle.laws_history.specs.Runs.{opening_of}
use Rattle.laws_history.proofs.Grown.{conflict_on, found_first, full_same, stays_full}
use Rattle.laws_history.proofs.Makes.{IsCommittedAs, IsTriedAs, Makes, Says, adds_later, adds_within, is_committed, makes_both, makes_none, makes_seen, makes_still, makes_two}
use Rattle.laws_history.proofs.Reaches.{blocks_on, blocks_sealed, comes_behind, counts_on, fewer_blocks, lasts_on, may_come, run_prefix}

-- ---- a number that is told, and a count

-- the id is that of a transaction which began at the place, between what had been seen before and behind
pub record IsNumbered (o : Opening) (place : Place) (from until : List Entry) (raw : ℕ) : Type 0 where
  pub number : ℕ
  pub id : raw ≡ raw_id o.mask number 0
  pub since : ℕ
  pub front : List Entry
  pub behind : IsPrefix from front
  pub within : IsPrefix (front ++ begun_at place number since ∷ []) until

-- the store failed so often at a transaction which began at the place
pub record IsFailed (o : Opening) (place : Place) (until : List Entry) (count : ℕ) : Type 0 where
  pub number : ℕ
  pub block : Block
  pub front : List Entry
  pub within : IsPrefix (front ++ failed number count block ∷ []) until
  pub since : ℕ
  pub start : List Entry
  pub begun : IsPrefix (start ++ begun_at place number since ∷ []) until

-- one more if the outcome says that an attempt drew no number
abbrev pub spare : Outcome → ℕ
spare (IdsSpent last) = 1
spare (Denied statement action table rule) = 1
spare other = 0

-- how many numbers an attempt draws at most
abbrev pub draws : Outcome → ℕ
draws (IdsSpent last) = 0
draws (Denied statement action table rule) = 0
draws other = 1

begun_numbered : (o : Opening) (place : Place) (k now : Known Entry) (tx : TxId) (b : Begins o place k tx)
    → IsPrefix b.now.seen now.seen → IsNumbered o place k.seen now.seen tx.raw
begun_numbered o place k now tx b p = record {
  number = b.number;
  id = b.id;
  since = b.since;
  front = b.adds.front;
  behind = b.adds.later;
  within = prefix_trans (b.adds.front ++ begun_at place b.number b.since ∷ []) b.now.seen now.seen
      (adds_within k (begun_at place b.number b.since) b.now b.adds) p;
}

not_so : {A : Type 0} → false ≡ true → A
not_so e = let bad : ⊥ = cc e in absurd bad

-- ---- the attempt's facts

-- what holds of an attempt of the job with this outcome, whatever came else
pub record IsTold (o : Opening) (p : Placed) (x : Outcome) (k now : Known Entry) : Type 0 where
  pub makes : Makes o p x k now (draws x)
  pub numbers : AllByRecursion (IsNumbered o p.place k.seen now.seen) (told_id x)
  pub counts : AllByRecursion (IsFailed o p.place now.seen) (told_count x)
  pub starts : IfSome (stood_before x) (λ n. length (blocks_in o k.seen) ≤ n)
  pub ends : IfSome (stood_behind x) (λ n. n ≤ length (blocks_in o now.seen))
  pub spends : is_spent x ≡ true → (reach o now.seen).last ≡ 2 ^ 64 - 1

module _ (t : RunRecord) (es : List Entry) (right : IsRight (opening_of t) es)
    (after : t.after ≡ blocks_in (opening_of t) es)
    (closed : t.closed ≡ (reach (opening_of t) es).count) (p : Placed) (k : Known Entry) where
  abbrev o : Opening
  o = opening_of t

  -- ---- where the transaction began

  module _ (tx : TxId) (b : Begins o p.place k tx) (inside : IsPrefix b.now.seen es) where
    abbrev begun : Entry
    begun = begun_at p.place b.number b.since

    there : IsPrefix (b.adds.front ++ begun ∷ []) es
    there = prefix_trans (b.adds.front ++ begun ∷ []) b.now.seen es (adds_within k begun b.now b.adds) inside

    fronts : IsPrefix b.adds.front es
    fronts = prefix_front b.adds.front begun es there

    pub since_is : b.since ≡ length (blocks_in o b.adds.front)
    since_is = (may_come (reach_at o) b.adds.front begun es there right.run).1

    starts_late : length (blocks_in o k.seen) ≤ b.since
    starts_late =
        let low = fewer_blocks (reach_at o) k.seen b.adds.front b.adds.later in
        omega (arith, low, since_is)

    pub starts_at : (since : ℕ) → since ≡ b.since → length (blocks_in o k.seen) ≤ since
    starts_at since same = omega (arith, starts_late, same)

    pub ends_at : (now : Known Entry) → IsPrefix b.now.seen now.seen → (since : ℕ) → since ≡ b.since
        → since ≤ length (blocks_in o now.seen)
    ends_at now later since same =
        let low = fewer_blocks (reach_at o) b.adds.front now.seen
        (prefix_front b.adds.front begun now.seen
        (prefix_trans (b.adds.front ++ begun ∷ []) b.now.seen now.seen (adds_within k begun b.now b.adds) later)) in
        omega (arith, low, same, since_is)

    numbered : (reach o es).last ≤ greatest t.mask t.before + attempts t.jobs → HasNumber t tx b.number
    numbered bound =
        let next : b.number ≡ (reach o b.adds.front).last + 1 =
        (may_come (reach_at o) b.adds.front begun es there right.run).0 in
        let first : greatest t.mask t.before ≤ (reach o b.adds.front).last = lasts_on (reach_at o) [] b.adds.front
        (b.adds.front, refl)
        (run_prefix (reach_at o) b.adds.front es fronts right.run) in
        let most = lasts_on (reach_at o) (b.adds.front ++ begun ∷ []) es there right.run in
        let own : (reach o (b.adds.front ++ begun ∷ [])).last ≡ b.number =
        ap (λ (x : Reach). x.last) (comes_behind (reach_at o) b.adds.front begun) in
        record {
          id = b.id;
          above = omega (arith, first, next);
          within = omega (arith, most, own, bound);
          counted = b.counted;
        }

    fresh : (since : ℕ) → since ≡ b.since → IsFresh t since
    fresh since same =
        let low : length t.before ≤ length (blocks_in o b.adds.front) =
        fewer_blocks (reach_at o) [] b.adds.front (b.adds.front, refl) in
        let high = fewer_blocks (reach_at o) b.adds.front es fronts in
        let all : length t.after ≡ length (blocks_in o es) = ap length after in
        record {
          from_before = omega (arith, low, same, since_is);
          not_past = omega (arith, high, same, since_is, all);
        }

    ran_same : (since : ℕ) → since ≡ b.since → ran_on t p b.number since ≡ ran_in o b.adds.front b.number p.job
    ran_same since same =
        ap (λ (bs : List Block). run (begun_as o b.number) (state bs) p.job.statements)
        ((λ i. take ((same ∙ since_is) i) (after i))
        ∙ prefix_take (blocks_in o b.adds.front) (blocks_in o es) (blocks_on (reach_at o) b.adds.front es fronts))

  module _ (now : Known Entry) (inside : IsPrefix now.seen es) where
    -- what is known where the transaction has begun, and other entries perhaps came
    module _ (tx : TxId) (b : Begins o p.place k tx) (later : IsPrefix b.now.seen now.seen) where
      begun_inside : IsPrefix b.now.seen es
      begun_inside = prefix_trans b.now.seen now.seen es later inside

      one_number : AllByRecursion (IsNumbered o p.place k.seen now.seen) (tx.raw ∷ [])
      one_number = (begun_numbered o p.place k now tx b later, tt)

      at_since : (since : ℕ) → since ≡ b.since → length (blocks_in o k.seen) ≤ since
      at_since since same = starts_at tx b begun_inside since same

      by_since : (since : ℕ) → since ≡ b.since → since ≤ length (blocks_in o now.seen)
      by_since since same = ends_at tx b begun_inside now later since same

      begun_there : IsPrefix (b.adds.front ++ begun_at p.place b.number b.since ∷ []) now.seen
      begun_there = prefix_trans (b.adds.front ++ begun_at p.place b.number b.since ∷ []) b.now.seen now.seen
          (adds_within k (begun_at p.place b.number b.since) b.now b.adds) later

    -- ---- told

    told_Refused : (tx : TxId) (since statement : ℕ) (cause : Refusal)
        → attempt.Refuses o p.job p.place k tx since statement cause now
        → IsTold o p (Refused tx since statement cause) k now
    told_Refused tx since statement cause h = record {
      makes = makes_seen o p (Refused tx since statement cause) p.place k now tx h.begun h.sees;
      numbers = one_number tx h.begun h.sees.later;
      counts = tt;
      starts = at_since tx h.begun h.sees.later since h.since_is;
      ends = by_since tx h.begun h.sees.later since h.since_is;
      spends = λ e. not_so e;
    }

    told_Aborted : (tx : TxId) (since : ℕ) → attempt.GivesUp o p.job p.place k tx since now
        → IsTold o p (Aborted tx since) k now
    told_Aborted tx since h = record {
      makes = makes_seen o p (Aborted tx since) p.place k now tx h.begun h.sees;
      numbers = one_number tx h.begun h.sees.later;
      counts = tt;
      starts = at_since tx h.begun h.sees.later since h.since_is;
      ends = by_since tx h.begun h.sees.later since h.since_is;
      spends = λ e. not_so e;
    }

    told_DigestDiffers : (tx : TxId) (since : ℕ) (mine given : Hash32)
        → attempt.Differs o p.job p.place k tx since mine given now
        → IsTold o p (DigestDiffers tx since mine given) k now
    told_DigestDiffers tx since mine given h = record {
      makes = makes_seen o p (DigestDiffers tx since mine given) p.place k now tx h.ready.begun h.sees;
      numbers = one_number tx h.ready.begun h.sees.later;
      counts = tt;
      starts = at_since tx h.ready.begun h.sees.later since h.since_is;
      ends = by_since tx h.ready.begun h.sees.later since h.since_is;
      spends = λ e. not_so e;
    }

    pub found : (tx : TxId) (since : ℕ) (named : Named) (h : attempt.IsInConflict o p.job p.place k tx since named now)
        → IsFirst (blocks_in o now.seen) since h.ready.progress.footprint named
    found tx since named h = found_first (blocks_in o now.seen) since h.ready.progress.footprint named h.finds

    told_Conflict : (tx : TxId) (since : ℕ) (named : Named) → attempt.IsInConflict o p.job p.place k tx since named now
        → IsTold o p (Conflict tx since named) k now
    told_Conflict tx since named h = record {
      makes = makes_seen o p (Conflict tx since named) p.place k now tx h.ready.begun h.sees;
      numbers = one_number tx h.ready.begun h.sees.later;
      counts = tt;
      starts = at_since tx h.ready.begun h.sees.later since h.since_is;
      ends = let first = found tx since named h in omega (arith, first.there);
      spends = λ e. not_so e;
    }

    told_JournalFull : (tx : TxId) (blocks : ℕ) → attempt.Fills o p.job p.place k tx blocks now
        → IsTold o p (JournalFull tx blocks) k now
    told_JournalFull tx blocks h = record {
      makes = makes_seen o p (JournalFull tx blocks) p.place k now tx h.ready.begun h.sees;
      numbers = one_number tx h.ready.begun h.sees.later;
      counts = tt;
      starts = tt;
      ends = tt;
      spends = λ e. not_so e;
    }

    -- the block with which it came to its store
    tried_as : (x : Outcome) → is_committed x ≡ false → (tx : TxId) (b : Begins o p.place k tx) → IsPrefix b.now.seen es
        → (front : List Entry) (block : Block) → attempt.Comes o p.job p.place k tx b front block
        → IsTriedAs o p x front block
    tried_as x untold tx b inside front block h =
        let next : b.number ≡ (reach o b.adds.front).last + 1 =
        (may_come (reach_at o) b.adds.front (begun_at p.place b.number b.since) es (there tx b inside) right.run).0 in
        let id : block.header.tx ≡ tx =
        ap (λ (y : Block). y.header.tx) h.is_made.block_is ∙ (λ i. record { raw = sym b.id i }) in
        record {
          untold = untold;
          commits = h.commits;
          admitted = h.admitted;
          digest = subst (SendsOwn p.job) (sym id) h.digest;
          last = (reach o b.adds.front).last;
          counted = subst (λ n. n < 2 ^ 64) next b.counted;
          time = h.time;
          made = subst (λ n. IsMadeOf (begun_as o n) (blocks_in o front) p.place h.time p.job.statements block) next h.is_made;
        }

    told_StoreFault : (tx : TxId) (count : ℕ) → attempt.Fails o p.job p.place k tx count now
        → IsTold o p (StoreFault tx count) k now
    told_StoreFault tx count h =
        let e : Entry = failed h.ready.begun.number count h.block in
        let later : IsPrefix h.ready.begun.now.seen now.seen = adds_later h.ready.begun.now e now h.adds in
        record {
          makes = makes_two o p (StoreFault tx count) p.place k e now tx h.ready.begun h.adds
              (refl, tried_as (StoreFault tx count) refl tx h.ready.begun (begun_inside tx h.ready.begun later) h.adds.front h.block h.comes) refl;
          numbers = one_number tx h.ready.begun later;
          counts = (
            record {
              number = h.ready.begun.number;
              block = h.block;
              front = h.adds.front;
              within = adds_within h.ready.begun.now e now h.adds;
              since = h.ready.begun.since;
              start = h.ready.begun.adds.front;
              begun = begun_there tx h.ready.begun later;
            },
            tt,
          );
          starts = tt;
          ends = tt;
          spends = λ e. not_so e;
        }

    told_IdsSpent : (last : ℕ) → attempt.Spends o p.job p.place k last now → IsTold o p (IdsSpent last) k now
    told_IdsSpent last h =
        record {
          makes = makes_none o p (IdsSpent last) k now h.sees;
          numbers = tt;
          counts = tt;
          starts = tt;
          ends = tt;
          spends = λ e. h.last_is ∙ h.greatest_last;
        }

    told_Denied : (statement : ℕ) (action table : List ℕ) (rule : Option (List ℕ))
        → attempt.Denies o p.job p.place k (record { statement = statement; action = action; table = table; rule = rule }) now
        → IsTold o p (Denied statement action table rule) k now
    told_Denied statement action table rule h =
        record {
          makes = makes_none o p (Denied statement action table rule) k now h.sees;
          numbers = tt;
          counts = tt;
          starts = tt;
          ends = tt;
          spends = λ e. not_so e;
        }

    says_wanted : (tx : TxId) (b : Begins o p.place k tx) (block : Option Block) (a : Adds b.now (wanted b.number block) now)
        → attempt.WantsAt o p.job p.place k tx b a.front block
        → Says o p OutOfMemory a.front (wanted b.number block)
    says_wanted tx b None a h = tt
    says_wanted tx b (Some block) a h =
        tried_as OutOfMemory refl tx b (begun_inside tx b (adds_later b.now (wanted b.number (Some block)) now a)) a.front block h

    told_behind : (tx : TxId) (b : Begins o p.place k tx) → attempt.WantsBehind o p.job p.place k tx b now
        → IsTold o p OutOfMemory k now
    told_behind tx b (inl s) =
        record {
          makes = makes_seen o p OutOfMemory p.place k now tx b s;
          numbers = tt;
          counts = tt;
          starts = tt;
          ends = tt;
          spends = λ e. not_so e;
        }
    told_behind tx b (inr a) = record {
      makes = makes_two o p OutOfMemory p.place k (wanted b.number a.0) now tx b a.1 (says_wanted tx b a.0 a.1 a.2) refl;
      numbers = tt;
      counts = tt;
      starts = tt;
      ends = tt;
      spends = λ e. not_so e;
    }

    told_OutOfMemory : attempt.Wants o p.job p.place k now → IsTold o p OutOfMemory k now
    told_OutOfMemory (inl s) = record {
      makes = makes_both o p OutOfMemory k now now 0 1 (makes_none o p OutOfMemory k now s)
          (makes_still o p OutOfMemory now 1);
      numbers = tt;
      counts = tt;
      starts = tt;
      ends = tt;
      spends = λ e. not_so e;
    }
    told_OutOfMemory (inr b) = told_behind b.0 b.1 b.2

    -- ---- a block that is made

    module _ (tx : TxId) (block : ℕ) (h : attempt.Commits o p.job p.place k tx block now) where
      abbrev b : Begins o p.place k tx
      b = h.ready.begun

      abbrev last_entry : Entry
      last_entry = sealed b.number h.made

      sealed_later : IsPrefix b.now.seen now.seen
      sealed_later = adds_later b.now last_entry now h.adds

      sealed_there : IsPrefix (h.adds.front ++ last_entry ∷ []) now.seen
      sealed_there = adds_within b.now last_entry now h.adds

      block_is : h.made ≡ block_of (begun_as o b.number) (blocks_in o h.adds.front) p.place h.time h.is_made.progress
      block_is = h.is_made.block_is

      tx_is : h.made.header.tx ≡ tx
      tx_is = ap (λ (x : Block). x.header.tx) block_is ∙ (λ i. record { raw = sym b.id i })

      place_is : h.made.info.place ≡ p.place
      place_is = ap (λ (x : Block). x.info.place) block_is

      made_of_job : IsOfJob h.made p
      made_of_job = record {
        place = place_is;
        asked = ap (λ (x : Block). asked_in (said_in x.info.said)) block_is
            ∙ said_of_run (begun_as o b.number) (state (blocks_in o h.adds.front)) p.job.statements h.is_made.progress
            h.is_made.runs;
        commits = h.ready.commits;
        admitted = h.ready.admitted;
      }

      committed_as : IsCommittedAs o p (Committed tx block) h.adds.front h.made
      committed_as = record {
        told = λ i. Committed (sym tx_is i) (h.block_is i);
        of_job = made_of_job;
        digest = subst (SendsOwn p.job) (sym tx_is) h.digest;
      }

      block_low : length (blocks_in o k.seen) ≤ block
      block_low =
          let low = fewer_blocks (reach_at o) k.seen h.adds.front
          (prefix_trans k.seen b.now.seen h.adds.front (adds_later k (begun_at p.place b.number b.since) b.now b.adds)
          h.adds.later) in
          omega (arith, low, h.block_is)

      sealed_blocks : blocks_in o (h.adds.front ++ last_entry ∷ []) ≡ blocks_in o h.adds.front ++ h.made ∷ []
      sealed_blocks = blocks_sealed (reach_at o) h.adds.front b.number h.made

      block_high : block + 1 ≤ length (blocks_in o now.seen)
      block_high =
          let more : length (blocks_in o (h.adds.front ++ last_entry ∷ [])) ≡ length (blocks_in o h.adds.front) + 1 =
          ap length sealed_blocks ∙ length-append (blocks_in o h.adds.front) (h.made ∷ []) in
          let low = fewer_blocks (reach_at o) (h.adds.front ++ last_entry ∷ []) now.seen sealed_there in
          omega (arith, more, low, h.block_is)

      told_Committed : IsTold o p (Committed tx block) k now
      told_Committed = record {
        makes = makes_two o p (Committed tx block) p.place k last_entry now tx b h.adds committed_as refl;
        numbers = one_number tx b sealed_later;
        counts = tt;
        starts = block_low;
        ends = block_high;
        spends = λ e. not_so e;
      }

      block_there : slice_get t.after block ≡ Some h.made
      block_there =
          let front : IsPrefix (blocks_in o h.adds.front ++ h.made ∷ []) (blocks_in o es) =
          subst (λ (bs : List Block). IsPrefix bs (blocks_in o es)) sealed_blocks
          (blocks_on (reach_at o) (h.adds.front ++ last_entry ∷ []) es
          (prefix_trans (h.adds.front ++ last_entry ∷ []) now.seen es sealed_there inside)) in
          (λ i. slice_get (after i) (h.block_is i))
          ∙ prefix_get (blocks_in o h.adds.front ++ h.made ∷ []) (blocks_in o es)
          (length (blocks_in o h.adds.front)) h.made front
          (slice_get_seam (blocks_in o h.adds.front) h.made [])

      holds_Committed : (reach o es).last ≤ greatest t.mask t.before + attempts t.jobs → IsCommitted t p tx block
      holds_Committed bound =
          let old : length t.before ≤ length (blocks_in o k.seen) =
          fewer_blocks (reach_at o) [] k.seen (k.seen, refl) in
          record {
            sealed = h.made;
            is_new = omega (arith, old, block_low);
            there = block_there;
            place = place_is;
            id = tx_is;
            number = b.number;
            numbered = numbered tx b (begun_inside tx b sealed_later) bound;
            admitted = h.ready.admitted;
          }

    -- ---- a transaction that came to its commit

    from_before : length t.before ≤ length (blocks_in o k.seen)
    from_before = fewer_blocks (reach_at o) [] k.seen (k.seen, refl)

    abbrev came : (tx : TxId) (r : Readies o p.job p.place k tx) → IsPrefix (r.begun).now.seen now.seen → (low : ℕ)
        → low ≤ length (blocks_in o k.seen) → CameToCommit t p tx low
    came tx r later low lower =
        let b_inside : IsPrefix (r.begun).now.seen es = begun_inside tx r.begun later in
        let late = at_since tx r.begun later (r.begun).since refl in
        let stood : IsFresh t (r.begun).since = fresh tx r.begun b_inside (r.begun).since refl in
        record {
          number = (r.begun).number;
          id = (r.begun).id;
          since = (r.begun).since;
          from = omega (arith, late, lower);
          not_past = stood.not_past;
          progress = r.progress;
          ends = ran_same tx r.begun b_inside (r.begun).since refl ∙ r.ends;
        }

    abbrev untouched : (tx : TxId) (blocks : ℕ) (h : attempt.Fills o p.job p.place k tx blocks now) (low : ℕ)
        → low ≤ length (blocks_in o k.seen) → IsUntouched t p tx low
    untouched tx blocks h low lower = record {
      came = came tx h.ready h.sees.later low lower;
      untouched = ap (λ (bs : List Block). conflict bs h.ready.begun.since h.ready.progress.footprint)
          (after
          ∙ sym (full_same (blocks_in o now.seen) (blocks_in o es) (blocks_on (reach_at o) now.seen es inside)
          right.undamaged h.full)) ∙ h.untouched;
    }

    -- ---- held

    module _ (bound : (reach o es).last ≤ greatest t.mask t.before + attempts t.jobs) where
      holds_Conflict : (tx : TxId) (since : ℕ) (named : Named)
          → attempt.IsInConflict o p.job p.place k tx since named now
          → HasNoBlock t p → length t.before + p.job.retries ≤ length (blocks_in o k.seen)
          → claim.IsInConflict t p tx since named
      holds_Conflict tx since named h blockless retried =
          let b : Begins o p.place k tx = h.ready.begun in
          let b_inside : IsPrefix b.now.seen es = begun_inside tx b h.sees.later in
          let low = at_since tx b h.sees.later since h.since_is in
          record {
            number = b.number;
            numbered = numbered tx b b_inside bound;
            fresh = fresh tx b b_inside since h.since_is;
            retries = omega (arith, retried, low);
            progress = h.ready.progress;
            ends = ran_same tx b b_inside since h.since_is ∙ h.ready.ends;
            finds = subst (λ (bs : List Block). conflict bs since h.ready.progress.footprint ≡ Some named) (sym after)
                (conflict_on (blocks_in o now.seen) (blocks_in o es) since h.ready.progress.footprint named
                (blocks_on (reach_at o) now.seen es inside) (by_since tx b h.sees.later since h.since_is) h.finds);
            commits = h.ready.commits;
            admitted = h.ready.admitted;
            digest = h.digest;
            blockless = blockless;
          }

      holds_Refused : (tx : TxId) (since statement : ℕ) (cause : Refusal)
          → attempt.Refuses o p.job p.place k tx since statement cause now → HasNoBlock t p
          → IsRefused t p tx since statement cause
      holds_Refused tx since statement cause h blockless =
          let b_inside : IsPrefix h.begun.now.seen es = begun_inside tx h.begun h.sees.later in
          record {
            number = h.begun.number;
            numbered = numbered tx h.begun b_inside bound;
            fresh = fresh tx h.begun b_inside since h.since_is;
            ends = ran_same tx h.begun b_inside since h.since_is ∙ h.ends;
            admitted = h.admitted;
            blockless = blockless;
          }

      holds_Aborted : (tx : TxId) (since : ℕ) → attempt.GivesUp o p.job p.place k tx since now → HasNoBlock t p
          → IsAborted t p tx since
      holds_Aborted tx since h blockless =
          let b_inside : IsPrefix h.begun.now.seen es = begun_inside tx h.begun h.sees.later in
          record {
            number = h.begun.number;
            numbered = numbered tx h.begun b_inside bound;
            fresh = fresh tx h.begun b_inside since h.since_is;
            progress = h.progress;
            ends = ran_same tx h.begun b_inside since h.since_is ∙ h.ends;
            aborts = h.aborts;
            admitted = h.admitted;
            blockless = blockless;
          }

      holds_DigestDiffers : (tx : TxId) (since : ℕ) (mine given : Hash32)
          → attempt.Differs o p.job p.place k tx since mine given now → HasNoBlock t p
          → claim.Differs t p tx since mine given
      holds_DigestDiffers tx since mine given h blockless =
          let b : Begins o p.place k tx = h.ready.begun in
          let b_inside : IsPrefix b.now.seen es = begun_inside tx b h.sees.later in
          record {
            number = b.number;
            numbered = numbered tx b b_inside bound;
            fresh = fresh tx b b_inside since h.since_is;
            progress = h.ready.progress;
            ends = ran_same tx b b_inside since h.since_is ∙ h.ready.ends;
            commits = h.ready.commits;
            admitted = h.ready.admitted;
            mine_is = h.mine_is;
            given_is = h.given_is;
            differ = h.differ;
            blockless = blockless;
          }

      holds_JournalFull : (tx : TxId) (blocks : ℕ) → attempt.Fills o p.job p.place k tx blocks now → HasNoBlock t p
          → IsJournalFull t p tx blocks
      holds_JournalFull tx blocks h blockless = record {
        free = untouched tx blocks h (length t.before) from_before;
        numbered = numbered tx h.ready.begun (begun_inside tx h.ready.begun h.sees.later) bound;
        commits = h.ready.commits;
        admitted = h.ready.admitted;
        full = ap length after
            ∙ stays_full (blocks_in o now.seen) (blocks_in o es)
            (blocks_on (reach_at o) now.seen es inside) right.undamaged
            h.full;
        told = h.told;
        blockless = blockless;
      }

      holds_StoreFault : (tx : TxId) (count : ℕ) → attempt.Fails o p.job p.place k tx count now → HasNoBlock t p
          → IsStoreFault t p tx count
      holds_StoreFault tx count h blockless =
          let b : Begins o p.place k tx = h.ready.begun in
          let e : Entry = failed b.number count h.block in
          let fault : IsPrefix (h.adds.front ++ e ∷ []) es =
          prefix_trans (h.adds.front ++ e ∷ []) now.seen es (adds_within b.now e now h.adds) inside in
          let risen : (reach o h.adds.front).count < count =
          (may_come (reach_at o) h.adds.front e es fault right.run).1 in
          let low : t.opened ≤ (reach o h.adds.front).count =
          counts_on (reach_at o) [] h.adds.front (h.adds.front, refl)
          (run_prefix (reach_at o) h.adds.front es (prefix_front h.adds.front e es fault) right.run) in
          let high = counts_on (reach_at o) (h.adds.front ++ e ∷ []) es fault right.run in
          let own : (reach o (h.adds.front ++ e ∷ [])).count ≡ count =
          ap (λ (x : Reach). x.count) (comes_behind (reach_at o) h.adds.front e) in
          let b_inside : IsPrefix b.now.seen es = begun_inside tx b (adds_later b.now e now h.adds) in
          record {
            came = came tx h.ready (adds_later b.now e now h.adds) (length t.before) from_before;
            numbered = numbered tx b b_inside bound;
            commits = h.ready.commits;
            admitted = h.ready.admitted;
            rose = omega (arith, low, risen);
            not_past = omega (arith, high, own, closed);
            blockless = blockless;
          }

      holds_IdsSpent : (last : ℕ) → attempt.Spends o p.job p.place k last now → HasNoBlock t p
          → (reach o es).last + 1 ≤ greatest t.mask t.before + attempts t.jobs → claim.IsSpent t p last
      holds_IdsSpent last h blockless more =
          let high = lasts_on (reach_at o) now.seen es inside right.run in
          record {
            greatest_last = h.greatest_last;
            used = omega (arith, high, more, h.greatest_last, h.last_is);
            admitted = h.admitted;
            blockless = blockless;
          }

      holds_Denied : (denial : Denial) → attempt.Denies o p.job p.place k denial now → HasNoBlock t p → IsDenied t p denial
      holds_Denied denial h blockless = record { denied = h.denied; blockless = blockless }

  -- ---- by cases of the outcome

  pub told : (x : Outcome) (now : Known Entry) → IsPrefix now.seen es → Attempted o k p.job p.place x now
      → IsTold o p x k now
  told (Committed tx block) now inside h = told_Committed now inside tx block h
  told (Conflict tx since named) now inside h = told_Conflict now inside tx since named h
  told (Refused tx since statement cause) now inside h = told_Refused now inside tx since statement cause h
  told (DigestDiffers tx since mine given) now inside h = told_DigestDiffers now inside tx since mine given h
  told (StoreFault tx count) now inside h = told_StoreFault now inside tx count h
  told (JournalFull tx blocks) now inside h = told_JournalFull now inside tx blocks h
  told (IdsSpent last) now inside h = told_IdsSpent now inside last h
  told (Aborted tx since) now inside h = told_Aborted now inside tx since h
  told (Denied statement action table rule) now inside h = told_Denied now inside statement action table rule h
  told OutOfMemory now inside h = told_OutOfMemory now inside h

  pub holds : (x : Outcome) (now : Known Entry) → IsPrefix now.seen es → Attempted o k p.job p.place x now
      → (reach o es).last + spare x ≤ greatest t.mask t.before + attempts t.jobs
      → (is_committed x ≡ false → HasNoBlock t p)
      → (is_conflict x ≡ true → length t.before + p.job.retries ≤ length (blocks_in o k.seen))
      → Holds t p x
  holds (Committed tx block) now inside h bound none retried = holds_Committed now inside tx block h
      (omega (arith, bound))
  holds (Conflict tx since named) now inside h bound none retried =
      holds_Conflict now inside (omega (arith, bound)) tx since named h (none refl) (retried refl)
  holds (Refused tx since statement cause) now inside h bound none retried =
      holds_Refused now inside (omega (arith, bound)) tx since statement cause h (none refl)
  holds (DigestDiffers tx since mine given) now inside h bound none retried =
      holds_DigestDiffers now inside (omega (arith, bound)) tx since mine given h (none refl)
  holds (StoreFault tx count) now inside h bound none retried =
      (holds_StoreFault now inside (omega (arith, bound)) tx count h (none refl), h.digest)
  holds (JournalFull tx blocks) now inside h bound none retried =
      (holds_JournalFull now inside (omega (arith, bound)) tx blocks h (none refl), h.digest)
  holds (IdsSpent last) now inside h bound none retried =
      holds_IdsSpent now inside (omega (arith, bound)) last h (none refl) bound
  holds (Aborted tx since) now inside h bound none retried =
      holds_Aborted now inside (omega (arith, bound)) tx since h (none refl)
  holds (Denied statement action table rule) now inside h bound none retried =
      holds_Denied now inside (omega (arith, bound)) (record { statement = statement; action = action; table = table; rule = rule }) h (none refl)
  holds OutOfMemory now inside h bound none retried = none refl

  -- the transaction ran on the blocks that the pass had seen, and perhaps on more
  pub runs_past : (x : Outcome) (now : Known Entry) → IsPrefix now.seen es → Attempted o k p.job p.place x now
      → RunsPast t p x (length (blocks_in o k.seen))
  runs_past (StoreFault tx count) now inside h =
      came now inside tx h.ready
      (adds_later h.ready.begun.now (failed h.ready.begun.number count h.block) now h.adds)
      (length (blocks_in o k.seen)) (omega arith)
  runs_past (JournalFull tx blocks) now inside h =
      untouched now inside tx blocks h (length (blocks_in o k.seen)) (omega arith)
  runs_past (Committed tx block) now inside h = tt
  runs_past (Conflict tx since named) now inside h = tt
  runs_past (Refused tx since statement cause) now inside h = tt
  runs_past (DigestDiffers tx since mine given) now inside h = tt
  runs_past (IdsSpent last) now inside h = tt
  runs_past (Aborted tx since) now inside h = tt
  runs_past (Denied statement action table rule) now inside h = tt
  runs_past OutOfMemory now inside h = tt

  -- a conflict has brought the pass past one block more
  pub moves : (tx : TxId) (since : ℕ) (named : Named) (now : Known Entry) → IsPrefix now.seen es
      → attempt.IsInConflict o p.job p.place k tx since named now
      → length (blocks_in o k.seen) < length (blocks_in o now.seen)
  moves tx since named now inside h =
      let first = found now inside tx since named h in
      let low = at_since now inside tx h.ready.begun h.sees.later since h.since_is in
      omega (arith, first.late, first.there, low)
