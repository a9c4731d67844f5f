-- What the run of all workers leaves is a run of the script's jobs, from the journal that was loaded.
use Rattle.std.proofs.Common.{◌≡◌, ◌∙◌, ℕ, ℤ, ◌<◌, ◌≤◌, List, [], ◌∷◌, ◌++◌, length, drop, fold, Contains, refl, sym, ap, subst, arith, Option, Some, None, ◌⊎◌, inl, inr}
use Rattle.std.specs.Prelude.{IfSome}
use Rattle.std.specs.List.{AllByRecursion}
use Rattle.ion_values.specs.declared.time.TimeParts.{TimeParts}
use Rattle.ledger_model.specs.declared.block.Block.{Block}
use Rattle.ledger_model.specs.declared.outcome.PlacedOutcome.{PlacedOutcome}
use Rattle.ledger_model.specs.Damages.{Undamaged}
use Rattle.ledger_model.specs.Script.{Placed}
use Rattle.outside.specs.Told.{StoreTold}
use Rattle.turn_lock.specs.History.{Stands}
use Rattle.laws_history.specs.Records.{RunRecord, FitsBlocks, HasMask, HasTime, HaveTimes, IsTimeIn, Times, made, mask_of, InOrder}
use Rattle.cli_model.specs.Runs.{Terms}
use Rattle.laws_machine.specs.Entries.{Entry, Opening, Reach, begun_at, comes, failed, reach_at, reached, sealed, wanted}
use Rattle.laws_history.specs.Alone.{RunsInOrder}
use Rattle.laws_history.specs.Claims.{Fits, IsOfOwnDigest}
use Rattle.laws_history.specs.Runs.{AreWorkers, IsRunBy, opening_of}
use Rattle.laws_history.specs.Seen.{IsRight, blocks_in, reach}
use Rattle.laws_history.specs.Tried.{tried_behind, tried_in}
use Rattle.laws_history.proofs.Fitting.{contains_stands, runs_fit}
use Rattle.laws_history.proofs.InOrder.{one_worker_in_order}
use Rattle.laws_history.proofs.Lists.{stands_parts}
use Rattle.laws_history.proofs.Reaches.{counts_on, reached_blocks, sealed_in}
use Rattle.laws_history.proofs.Sealed.{drop_front}
use Rattle.laws_history.proofs.Tried.{tried_fit}
use Rattle.ledger_core.specs.Tails.{TailHeld}
use Rattle.ledger_shared.specs.Behind as behind
use Rattle.ledger_shared.specs.Behind.{AreTimed, HasTimeOf, IsTimeOf, Keeps}
use Rattle.ledger_shared.specs.Ran.{AllHaveRun}
use Rattle.ledger_cli.specs.Clocks.{Covers, Extends, GoesOn, clock_told}
use Rattle.ledger_cli.specs.Runs.{HasLoaded}
use Rattle.ledger_cli.proofs.Clocks.{answered_since}

-- ---- the times of blocks

module _ (P : TimeParts → Type 0) (times : Times) (among : (time : TimeParts) → P time → IsTimeIn times time) where
  in_time : (before : List Block) (b : Block) → HasTimeOf P before b → HasTime times before b
  in_time before b h = record { time = h.time; among = among h.time h.among; is = h.is }

  sealed_in_time : (r : Reach) (es : List Entry) → AreTimed P r es → HaveTimes times r.blocks (sealed_in es)
  sealed_in_time r [] h = tt
  sealed_in_time r (begun_at place number since ∷ es) h = sealed_in_time (comes r (begun_at place number since)) es h.1
  sealed_in_time r (sealed number block ∷ es) h =
      (in_time r.blocks block h.0, sealed_in_time (comes r (sealed number block)) es h.1)
  sealed_in_time r (failed number count block ∷ es) h = sealed_in_time (comes r (failed number count block)) es h.1
  sealed_in_time r (wanted number block ∷ es) h = sealed_in_time (comes r (wanted number block)) es h.1

  abbrev AllInTime : List Block → List Block → Type 0
  AllInTime before bs = (c : Block) → Stands c bs → HasTime times before c

  one_in_time : (before bs : List Block) (b : Block) → AllInTime before bs → HasTime times before b → AllInTime before (bs ++ b ∷ [])
  one_in_time before bs b all one c h = by (stands_parts c bs (b ∷ []) h)
    where
      by : Stands c bs ⊎ Stands c (b ∷ []) → HasTime times before c
      by (inl first) = all c first
      by (inr (inl same)) = subst (λ (x : Block). HasTime times before x) (sym same) one
      by (inr (inr bad)) = absurd bad

  -- so is each block that was tried behind the last one
  tried_in_time : (r : Reach) (es : List Entry) (bs : List Block) → AreTimed P r es → AllInTime r.blocks bs
      → AllInTime (reached r es).blocks (fold tried_behind bs es)
  tried_in_time r [] bs h all = all
  tried_in_time r (begun_at place number since ∷ es) bs h all = tried_in_time (comes r (begun_at place number since)) es bs h.1 all
  tried_in_time r (sealed number block ∷ es) bs h all =
      tried_in_time (comes r (sealed number block)) es [] h.1 (λ c none. absurd none)
  tried_in_time r (failed number count block ∷ es) bs h all =
      tried_in_time (comes r (failed number count block)) es (bs ++ block ∷ []) h.1
      (one_in_time r.blocks bs block all (in_time r.blocks block h.0))
  tried_in_time r (wanted number None ∷ es) bs h all = tried_in_time (comes r (wanted number None)) es bs h.1 all
  tried_in_time r (wanted number (Some block) ∷ es) bs h all =
      tried_in_time (comes r (wanted number (Some block))) es (bs ++ block ∷ []) h.1
      (one_in_time r.blocks bs block all (in_time r.blocks block h.0))

-- ---- the run of all workers

-- the mask is that of the blocks, or the one that is told where there is none
masked_as : (given : Option ℕ) (mask own : ℕ) (blocks : List Block) → IfSome given (λ g. g ≡ mask) → own ≡ mask_of mask blocks
    → IfSome given (λ g. own ≡ mask_of g blocks)
masked_as None mask own blocks same is = tt
masked_as (Some g) mask own blocks same is = is ∙ ap (λ (n : ℕ). mask_of n blocks) (sym same)

-- the record of a run on these terms that begins with the tail's journal
abbrev pub record_of : {S C : Type 0} → Terms → ℕ → List Placed → ℕ → TailHeld S C → List Block → List PlacedOutcome → ℕ → RunRecord
record_of terms workers jobs faults opened blocks outcomes closed = record {
  given = terms.given;
  mask = opened.standing.mask;
  times = terms.times;
  workers = workers;
  jobs = jobs;
  opened = faults;
  closed = closed;
  before = opened.standing.blocks;
  after = blocks;
  outcomes = outcomes;
}

module _ {S C : Type 0} (told : S → StoreTold) (answers : C → Option (List ℤ)) (always : C → Option ℤ) (given : ℕ) (before : StoreTold)
    (opened : TailHeld S C) (has : HasLoaded told given before opened) (workers : ℕ) (some : 0 < workers) (jobs : List Placed) (in_order : InOrder jobs)
    (terms : Terms) (masks : IfSome terms.given (λ g. g ≡ given)) where
  abbrev pub run_record : List Block → List PlacedOutcome → ℕ → RunRecord
  run_record blocks outcomes closed = record_of terms workers jobs before.faults opened blocks outcomes closed

  pub masked : HasMask (run_record opened.standing.blocks [] before.faults)
  masked = masked_as terms.given given opened.standing.mask opened.standing.blocks masks has.mask

  module _ (ran : TailHeld S C) (outcomes : List PlacedOutcome) (all : AllHaveRun told answers always workers jobs opened ran outcomes)
      (covered : Covers (clock_told answers always opened.clock) (clock_told answers always ran.clock) terms.times) where
    abbrev pub t : RunRecord
    t = run_record ran.standing.blocks outcomes (told ran.store).faults

    abbrev shared : Opening
    shared = behind.opening_of told opened

    abbrev o : Opening
    o = opening_of t

    same_opening : shared ≡ o
    same_opening = λ i. record {
      mask = opened.standing.mask;
      blocks = opened.standing.blocks;
      last = has.last i;
      count = has.faults i;
    }

    abbrev P : TimeParts → Type 0
    P = IsTimeOf (always opened.clock) (answers opened.clock) (answers ran.clock)

    among : (time : TimeParts) → P time → IsTimeIn t.times time
    among time h =
        covered time
        (record { answer = h.answer; among = answered_since (answers opened.clock) (answers ran.clock) h.answer h.among; one = h.one; begins = h.begins })

    blocks_are : ran.standing.blocks ≡ t.before ++ sealed_in all.entries
    blocks_are = all.keeps.behind.blocks ∙ reached_blocks (reach_at shared) all.entries

    made_is : made t ≡ sealed_in all.entries
    made_is = ap (λ (bs : List Block). drop (length t.before) bs) blocks_are ∙ drop_front t.before (sealed_in all.entries)

    pub is_run : IsRunBy t all.served all.entries all.pass_of
    is_run = record {
      jobs = all.jobs_are;
      outcomes = all.outcomes_are;
      in_order = in_order;
      masked = masked;
      strand = has.sound.strand;
      right = subst (λ (x : Opening). IsRight x all.entries) same_opening all.right;
      after = subst (λ (x : Opening). ran.standing.blocks ≡ blocks_in x all.entries) same_opening all.keeps.behind.blocks;
      times = subst (λ (bs : List Block). HaveTimes t.times t.before bs) (sym made_is)
          (sealed_in_time P t.times among (reach_at shared) all.entries all.keeps.times.timed);
      closed = subst (λ (x : Opening). (told ran.store).faults ≡ (reach x all.entries).count) same_opening (sym all.keeps.behind.counts);
      some = some;
      workers = subst (λ (x : Opening). AreWorkers x workers all.served all.entries all.pass_of) same_opening all.workers_are;
    }

    pub run_fits : Fits t
    run_fits = runs_fit t all.served all.entries all.pass_of is_run

    pub run_in_order : workers ≡ 1 → RunsInOrder t
    run_in_order one = one_worker_in_order t all.served all.entries all.pass_of is_run one

    -- with the block of a refused commit behind it
    module _ (b : Block) (tried : Contains (tried_in all.entries) b) (sound : Undamaged (ran.standing.blocks ++ b ∷ [])) where
      timed : HasTime t.times ran.standing.blocks b
      timed =
          subst (λ (bs : List Block). HasTime t.times bs b) (sym all.keeps.behind.blocks)
          (tried_in_time P t.times among (reach_at shared) all.entries [] all.keeps.times.timed (λ c none. absurd none) b
          (contains_stands (tried_in all.entries) b tried))

      pub tried_fits : FitsBlocks (run_record (ran.standing.blocks ++ b ∷ []) outcomes (told ran.store).faults)
          × AllByRecursion (IsOfOwnDigest jobs) (drop (length opened.standing.blocks) (ran.standing.blocks ++ b ∷ []))
      tried_fits = tried_fit t all.served all.entries all.pass_of b is_run tried sound timed

-- ---- what the store and the clock tell meanwhile

module _ {S C : Type 0} (told : S → StoreTold) (answers : C → Option (List ℤ)) (always : C → Option ℤ) (opened ran : TailHeld S C) (es : List Entry)
    (keeps : Keeps told answers always opened ran es) where
  -- the store has failed as often at least
  pub later_faults : (told opened.store).faults ≤ (told ran.store).faults
  later_faults =
      let o = behind.opening_of told opened in
      let low = counts_on (reach_at o) [] es (es, refl) keeps.behind.run in
      let is = keeps.behind.counts in
      omega (arith, low, is)

  extends : (before now : Option (List ℤ)) → behind.GoesOn before now → Extends before now
  extends before None h = tt
  extends None (Some ys) h = absurd h
  extends (Some xs) (Some ys) h = (h.0, sym h.1)

  pub clock_goes : GoesOn (clock_told answers always opened.clock) (clock_told answers always ran.clock)
  clock_goes = record {
    extends = extends (answers opened.clock) (answers ran.clock) keeps.times.goes_on;
    same = keeps.times.always_is;
  }
