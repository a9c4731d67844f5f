-- The run on a journal that was loaded, from its outcomes to what is told of the whole.
use Rattle.std.proofs.Common.{◌≡◌, ◌∙◌, ℕ, ℤ, ◌<◌, ◌≤◌, true, List, [], ◌∷◌, ◌++◌, length, take, take_all, drop, refl, sym, ap, subst, arith, Option, Result, Ok, Err, ◌⊎◌, inl, inr, Contains}
use Rattle.std.specs.Prelude.{IfOk, IfErr, IfSome}
use Rattle.std.specs.List.{AllByRecursion}
use Rattle.std.proofs.lemmas.List.{drop_all}
use Rattle.ion_values.specs.declared.value.Value.{Value}
use Rattle.ion_model.specs.Write.{value_text}
use Rattle.ledger_model.specs.declared.block.Block.{Block}
use Rattle.ledger_model.specs.declared.outcome.PlacedOutcome.{PlacedOutcome}
use Rattle.ledger_model.specs.Damages.{Undamaged}
use Rattle.ledger_model.specs.Journal.{journal_bytes}
use Rattle.ledger_model.specs.Legal.{LegalFrom}
use Rattle.ledger_model.specs.Recovered.{has_no_line_feed}
use Rattle.ledger_model.specs.State.{state}
use Rattle.ledger_model.specs.Script.{Placed}
use Rattle.outside.specs.Store.{Content}
use Rattle.outside.specs.Told.{StoreTold, held}
use Rattle.laws_crash.specs.Sound.{IsSound}
use Rattle.laws_crash.proofs.Images.{safe_recovers, unmarked_recovers}
use Rattle.laws_history.specs.Standings.{Standing}
use Rattle.laws_history.specs.Calls.{span}
use Rattle.laws_history.specs.Records.{RunRecord, FitsBlocks, HaveTimes, InSessionOrder, IsOfSomeJob, InOrder}
use Rattle.laws_history.specs.Stores.{HasJournal, HoldingWithRest, IsSynced}
use Rattle.laws_history.proofs.BlocksFit.{FitsBlocks-same}
use Rattle.laws_history.proofs.Stored.{all-HoldingWithRest}
use Rattle.cli_model.specs.Runs.{Terms, IsDone, IsOfRun, IsReportOf, HoldsRunAfter, TellsRun}
use Rattle.cli_model.specs.Stores.{IsUnfailed}
use Rattle.cli_model.specs.Images.{StoppedLeaves}
use Rattle.cli_model.proofs.Holding.{done_leaves, done_tells}
use Rattle.cli_model.proofs.Imaged.{sound_from, stays_still}
use Rattle.laws_history.specs.Alone.{RunsInOrder}
use Rattle.laws_history.specs.Claims.{Fits, IsOfOwnDigest}
use Rattle.laws_history.specs.Runs.{WasRun}
use Rattle.laws_history.specs.Tried.{tried_in}
use Rattle.journal_keeper.specs.Faults.{IsSettleFault}
use Rattle.ledger_core.specs.Images.{IsSoundTail}
use Rattle.journal_reader.specs.Loads.{IsCause}
use Rattle.journal_keeper.specs.Keeping.{MayBeCut}
use Rattle.ledger_core.specs.Tails.{TailHeld}
use Rattle.journal_keeper.specs.declared.keeping.SettleFault.{SettleFault}
use Rattle.journal_keeper.specs.declared.keeping.SettleFault.TheVariants as settle
use Rattle.journal_reader.specs.declared.cause.LoadCause.{LoadCause}
use Rattle.journal_reader.specs.declared.cause.LoadCause.TheVariants as load
use Rattle.ledger_shared.specs.Behind.{Keeps}
use Rattle.ledger_shared.specs.Images.{tried_from}
use Rattle.ledger_shared.proofs.Recovering.{unmarked_alone}
use Rattle.ledger_shared.specs.Ran.{AllHaveRun}
use Rattle.ledger_cli.specs.declared.command_fault.CommandFault.{CommandFault}
use Rattle.ledger_cli.specs.declared.command_fault.CommandFault.TheVariants as stop
use Rattle.ledger_cli.specs.Clocks.{AreCovered, ClockTold, Covers, GoesOn, clock_told}
use Rattle.ledger_cli.specs.Runs.{Comes, HasLoaded, HasSettled, HasStopped, IsEnded, IsSettled, Reports, Settles, TellsJobs}
use Rattle.ledger_cli.specs.Stops.{IsLoadStop, IsTailStop, load_stop, settle_stop}
use Rattle.ledger_cli.proofs.Ending.{same_held}
use Rattle.ledger_cli.proofs.Leaving.{cut_by, left_by, loaded_journal}
use Rattle.ledger_cli.proofs.Running.{clock_goes, is_run, later_faults, masked, record_of, run_fits, run_in_order, run_record, tried_fits}

-- ---- a journal that was not loaded

pub unloaded_cause : (cause : LoadCause) (before after : StoreTold) → after.content ≡ before.content → IsCause cause before after
    → IsLoadStop (load_stop cause) (span before after)
unloaded_cause (load.Damaged sequence kind) before after same h = record { damaged = h.0; only_read = record { content = same; faults = h.1 } }
unloaded_cause (load.StoreFault count) before after same h = record { rose = omega (arith, h.rose, h.count_is); last = h.last }
unloaded_cause load.OutOfMemory before after same h = tt

pub unloaded_done : {A : Type 0} (P : A → Type 0) (r : Result A CommandFault) (why : CommandFault) → r ≡ Err why → IfOk r P
unloaded_done {A} P r why is = subst (λ (x : Result A CommandFault). IfOk x P) (sym is) tt

unloaded_tells : (workers : ℕ) (jobs : List Placed) (terms : Terms) (cause : LoadCause) (before after : StoreTold) → IsCause cause before after
    → load_stop cause ≡ stop.OutOfMemory → TellsJobs workers jobs (span before after) terms
unloaded_tells workers jobs terms (load.Damaged sequence kind) before after h e = inl h.1
unloaded_tells workers jobs terms (load.StoreFault count) before after h e = let bad : ⊥ = cc e in absurd bad
unloaded_tells workers jobs terms load.OutOfMemory before after h e = inl h

pub unloaded_ended : (Q : Terms → Type 0) (workers : ℕ) (jobs : List Placed) (r : Result (List ℕ) CommandFault) (cause : LoadCause) (before after : StoreTold)
    → r ≡ Err (load_stop cause) → after.content ≡ before.content → IsCause cause before after
    → IfErr r (λ why. (terms : Terms) → Q terms → IsEnded why workers jobs (span before after) terms)
unloaded_ended Q workers jobs r cause before after is same h =
    subst
    (λ (x : Result (List ℕ) CommandFault). IfErr x (λ why. (terms : Terms) → Q terms → IsEnded why workers jobs (span before after) terms))
    (sym is)
    (λ terms q. record { left = inl (stays_still (span before after) same); tells = unloaded_tells workers jobs terms cause before after h })

pub unloaded_stop : {A : Type 0} (r : Result A CommandFault) (cause : LoadCause) (before after : StoreTold) → r ≡ Err (load_stop cause)
    → after.content ≡ before.content → IsCause cause before after → IfErr r (λ why. IsLoadStop why (span before after))
unloaded_stop {A} r cause before after is same h =
    subst (λ (x : Result A CommandFault). IfErr x (λ why. IsLoadStop why (span before after))) (sym is) (unloaded_cause cause before after same h)

-- ---- a journal that was loaded

synced_content : (before after : StoreTold) → after.content ≡ before.content → IsSynced before → IsSynced after
synced_content before after same is =
    subst (λ (c : Option Content). IfSome c (λ content. content.synced ≡ length content.bytes)) (sym same) is

-- a failure after a later time is one after an earlier time
later_stop : (why : CommandFault) (before ran after : StoreTold) → before.faults ≤ ran.faults → IsTailStop why (span ran after)
    → IsLoadStop why (span before after)
later_stop stop.BadWords before ran after low h = absurd h
later_stop (stop.BadInput cause) before ran after low h = absurd h
later_stop (stop.NoSuch why) before ran after low h = absurd h
later_stop (stop.Damaged sequence kind) before ran after low h = absurd h
later_stop stop.SourceFailed before ran after low h = absurd h
later_stop stop.StoreFailed before ran after low h = record { rose = omega (arith, low, h.rose); last = h.last }
later_stop (stop.NotEmpty blocks) before ran after low h = absurd h
later_stop (stop.BadRange from to) before ran after low h = absurd h
later_stop (stop.NotAccepted fault) before ran after low h = absurd h
later_stop stop.NotPublished before ran after low h = absurd h
later_stop stop.OutOfMemory before ran after low h = tt

pub settle_stops : (why : SettleFault) (ran now : StoreTold) → IsSettleFault why ran now → IsTailStop (settle_stop why) (span ran now)
settle_stops (settle.StoreFault count) ran now h = record { rose = omega (arith, h.rose, h.count_is); last = h.last }
settle_stops settle.OutOfMemory ran now h = h

module _ {S C : Type 0} (told : S → StoreTold) (answers : C → Option (List ℤ)) (always : C → Option ℤ) (given : ℕ) (before : StoreTold)
    (opened : TailHeld S C) (has : HasLoaded told given before opened) (workers : ℕ) (some : 0 < workers) (jobs : List Placed) (in_order : InOrder jobs) where
  abbrev pub clocks : C → ClockTold
  clocks c = clock_told answers always c

  journal : HasJournal opened.standing.blocks (held (told opened.store))
  journal =
      subst (λ (x : Option (List ℕ)). HasJournal opened.standing.blocks x) (sym (same_held before (told opened.store) has.content))
      (loaded_journal (held before) opened.standing.blocks opened.marked has.journal)

  none_made : drop (length opened.standing.blocks) opened.standing.blocks ≡ []
  none_made = drop_all (length opened.standing.blocks) opened.standing.blocks (omega arith)

  -- on these terms
  module _ (terms : Terms) (masks : IfSome terms.given (λ g. g ≡ given)) where
    abbrev run_of : List Block → List PlacedOutcome → ℕ → RunRecord
    run_of blocks outcomes closed =
        run_record told answers always given before opened has workers some jobs in_order terms masks blocks outcomes closed

    pub of_run : (after : StoreTold) (blocks : List Block) (outcomes : List PlacedOutcome)
        → IsOfRun terms workers jobs (span before after) (run_of blocks outcomes after.faults)
    of_run after blocks outcomes = record {
      found = loaded_journal (held before) opened.standing.blocks opened.marked has.journal;
      given = refl;
      times = refl;
      workers_are = refl;
      jobs_are = refl;
      opened = refl;
      closed = refl;
    }

    -- the store holds these blocks and a rest
    leaves : (after : StoreTold) (blocks : List Block) (outcomes : List PlacedOutcome) (closed : ℕ) → FitsBlocks (run_of blocks outcomes closed)
        → AllByRecursion (IsOfOwnDigest jobs) (drop (length opened.standing.blocks) blocks)
        → StoppedLeaves (span before after) opened.standing.blocks → HoldingWithRest blocks (held after)
        → HoldsRunAfter opened.standing.blocks terms workers jobs (span before after)
    leaves after blocks outcomes closed fits digests images holding = record {
      told = run_of blocks outcomes after.faults;
      before_is = refl;
      left = record {
        of_run = of_run after blocks outcomes;
        fits = FitsBlocks-same (run_of blocks outcomes closed) outcomes after.faults fits;
        digests = digests;
        holding = holding;
        images = images;
      };
    }

    -- ---- none was run

    none_fits : FitsBlocks (run_of opened.standing.blocks [] before.faults)
    none_fits = record {
      begins = take_all (length opened.standing.blocks) opened.standing.blocks (omega arith);
      undamaged = has.sound.undamaged;
      asked = λ asked. asked;
      masked = masked told answers always given before opened has workers some jobs in_order terms masks;
      strand = has.sound.strand;
      serial =
          subst (λ (bs : List Block). LegalFrom opened.standing.mask (state (take (length opened.standing.blocks) opened.standing.blocks)) bs)
          (sym none_made) tt;
      times = subst (λ (bs : List Block). HaveTimes terms.times opened.standing.blocks bs) (sym none_made) tt;
      of_jobs = subst (λ (bs : List Block). AllByRecursion (IsOfSomeJob jobs) bs) (sym none_made) tt;
      once = subst (λ (bs : List Block). InSessionOrder bs) (sym none_made) tt;
    }

    none_holds : (now : TailHeld S C) → now.standing.blocks ≡ opened.standing.blocks
        → StoppedLeaves (span before (told now.store)) opened.standing.blocks → HoldingWithRest now.standing.blocks (held (told now.store)) → HoldsRunAfter opened.standing.blocks terms workers jobs (span before (told now.store))
    none_holds now same images holds =
        leaves (told now.store) opened.standing.blocks [] before.faults none_fits
        (subst (λ (bs : List Block). AllByRecursion (IsOfOwnDigest jobs) bs) (sym none_made) tt) images
        (subst (λ (bs : List Block). HoldingWithRest bs (held (told now.store))) same holds)

    none_images : (law : (v : Value) → has_no_line_feed (value_text v) ≡ true) (now : TailHeld S C) → Keeps told answers always opened now []
        → StoppedLeaves (span before (told now.store)) opened.standing.blocks
    none_images law now keeps rest =
        sound_from (safe_recovers law) opened.standing.blocks opened.standing.blocks [] now.marked (told now.store).content none_fits.begins
        none_fits.undamaged has.sound.asked
        (subst (λ (bs : List Block). IfSome (told now.store).content (IsSound bs [] now.marked)) keeps.behind.blocks
        (keeps.images.sound [] (has.images rest)))

    none_left : (law : (v : Value) → has_no_line_feed (value_text v) ≡ true) (now : TailHeld S C) → Keeps told answers always opened now []
        → HoldsRunAfter opened.standing.blocks terms workers jobs (span before (told now.store))
    none_left law now keeps =
        left_by (held (told opened.store)) (held (told now.store)) opened.standing.blocks now.standing.blocks [] journal keeps.rest law
        (HoldsRunAfter opened.standing.blocks terms workers jobs (span before (told now.store))) (none_holds now keeps.behind.blocks (none_images law now keeps))
        (λ b among sound holds. absurd (omega (arith, among.1)))

    -- so it has not failed
    none_tells : (now : TailHeld S C) → Keeps told answers always opened now [] → IsUnfailed (span before (told now.store))
    none_tells now keeps = sym keeps.behind.counts ∙ has.faults

    -- ---- all jobs were run

    module _ (ran : TailHeld S C) (outcomes : List PlacedOutcome) (all : AllHaveRun told answers always workers jobs opened ran outcomes)
        (covered : Covers (clocks opened.clock) (clocks ran.clock) terms.times) where
      abbrev failed : ℕ
      failed = (told ran.store).faults

      pub fits : Fits (run_of ran.standing.blocks outcomes failed)
      fits = run_fits told answers always given before opened has workers some jobs in_order terms masks ran outcomes all covered

      ordered : workers ≡ 1 → RunsInOrder (run_of ran.standing.blocks outcomes failed)
      ordered = run_in_order told answers always given before opened has workers some jobs in_order terms masks ran outcomes all covered

      -- the store has failed as often as their outcomes say, if it didn't fail since
      abbrev pub ran_tells : (now : TailHeld S C) → (told now.store).faults ≡ failed → TellsRun terms workers jobs (span before (told now.store))
      ran_tells now same = record {
        told = run_of ran.standing.blocks outcomes (told now.store).faults;
        of_run = of_run (told now.store) ran.standing.blocks outcomes;
        fits = subst (λ (n : ℕ). Fits (run_of ran.standing.blocks outcomes n)) (sym same) fits;
      }

      was_run : WasRun (run_of ran.standing.blocks outcomes failed)
      was_run = record {
        served = all.served;
        entries = all.entries;
        pass_of = all.pass_of;
        by = is_run told answers always given before opened has workers some jobs in_order terms masks ran outcomes all covered;
      }

      -- and settled
      module _ (now : TailHeld S C) (settled : IsSettled told ran now) where
        blocks_are : now.standing.blocks ≡ ran.standing.blocks
        blocks_are = ap (λ (x : Standing). x.blocks) settled.standing

        as_settled : (Q : RunRecord → Type 0) → Q (run_of ran.standing.blocks outcomes failed)
            → Q (run_of now.standing.blocks outcomes (told now.store).faults)
        as_settled Q h =
            subst (λ (bs : List Block). Q (run_of bs outcomes (told now.store).faults)) (sym blocks_are)
            (subst (λ (n : ℕ). Q (run_of ran.standing.blocks outcomes n)) (sym settled.fine) h)

        is_done : IsDone terms workers jobs (span before (told now.store)) (run_of now.standing.blocks outcomes (told now.store).faults)
        is_done = record {
          of_run = of_run (told now.store) now.standing.blocks outcomes;
          run = as_settled WasRun was_run;
          fits = as_settled Fits fits;
          in_order = λ one. as_settled RunsInOrder (ordered one);
          holding = settled.holds;
          synced = λ was. settled.synced (all.keeps.synced (λ unmarked. synced_content before (told opened.store) has.content was));
          images = λ rest.
              unmarked_alone unmarked_recovers (told now.store).content now.standing.blocks [] now.marked settled.clean
              (as_settled Fits fits).blocks.undamaged ((as_settled Fits fits).blocks.asked has.sound.asked) (settled.images (tried_from [] all.entries) (all.keeps.images.sound [] (has.images rest)));
        }

      -- or not
      module _ (law : (v : Value) → has_no_line_feed (value_text v) ≡ true) (now : TailHeld S C) (same_standing : now.standing ≡ ran.standing)
          (sound : (tried : List Block) → IsSoundTail told tried ran → IsSoundTail told tried now) where
        images : StoppedLeaves (span before (told now.store)) opened.standing.blocks
        images rest =
            sound_from (safe_recovers law) opened.standing.blocks ran.standing.blocks (tried_from [] all.entries) now.marked (told now.store).content
            fits.blocks.begins fits.blocks.undamaged (fits.blocks.asked has.sound.asked)
            (subst (λ (s : Standing). IfSome (told now.store).content (IsSound s.blocks (tried_from [] all.entries) now.marked)) same_standing
            (sound (tried_from [] all.entries) (all.keeps.images.sound [] (has.images rest))))

        own_left : HoldingWithRest ran.standing.blocks (held (told now.store)) → HoldsRunAfter opened.standing.blocks terms workers jobs (span before (told now.store))
        own_left holds = leaves (told now.store) ran.standing.blocks outcomes failed fits.blocks fits.digests images holds

        more_left : (b : Block) → Contains (tried_in all.entries) b → Undamaged (ran.standing.blocks ++ b ∷ [])
            → HoldingWithRest (ran.standing.blocks ++ b ∷ []) (held (told now.store)) → HoldsRunAfter opened.standing.blocks terms workers jobs (span before (told now.store))
        more_left b among sound holds =
            let more = tried_fits told answers always given before opened has workers some jobs in_order terms masks ran outcomes all covered b among sound in
            leaves (told now.store) (ran.standing.blocks ++ b ∷ []) outcomes failed more.0 more.1 images holds

        cut_left : MayBeCut (held (told ran.store)) (held (told now.store)) (length (journal_bytes ran.standing.blocks))
            → HoldsRunAfter opened.standing.blocks terms workers jobs (span before (told now.store))
        cut_left (inl same) =
            left_by (held (told opened.store)) (held (told ran.store)) opened.standing.blocks ran.standing.blocks (tried_in all.entries) journal
            all.keeps.rest law (HoldsRunAfter opened.standing.blocks terms workers jobs (span before (told now.store)))
            (λ holds. own_left (subst (λ (x : Option (List ℕ)). HoldingWithRest ran.standing.blocks x) (sym same) holds))
            (λ b among sound holds.
            more_left b among sound (subst (λ (x : Option (List ℕ)). HoldingWithRest (ran.standing.blocks ++ b ∷ []) x) (sym same) holds))
        cut_left (inr cut) =
            own_left (all-HoldingWithRest ran.standing.blocks (held (told now.store))
            (cut_by (held (told opened.store)) (held (told ran.store)) opened.standing.blocks ran.standing.blocks (tried_in all.entries) journal
            all.keeps.rest (held (told now.store)) cut))

  -- ---- what is told

  abbrev pub IsToldBy : TailHeld S C → Terms → Type 0
  IsToldBy now terms = AreCovered given (clocks opened.clock) (clocks now.clock) terms

  covered_then : (ran now : TailHeld S C) (terms : Terms) → now.clock ≡ ran.clock → IsToldBy now terms
      → Covers (clocks opened.clock) (clocks ran.clock) terms.times
  covered_then ran now terms same h = subst (λ (c : C). Covers (clocks opened.clock) (clocks c) terms.times) same h.times

  -- the record of the run that was settled
  abbrev pub settled_record : Terms → List PlacedOutcome → TailHeld S C → RunRecord
  settled_record terms outcomes now =
      record_of terms workers jobs before.faults opened now.standing.blocks outcomes (told now.store).faults

  pub settled_done : (terms : Terms) (outcomes : List PlacedOutcome) (now : TailHeld S C) → IsToldBy now terms
      → HasSettled told answers always workers jobs opened outcomes now
      → IsDone terms workers jobs (span before (told now.store)) (settled_record terms outcomes now)
  settled_done terms outcomes now is h =
      is_done terms is.given h.ran outcomes h.all (covered_then h.ran now terms h.settled.clock is) now h.settled

  pub done_by : (now : TailHeld S C) (came : Result (List PlacedOutcome) CommandFault) (r : Result (List ℕ) CommandFault)
      → Settles told answers always workers jobs opened came now → Reports now.standing.blocks came r
      → IfOk r (λ text. (terms : Terms) → IsToldBy now terms → IsReportOf terms workers jobs (span before (told now.store)) text)
  done_by now (Ok outcomes) (Ok text) h reports = λ terms is. record {
    told = settled_record terms outcomes now;
    done = settled_done terms outcomes now is h;
    text_is = reports;
  }
  done_by now (Ok outcomes) (Err why) h reports = tt
  done_by now (Err why) (Ok text) h reports = absurd reports
  done_by now (Err why) (Err other) h reports = tt

  module _ (law : (v : Value) → has_no_line_feed (value_text v) ≡ true) where
    pub stopped_left : (now : TailHeld S C) (why : CommandFault) (terms : Terms) → IsToldBy now terms
        → HasStopped told answers always workers jobs opened why now ⊎ ((why ≡ stop.OutOfMemory) × Keeps told answers always opened now [])
        → HoldsRunAfter opened.standing.blocks terms workers jobs (span before (told now.store))
    stopped_left now why terms is (inl h) =
        cut_left terms is.given h.ran h.outcomes h.all (covered_then h.ran now terms h.stopped.clock is) law now
        h.stopped.standing h.stopped.images h.stopped.cut
    stopped_left now why terms is (inr h) = none_left terms is.given law now h.1

    pub stopped_tells : (now : TailHeld S C) (why : CommandFault) (terms : Terms) → IsToldBy now terms
        → HasStopped told answers always workers jobs opened why now ⊎ ((why ≡ stop.OutOfMemory) × Keeps told answers always opened now [])
        → why ≡ stop.OutOfMemory → TellsJobs workers jobs (span before (told now.store)) terms
    stopped_tells now why terms is (inl h) e =
        inr (ran_tells terms is.given h.ran h.outcomes h.all (covered_then h.ran now terms h.stopped.clock is) now
        (subst (λ (x : CommandFault). IsTailStop x (span (told h.ran.store) (told now.store))) e h.stopped.stop))
    stopped_tells now why terms is (inr h) e = inl (none_tells terms is.given now h.1)

    stopped_ends : (now : TailHeld S C) (why : CommandFault) (terms : Terms) → IsToldBy now terms
        → HasStopped told answers always workers jobs opened why now ⊎ ((why ≡ stop.OutOfMemory) × Keeps told answers always opened now [])
        → IsEnded why workers jobs (span before (told now.store)) terms
    stopped_ends now why terms is h =
        let left = stopped_left now why terms is h in
        record { left = inr (record { told = left.told; left = left.left }); tells = stopped_tells now why terms is h }

    pub ended_at : (now : TailHeld S C) (came : Result (List PlacedOutcome) CommandFault) (r : Result (List ℕ) CommandFault)
        → Settles told answers always workers jobs opened came now → Reports now.standing.blocks came r
        → IfErr r (λ why. (terms : Terms) → IsToldBy now terms → IsEnded why workers jobs (span before (told now.store)) terms)
    ended_at now (Ok outcomes) (Ok text) h reports = tt
    ended_at now (Ok outcomes) (Err why) h reports = λ terms is.
        let t = settled_record terms outcomes now in
        let done = settled_done terms outcomes now is h in
        record {
          left = inr (record { told = t; left = done_leaves terms workers jobs (span before (told now.store)) t done });
          tells = λ e. inr (done_tells terms workers jobs (span before (told now.store)) t done);
        }
    ended_at now (Err why) (Ok text) h reports = tt
    ended_at now (Err why) (Err other) h reports = λ terms is.
        subst (λ (x : CommandFault). IsEnded x workers jobs (span before (told now.store)) terms) (sym reports) (stopped_ends now why terms is h)

  pub stopped_by : (now : TailHeld S C) (why : CommandFault)
      → HasStopped told answers always workers jobs opened why now ⊎ ((why ≡ stop.OutOfMemory) × Keeps told answers always opened now [])
      → IsLoadStop why (span before (told now.store))
  stopped_by now why (inl h) =
      let low = later_faults told answers always opened h.ran h.all.entries h.all.keeps in
      let same = has.faults in
      later_stop why before (told h.ran.store) (told now.store) (omega (arith, low, same)) h.stopped.stop
  stopped_by now why (inr h) = subst (λ (x : CommandFault). IsLoadStop x (span before (told now.store))) (sym h.0) tt

  pub stop_at : (now : TailHeld S C) (came : Result (List PlacedOutcome) CommandFault) (r : Result (List ℕ) CommandFault)
      → Settles told answers always workers jobs opened came now → Reports now.standing.blocks came r
      → IfErr r (λ why. IsLoadStop why (span before (told now.store)))
  stop_at now (Ok outcomes) (Ok text) h reports = tt
  stop_at now (Ok outcomes) (Err why) h reports = subst (λ (x : CommandFault). IsLoadStop x (span before (told now.store))) (sym reports) tt
  stop_at now (Err why) (Ok text) h reports = tt
  stop_at now (Err why) (Err other) h reports =
      subst (λ (x : CommandFault). IsLoadStop x (span before (told now.store))) (sym reports) (stopped_by now why h)

-- ---- from the run to its cut

module _ {S C : Type 0} (told : S → StoreTold) (answers : C → Option (List ℤ)) (always : C → Option ℤ) (workers : ℕ) (jobs : List Placed)
    (opened ran : TailHeld S C) (outcomes : List PlacedOutcome) (all : AllHaveRun told answers always workers jobs opened ran outcomes) where
  pub settles_by : (now : TailHeld S C) (came : Result (List PlacedOutcome) CommandFault) → Comes told ran outcomes came now
      → Settles told answers always workers jobs opened came now
  settles_by now (Ok kept) h = record {
    ran = ran;
    all = subst (λ (os : List PlacedOutcome). AllHaveRun told answers always workers jobs opened ran os) (sym h.0) all;
    settled = h.1;
  }
  settles_by now (Err why) h = inl (record { ran = ran; outcomes = outcomes; all = all; stopped = h })

-- ---- the clock goes on

module _ {S C : Type 0} (told : S → StoreTold) (answers : C → Option (List ℤ)) (always : C → Option ℤ) (workers : ℕ) (jobs : List Placed)
    (opened now : TailHeld S C) where
  abbrev Goes : C → Type 0
  Goes c = GoesOn (clock_told answers always opened.clock) (clock_told answers always c)

  goes_stopped : (why : CommandFault)
      → HasStopped told answers always workers jobs opened why now ⊎ ((why ≡ stop.OutOfMemory) × Keeps told answers always opened now [])
      → Goes now.clock
  goes_stopped why (inl h) =
      subst Goes (sym h.stopped.clock) (clock_goes told answers always opened h.ran h.all.entries h.all.keeps)
  goes_stopped why (inr h) = clock_goes told answers always opened now [] h.1

  pub goes_at : (came : Result (List PlacedOutcome) CommandFault) → Settles told answers always workers jobs opened came now → Goes now.clock
  goes_at (Ok outcomes) h = subst Goes (sym h.settled.clock) (clock_goes told answers always opened h.ran h.all.entries h.all.keeps)
  goes_at (Err why) h = goes_stopped why h
