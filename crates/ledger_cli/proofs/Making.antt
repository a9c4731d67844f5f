-- The run of a workload, from its transactions to what is told of the whole.
use Rattle.std.proofs.Common.{◌≡◌, ◌∙◌, ◌⊎◌, ℕ, zero, suc, ℤ, ◌^◌, ◌<◌, List, [], ◌∷◌, length, refl, sym, ap, ap₂, subst, inl, inr, arith, true, Option, Some, None, Result, Ok, Err}
use Rattle.std.specs.Prelude.{IfSome}
use Rattle.std.specs.List.{AllByRecursion}
use Rattle.id_seed.specs.Seed.{mask_of}
use Rattle.ion_values.specs.declared.value.Value.{Value}
use Rattle.ion_model.specs.Write.{value_text}
use Rattle.ql_types.specs.declared.Hash32.{Hash32}
use Rattle.ledger_model.specs.CommitDigest.{commit_digest}
use Rattle.ledger_model.specs.declared.block.Block.{Block}
use Rattle.ledger_model.specs.declared.outcome.PlacedOutcome.{PlacedOutcome}
use Rattle.ledger_model.specs.declared.script.Job.{Job}
use Rattle.ledger_model.specs.Recovered.{has_no_line_feed}
use Rattle.ledger_model.specs.Script.{Placed, all_placed}
use Rattle.laws_validity.proofs.Lists.{all_like}
use Rattle.laws_workload.proofs.Adding.{made_runs_add_up}
use Rattle.laws_workload.proofs.Places.{IsOfSession, all_of_sessions, session_jobs}
use Rattle.workload.proofs.Lengths.{each-made_session, length-made_session, length-made_sessions}
use Rattle.workload.specs.Made.{made_first, made_sessions}
use Rattle.workload.specs.Sums.{summary, summary_text}
use Rattle.outside.specs.Told.{SourceTold, StoreTold, held}
use Rattle.cli_args.specs.declared.Command.TheVariants as command
use Rattle.cli_args.specs.declared.MakeOptions.{MakeOptions}
use Rattle.turn_lock.specs.History.{Stands}
use Rattle.laws_history.specs.Calls.{Span, span}
use Rattle.laws_history.specs.Records.{RunRecord, IsOfSomeJob, made, untold, InOrder, IsBehind}
use Rattle.laws_history.proofs.Places.{InOrder-all_placed}
use Rattle.laws_history.specs.Standings.{Standing}
use Rattle.cli_model.proofs.First.{comes_first}
use Rattle.cli_model.proofs.Holding.{done_leaves, summarized_holds, summarized_tells}
use Rattle.cli_model.proofs.Imaged.{stays_still}
use Rattle.cli_model.specs.Making.{IsSummaryOf, TellsWorkload, made_jobs, made_terms}
use Rattle.cli_model.specs.Calls.{Outside}
use Rattle.cli_model.specs.Inputs.{IsFine, IsIdle}
use Rattle.cli_model.specs.Lines.{not_empty_line}
use Rattle.cli_model.specs.Top.{Keeps}
use Rattle.cli_model.specs.Runs.{Terms, HoldsRunAfter}
use Rattle.cli_model.specs.Stores.{IsUnfailed}
use Rattle.laws_history.specs.Claims.{IsOfOwnDigest}
use Rattle.laws_history.proofs.Fitting.{contains_stands}
use Rattle.laws_history.proofs.Lists.{stands_all, stands_contains}
use Rattle.journal_reader.specs.Loads.{IsCause}
use Rattle.ledger_core.specs.Tails.{TailHeld}
use Rattle.journal_reader.specs.declared.cause.LoadCause.{LoadCause}
use Rattle.journal_reader.specs.declared.cause.LoadCause.TheVariants as load
use Rattle.run_after_setup.specs.FirstRuns.{HasBegun, HaveAllRun}
use Rattle.ledger_shared.specs.Sessions.{AreNumbered}
use Rattle.ledger_cli.specs.declared.make.Workload.{Workload}
use Rattle.ledger_cli.specs.declared.command_fault.CommandFault.{CommandFault}
use Rattle.ledger_cli.specs.declared.command_fault.CommandFault.TheVariants as stop
use Rattle.ledger_cli.specs.Clocks.{AreCovered, Covers, GoesOn, clock_told}
use Rattle.ledger_cli.specs.Ends.{Works}
use Rattle.ledger_cli.specs.Making.{HasHalted, HasMade, IsMakeStop, IsUnmade, IsWorkload, Makes, MakesAll, SumsUp, at_first}
use Rattle.ledger_cli.specs.Runs.{Comes, HasLoaded, HasStopped}
use Rattle.ledger_cli.specs.Stops.{IsLoadStop, IsTailStop, load_stop}
use Rattle.ledger_cli.proofs.Clocks.{between_covers, extends_same}
use Rattle.ledger_cli.proofs.Leaving.{loaded_journal}
use Rattle.ledger_cli.proofs.FirstAlone.{first_alone, first_alone_told}
use Rattle.ledger_cli.proofs.Loaded.{goes_at, ran_tells, settled_done, settled_record, stopped_by, stopped_left, unloaded_cause}
use Rattle.ledger_cli.proofs.Running.{clock_goes, run_fits}

-- ---- the jobs

-- the transactions of the options are their jobs
pub jobs_are : (o : MakeOptions) (w : Workload) → IsWorkload o w → at_first w.first ∷ all_placed w.sessions ≡ made_jobs o
jobs_are o w of = ap₂ (λ (job : Job) (script : List (List Job)). at_first job ∷ all_placed script) of.first of.sessions

abbrev rest_of : MakeOptions → List Placed
rest_of o = session_jobs o.seed o.sessions o.transactions

of_rest : (o : MakeOptions) → AllByRecursion (IsOfSession o.seed) (rest_of o)
of_rest o = all_of_sessions o.seed o.sessions o.transactions

later_sessions : (o : MakeOptions) → AllByRecursion (λ (q : Placed). 0 < q.place.session) (rest_of o)
later_sessions o = all_like (IsOfSession o.seed) (λ (q : Placed). 0 < q.place.session) (λ q h. h.some) (rest_of o) (of_rest o)

in_order : (o : MakeOptions) → InOrder (made_jobs o)
in_order o = (
  all_like (λ (q : Placed). 0 < q.place.session) (IsBehind (at_first made_first).place)
      (λ q some same. let none : 0 ≡ q.place.session = same in absurd (omega (arith, some, none))) (rest_of o) (later_sessions o),
  InOrder-all_placed (made_sessions o.seed o.sessions o.transactions),
)

first_in_order : InOrder (at_first made_first ∷ [])
first_in_order = (tt, tt)

-- none of them sends a digest
sends_none : (o : MakeOptions) (p : Placed) → Stands p (made_jobs o) → p.job.digest ≡ None
sends_none o p (inl same) = ap (λ (q : Placed). q.job.digest) same
sends_none o p (inr among) =
    ap (λ (j : Job). j.digest) (stands_all (IsOfSession o.seed) p (rest_of o) (of_rest o) among).job

-- ---- what the first one leaves is left by a part of the whole

module _ (o : MakeOptions) where
  wider_job : (b : Block) → IsOfSomeJob (at_first made_first ∷ []) b → IsOfSomeJob (made_jobs o) b
  wider_job b h = record {
    placed = h.placed;
    among = stands_contains h.placed (made_jobs o) (by (contains_stands (at_first made_first ∷ []) h.placed h.among));
    of_job = h.of_job;
  }
    where
      by : Stands h.placed (at_first made_first ∷ []) → Stands h.placed (made_jobs o)
      by (inl same) = inl same
      by (inr bad) = absurd bad

  own_digest : (b : Block) → IsOfOwnDigest (made_jobs o) b
  own_digest b p among same =
      subst (λ (d : Option Hash32). IfSome d (λ digest. digest ≡ commit_digest b.header.tx p.job.statements))
      (sym (sends_none o p (contains_stands (made_jobs o) p among))) tt

  all_own : (bs : List Block) → AllByRecursion (IsOfOwnDigest (made_jobs o)) bs
  all_own [] = tt
  all_own (b ∷ bs) = (own_digest b, all_own bs)

  wider_run : (before : List Block) (terms : Terms) (store : Span StoreTold) → HoldsRunAfter before terms 1 (at_first made_first ∷ []) store
      → HoldsRunAfter before terms o.workers (made_jobs o) store
  wider_run before terms store h =
      let t : RunRecord = record h.told { workers = o.workers; jobs = made_jobs o } in
      let of = h.left.of_run in
      let fits = h.left.fits in
      record {
        told = t;
        before_is = h.before_is;
        left = record {
          of_run = record {
            found = of.found;
            given = of.given;
            times = of.times;
            workers_are = refl;
            jobs_are = refl;
            opened = of.opened;
            closed = of.closed;
          };
          fits = record {
            begins = fits.begins;
            undamaged = fits.undamaged;
            asked = fits.asked;
            masked = fits.masked;
            strand = fits.strand;
            serial = fits.serial;
            times = fits.times;
            of_jobs = all_like (IsOfSomeJob (at_first made_first ∷ [])) (IsOfSomeJob (made_jobs o)) wider_job (made t)
                (subst (λ (ps : List Placed). AllByRecursion (IsOfSomeJob ps) (made t)) of.jobs_are fits.of_jobs);
            once = fits.once;
          };
          digests = all_own (made t);
          holding = h.left.holding;
          images = h.left.images;
        };
      }

-- sessions and transactions have numbers of 32 bits
pub numbered : (o : MakeOptions) → o.sessions < 2 ^ 32 → o.transactions < 2 ^ 32
    → AreNumbered (made_sessions o.seed o.sessions o.transactions)
numbered o sessions transactions = record {
  sessions = each-made_session (λ (jobs : List Job). length jobs < 2 ^ 32) o.seed o.sessions o.transactions
      (λ session. subst (λ n. n < 2 ^ 32) (sym (length-made_session o.seed session o.transactions)) transactions);
  few = subst (λ n. n < 2 ^ 32) (sym (length-made_sessions o.seed o.sessions o.transactions)) sessions;
}

-- ---- the run

module _ {S C : Type 0} (told : S → StoreTold) (answers : C → Option (List ℤ)) (always : C → Option ℤ) (workers : ℕ)
    (first : Placed) (jobs : List Placed) (opened ran : TailHeld S C) (outcomes : List PlacedOutcome)
    (h : HaveAllRun told answers always workers first jobs opened outcomes ran) where
  -- what was run is settled or not
  pub makes_all : (came : Result (List PlacedOutcome) CommandFault) (now : TailHeld S C) → Comes told ran outcomes came now
      → MakesAll told answers always workers first jobs opened came now
  makes_all (Ok kept) now comes =
      subst (λ (os : List PlacedOutcome). HasMade told answers always workers first jobs opened os now) (sym comes.0) (record {
        mid = h.mid;
        begun = h.begun;
        settled = record { ran = ran; all = h.all; settled = comes.1 };
        in_turn = h.in_turn;
      })
  makes_all (Err why) now comes = inl (record {
    mid = h.mid;
    stopped = record { ran = ran; outcomes = h.begun.outcome ∷ outcomes; all = h.all; stopped = comes };
    in_turn = h.in_turn;
  })

-- ---- what is told of it

abbrev first_job : Placed
first_job = at_first made_first

module _ {S C : Type 0} (told : S → StoreTold) (answers : C → Option (List ℤ)) (always : C → Option ℤ) (o : MakeOptions) (some : 0 < o.workers)
    (before : StoreTold) (opened : TailHeld S C) (has : HasLoaded told (mask_of o.seed) before opened) (empty : opened.standing.blocks ≡ [])
    (law : (v : Value) → has_no_line_feed (value_text v) ≡ true) (now : TailHeld S C) where
  abbrev store : Span StoreTold
  store = span before (told now.store)

  abbrev clock : Span (Option (List ℤ))
  clock = span (answers opened.clock) (answers now.clock)

  abbrev terms : Terms
  terms = made_terms o clock

  abbrev Goes : Type 0
  Goes = GoesOn (clock_told answers always opened.clock) (clock_told answers always now.clock)

  covered : Goes → AreCovered (mask_of o.seed) (clock_told answers always opened.clock) (clock_told answers always now.clock) terms
  covered goes = record {
    given = refl;
    times = between_covers (answers opened.clock) (clock_told answers always opened.clock) (clock_told answers always now.clock)
        (extends_same (answers opened.clock)) goes.extends;
  }

  covered_then : (ran : TailHeld S C) → now.clock ≡ ran.clock → Goes
      → Covers (clock_told answers always opened.clock) (clock_told answers always ran.clock) terms.times
  covered_then ran same goes =
      subst (λ (c : C). Covers (clock_told answers always opened.clock) (clock_told answers always c) terms.times) same (covered goes).times

  summed : (outcomes : List PlacedOutcome) (text : List ℕ) → text ≡ summary_text (summary now.standing.blocks)
      → HasMade told answers always o.workers first_job (rest_of o) opened outcomes now → IsSummaryOf o store clock text
  summed outcomes text is h =
      let all = h.begun.outcome ∷ outcomes in
      let goes = goes_at told answers always o.workers (made_jobs o) opened now (Ok all) h.settled in
      let t = settled_record told answers always (mask_of o.seed) before opened has o.workers some (made_jobs o) (in_order o) terms all now in
      let done = settled_done told answers always (mask_of o.seed) before opened has o.workers some (made_jobs o) (in_order o) terms all now
      (covered goes) h.settled in
      let first = run_fits told answers always (mask_of o.seed) before opened has 1 (omega arith) (first_job ∷ []) first_in_order
      (record { given = None; times = untold }) tt h.mid (h.begun.outcome ∷ []) h.begun.alone (λ time given. tt) in
      record {
        told = t;
        empty = empty;
        first = comes_first t _ first_job (rest_of o) h.begun.outcome outcomes empty refl refl (later_sessions o) done.fits empty refl refl first;
        alone = first_alone told answers always (mask_of o.seed) before opened has o.workers some first_job refl (rest_of o) (in_order o) terms refl
            h.settled.ran h.mid all h.settled.all (covered_then h.settled.ran h.settled.settled.clock goes) h.in_turn now.standing.blocks
            (told now.store).faults (ap (λ (s : Standing). s.blocks) h.settled.settled.standing) h.settled.settled.fine;
        done = done;
        text_is = is;
        adds_up = λ many.
            is ∙ ap summary_text (made_runs_add_up t o.seed o.sessions o.transactions done.fits.blocks empty refl many);
      }

  abbrev Left : Type 0
  Left = HoldsRunAfter [] terms o.workers (made_jobs o) store

  -- it began on the empty journal
  from_empty : HoldsRunAfter opened.standing.blocks terms o.workers (made_jobs o) store → Left
  from_empty h = subst (λ (bs : List Block). HoldsRunAfter bs terms o.workers (made_jobs o) store) empty h

  wanted : (why : CommandFault) → why ≡ stop.OutOfMemory → IsMakeStop why store
  wanted why is = subst (λ (x : CommandFault). IsMakeStop x store) (sym is) tt

  abbrev Told : Type 0
  Told = IsUnfailed store ⊎ TellsWorkload o store clock

  -- all were run, and the store didn't fail since
  halted_tells : (why : CommandFault) → HasHalted told answers always o.workers first_job (rest_of o) opened why now → Goes
      → why ≡ stop.OutOfMemory → Told
  halted_tells why h goes e =
      let s = h.stopped in
      let covers = covered_then s.ran s.stopped.clock goes in
      let same = subst (λ (x : CommandFault). IsTailStop x (span (told s.ran.store) (told now.store))) e s.stopped.stop in
      inr (inl (record {
        tells = ran_tells told answers always (mask_of o.seed) before opened has o.workers some (made_jobs o) (in_order o) terms refl s.ran
            s.outcomes s.all covers now same;
        empty = empty;
        alone = first_alone_told told answers always (mask_of o.seed) before opened has o.workers some first_job refl (rest_of o) (in_order o) terms
            refl s.ran h.mid s.outcomes s.all covers h.in_turn (told now.store).faults same;
      }))

  -- the first job alone, as a run that was stopped after it
  begun_stopped : HasBegun told answers always first_job opened now
      → HasStopped told answers always 1 (first_job ∷ []) opened stop.OutOfMemory now
  begun_stopped h = record {
    ran = now;
    outcomes = h.outcome ∷ [];
    all = h.alone;
    stopped = record { clock = refl; cut = inl refl; stop = refl; standing = refl; images = λ tried sound. sound };
  }

  begun_goes : HasBegun told answers always first_job opened now → Goes
  begun_goes h = clock_goes told answers always opened now h.alone.entries h.alone.keeps

  begun_left : HasBegun told answers always first_job opened now → Left
  begun_left h =
      from_empty
      (wider_run o opened.standing.blocks terms store
      (stopped_left told answers always (mask_of o.seed) before opened has 1 (omega arith) (first_job ∷ []) first_in_order law now
      stop.OutOfMemory terms (covered (begun_goes h)) (inl (begun_stopped h))))

  begun_tells : HasBegun told answers always first_job opened now → Told
  begun_tells h =
      inr (inr (record {
        tells = ran_tells told answers always (mask_of o.seed) before opened has 1 (omega arith) (first_job ∷ []) first_in_order terms refl now
            (h.outcome ∷ []) h.alone (covered_then now refl (begun_goes h)) now refl;
        empty = empty;
        alone = tt;
      }))

  as_make : (why : CommandFault) → IsLoadStop why store → IsMakeStop why store
  as_make stop.BadWords h = h
  as_make (stop.NotEmpty count) h = absurd h
  as_make (stop.BadRange from to) h = h
  as_make (stop.BadInput cause) h = h
  as_make (stop.NoSuch none) h = h
  as_make (stop.Damaged sequence kind) h = h
  as_make stop.SourceFailed h = h
  as_make stop.StoreFailed h = h
  as_make (stop.NotAccepted fault) h = h
  as_make stop.NotPublished h = h
  as_make stop.OutOfMemory h = h

  stopped : (why : CommandFault) → HasHalted told answers always o.workers first_job (rest_of o) opened why now
      ⊎ ((why ≡ stop.OutOfMemory) × (HasBegun told answers always first_job opened now ⊎ (now ≡ opened)))
      → IsUnmade o why store clock
  stopped why (inl h) =
      let goes = goes_at told answers always o.workers (made_jobs o) opened now (Err why) (inl h.stopped) in
      record {
        left = inr (from_empty (stopped_left told answers always (mask_of o.seed) before opened has o.workers some (made_jobs o) (in_order o) law now
            why terms (covered goes) (inl h.stopped)));
        is = as_make why
            (stopped_by told answers always (mask_of o.seed) before opened has o.workers some (made_jobs o) (in_order o) now why (inl h.stopped));
        tells = halted_tells why h goes;
      }
  stopped why (inr (is, inl h)) = record { left = inr (begun_left h); is = wanted why is; tells = λ e. begun_tells h }
  stopped why (inr (is, inr same)) = record {
    left = inl (stays_still (span before (told now.store)) (ap (λ (t : TailHeld S C). (told t.store).content) same ∙ has.content));
    is = wanted why is;
    tells = λ e. inl (ap (λ (t : TailHeld S C). (told t.store).faults) same ∙ has.faults);
  }

  made_so : (came : Result (List PlacedOutcome) CommandFault) (r : Result (List ℕ) CommandFault)
      → MakesAll told answers always o.workers first_job (rest_of o) opened came now → SumsUp now.standing.blocks came r
      → Makes o r store clock
  made_so (Ok outcomes) (Ok text) h sums = summed outcomes text sums h
  made_so (Ok outcomes) (Err why) h sums =
      let one = summed outcomes (summary_text (summary now.standing.blocks)) refl h in
      record {
        left = inr (record {
          told = one.told;
          before_is = one.empty;
          left = done_leaves terms o.workers (made_jobs o) store one.told one.done;
        });
        is = wanted why sums;
        tells = λ e. inr (inl (summarized_tells o store clock (summary_text (summary now.standing.blocks)) one));
      }
  made_so (Err why) (Ok text) h sums = absurd sums
  made_so (Err why) (Err other) h sums = subst (λ (x : CommandFault). IsUnmade o x store clock) (sym sums) (stopped why h)

  -- with the transactions of the workload
  pub makes_so : (w : Workload) → IsWorkload o w → (came : Result (List PlacedOutcome) CommandFault) (r : Result (List ℕ) CommandFault)
      → MakesAll told answers always o.workers (at_first w.first) (all_placed w.sessions) opened came now
      → SumsUp now.standing.blocks came r → Makes o r store clock
  makes_so w of came r h sums =
      made_so came r
      (subst (λ (script : List (List Job)). MakesAll told answers always o.workers first_job (all_placed script) opened came now) of.sessions
      (subst (λ (job : Job). MakesAll told answers always o.workers (at_first job) (all_placed w.sessions) opened came now) of.first h)) sums

-- ---- where nothing is run

pub is_empty : (blocks : List Block) (n : ℕ) → n ≡ length blocks → n ≡ 0 → blocks ≡ []
is_empty [] n long none = refl
is_empty (b ∷ blocks) n long none = absurd (omega (arith, long, none))

is_some : (n : ℕ) → (n ≡ 0 → ⊥) → 0 < n
is_some zero h = absurd (h refl)
is_some (suc n) h = omega arith

-- the journal has blocks
pub has_blocks : {S C : Type 0} (told : S → StoreTold) (o : MakeOptions) (given : ℕ) (before : StoreTold) (opened : TailHeld S C)
    (clock : Span (Option (List ℤ))) (n : ℕ) → HasLoaded told given before opened → n ≡ length opened.standing.blocks → (n ≡ 0 → ⊥)
    → Makes o (Err (stop.NotEmpty n)) (span before (told opened.store)) clock
has_blocks told o given before opened _ n has long some = record {
  left = inl (stays_still (span before (told opened.store)) has.content);
  is = record {
    blocks = opened.standing.blocks;
    reads = record {
      found = loaded_journal (held before) opened.standing.blocks opened.marked has.journal;
      undamaged = has.sound.undamaged;
      only_read = record { content = has.content; faults = has.faults };
    };
    some = subst (λ (m : ℕ). 0 < m) long (is_some n some);
    count_is = long;
  };
  tells = λ e. inl has.faults;
}

-- it was not loaded
unloaded_by : (o : MakeOptions) (cause : LoadCause) (before after : StoreTold) (clock : Span (Option (List ℤ))) → after.content ≡ before.content
    → IsCause cause before after → IsLoadStop (load_stop cause) (span before after) → Makes o (Err (load_stop cause)) (span before after) clock
unloaded_by o (load.Damaged sequence kind) before after _ same is h =
    record { left = inl (stays_still (span before after) same); is = h; tells = λ e. inl is.1 }
unloaded_by o (load.StoreFault count) before after _ same is h =
    record { left = inl (stays_still (span before after) same); is = h; tells = λ e. let bad : ⊥ = cc e in absurd bad }
unloaded_by o load.OutOfMemory before after _ same is h = record { left = inl (stays_still (span before after) same); is = h; tells = λ e. inl is }

pub unloaded_makes : (o : MakeOptions) (cause : LoadCause) (before after : StoreTold) (clock : Span (Option (List ℤ)))
    (came : Result (List ℕ) CommandFault) → came ≡ Err (load_stop cause) → after.content ≡ before.content → IsCause cause before after
    → Makes o came (span before after) clock
unloaded_makes o cause before after clock came is same h =
    subst (λ (r : Result (List ℕ) CommandFault). Makes o r (span before after) clock) (sym is)
    (unloaded_by o cause before after clock same h (unloaded_cause cause before after same h))

-- there was no memory for the transactions
pub unbegun : (o : MakeOptions) (told : StoreTold) (clock : Span (Option (List ℤ))) → Makes o (Err stop.OutOfMemory) (span told told) clock
unbegun o told clock = record { left = inl (stays_still (span told told) refl); is = tt; tells = λ e. inl refl }

-- ---- the command

works_none : (same : Type 0) (o : MakeOptions) (x : Outside) (why : CommandFault) → IsFine x.source → IsUnmade o why x.store x.clock
    → IsMakeStop why x.store → Works same (Some (command.Make o)) (Err why) x
works_none same o x stop.BadWords fine un h = absurd h
works_none same o x (stop.BadInput cause) fine un h = absurd h
works_none same o x (stop.NoSuch none) fine un h = absurd h
works_none same o x (stop.Damaged sequence kind) fine un h = (
  inr (inl (refl, record { sequence = sequence; kind = kind; reads = h; line_is = refl })),
  record { source = fine; store = inl h.only_read.faults },
)
works_none same o x stop.SourceFailed fine un h = absurd h
works_none same o x stop.StoreFailed fine un h = (inr (inr (refl, record { failed = h; line_is = refl })), fine)
works_none same o x (stop.NotEmpty blocks) fine un h = (
  inl (refl, record { blocks = h.blocks; reads = h.reads; some = h.some; line_is = ap not_empty_line h.count_is }),
  record { source = fine; store = inl h.reads.only_read.faults },
)
works_none same o x (stop.BadRange from to) fine un h = absurd h
works_none same o x (stop.NotAccepted fault) fine un h = absurd h
works_none same o x stop.NotPublished fine un h = absurd h
works_none same o x stop.OutOfMemory fine un h = record { source = fine; store = un.tells refl }

pub works_made : (same : Type 0) (o : MakeOptions) (x : Outside) (came : Result (List ℕ) CommandFault) → IsIdle x.source
    → Makes o came x.store x.clock → Works same (Some (command.Make o)) came x
works_made same o x (Ok text) idle h = (
  h,
  record {
    source = ap (λ (t : SourceTold). t.faults) idle;
    store = inr (inl (summarized_tells o x.store x.clock text h));
  },
)
works_made same o x (Err why) idle h = works_none same o x why (ap (λ (t : SourceTold). t.faults) idle) h h.is

pub keeps_made : (same : Type 0) (o : MakeOptions) (x : Outside) (came : Result (List ℕ) CommandFault) → IsIdle x.source
    → Makes o came x.store x.clock → Keeps same (Some (command.Make o)) x
keeps_made same o x (Ok text) idle h = (inr (summarized_holds o x.store x.clock text h), idle)
keeps_made same o x (Err why) idle h = (h.left, idle)
