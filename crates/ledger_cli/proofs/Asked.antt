-- What comes of a run, from its script to the end.
use Rattle.std.proofs.Common.{◌≡◌, ◌∙◌, ℕ, ℤ, List, false, refl, ap, inl, inr, sym, subst, Option, Some, None, Result, Ok, Err}
use Rattle.std.specs.Prelude.{IfOk, IfErr, IfSome, is_none, ◌||◌}
use Rattle.ion_time.specs.Millis.{BeginsAt, nearest}
use Rattle.ion_values.specs.declared.time.TimeParts.{TimeParts}
use Rattle.ledger_model.specs.declared.script.Job.{Job}
use Rattle.ledger_model.specs.Script.{all_placed}
use Rattle.outside.specs.Told.{StoreTold}
use Rattle.cli_args.specs.declared.Command.TheVariants as command
use Rattle.cli_args.specs.declared.IdSource.{IdSource}
use Rattle.cli_args.specs.declared.IdSource.TheVariants as ids
use Rattle.cli_args.specs.declared.RunOptions.{RunOptions}
use Rattle.laws_history.specs.Calls.{span}
use Rattle.laws_history.specs.Records.{Times, one_time}
use Rattle.cli_model.specs.Calls.{Outside}
use Rattle.cli_model.specs.Clocks.{Answers, AreTimes, GaveFirst, given_by, times_between}
use Rattle.cli_model.specs.Inputs.{HasScript, IsFine}
use Rattle.cli_model.specs.Runs.{Terms, AreTerms, IsReportOf, LeavesRun}
use Rattle.cli_model.specs.Stores.{IsUncalled}
use Rattle.cli_model.specs.Top.{TellsStore, is_first_answer}
use Rattle.ledger_cli.specs.declared.command_fault.CommandFault.{CommandFault}
use Rattle.ledger_cli.specs.declared.command_fault.CommandFault.TheVariants as stop
use Rattle.ledger_cli.specs.Clocks.{AreCovered, ClockTold, Extends, IsAsked, IsOnTerms}
use Rattle.ledger_cli.specs.Ends.{Works}
use Rattle.ledger_cli.specs.Inputs.{IsReadStop}
use Rattle.ledger_cli.specs.Runs.{IsEnded, LeavesJobs, TellsJobs}
use Rattle.ledger_cli.specs.Stops.{IsLoadStop}
use Rattle.ledger_cli.proofs.Clocks.{between_covers, one_covers}
use Rattle.cli_model.proofs.Holding.{done_tells, reported_holds}

-- ---- the terms

-- on the times that the words or the clock tell, if the mask is this one wherever it is told
module _ (o : RunOptions) (first last : Answers) (mask : ℕ) (given : IfSome (given_by o.ids (span first last)) (λ given. given ≡ mask))
    (answered : GaveFirst o.ids (span first last)) (Is : Terms → Type 0) where
  abbrev terms_of : Times → Terms
  terms_of times = record { given = given_by o.ids (span first last); times = times }

  on_times : (times : Times) → AreTimes o.time (span first last) times → Is (terms_of times) → IsOnTerms o (span first last) Is
  on_times times are so = record {
    terms = terms_of times;
    are = record { given = refl; answered = answered; times = are };
    is = so;
  }

-- what the clock always gives
pub on_fixed : (o : RunOptions) (first last : Answers) (mask : ℕ) → Extends first last
    → IfSome (given_by o.ids (span first last)) (λ given. given ≡ mask) → GaveFirst o.ids (span first last)
    → (raw ms : ℤ) → o.time ≡ Some ms → raw ≡ ms → (own : TimeParts) (a b : ClockTold) (Is : Terms → Type 0) → BeginsAt (nearest raw) own
    → a.always ≡ Some raw → ((terms : Terms) → AreCovered mask a b terms → Is terms) → IsOnTerms o (span first last) Is
on_fixed o first last mask extends given answered raw ms is same own a b Is begins always so =
    let begins_at = subst (λ (z : ℤ). BeginsAt (nearest z) own) same begins in
    let told = subst (λ (t : Option ℤ). AreTimes t (span first last) (one_time own)) (sym is) (own, begins_at, refl) in
    on_times o first last mask given answered Is (one_time own) told
    (so (record { given = given_by o.ids (span first last); times = one_time own })
    (record { given = given; times = one_covers a b raw own always begins }))

-- what it answered
pub on_clock : (o : RunOptions) (first : Answers) (mask : ℕ) (a b : ClockTold) → Extends first a.answers → Extends a.answers b.answers
    → IfSome (given_by o.ids (span first b.answers)) (λ given. given ≡ mask) → GaveFirst o.ids (span first b.answers)
    → o.time ≡ None → (Is : Terms → Type 0) → ((terms : Terms) → AreCovered mask a b terms → Is terms) → IsOnTerms o (span first b.answers) Is
on_clock o first mask a b extends goes given answered is Is so =
    let times = times_between first b.answers in
    on_times o first b.answers mask given answered Is times
    (subst (λ (t : Option ℤ). AreTimes t (span first b.answers) times) (sym is) refl)
    (so (record { given = given_by o.ids (span first b.answers); times = times })
    (record { given = given; times = between_covers first a b extends goes }))

-- where there is a text, and where there is none
pub done_so : {A E : Type 0} (P Q : A → Type 0) (r : Result A E) → ((x : A) → P x → Q x) → IfOk r P → IfOk r Q
done_so P Q (Ok x) f h = f x h
done_so P Q (Err e) f h = tt

pub ended_so : {A E : Type 0} (P Q : E → Type 0) (r : Result A E) → ((e : E) → P e → Q e) → IfErr r P → IfErr r Q
ended_so P Q (Ok x) f h = tt
ended_so P Q (Err e) f h = f e h

-- ---- a script that was run

module _ (same : Type 0) (o : RunOptions) (x : Outside) (script : List (List Job)) (has : HasScript o.rules x.source script) (fine : IsFine x.source) where
  abbrev Reported : List ℕ → Terms → Type 0
  Reported text terms = IsReportOf terms o.workers (all_placed script) x.store text

  abbrev Ended : CommandFault → Terms → Type 0
  Ended why terms = IsEnded why o.workers (all_placed script) x.store terms

  tells_so : (terms : Terms) → AreTerms o x.clock terms → TellsJobs o.workers (all_placed script) x.store terms
      → TellsStore (Some (command.Run o)) x
  tells_so terms are (inl fine) = inl fine
  tells_so terms are (inr tells) = inr (record { script = script; has = has; terms = terms; are = are; tells = tells })

  ends_so : (why : CommandFault) → IsLoadStop why x.store → IsOnTerms o x.clock (Ended why) → Works same (Some (command.Run o)) (Err why) x
  ends_so stop.BadWords h on = absurd h
  ends_so (stop.BadInput cause) h on = absurd h
  ends_so (stop.NoSuch why) h on = absurd h
  ends_so (stop.Damaged sequence kind) h on = (
    inr (inl (refl, record { script = script; has = has }, record { sequence = sequence; kind = kind; reads = h; line_is = refl })),
    record { source = fine; store = inl h.only_read.faults },
  )
  ends_so stop.SourceFailed h on = absurd h
  ends_so stop.StoreFailed h on =
      (inr (inr (inr (refl, record { script = script; has = has }, record { failed = h; line_is = refl }))), fine)
  ends_so (stop.NotEmpty blocks) h on = absurd h
  ends_so (stop.BadRange from to) h on = absurd h
  ends_so (stop.NotAccepted fault) h on = absurd h
  ends_so stop.NotPublished h on = absurd h
  ends_so stop.OutOfMemory h on = record { source = fine; store = tells_so on.terms on.are (on.is.tells refl) }

  pub works_run : (came : Result (List ℕ) CommandFault) → IfOk came (λ text. IsOnTerms o x.clock (Reported text))
      → IfErr came (λ why. IsOnTerms o x.clock (Ended why)) → IfErr came (λ why. IsLoadStop why x.store)
      → Works same (Some (command.Run o)) came x
  works_run (Ok text) done ended stops = (
    record { script = script; has = has; terms = done.terms; are = done.are; reported = done.is },
    record {
      source = fine;
      store = tells_so done.terms done.are
          (inr (done_tells done.terms o.workers (all_placed script) x.store done.is.told done.is.done));
    },
  )
  works_run (Err why) done ended stops = ends_so why stops ended

  left_so : (terms : Terms) → AreTerms o x.clock terms → LeavesJobs o.workers (all_placed script) x.store terms → LeavesRun o x
  left_so terms are (inl is) = inl is
  left_so terms are (inr run) = inr (record { script = script; has = has; terms = terms; are = are; holds = run })

  pub keeps_run : (came : Result (List ℕ) CommandFault) → IfOk came (λ text. IsOnTerms o x.clock (Reported text))
      → IfErr came (λ why. IsOnTerms o x.clock (Ended why)) → LeavesRun o x
  keeps_run (Ok text) done ended =
      left_so done.terms done.are (inr (reported_holds done.terms o.workers (all_placed script) x.store text done.is))
  keeps_run (Err why) done ended = left_so ended.terms ended.are ended.is.left

-- ---- no script

unfailed : (same : Type 0) (x : Outside) → IsUncalled same x.store → x.store.after.faults ≡ x.store.before.faults
unfailed same x un = ap (λ (t : StoreTold). t.faults) un.told

pub works_unread : (same : Type 0) (o : RunOptions) (x : Outside) (why : CommandFault) → IsUncalled same x.store → IsReadStop o.rules why x.source
    → Works same (Some (command.Run o)) (Err why) x
works_unread same o x stop.BadWords un h = absurd h
works_unread same o x (stop.BadInput cause) un h =
    (inl (refl, record { cause = _; is = h.0; line_is = refl }, un), record { source = h.1; store = inl (unfailed same x un) })
works_unread same o x (stop.NoSuch why) un h = absurd h
works_unread same o x (stop.Damaged sequence kind) un h = absurd h
works_unread same o x stop.SourceFailed un h =
    (inr (inr (inl (refl, record { failed = h; line_is = refl }, un))), inl (unfailed same x un))
works_unread same o x stop.StoreFailed un h = absurd h
works_unread same o x (stop.NotEmpty blocks) un h = absurd h
works_unread same o x (stop.BadRange from to) un h = absurd h
works_unread same o x (stop.NotAccepted fault) un h = absurd h
works_unread same o x stop.NotPublished un h = absurd h
works_unread same o x stop.OutOfMemory un h = record { source = h; store = inl (unfailed same x un) }

-- ---- the clock

pub not_none : (time : Option ℤ) → time ≡ None → is_none time ≡ false → ⊥
not_none None is f = cc
not_none (Some ms) is f = cc

-- where the words give the time and the ids, the clock isn't asked
pub unasked : {C : Type 0} (time : Option ℤ) (source : IdSource) (a b c : C) → IsAsked source a b → (is_none time ≡ false → c ≡ b)
    → (is_none time || is_first_answer source) ≡ false → c ≡ a
unasked None source a b c asked same e = cc
unasked (Some ms) ids.Plain a b c asked same e = same refl ∙ asked
unasked (Some ms) (ids.Seed seed) a b c asked same e = same refl ∙ asked
unasked (Some ms) ids.FirstAnswer a b c asked same e = cc
