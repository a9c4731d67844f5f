-- Where a job was run alone and the others behind it, the record of the whole run tells that it was over before them.
use Rattle.std.proofs.Common.{◌≡◌, ◌∙◌, ℕ, ℤ, ◌<◌, List, [], ◌∷◌, ◌++◌, map, Option, sym, ap, subst}
use Rattle.std.specs.Prelude.{IfSome}
use Rattle.std.specs.List.{AllByRecursion}
use Rattle.ledger_model.specs.declared.block.Block.{Block}
use Rattle.ledger_model.specs.declared.outcome.Outcome.{Outcome}
use Rattle.ledger_model.specs.declared.outcome.PlacedOutcome.{PlacedOutcome}
use Rattle.ledger_model.specs.Script.{Placed}
use Rattle.outside.specs.Told.{StoreTold}
use Rattle.laws_machine.specs.Entries.{Entry, Opening}
use Rattle.laws_history.specs.Claims.{RunsBefore}
use Rattle.laws_history.specs.Records.{RunRecord, InOrder}
use Rattle.laws_history.specs.Runs.{IsRunBy, Served, opening_of, told_of}
use Rattle.laws_workload.specs.First.{RanAfterFirst}
use Rattle.laws_workload.specs.Joining.{HaveWorked, OpensBehind}
use Rattle.laws_workload.proofs.First.{first_is_over}
use Rattle.ledger_core.specs.Tails.{TailHeld}
use Rattle.ledger_shared.specs.Behind as shared
use Rattle.ledger_shared.specs.Ran.{AllHaveRun}
use Rattle.run_after_setup.specs.FirstRuns.{RanInTurn}
use Rattle.cli_model.specs.FirstAlone.{AllBehind, FirstRanAlone, RunsAlone}
use Rattle.cli_model.specs.Runs.{Terms}
use Rattle.ledger_cli.specs.Clocks.{Covers, clock_told}
use Rattle.ledger_cli.specs.Runs.{HasLoaded}
use Rattle.ledger_cli.proofs.Running.{is_run, record_of}

-- ---- the lists of a record

abbrev placed_of : Served → Placed
placed_of s = s.placed

all_behind : (t : RunRecord) (first : Outcome) (ss : List Served)
    → AllByRecursion (λ (s : Served). RunsBefore t first s.placed s.outcome) ss
    → AllBehind t first (map placed_of ss) (map told_of ss)
all_behind t first [] h = tt
all_behind t first (s ∷ ss) h = (h.0, all_behind t first ss h.1)

ran_alone : (t : RunRecord) (ss others : List Served) (first : Served) → ss ≡ first ∷ others
    → t.jobs ≡ map placed_of ss → t.outcomes ≡ map told_of ss
    → AllByRecursion (λ (s : Served). RunsBefore t first.outcome s.placed s.outcome) others → FirstRanAlone t
ran_alone t ss others first are jobs outcomes h =
    subst (λ (ps : List Placed). RunsAlone t ps t.outcomes) (sym (jobs ∙ ap (map placed_of) are))
    (subst (λ (os : List PlacedOutcome). RunsAlone t (map placed_of (first ∷ others)) os)
    (sym (outcomes ∙ ap (map told_of) are)) (all_behind t first.outcome others h))

-- ---- the run

module _ {S C : Type 0} (told : S → StoreTold) (answers : C → Option (List ℤ)) (always : C → Option ℤ) (given : ℕ) (before : StoreTold)
    (opened : TailHeld S C) (has : HasLoaded told given before opened) (workers : ℕ) (some : 0 < workers) (p : Placed) (zeroth : p.place.session ≡ 0)
    (jobs : List Placed) (in_order : InOrder (p ∷ jobs)) (terms : Terms) (masks : IfSome terms.given (λ g. g ≡ given)) (ran mid : TailHeld S C)
    (outcomes : List PlacedOutcome) (all : AllHaveRun told answers always workers (p ∷ jobs) opened ran outcomes)
    (covered : Covers (clock_told answers always opened.clock) (clock_told answers always ran.clock) terms.times)
    (turn : RanInTurn told workers opened mid all.served all.entries) where
  abbrev recorded : List Block → ℕ → RunRecord
  recorded blocks closed = record_of terms workers (p ∷ jobs) before.faults opened blocks outcomes closed

  abbrev t : RunRecord
  t = recorded ran.standing.blocks (told ran.store).faults

  by : IsRunBy t (turn.first ∷ turn.others) (turn.es ++ turn.more) all.pass_of
  by =
      subst (λ (ss : List Served). IsRunBy t ss (turn.es ++ turn.more) all.pass_of) turn.served_are
      (subst (λ (es : List Entry). IsRunBy t all.served es all.pass_of) turn.entries_are
      (is_run told answers always given before opened has workers some (p ∷ jobs) in_order terms masks ran outcomes all covered))

  same_opening : shared.opening_of told opened ≡ opening_of t
  same_opening = λ i. record {
    mask = opened.standing.mask;
    blocks = opened.standing.blocks;
    last = has.last i;
    count = has.faults i;
  }

  after_first : RanAfterFirst t turn.first turn.others turn.es turn.more
  after_first = record {
    alone = subst (λ (o : Opening). HaveWorked o 1 (turn.first ∷ []) turn.es) same_opening turn.alone;
    behind = shared.opening_of told mid;
    opens = subst (λ (o : Opening). OpensBehind o turn.es (shared.opening_of told mid)) same_opening turn.opens;
    all = turn.rest;
  }

  is_first : turn.first.placed ≡ p
  is_first =
      let jobs_are : p ∷ jobs ≡ map placed_of (turn.first ∷ turn.others) = all.jobs_are ∙ ap (map placed_of) turn.served_are in
      cc (sym jobs_are)

  each : AllByRecursion (λ (s : Served). RunsBefore t turn.first.outcome s.placed s.outcome) turn.others
  each =
      first_is_over t turn.first turn.others turn.es turn.more all.pass_of
      (ap (λ (q : Placed). q.place.session) is_first ∙ zeroth) after_first by

  alone : FirstRanAlone t
  alone = ran_alone t all.served turn.others turn.first turn.served_are all.jobs_are all.outcomes_are each

  -- whatever the store did since
  pub first_alone_told : (closed : ℕ) → closed ≡ (told ran.store).faults → FirstRanAlone (recorded ran.standing.blocks closed)
  first_alone_told closed same = subst (λ (n : ℕ). FirstRanAlone (recorded ran.standing.blocks n)) (sym same) alone

  pub first_alone : (blocks : List Block) (closed : ℕ) → blocks ≡ ran.standing.blocks → closed ≡ (told ran.store).faults
      → FirstRanAlone (recorded blocks closed)
  first_alone blocks closed are same =
      subst (λ (bs : List Block). FirstRanAlone (recorded bs closed)) (sym are) (first_alone_told closed same)
