use Rattle.std.proofs.Common.{◌∙◌, sym, subst}
use Rattle.std.specs.Prelude.{IfErr, IfOk}
use Rattle.ledger_model.specs.Script.{all_placed}
use Rattle.laws_history.specs.Calls.{span}
use Rattle.cli_model.specs.Runs.{Terms, IsReportOf}
use Rattle.ledger_cli.specs.Clocks.{AreCovered, GoesOn, clock_told}
use Rattle.ledger_cli.specs.Runs.{HasLoaded, IsEnded}
use Rattle.ledger_cli.specs.Stops.{load_stop}
use Rattle.ledger_cli.proofs.Clocks.{goes_same}
use Rattle.ledger_cli.proofs.Loaded.{unloaded_done, unloaded_ended, unloaded_stop}
use Rattle.ledger_cli.proofs.run.run_by.Goals as goal

pub returns-in-Ok-clause-done : goal.returns-in-Ok-clause-done
returns-in-Ok-clause-done g c =
    let told = g.S.JournalStore.told in
    let clocks = clock_told g.C.Clock.answers g.C.Clock.always in
    let is = c.in-Ok.ensures in
    let has : HasLoaded told c.args.mask.bits (told c.args.resources.store) c.in-Ok.tail =
    record {
      journal = is.journal;
      sound = is.standing;
      mask = is.mask;
      last = is.last;
      content = is.store.0;
      faults = is.store.1;
      images = is.images;
    } in
    subst
    (λ k. IfOk c.run_on.result.value
    (λ text. (terms : Terms) → AreCovered c.args.mask.bits (clocks k) (clocks c.run_on.result.clock) terms
    → IsReportOf terms c.args.crew.now.workers (all_placed c.args.script.now) (span (told c.args.resources.store) (told c.run_on.result.store)) text))
    is.clock (c.run_on.ensures.done c.args.mask.bits (told c.args.resources.store) has)

pub returns-in-Ok-clause-ended : goal.returns-in-Ok-clause-ended
returns-in-Ok-clause-ended g c =
    let told = g.S.JournalStore.told in
    let clocks = clock_told g.C.Clock.answers g.C.Clock.always in
    let is = c.in-Ok.ensures in
    let has : HasLoaded told c.args.mask.bits (told c.args.resources.store) c.in-Ok.tail =
    record {
      journal = is.journal;
      sound = is.standing;
      mask = is.mask;
      last = is.last;
      content = is.store.0;
      faults = is.store.1;
      images = is.images;
    } in
    subst
    (λ k. IfErr c.run_on.result.value
    (λ why. (terms : Terms) → AreCovered c.args.mask.bits (clocks k) (clocks c.run_on.result.clock) terms
    → IsEnded why c.args.crew.now.workers (all_placed c.args.script.now) (span (told c.args.resources.store) (told c.run_on.result.store)) terms))
    is.clock (c.run_on.ensures.ended c.args.mask.bits (told c.args.resources.store) has)

pub returns-in-Ok-clause-stop : goal.returns-in-Ok-clause-stop
returns-in-Ok-clause-stop g c =
    let told = g.S.JournalStore.told in
    let is = c.in-Ok.ensures in
    let has : HasLoaded told c.args.mask.bits (told c.args.resources.store) c.in-Ok.tail =
    record {
      journal = is.journal;
      sound = is.standing;
      mask = is.mask;
      last = is.last;
      content = is.store.0;
      faults = is.store.1;
      images = is.images;
    } in
    c.run_on.ensures.stop c.args.mask.bits (told c.args.resources.store) has

pub returns-in-Err-clause-done : goal.returns-in-Err-clause-done
returns-in-Err-clause-done g c = unloaded_done _ c.unloaded.result.value (load_stop c.in-Err.fault.cause) c.unloaded.ensures.value

pub returns-in-Err-clause-ended : goal.returns-in-Err-clause-ended
returns-in-Err-clause-ended g c =
    let told = g.S.JournalStore.told in
    rw c.unloaded.ensures.store
    (unloaded_ended _ c.args.crew.now.workers (all_placed c.args.script.now) c.unloaded.result.value c.in-Err.fault.cause
    (told c.args.resources.store) (told c.in-Err.fault.store) c.unloaded.ensures.value c.in-Err.ensures.returned.0 c.in-Err.ensures.cause)

pub returns-in-Err-clause-stop : goal.returns-in-Err-clause-stop
returns-in-Err-clause-stop g c =
    let told = g.S.JournalStore.told in
    rw c.unloaded.ensures.store
    (unloaded_stop c.unloaded.result.value c.in-Err.fault.cause (told c.args.resources.store) (told c.in-Err.fault.store) c.unloaded.ensures.value
    c.in-Err.ensures.returned.0 c.in-Err.ensures.cause)

pub returns-in-Ok-clause-goes : goal.returns-in-Ok-clause-goes
returns-in-Ok-clause-goes g c =
    let clocks = clock_told g.C.Clock.answers g.C.Clock.always in
    subst (λ k. GoesOn (clocks k) (clocks c.run_on.result.clock)) c.in-Ok.ensures.clock c.run_on.ensures.goes

pub returns-in-Err-clause-goes : goal.returns-in-Err-clause-goes
returns-in-Err-clause-goes g c =
    let clocks = clock_told g.C.Clock.answers g.C.Clock.always in
    subst (λ k. GoesOn (clocks c.args.resources.clock) (clocks k)) (sym (c.unloaded.ensures.clock ∙ c.in-Err.ensures.same_clock)) (goes_same (clocks c.args.resources.clock))
