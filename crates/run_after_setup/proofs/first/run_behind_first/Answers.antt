use Rattle.std.proofs.Common.{inl}
use Rattle.ledger_model.specs.declared.outcome.PlacedOutcome.{PlacedOutcome}
use Rattle.ledger_model.specs.Script.{Placed, all_placed}
use Rattle.run_after_setup.proofs.Joined.{all_joined, first_stays, if_err, if_ok}
use Rattle.run_after_setup.proofs.first.run_behind_first.Goals as goal

pub returns-in-Ok-clause-ran : goal.returns-in-Ok-clause-ran
returns-in-Ok-clause-ran g c =
    let told = g.S.JournalStore.told in
    let answers = g.C.Clock.answers in
    let always = g.C.Clock.always in
    let ran = c.in-Ok.field-0 in
    let first : Placed = record { place = c.args.setup.now.place; job = c.args.setup.now.job.now } in
    let outcome : PlacedOutcome = record { place = c.args.setup.now.place; outcome = ran.outcome } in
    if_ok _ _ c.run_all.result c.run_all.ensures.ran (λ r all.
    let joined =
    all_joined told answers always c.args.tail ran.tail r.tail first c.requires.zeroth outcome c.in-Ok.ensures.ran
    c.args.crew.now.workers (all_placed c.args.script.now) r.outcomes c.requires.some all in
    record {
      mid = ran.tail;
      begun = record { outcome = outcome; alone = c.in-Ok.ensures.ran };
      all = joined.0;
      in_turn = joined.1;
    })

pub returns-in-Ok-clause-refused : goal.returns-in-Ok-clause-refused
returns-in-Ok-clause-refused g c =
    let told = g.S.JournalStore.told in
    let answers = g.C.Clock.answers in
    let always = g.C.Clock.always in
    let ran = c.in-Ok.field-0 in
    let first : Placed = record { place = c.args.setup.now.place; job = c.args.setup.now.job.now } in
    let outcome : PlacedOutcome = record { place = c.args.setup.now.place; outcome = ran.outcome } in
    if_err _ _ c.run_all.result c.run_all.ensures.refused (λ e none. inl (record {
      outcome = outcome;
      alone = first_stays told answers always c.args.tail ran.tail e.tail first c.requires.zeroth outcome c.in-Ok.ensures.ran none;
    }))
