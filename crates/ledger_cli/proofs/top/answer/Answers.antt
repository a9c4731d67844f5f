use Rattle.std.proofs.Common.{◌≡◌, false, Option, map, refl, sym, subst}
use Rattle.std.specs.Prelude.{string_bytes}
use Rattle.cli_args.specs.Words.{asked}
use Rattle.cli_args.specs.declared.Command.{Command}
use Rattle.laws_history.specs.Calls.{span}
use Rattle.cli_model.specs.Calls.{outside}
use Rattle.cli_model.specs.Top.{Keeps, asks_clock}
use Rattle.ledger_cli.specs.Ends.{Works}
use Rattle.ledger_cli.proofs.Ending.{keeps_all, refused_keeps, refused_works, takes_none, wanted_works}
use Rattle.ledger_cli.proofs.Words.{has_workers}
use Rattle.ledger_cli.proofs.top.answer.Goals as goal

pub work-requires-clause-some : goal.work-requires-clause-some
work-requires-clause-some g c κs within = has_workers (map string_bytes c.args.words.now) c.in-Ok.command c.in-Ok.ensures

pub returns-in-Ok-clause-works : goal.returns-in-Ok-clause-works
returns-in-Ok-clause-works g c =
    let k = c.work in
    let r = c.args.resources in
    let x = outside (span (g.So.Source.told c.args.source.now) (g.So.Source.told k.new.source))
    (span (g.St.JournalStore.told r.store) (g.St.JournalStore.told k.result.store))
    (span (g.C.Clock.answers r.clock) (g.C.Clock.answers k.result.clock)) in
    subst (λ (w : Option Command). Works (k.result.store ≡ r.store) w k.result.value x) (sym c.in-Ok.ensures) k.ensures.works

pub returns-in-Ok-clause-keeps : goal.returns-in-Ok-clause-keeps
returns-in-Ok-clause-keeps g c =
    let k = c.work in
    let r = c.args.resources in
    let x = outside (span (g.So.Source.told c.args.source.now) (g.So.Source.told k.new.source))
    (span (g.St.JournalStore.told r.store) (g.St.JournalStore.told k.result.store))
    (span (g.C.Clock.answers r.clock) (g.C.Clock.answers k.result.clock)) in
    subst (λ (w : Option Command). Keeps (k.result.store ≡ r.store) w x) (sym c.in-Ok.ensures) k.ensures.keeps

pub returns-in-Ok-clause-clock : goal.returns-in-Ok-clause-clock
returns-in-Ok-clause-clock g c e = c.work.ensures.asks (subst (λ (w : Option Command). asks_clock w ≡ false) c.in-Ok.ensures e)

pub returns-in-Err-Refused-clause-works : goal.returns-in-Err-Refused-clause-works
returns-in-Err-Refused-clause-works g c =
    refused_works _ _ _ (c.in-Err-Refused.ensures c.in-Err-Refused.field-0-is) (record { is = refl; told = refl }) refl

pub returns-in-Err-Refused-clause-keeps : goal.returns-in-Err-Refused-clause-keeps
returns-in-Err-Refused-clause-keeps g c =
    refused_keeps _ _ _ (c.in-Err-Refused.ensures c.in-Err-Refused.field-0-is) (record { is = refl; told = refl }) refl

pub returns-in-Err-Refused-clause-few : goal.returns-in-Err-Refused-clause-few
returns-in-Err-Refused-clause-few g c = takes_none (g.So.Source.told c.args.source.now)

pub returns-in-Err-OutOfMemory-clause-works : goal.returns-in-Err-OutOfMemory-clause-works
returns-in-Err-OutOfMemory-clause-works g c =
    let r = c.args.resources in
    let source = g.So.Source.told c.args.source.now in
    let store = g.St.JournalStore.told r.store in
    let clock = g.C.Clock.answers r.clock in
    wanted_works (r.store ≡ r.store) (asked (map string_bytes c.args.words.now)) (outside (span source source) (span store store) (span clock clock))
    (record { is = refl; told = refl }) refl

pub returns-in-Err-OutOfMemory-clause-keeps : goal.returns-in-Err-OutOfMemory-clause-keeps
returns-in-Err-OutOfMemory-clause-keeps g c = keeps_all _ _ _ (record { is = refl; told = refl }) refl

pub returns-in-Err-OutOfMemory-clause-few : goal.returns-in-Err-OutOfMemory-clause-few
returns-in-Err-OutOfMemory-clause-few g c = takes_none (g.So.Source.told c.args.source.now)
