use Rattle.std.proofs.Common.{◌≡◌, map}
use Rattle.std.specs.Prelude.{string_bytes}
use Rattle.cli_args.specs.Words.{asked}
use Rattle.laws_history.specs.Calls.{span}
use Rattle.cli_model.specs.Calls.{outside}
use Rattle.ledger_cli.proofs.Ending.{by_work, does_so}
use Rattle.ledger_cli.proofs.top.ledger_top.Goals as goal

pub returns-clause-does : goal.returns-clause-does
returns-clause-does g c =
    let k = c.answer-value in
    let end = c.end-status in
    let same = k.result.store ≡ c.args.store in
    let x = outside (span (g.So.Source.told c.args.source.now) (g.So.Source.told k.new.source))
    (span (g.St.JournalStore.told c.args.store) (g.St.JournalStore.told k.result.store))
    (span (g.C.Clock.answers c.args.clock) (g.C.Clock.answers k.result.clock)) in
    let sink = span (g.Si.Sink.told c.args.sink.now) (g.Si.Sink.told end.new.sink) in
    does_so same (record { words = c.args.words.now; told = x; sink = sink }) end.result c.number_of.result c.number_of.ensures
    (by_work same (asked (map string_bytes c.args.words.now)) x sink k.result.value end.result k.ensures.works end.ensures) k.ensures.keeps k.ensures.few
