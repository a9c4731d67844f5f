use Rattle.std.proofs.Common.{ℕ, List, None, Some, refl, to_z, of_z, to_z-of_z, FitsSigned, w64, rules}
use Rattle.ledger_model.specs.Script.{all_placed}
use Rattle.laws_history.specs.Calls.{span}
use Rattle.cli_model.specs.Runs.{Terms, IsReportOf}
use Rattle.ledger_cli.specs.Clocks.{AreCovered, ClockTold, IsOnTerms, clock_told}
use Rattle.ledger_cli.specs.Runs.{IsEnded}
use Rattle.ledger_cli.specs.declared.command_fault.CommandFault.{CommandFault}
use Rattle.ledger_cli.proofs.Asked.{done_so, ended_so, not_none, on_clock, on_fixed, unasked}
use Rattle.ledger_cli.proofs.Clocks.{extends_same}
use Rattle.ledger_cli.proofs.run.run_script.Goals as goal

pub returns-in-Some-clause-done : goal.returns-in-Some-clause-done
returns-in-Some-clause-done g c =
    let k = c.run_by-value in
    let m = c.mask_by-mask in
    let o = c.args.options.now in
    let s = span (g.S.JournalStore.told c.args.resources.store) (g.S.JournalStore.told k.result.store) in
    let first = g.C.Clock.answers c.args.resources.clock in
    let last = g.C.Clock.answers m.new.clock in
    let ms = c.in-Some.milliseconds in
    let fits : FitsSigned w64 ms = search rules in
    let raw = to_z w64 (of_z w64 ms) in
    let a : ClockTold = record { answers = None; always = Some raw } in
    let b : ClockTold = record { answers = None; always = Some k.result.clock.milliseconds } in
    let Is = λ (text : List ℕ). λ (terms : Terms). IsReportOf terms o.workers (all_placed c.args.script.now) s text in
    done_so (λ (text : List ℕ). (terms : Terms) → AreCovered m.result.bits a b terms → Is text terms)
    (λ (text : List ℕ). IsOnTerms o (span first last) (Is text)) k.result.value
    (λ text so. on_fixed o first last m.result.bits m.ensures.extends (m.ensures.given last (extends_same last)) (m.ensures.answered last (extends_same last))
    raw ms c.in-Some.is (to_z-of_z fits) c.moments_have_times.ensures.0 a b (Is text) c.moments_have_times.ensures.1 refl so) k.ensures.done

pub returns-in-Some-clause-ended : goal.returns-in-Some-clause-ended
returns-in-Some-clause-ended g c =
    let k = c.run_by-value in
    let m = c.mask_by-mask in
    let o = c.args.options.now in
    let s = span (g.S.JournalStore.told c.args.resources.store) (g.S.JournalStore.told k.result.store) in
    let first = g.C.Clock.answers c.args.resources.clock in
    let last = g.C.Clock.answers m.new.clock in
    let ms = c.in-Some.milliseconds in
    let fits : FitsSigned w64 ms = search rules in
    let raw = to_z w64 (of_z w64 ms) in
    let a : ClockTold = record { answers = None; always = Some raw } in
    let b : ClockTold = record { answers = None; always = Some k.result.clock.milliseconds } in
    let Is = λ (why : CommandFault). λ (terms : Terms). IsEnded why o.workers (all_placed c.args.script.now) s terms in
    ended_so (λ (why : CommandFault). (terms : Terms) → AreCovered m.result.bits a b terms → Is why terms)
    (λ (why : CommandFault). IsOnTerms o (span first last) (Is why)) k.result.value
    (λ why so. on_fixed o first last m.result.bits m.ensures.extends (m.ensures.given last (extends_same last)) (m.ensures.answered last (extends_same last))
    raw ms c.in-Some.is (to_z-of_z fits) c.moments_have_times.ensures.0 a b (Is why) c.moments_have_times.ensures.1 refl so) k.ensures.ended

pub returns-in-None-clause-done : goal.returns-in-None-clause-done
returns-in-None-clause-done g c =
    let k = c.run_by in
    let m = c.mask_by-mask in
    let o = c.args.options.now in
    let s = span (g.S.JournalStore.told c.args.resources.store) (g.S.JournalStore.told k.result.store) in
    let clocks = clock_told g.C.Clock.answers g.C.Clock.always in
    let first = g.C.Clock.answers c.args.resources.clock in
    let a = clocks m.new.clock in
    let b = clocks k.result.clock in
    let goes = k.ensures.goes.extends in
    let Is = λ (text : List ℕ). λ (terms : Terms). IsReportOf terms o.workers (all_placed c.args.script.now) s text in
    done_so (λ (text : List ℕ). (terms : Terms) → AreCovered m.result.bits a b terms → Is text terms)
    (λ (text : List ℕ). IsOnTerms o (span first b.answers) (Is text)) k.result.value
    (λ text so. on_clock o first m.result.bits a b m.ensures.extends goes (m.ensures.given b.answers goes) (m.ensures.answered b.answers goes)
    c.in-None.is (Is text) so) k.ensures.done

pub returns-in-None-clause-ended : goal.returns-in-None-clause-ended
returns-in-None-clause-ended g c =
    let k = c.run_by in
    let m = c.mask_by-mask in
    let o = c.args.options.now in
    let s = span (g.S.JournalStore.told c.args.resources.store) (g.S.JournalStore.told k.result.store) in
    let clocks = clock_told g.C.Clock.answers g.C.Clock.always in
    let first = g.C.Clock.answers c.args.resources.clock in
    let a = clocks m.new.clock in
    let b = clocks k.result.clock in
    let goes = k.ensures.goes.extends in
    let Is = λ (why : CommandFault). λ (terms : Terms). IsEnded why o.workers (all_placed c.args.script.now) s terms in
    ended_so (λ (why : CommandFault). (terms : Terms) → AreCovered m.result.bits a b terms → Is why terms)
    (λ (why : CommandFault). IsOnTerms o (span first b.answers) (Is why)) k.result.value
    (λ why so. on_clock o first m.result.bits a b m.ensures.extends goes (m.ensures.given b.answers goes) (m.ensures.answered b.answers goes)
    c.in-None.is (Is why) so) k.ensures.ended

pub returns-in-Some-clause-asks : goal.returns-in-Some-clause-asks
returns-in-Some-clause-asks g c e =
    unasked c.args.options.now.time c.args.options.now.ids c.args.resources.clock c.mask_by-mask.new.clock c.mask_by-mask.new.clock c.mask_by-mask.ensures.asks
    (λ _. refl) e

pub returns-in-None-clause-asks : goal.returns-in-None-clause-asks
returns-in-None-clause-asks g c e =
    unasked c.args.options.now.time c.args.options.now.ids c.args.resources.clock c.mask_by-mask.new.clock c.run_by.result.clock c.mask_by-mask.ensures.asks
    (λ f. absurd (not_none c.args.options.now.time c.in-None.is f)) e
