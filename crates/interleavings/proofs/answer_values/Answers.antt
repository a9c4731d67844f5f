use Rattle.std.proofs.Common.{sym, ◌∙◌}
use Rattle.interleavings.proofs.Telling.{behind_first, first_told, usual_told}
use Rattle.interleavings.proofs.answer_values.Goals as goal

pub returns-in-Some : goal.returns-in-Some
returns-in-Some c =
    first_told c.answer_events.result c.args.out.now c.answer_events.new.out c.args.values.now _ c.in-Some.times
    (sym c.in-Some.is ∙ c.in_ok-times.ensures.times) (behind_first c.args.values.now) c.answer_events.ensures

pub returns-in_ok-usual_times-in-None : goal.returns-in_ok-usual_times-in-None
returns-in_ok-usual_times-in-None c =
    let done = c.answer_events-in-None in
    usual_told done.result c.args.out.now done.new.out c.args.values.now _ (sym c.in-None.is ∙ c.in_ok-times.ensures.times)
    c.in_ok-usual_times-in-None.ensures done.ensures
