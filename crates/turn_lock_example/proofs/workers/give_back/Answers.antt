use Rattle.std.proofs.Common.{◌≡◌, ap, ◌∙◌, refl, sym, subst, rules, List, [], ◌∷◌, ◌++◌, Some}
use Rattle.turn_lock_example.specs.declared.tally.Mark.TheVariants.{Back}
use Rattle.turn_lock_example.specs.Marks.{run}
use Rattle.turn_lock_example.proofs.Runs.{may_give, drawn_still, opened_below}
use Rattle.turn_lock_example.proofs.workers.give_back.Goals as goal

pub give_back-requires : goal.give_back-requires
give_back-requires g c =
    let took = c.take-state in
    let pass = took.new.pass in
    let run_is = subst (λ l. run 0 l ≡ Some took.result.next) took.ensures.entries took.result.runs in
    let drawn = drawn_still _ _ c.args.number (ap (λ k. k.own) took.ensures.known) c.requires.drawn in
    opened_below pass.me.0.me.seen pass.me.0.me.own c.args.number took.result.next took.ensures.pass.part run_is drawn.0

pub step-requires-clause-entry : goal.step-requires-clause-entry
step-requires-clause-entry g c =
    let took = c.take-state in
    let pass = took.new.pass in
    let drawn = drawn_still _ _ c.args.number (ap (λ k. k.own) took.ensures.known) c.requires.drawn in
    (Back c.args.number, c.in-Ok.ensures.back ∙ ap (λ l. l ++ Back c.args.number ∷ []) took.ensures.entries, may_give pass.me.0.me.seen pass.me.0.me.own c.args.number drawn.0 drawn.1)
