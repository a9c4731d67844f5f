use Rattle.std.proofs.Common.{◌≡◌, ap, ◌∙◌, refl, sym, subst, rules, List, [], ◌∷◌, ◌++◌, length, Some}
use Rattle.turn_lock.specs.History.{placed}
use Rattle.turn_lock_example.specs.declared.tally.Mark.TheVariants.{Drawn}
use Rattle.turn_lock_example.specs.Marks.{run}
use Rattle.turn_lock_example.proofs.Runs.{may_draw, drawn_here, drawn_still}
use Rattle.turn_lock_example.proofs.workers.draw.Goals as goal

pub step-requires-clause-entry : goal.step-requires-clause-entry
step-requires-clause-entry g c =
    let took = c.take-state in
    let pass = took.new.pass in
    let run_is = subst (λ l. run 0 l ≡ Some took.result.next) took.ensures.entries took.result.runs in
    (Drawn c.in-Ok.number, c.in-Ok.ensures.drawn.1 ∙ ap (λ l. l ++ Drawn c.in-Ok.number ∷ []) took.ensures.entries, may_draw pass.me.0.me.seen pass.me.0.me.own c.in-Ok.number took.result.next run_is c.in-Ok.ensures.drawn.0)

pub returns-in-Ok-clause-drawn : goal.returns-in-Ok-clause-drawn
returns-in-Ok-clause-drawn g c =
    let took = c.take-state in
    let pass = took.new.pass in
    let run_is = subst (λ l. run 0 l ≡ Some took.result.next) took.ensures.entries took.result.runs in
    let entries = c.in-Ok.ensures.drawn.1 ∙ ap (λ l. l ++ Drawn c.in-Ok.number ∷ []) took.ensures.entries in
    let own_is = ap (λ k. k.own) c.give.ensures.known ∙ ap (λ k. k.own) (c.step.ensures.known (Drawn c.in-Ok.number) entries) in
    drawn_still _ _ c.in-Ok.number own_is (drawn_here pass.me.0.me.seen pass.me.0.me.own c.in-Ok.number took.result.next (length pass.me.0.me.seen) took.ensures.pass.part run_is c.in-Ok.ensures.drawn.0)
