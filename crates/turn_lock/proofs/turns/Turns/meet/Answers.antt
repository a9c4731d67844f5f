use Rattle.std.proofs.Common.{◌≡◌, ap, ◌∙◌, refl, sym, subst, map, arith, rules, List, [], ◌∷◌, ◌++◌, Some, None}
use Rattle.turn_lock.specs.History.{ShareNothing}
use Rattle.turn_lock.proofs.Passes.{share_still}
use Rattle.turn_lock.proofs.turns.Turns.meet.Goals as goal

pub returns-clause-apart : goal.returns-clause-apart
returns-clause-apart g c =
    let both = c.level.ensures.both in
    share_still _ _ _ _ (ap (λ k. k.own) both.0) (ap (λ k. k.own) both.1) c.level.ensures.apart
