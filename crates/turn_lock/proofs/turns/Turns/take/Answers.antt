use Rattle.std.proofs.Common.{◌≡◌, ap, ◌∙◌, refl, sym, subst, map, arith, rules, List, [], ◌∷◌, ◌++◌, Some, None}
use Rattle.turn_lock.proofs.Passes.{uses_stand, uses_still}
use Rattle.turn_lock.proofs.turns.Turns.take.Goals as goal

pub returns-clause-uses : goal.returns-clause-uses
returns-clause-uses g c =
    let t = g.T.Counted in
    let old = c.args.pass.now in
    let stand = uses_stand t.opening t.entries t.is_right t.opens t.uses (t.opening c.args.self.now.table.shared.key.value) old.me.0.me old.me.0.kept (t.entries c.seize.result) c.seize.ensures.told in
    uses_still t.opens t.uses _ _ _ _ (ap (λ k. k.seen) c.seize.ensures.seen) (ap (λ k. k.own) c.seize.ensures.seen) stand
