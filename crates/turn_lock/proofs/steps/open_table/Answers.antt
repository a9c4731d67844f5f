use Rattle.std.proofs.Common.{◌≡◌, ap, ◌∙◌, refl, sym, subst, map, arith, rules, List, [], ◌∷◌, ◌++◌, Some, None}
use Rattle.turn_lock.proofs.Passes.{opened, right_at}
use Rattle.turn_lock.proofs.steps.open_table.Goals as goal

pub new-requires : goal.new-requires
new-requires g c =
    let t = g.T.Counted in
    let same = ap t.opening (sym c.requires.about) in
    opened t.opening t.entries t.is_right t.opens t.uses (t.opening c.args.about.now.value) c.args.state c.in_ok-slots.slots.items c.in_ok-slots.ensures.ok same c.requires.entries
    (right_at t.is_right _ _ _ _ same c.requires.entries c.requires.right)
