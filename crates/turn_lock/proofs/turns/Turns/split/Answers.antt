use Rattle.std.proofs.Common.{◌≡◌, ap, ◌∙◌, refl, sym, subst, map, arith, rules, List, [], ◌∷◌, ◌++◌, Some, None}
use Rattle.turn_lock.proofs.Passes.{splits}
use Rattle.turn_lock.proofs.turns.Turns.split.Goals as goal

pub split_seat-requires : goal.split_seat-requires
split_seat-requires g c =
    let t = g.T.Counted in
    let pass = c.args.pass.now in
    let sized = c.args.self.now.sized in
    (c.requires.of_lock, omega (arith, sized), splits t.opening t.entries t.is_right t.opens t.uses (t.opening c.args.self.now.table.shared.key.value) pass.id pass.me.0 pass.me.0.me c.requires.shows)
