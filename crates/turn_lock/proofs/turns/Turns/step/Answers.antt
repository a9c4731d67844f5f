use Rattle.std.proofs.Common.{◌≡◌, ap, ◌∙◌, refl, sym, subst, map, arith, rules, List, [], ◌∷◌, ◌++◌, Some, None}
use Rattle.turn_lock.proofs.Passes.{last_is}
use Rattle.turn_lock.proofs.turns.Turns.step.Goals as goal

pub note-requires-clause-entry : goal.note-requires-clause-entry
note-requires-clause-entry g c =
    let entry = c.requires.entry in
    (entry.0, last_is c.args.pass.now.me.0.me.seen (g.T.Counted.entries c.args.state.now) entry.0 entry.1, entry.1, entry.2)

pub returns-clause-known : goal.returns-clause-known
returns-clause-known g c e is = c.note.ensures.entry e (last_is c.args.pass.now.me.0.me.seen (g.T.Counted.entries c.args.state.now) e is)
