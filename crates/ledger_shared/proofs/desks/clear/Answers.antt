use Rattle.std.proofs.Common.{◌≡◌, ◌∙◌, [], ◌∷◌, ◌++◌, append-nil, ap, arith, length, length-append, map, subst, sym}
use Rattle.std.specs.Prelude.{reverse}
use Rattle.turn_lock.specs.Rule.{Each}
use Rattle.turn_lock.specs.Seats.{Rests, known}
use Rattle.ledger_shared.specs.Behind.{IsRightFor}
use Rattle.ledger_shared.specs.Desks.{knowns}
use Rattle.ledger_shared.proofs.Clearing.{each_done, each_next, emptied, known_done, known_next}
use Rattle.ledger_shared.proofs.desks.clear.Goals as goal

pub desks-init : goal.desks-init
desks-init g c = record {
  each = λ table opened h. (h, subst (λ l. Each (Rests (IsRightFor g.S.JournalStore.told) table opened) l) (sym c.requires.empty) tt);
  known = sym (append-nil (knowns c.args.desks.items)) ∙ ap (λ l. knowns c.args.desks.items ++ reverse (map known l)) (sym c.requires.empty);
  room = omega (arith, c.requires.space, ap length c.requires.empty);
}

pub desks-preserved : goal.desks-preserved
desks-preserved g c =
    let inv = c.desks.invariant in
    let rest = c.pop.new.self.items in
    let d = c.in-Some.desk in
    let p = c.into_pass.result in
    record {
      each = λ table opened h.
          each_next known (λ table opened p. Rests (IsRightFor g.S.JournalStore.told) table opened p) c.desks.desks.items c.desks.passes.items c.put.new.list.items rest d p c.in-Some.ensures.items c.put.ensures.items c.into_pass.ensures.pass
          table opened (inv.each table opened h);
      known = inv.known ∙ known_next known (λ table opened p. Rests (IsRightFor g.S.JournalStore.told) table opened p) c.desks.desks.items c.desks.passes.items c.put.new.list.items rest d p c.in-Some.ensures.items c.put.ensures.items
          c.into_pass.ensures.known;
      room = omega (
        arith,
        inv.room,
        c.put.ensures.len,
        c.put.ensures.room,
        c.pop.ensures.len,
        ap length c.in-Some.ensures.items,
        length-append rest (d ∷ []),
      );
    }

pub returns-clause-each : goal.returns-clause-each
returns-clause-each g c table opened h =
    each_done known (λ table opened p. Rests (IsRightFor g.S.JournalStore.told) table opened p) c.desks.desks.items c.desks.passes.items c.reverse.new.self.items
    c.reverse.ensures.items table opened (c.desks.invariant.each table opened h).1

pub returns-clause-known : goal.returns-clause-known
returns-clause-known g c =
    let none : c.desks.desks.items ≡ [] = emptied c.desks.desks.items (omega (arith, c.in_default.ensures.cases.0, c.desks.desks.ok.0)) in
    known_done known (λ table opened p. Rests (IsRightFor g.S.JournalStore.told) table opened p) c.desks.desks.items c.desks.passes.items c.reverse.new.self.items
    c.reverse.ensures.items none (knowns c.args.desks.items) c.desks.invariant.known
