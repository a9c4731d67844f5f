use Rattle.std.proofs.Common.{◌∙◌, [], ◌∷◌, ◌++◌, ap, arith, length, refl, subst, sym}
use Rattle.turn_lock.specs.declared.view.Known.{Known}
use Rattle.turn_lock.specs.History.{AreWhole}
use Rattle.turn_lock.specs.Rule.{Each}
use Rattle.laws_machine.specs.Entries.{Entry}
use Rattle.ledger_shared.specs.Desks.{IsIdle, IsOf, knowns}
use Rattle.ledger_shared.proofs.Setting.{next_idle, next_room, next_whole, whole_first}
use Rattle.ledger_shared.proofs.desks.add_others.Goals as goal

pub desks-init : goal.desks-init
desks-init g c = record {
  table = refl;
  opened = refl;
  own = ap (λ (k : Known Entry). k.own) c.requires.known;
  idle = subst (λ l. Each (IsIdle c.args.last.now.table c.args.last.now.opened) l) (sym c.requires.empty) tt;
  whole = whole_first (knowns c.args.desks.now.items) c.args.last.now.known (ap knowns c.requires.empty) c.requires.known;
  len = omega (arith, ap length c.requires.empty);
  low = c.requires.some;
  space = c.requires.space;
  room = λ i d low. absurd (omega (arith, low, ap length c.requires.empty));
}

pub desks-preserved : goal.desks-preserved
desks-preserved g c =
    let inv = c.desks.invariant in
    let made = c.in_ok-worker in
    let added = c.in_ok-add_desk.ensures.added in
    let before = c.desks.desks.items in
    let after = c.add_desk.new.desks.items in
    let of : IsOf c.args.last.now.table c.args.last.now.opened made.worker = (made.ensures.of.0 ∙ inv.table, made.ensures.of.1 ∙ inv.opened) in
    record {
      table = made.ensures.table ∙ inv.table;
      opened = made.ensures.opened ∙ inv.opened;
      own = ap (λ (k : Known Entry). k.own) made.ensures.known ∙ inv.own;
      idle = next_idle before after added.0 made.worker added.1 added.2 c.args.last.now.table c.args.last.now.opened of
          (ap (λ (k : Known Entry). k.own) made.ensures.split) added.3 inv.idle;
      whole = next_whole before after added.0 made.worker added.1 added.2 c.desks.last c.another.new.self made.ensures.split made.ensures.known inv.whole;
      len = omega (arith, inv.len, c.in_ok-add_desk.ensures.len);
      low = omega (arith, c.desks-test.true);
      space = omega (arith, inv.space, c.in_ok-add_desk.ensures.space);
      room = next_room before after added.0 made.worker added.1 added.2 c.args.deal.now.workers c.args.deal.now.script.now c.desks.place
          (omega (arith, inv.len, c.desks.desks.ok.0)) added.4 inv.room;
    }

pub returns-in_err-worker-clause-whole : goal.returns-in_err-worker-clause-whole
returns-in_err-worker-clause-whole g c =
    subst (λ (k : Known Entry). AreWhole (knowns c.desks.desks.items ++ k ∷ [])) (sym c.in_err-worker.ensures.refused) c.desks.invariant.whole

pub returns-in_err-add_desk-clause-whole : goal.returns-in_err-add_desk-clause-whole
returns-in_err-add_desk-clause-whole g c =
    let made = c.in_ok-worker in
    let added = c.add_desk.ensures.added in
    next_whole c.desks.desks.items c.add_desk.new.desks.items added.0 made.worker added.1 added.2 c.desks.last c.another.new.self made.ensures.split
    made.ensures.known c.desks.invariant.whole
