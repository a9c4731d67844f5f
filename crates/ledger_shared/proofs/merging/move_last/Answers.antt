use Rattle.std.proofs.Common.{◌≡◌, ◌∙◌, [], ◌∷◌, ◌++◌, append-nil, append_assoc, ap, arith, length, length-append, option_to_list, refl, sym}
use Rattle.std.specs.Prelude.{reverse}
use Rattle.std.proofs.lemmas.List.{reverse-append}
use Rattle.ledger_shared.proofs.merging.move_last.Goals as goal

pub outcomes-init : goal.outcomes-init
outcomes-init c = record {
  low = omega arith;
  moved = ([], omega arith, sym (append-nil c.args.to.now.items), append-nil c.args.from.now.items);
  len = refl;
  room = c.requires.room;
  from_len = omega arith;
  capacity = omega arith;
}

pub outcomes-preserved : goal.outcomes-preserved
outcomes-preserved c =
    let inv = c.outcomes.invariant in
    let x = c.unwrap-outcome.result in
    let old = inv.moved.0 in
    let items : c.outcomes.from.items ≡ c.pop.new.self.items ++ x ∷ [] =
    c.pop.ensures.items ∙ ap (λ o. c.pop.new.self.items ++ option_to_list o) c.unwrap-outcome.ensures in
    let one : length (option_to_list c.pop.result) ≡ 1 = ap (λ o. length (option_to_list o)) c.unwrap-outcome.ensures in
    record {
      low = omega (arith, inv.low);
      moved = (
        old ++ x ∷ [],
        omega (arith, inv.moved.1, length-append old (x ∷ []), c.outcomes-test.true),
        c.put.ensures.items ∙ ap (λ l. l ++ x ∷ []) inv.moved.2 ∙ append_assoc c.args.to.now.items old (x ∷ []),
        ap (λ l. c.pop.new.self.items ++ l) (reverse-append old (x ∷ [])) ∙ sym (append_assoc c.pop.new.self.items (x ∷ []) (reverse old))
            ∙ ap (λ l. l ++ reverse old) (sym items) ∙ inv.moved.3,
      );
      len = omega (arith, inv.len, c.put.ensures.len, c.outcomes-test.true);
      room = omega (arith, inv.room, c.put.ensures.len, c.put.ensures.room, c.outcomes-test.true);
      from_len = omega (arith, inv.from_len, c.pop.ensures.len, one, c.outcomes-test.true, inv.low);
      capacity = omega (arith, inv.capacity, c.put.ensures.room);
    }
