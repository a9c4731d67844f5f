use Rattle.std.proofs.Common.{◌≡◌, ◌≤◌, ◌<◌, length, sym, ap, ◌∙◌, arith, length-append, [], ◌∷◌, ◌++◌}
use Rattle.std.specs.List.{filter_map, list_any}
use Rattle.std.proofs.lemmas.Bool.{leb-false, leb-true}
use Rattle.ion_order.specs.Key.{key_of}
use Rattle.ion_values.specs.Keys.{is_same_key}
use Rattle.ledger_model.specs.Footprints.{each_once}
use Rattle.footprints.specs.Lent.{values_lent}
use Rattle.footprints.proofs.Once.{all_passed, among_next, few_is, new_next, none_next, past_most}
use Rattle.footprints.proofs.items.few_keys.Goals as goal

pub values-preserved-in_default : goal.values-preserved-in_default
values-preserved-in_default c = record {
  few = c.values.invariant.few;
  all =
      none_next is_same_key key_of c.values.keys c.args.values.now c.values.value-index c.value-item.result
      (each_once is_same_key (filter_map key_of (values_lent c.args.values.now))) c.values-test.true c.value-item.is
      (sym c.in_default.is ∙ c.in_ok-key.ensures) c.values.invariant.all;
}

pub values-preserved-then-is_found : goal.values-preserved-then-is_found
values-preserved-then-is_found c = record {
  few = c.values.invariant.few;
  all =
      among_next is_same_key key_of c.values.keys c.args.values.now c.values.value-index c.value-item.result c.in-Some.key
      (each_once is_same_key (filter_map key_of (values_lent c.args.values.now))) c.values-test.true c.value-item.is
      (sym c.in-Some.is ∙ c.in_ok-key.ensures) (sym c.if-is_found.true ∙ c.is_found.ensures ∙ ap (list_any (is_same_key c.in-Some.key)) c.as_slice.ensures)
      c.values.invariant.all;
}

pub returns-then-is_full : goal.returns-then-is_full
returns-then-is_full c =
    let full : length c.values.keys ≡ 100 =
    omega (arith, leb-true 100 c.len.result (sym c.is_full.ensures ∙ c.if-is_full.true), c.len.ensures, c.values.invariant.few) in
    past_most is_same_key key_of c.values.keys c.args.values.now c.values.value-index c.value-item.result c.in-Some.key
    (each_once is_same_key (filter_map key_of (values_lent c.args.values.now))) c.values-test.true c.value-item.is
    (sym c.in-Some.is ∙ c.in_ok-key.ensures) (sym c.if-is_found.false ∙ c.is_found.ensures ∙ ap (list_any (is_same_key c.in-Some.key)) c.as_slice.ensures)
    full c.values.invariant.all

pub values-preserved : goal.values-preserved
values-preserved c = record {
  few =
      let room : c.len.result < 100 = leb-false 100 c.len.result (sym c.is_full.ensures ∙ c.if-is_full.false) in
      let more : length c.push.new.self ≡ length (c.values.keys ++ c.in-Some.key ∷ []) = ap length c.in_ok-push.ensures.ok in
      omega (arith, room, more, length-append c.values.keys (c.in-Some.key ∷ []), c.len.ensures);
  all =
      new_next is_same_key key_of c.values.keys c.push.new.self c.args.values.now c.values.value-index c.value-item.result c.in-Some.key
      (each_once is_same_key (filter_map key_of (values_lent c.args.values.now))) c.values-test.true c.value-item.is
      (sym c.in-Some.is ∙ c.in_ok-key.ensures) (sym c.if-is_found.false ∙ c.is_found.ensures ∙ ap (list_any (is_same_key c.in-Some.key)) c.as_slice.ensures)
      c.in_ok-push.ensures.ok c.values.invariant.all;
}

pub returns : goal.returns
returns c =
    let past : length c.args.values.now ≤ c.values.value-index = omega (arith, c.values-test.false) in
    few_is c.values.keys (each_once is_same_key (filter_map key_of (values_lent c.args.values.now))) c.values.invariant.few
    (all_passed is_same_key key_of c.values.keys c.args.values.now c.values.value-index
    (each_once is_same_key (filter_map key_of (values_lent c.args.values.now))) past c.values.invariant.all)
