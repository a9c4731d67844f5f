use Rattle.std.proofs.Common.{◌≡◌, ◌≤◌, ◌<◌, length, sym, ap, ◌∙◌, arith, length-append, [], ◌∷◌, ◌++◌}
use Rattle.std.specs.List.{filter_map, list_any}
use Rattle.std.proofs.lemmas.Bool.{leb-false, leb-true}
use Rattle.ledger_model.specs.Footprints.{document_in, each_once, same_document}
use Rattle.footprints.specs.Lent.{values_lent}
use Rattle.footprints.proofs.Once.{all_passed, among_next, few_is, new_next, none_next, past_most}
use Rattle.footprints.proofs.items.few_ids.Goals as goal

pub values-preserved-in_default : goal.values-preserved-in_default
values-preserved-in_default c = record {
  few = c.values.invariant.few;
  all =
      none_next same_document document_in c.values.ids c.args.values.now c.values.value-index c.value-item.result
      (each_once same_document (filter_map document_in (values_lent c.args.values.now))) c.values-test.true c.value-item.is
      (sym c.in_default.is ∙ c.document_in.ensures) c.values.invariant.all;
}

pub values-preserved-then-is_among : goal.values-preserved-then-is_among
values-preserved-then-is_among c = record {
  few = c.values.invariant.few;
  all =
      among_next same_document document_in c.values.ids c.args.values.now c.values.value-index c.value-item.result c.in-Some.id
      (each_once same_document (filter_map document_in (values_lent c.args.values.now))) c.values-test.true c.value-item.is
      (sym c.in-Some.is ∙ c.document_in.ensures) (sym c.if-is_among.true ∙ c.is_among.ensures ∙ ap (list_any (same_document c.in-Some.id)) c.as_slice.ensures)
      c.values.invariant.all;
}

pub returns-then-is_full : goal.returns-then-is_full
returns-then-is_full c =
    let full : length c.values.ids ≡ 100 =
    omega (arith, leb-true 100 c.len.result (sym c.is_full.ensures ∙ c.if-is_full.true), c.len.ensures, c.values.invariant.few) in
    past_most same_document document_in c.values.ids c.args.values.now c.values.value-index c.value-item.result c.in-Some.id
    (each_once same_document (filter_map document_in (values_lent c.args.values.now))) c.values-test.true c.value-item.is
    (sym c.in-Some.is ∙ c.document_in.ensures) (sym c.if-is_among.false ∙ c.is_among.ensures ∙ ap (list_any (same_document c.in-Some.id)) c.as_slice.ensures)
    full c.values.invariant.all

pub values-preserved : goal.values-preserved
values-preserved c = record {
  few =
      let room : c.len.result < 100 = leb-false 100 c.len.result (sym c.is_full.ensures ∙ c.if-is_full.false) in
      let more : length c.push.new.self ≡ length (c.values.ids ++ c.in-Some.id ∷ []) = ap length c.in_ok-push.ensures.ok in
      omega (arith, room, more, length-append c.values.ids (c.in-Some.id ∷ []), c.len.ensures);
  all =
      new_next same_document document_in c.values.ids c.push.new.self c.args.values.now c.values.value-index c.value-item.result c.in-Some.id
      (each_once same_document (filter_map document_in (values_lent c.args.values.now))) c.values-test.true c.value-item.is
      (sym c.in-Some.is ∙ c.document_in.ensures) (sym c.if-is_among.false ∙ c.is_among.ensures ∙ ap (list_any (same_document c.in-Some.id)) c.as_slice.ensures)
      c.in_ok-push.ensures.ok c.values.invariant.all;
}

pub returns : goal.returns
returns c =
    let past : length c.args.values.now ≤ c.values.value-index = omega (arith, c.values-test.false) in
    few_is c.values.ids (each_once same_document (filter_map document_in (values_lent c.args.values.now))) c.values.invariant.few
    (all_passed same_document document_in c.values.ids c.args.values.now c.values.value-index
    (each_once same_document (filter_map document_in (values_lent c.args.values.now))) past c.values.invariant.all)
