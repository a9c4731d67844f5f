use Rattle.std.proofs.Common.{◌≡◌, ◌-◌, arith, ap, not, sym, ◌∙◌}
use Rattle.ion_values.specs.declared.value.Field.{Field}
use Rattle.ledger_model.proofs.RepeatedNames.{opened, repeats_later, repeats_at, repeats_not, named_more, was_there}
use Rattle.ledger_model.proofs.fields.repeats.Goals as goal

pub returns-then-not-branch : goal.returns-then-not-branch
returns-then-not-branch c =
    let f = c.index-fields-left.result in
    let is = opened c.args.fields.now (c.fields.left - 1) c.fields.left f (omega arith) (omega arith) c.index-fields-left.is in
    let named : c.as_str.result.now ≡ f.name = c.as_str.ensures ∙ sym (ap (λ (g : Field). g.name) c.index-fields-left.is) in
    let there = was_there c.fields.names c.as_str.result _ f _ named c.in_ok-insert.ensures.added c.fields.invariant.members ∙ ap not c.if-not-branch.true in
    sym (repeats_later c.args.fields.now (c.fields.left - 1) (repeats_at _ _ f is there))

pub fields-preserved : goal.fields-preserved
fields-preserved c =
    let f = c.index-fields-left.result in
    let is = opened c.args.fields.now (c.fields.left - 1) c.fields.left f (omega arith) (omega arith) c.index-fields-left.is in
    let named : c.as_str.result.now ≡ f.name = c.as_str.ensures ∙ sym (ap (λ (g : Field). g.name) c.index-fields-left.is) in
    let new = was_there c.fields.names c.as_str.result _ f _ named c.in_ok-insert.ensures.added c.fields.invariant.members ∙ ap not c.if-not-branch.false in
    record {
      within = omega arith;
      members = named_more c.fields.names c.insert.new.self c.as_str.result _ _ f is named c.in_ok-insert.ensures.updates c.fields.invariant.members;
      distinct = repeats_not _ _ f is new c.fields.invariant.distinct;
    }
