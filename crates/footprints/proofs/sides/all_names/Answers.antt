use Rattle.std.proofs.Common.{◌≤◌, length, sym, ◌∙◌, ap, arith}
use Rattle.std.proofs.lemmas.List.{drop_all}
use Rattle.std.specs.Option.{option_copied}
use Rattle.footprints.proofs.Naming.{name_next, name_none, names_end}
use Rattle.footprints.proofs.sides.all_names.Goals as goal

pub returns-in_default : goal.returns-in_default
returns-in_default c = λ params.
    sym (name_none params c.steps.names c.args.steps.now c.steps.step-index c.step-item.result c.steps-test.true c.step-item.is
    (ap option_copied (sym c.in_default.is) ∙ c.name_of.ensures params))
    ∙ c.steps.invariant params

pub steps-preserved : goal.steps-preserved
steps-preserved c = λ params.
    sym (name_next params c.steps.names c.push.new.self c.in-Some.name c.args.steps.now c.steps.step-index c.step-item.result c.steps-test.true c.step-item.is
    (ap option_copied (sym c.in-Some.is) ∙ c.name_of.ensures params) c.in_ok-push.ensures.ok)
    ∙ c.steps.invariant params

pub returns : goal.returns
returns c = λ params.
    let past : length c.args.steps.now ≤ c.steps.step-index = omega (arith, c.steps-test.false) in
    sym (names_end params c.steps.names c.args.steps.now c.steps.step-index (drop_all c.steps.step-index c.args.steps.now past)) ∙ c.steps.invariant params
