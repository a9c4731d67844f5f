use Rattle.std.proofs.Common.{◌≤◌, length, sym, ◌∙◌, ap, arith}
use Rattle.std.proofs.lemmas.List.{drop_all}
use Rattle.ledger_model.specs.Conditions.{list_side}
use Rattle.footprints.proofs.Naming.{constant_next, constants_end, missing_next, no_constant}
use Rattle.footprints.proofs.sides.list_side.Goals as goal
use Rattle.footprints.proofs.sides.list_side.Goals.{in-Constant+in_ok-push-in-Constant, in-Missing}

pub members-preserved : goal.members-preserved
members-preserved c =
    let params = c.args.params.now in
    let values = c.members.values in
    let members = c.args.members.now in
    let i = c.members.member-index in
    let e = c.member-item.result in
    let m = c.member_of.result in
    let now = c.match-member_of.values in
    elim c.match-member_of.branch [
      | in-Constant+in_ok-push-in-Constant w ↦
          sym (constant_next params values members i e m now w.in-Constant.value c.members-test.true c.member-item.is w.in-Constant.is
          c.member_of.ensures (w.values-is ∙ w.in_ok-push-in-Constant.ensures.ok))
          ∙ c.members.invariant
      | in-Missing w ↦
          sym (missing_next params values members i e m now c.members-test.true c.member-item.is w.in-Missing.is c.member_of.ensures w.values-is)
          ∙ c.members.invariant
    ]

pub returns-in-Other : goal.returns-in-Other
returns-in-Other c =
    ap list_side (sym (no_constant c.args.params.now c.members.values c.args.members.now c.members.member-index c.member-item.result c.member_of.result
    c.members-test.true c.member-item.is c.in-Other.is c.member_of.ensures)
    ∙ c.members.invariant)

pub returns : goal.returns
returns c =
    let past : length c.args.members.now ≤ c.members.member-index = omega (arith, c.members-test.false) in
    ap list_side (sym (constants_end c.args.params.now c.members.values c.args.members.now c.members.member-index
    (drop_all c.members.member-index c.args.members.now past))
    ∙ c.members.invariant)
