use Rattle.std.proofs.Common.{◌≡◌, ◌≤◌, ◌+◌, map, min, drop}
use Rattle.std.specs.List.{sum}
use Rattle.pql_model.specs.Parameters.{in_expr, in_member, in_step}
use Rattle.pql_model.proofs.counts.+count.Given as goal

abbrev pub invariant-in_exprs-loop-e : goal.invariant-in_exprs-loop-e
invariant-in_exprs-loop-e l =
    record { told : min (l.count + sum (map in_expr (drop l.e-index l.all))) 4294967295 ≡ min (sum (map in_expr l.all)) 4294967295; fits : l.count ≤ 4294967295 }

abbrev pub invariant-in_members-loop-member : goal.invariant-in_members-loop-member
invariant-in_members-loop-member l =
    record { told : min (l.count + sum (map in_member (drop l.member-index l.members))) 4294967295 ≡ min (sum (map in_member l.members)) 4294967295; fits : l.count ≤ 4294967295 }

abbrev pub invariant-in_steps-loop-step : goal.invariant-in_steps-loop-step
invariant-in_steps-loop-step l =
    record { told : min (l.count + sum (map in_step (drop l.step-index l.steps))) 4294967295 ≡ min (sum (map in_step l.steps)) 4294967295; fits : l.count ≤ 4294967295 }
