use Rattle.std.proofs.Common.{◌≡◌, drop, map, take}
use Rattle.std.specs.List.{flat_map}
use Rattle.pql_model.specs.declared.scope.Evaluated.TheVariants.{Found}
use Rattle.pql_model.specs.Lists.{coalesce, value_in}
use Rattle.pql_model.specs.Meaning.{each, meaning, meaning_of_member, meaning_of_step, walked}
use Rattle.pql_expr.specs.Contexts.{context_of}
use Rattle.pql_expr.proofs.evaluation.+eval.Given as goal

abbrev pub invariant-walked-steps : goal.invariant-walked-steps
invariant-walked-steps l =
    walked (map meaning_of_step (drop l.step-index l.steps)) (context_of l.context) (Found l.at)
    ≡ walked (map meaning_of_step l.steps) (context_of l.context) (Found l.from)

abbrev pub invariant-list_in-members : goal.invariant-list_in-members
invariant-list_in-members l = l.values ≡ flat_map value_in (each (map meaning (take l.e-index l.es)) (context_of l.context))

abbrev pub invariant-struct_in-members : goal.invariant-struct_in-members
invariant-struct_in-members l =
    l.fields ≡ flat_map (λ fields. fields) (each (map meaning_of_member (take l.member-index l.members)) (context_of l.context))

abbrev pub invariant-first_known-members : goal.invariant-first_known-members
invariant-first_known-members l =
    coalesce (each (map meaning (drop l.e-index l.es)) (context_of l.context)) ≡ coalesce (each (map meaning l.es) (context_of l.context))
