use Rattle.std.proofs.Common.{◌≡◌, ◌++◌, map, take}
use Rattle.pql_model.specs.Changes.{step_selector}
use Rattle.pql_change.specs.Contexts.{context_of}
use Rattle.pql_change.proofs.selectors.with_steps.Given as goal

abbrev pub invariant-steps : goal.invariant-steps
invariant-steps l = l.selectors ≡ l.fn.before ++ map (step_selector (context_of l.context)) (take l.step-index l.steps)
