use Rattle.std.proofs.Common.{◌≡◌, ◌∙◌, IfOk, subst, sym}
use Rattle.pql_change.specs.Contexts.{context_of}
use Rattle.pql_change.proofs.Paths.{set_along}
use Rattle.pql_change.proofs.changes.set.Goals as goal

pub returns-in-Some : goal.returns-in-Some
returns-in-Some c =
    subst
    (λ x. IfOk c.changed.result (λ w. w ≡ x))
    (set_along
    (context_of c.args.context.now)
    c.args.setting.now.target
    c.args.document
    c.args.setting.now.value
    c.in-Found.new
    c.in_ok-path.path
    c.pop.new.self
    c.as_slice.result.now
    c.in-Some.member
    (sym c.in_ok-new.ensures ∙ c.in-Found.is)
    c.in_ok-path.ensures
    c.in-Some.ensures
    c.as_slice.ensures)
    c.changed.ensures
