use Rattle.std.proofs.Common.{◌≡◌, IfOk, subst}
use Rattle.pql_change.specs.Contexts.{context_of}
use Rattle.pql_change.proofs.Paths.{remove_along}
use Rattle.pql_change.proofs.changes.remove.Goals as goal

pub returns-in-Some : goal.returns-in-Some
returns-in-Some c =
    subst
    (λ x. IfOk c.changed.result (λ w. w ≡ x))
    (remove_along
    (context_of c.args.context.now)
    c.args.target.now
    c.args.document
    c.in_ok-path.path
    c.pop.new.self
    c.as_slice.result.now
    c.in-Some.member
    c.in_ok-path.ensures
    c.in-Some.ensures
    c.as_slice.ensures)
    c.changed.ensures
