use Rattle.std.proofs.Common.{◌≡◌, ◌∙◌, IfOk, subst, sym, true≢false}
use Rattle.pql_change.specs.Contexts.{context_of}
use Rattle.pql_change.proofs.Paths.{insert_along}
use Rattle.pql_change.proofs.changes.insert.Goals as goal

pub returns : goal.returns
returns c =
    subst
    (λ x. IfOk c.changed.result (λ w. w ≡ x))
    (insert_along
    (context_of c.args.context.now)
    c.args.target.now
    c.args.document
    c.args.value.now
    c.args.at.now
    c.in-Found.new
    c.in_ok-at.at
    c.in_ok-path.path
    c.as_slice.result.now
    (sym c.in_ok-new.ensures ∙ c.in-Found.is)
    c.in_ok-at.ensures
    c.in_ok-path.ensures
    (λ h. true≢false (sym (c.is_empty.ensures.1 h) ∙ c.if-is_empty.false))
    c.as_slice.ensures)
    c.changed.ensures
