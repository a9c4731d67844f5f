use Rattle.std.proofs.Common.{sym, ◌∙◌}
use Rattle.footprints.proofs.Once.{documents_listed, no_documents_listed}
use Rattle.footprints.proofs.items.documents_listed.Goals as goal

pub returns-then-are_many : goal.returns-then-are_many
returns-then-are_many c = no_documents_listed c.args.table c.args.values.now (sym c.are_many.ensures ∙ c.if-are_many.true)

pub returns : goal.returns
returns c =
    documents_listed c.args.table c.args.values.now c.in_ok-items.items (sym c.are_many.ensures ∙ c.if-are_many.false) c.in_ok-items.ensures
