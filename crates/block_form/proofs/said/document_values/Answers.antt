use Rattle.std.proofs.Common.{◌++◌, ◌∙◌, ap, sym, append-nil, arith}
use Rattle.block_form.proofs.Documents.{none_behind}
use Rattle.block_form.proofs.said.document_values.Goals as goal

pub returns : goal.returns
returns c =
    let rest = none_behind c.args.tables.now c.args.revisions.now c.documents.at (omega arith) in
    sym (append-nil c.documents.values) ∙ ap (λ vs. c.documents.values ++ vs) (sym rest) ∙ c.documents.invariant
