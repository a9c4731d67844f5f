use Rattle.std.proofs.Common.{sym, ◌∙◌}
use Rattle.std.specs.List.{filter_map}
use Rattle.ledger_model.specs.declared.outcome.Item.TheVariants as item
use Rattle.ledger_model.specs.Footprints.{document_in, each_once, same_document}
use Rattle.footprints.specs.Lent.{values_lent}
use Rattle.footprints.proofs.Once.{mapped_none, mapped_some}
use Rattle.footprints.proofs.items.few_documents.Goals as goal

pub returns-in_default : goal.returns-in_default
returns-in_default c =
    mapped_none (item.Doc c.args.table) (each_once same_document (filter_map document_in (values_lent c.args.values.now)))
    (sym c.in_default.is ∙ c.in_ok-ids.ensures)

pub returns : goal.returns
returns c =
    mapped_some (item.Doc c.args.table) (each_once same_document (filter_map document_in (values_lent c.args.values.now))) c.in-Some.ids
    c.in_ok-items.items (sym c.in-Some.is ∙ c.in_ok-ids.ensures) c.in_ok-items.ensures
