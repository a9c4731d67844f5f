use Rattle.std.proofs.Common.{codes}
use Rattle.ledger_model.specs.ItemText.{quoted_id}
use Rattle.script_form.proofs.Grouped.{four}
use Rattle.script_form.proofs.reports.items.put_doc.Goals as goal

pub returns : goal.returns
returns c =
    four c.args.out.now (codes "kind:doc,table:") (quoted_id c.args.table.raw) (codes ",id:") (quoted_id c.args.id.raw) _ _
    c.in_ok-put_identified.ensures c.in_ok-put_identified-2.ensures
