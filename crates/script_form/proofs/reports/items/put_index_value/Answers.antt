use Rattle.std.proofs.Common.{codes}
use Rattle.ion_model.specs.Write.{string_text}
use Rattle.ledger_model.specs.ItemText.{quoted_id, key_text}
use Rattle.script_form.proofs.Grouped.{six}
use Rattle.script_form.proofs.reports.items.put_index_value.Goals as goal

pub returns : goal.returns
returns c =
    six c.args.out.now (codes "kind:index_value,table:") (quoted_id c.args.table.raw) (codes ",field:") (string_text c.args.field.now) (codes ",value:")
    (key_text c.args.key.now) _ _ _ _
    c.in_ok-put_identified.ensures c.in_ok-put_named.ensures c.in_ok-push_str.ensures.ok c.in_ok-put_key.ensures
