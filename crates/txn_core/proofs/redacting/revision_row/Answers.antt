use Rattle.std.proofs.Common.{◌∙◌, ap}
use Rattle.ledger_model.specs.Journal.{structure}
use Rattle.txn_core.proofs.redacting.revision_row.Goals as goal

pub returns : goal.returns
returns c =
    c.structure.ensures
    ∙ ap structure (rw (c.in_ok-put-4.ensures, c.in_ok-put-3.ensures, c.in_ok-put-2.ensures, c.in_ok-put.ensures, c.in_ok-address_value.ensures, c.in_ok-id_value.ensures, c.in_ok-id_value-2.ensures, c.number.ensures, c.new-fields.ensures))
