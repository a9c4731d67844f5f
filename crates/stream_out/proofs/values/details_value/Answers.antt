use Rattle.std.proofs.Common.{◌∙◌, ap}
use Rattle.ledger_model.specs.Journal.{structure}
use Rattle.stream_out.proofs.values.details_value.Goals as goal

pub returns : goal.returns
returns c =
    c.structure.ensures ∙ ap structure (rw (c.in_ok-put-2.ensures, c.in_ok-put.ensures, c.in_ok-table.ensures, c.in_ok-revision.ensures, c.new-fields.ensures))
