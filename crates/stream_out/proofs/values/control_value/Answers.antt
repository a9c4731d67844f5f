use Rattle.std.proofs.Common.{◌∙◌, ap, codes}
use Rattle.ledger_model.specs.Journal.{structure}
use Rattle.stream_out.specs.Records.{typed}
use Rattle.stream_out.proofs.values.control_value.Goals as goal

pub returns : goal.returns
returns c =
    c.in_ok-value.ensures
    ∙ ap (typed (codes "CONTROL")) (c.structure.ensures ∙ ap structure (rw (c.in_ok-put.ensures, c.in_ok-word.ensures, c.new-fields.ensures)))
