use Rattle.std.proofs.Common.{◌∙◌, ap}
use Rattle.ledger_model.specs.Journal.{structure}
use Rattle.proof_model.proofs.proof_values.proof_value.Goals as goal

pub returns : goal.returns
returns c = c.structure.ensures ∙ ap structure (rw (c.in_ok-put-3.ensures, c.in_ok-put-2.ensures, c.in_ok-put.ensures, c.in_ok-header_value.ensures, c.number.ensures, c.from.ensures, c.list.ensures, c.in_ok-path.ensures, c.as_slice.ensures, c.new-fields.ensures))
