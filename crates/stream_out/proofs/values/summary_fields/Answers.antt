use Rattle.std.proofs.Common.{◌∙◌, ap}
use Rattle.ledger_model.specs.Journal.{block_value}
use Rattle.stream_out.proofs.Front.{summary_front}
use Rattle.stream_out.proofs.values.summary_fields.Goals as goal

pub returns : goal.returns
returns c =
    summary_front c.args.summary.now c.in_ok-value.value c.front_of-fields.result (c.in_ok-value.ensures ∙ ap block_value c.in_ok-block.ensures)
    c.front_of-fields.ensures
