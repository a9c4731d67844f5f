use Rattle.std.proofs.Common.{◌∙◌, List, ap, subst, sym}
use Rattle.ledger_model.specs.declared.block.Block.{Block}
use Rattle.ledger_model.specs.Damages.{Undamaged}
use Rattle.redact_tool.specs.Fronts.{redacting_front}
use Rattle.redact_tool.specs.Redacting.{AreRedactions}
use Rattle.ledger_cli.proofs.stream.shown_of.Goals as goal

pub returns : goal.returns
returns c =
    let made = c.into_blocks-blocks.ensures in (
      record {
        undamaged = subst (λ (bs : List Block). Undamaged bs) (sym made.blocks) made.undamaged;
        redactions = subst (λ (bs : List Block). AreRedactions bs c.in_ok-redactions.redactions) c.as_slice.ensures c.in_ok-redactions.ensures;
        front = c.front-front.ensures ∙ ap redacting_front c.as_slice-2.ensures;
      },
      made.blocks,
    )
