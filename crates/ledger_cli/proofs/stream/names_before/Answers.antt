use Rattle.std.proofs.Common.{◌∙◌, List, ap, subst}
use Rattle.ledger_model.specs.declared.block.Block.{Block}
use Rattle.ledger_model.specs.declared.block.Schema.{Schema}
use Rattle.stream_out.specs.Named.{NamesStand}
use Rattle.stream_out.specs.Streams.{changes_in}
use Rattle.ledger_cli.proofs.Streaming.{same_changes}
use Rattle.ledger_cli.proofs.stream.names_before.Goals as goal

pub returns : goal.returns
returns c =
    subst (λ (changes : List Schema). NamesStand changes c.in_ok-names.names)
    (ap (λ (bs : List Block). changes_in bs) c.split_at.ensures.front ∙ same_changes c.args.blocks.now c.args.blocks.now c.args.from)
    c.in_ok-names.ensures
