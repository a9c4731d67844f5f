use Rattle.std.proofs.Common.{◌≡◌, List, length, ap, arith, subst, take}
use Rattle.ledger_model.specs.declared.block.Block.{Block}
use Rattle.ledger_model.specs.Compaction.{compacted}
use Rattle.stream_out.specs.Named.{NamesStand}
use Rattle.stream_out.specs.Streams.{changes_in}
use Rattle.ledger_cli.specs.Streaming.{stream_text}
use Rattle.ledger_cli.proofs.stream.Stream.of.Goals as goal

pub invariant_of-result : goal.invariant_of-result
invariant_of-result c =
    let same : length c.in_ok-shown.shown.blocks.list ≡ length c.args.journal.blocks =
    ap (λ (bs : List Block). length bs) c.in_ok-shown.ensures.1 in
    record {
      shown = c.in_ok-shown.ensures.0;
      order = c.requires.order;
      there = omega (arith, c.requires.there, same);
      named =
          subst (λ (bs : List Block). NamesStand (changes_in (take c.args.part.from (compacted bs))) c.in_ok-names.names)
          c.as_slice.ensures c.in_ok-names.ensures;
    }

pub returns : goal.returns
returns c =
    ap (λ (bs : List Block). stream_text c.args.part.from c.args.part.to bs) c.in_ok-shown.ensures.1
