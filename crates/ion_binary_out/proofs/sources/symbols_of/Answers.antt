use Rattle.std.proofs.Common.{arith}
use Rattle.ion_binary_out.specs.BinaryText.{symbols_of}
use Rattle.ion_binary_out.proofs.Made.{next_within, texts_end, texts_on}
use Rattle.ion_binary_out.proofs.sources.symbols_of.Goals as goal

pub each-preserved : goal.each-preserved
each-preserved g c =
    let vs = g.V.ValueSource.values c.args.source.now in
    record {
      bound = next_within vs c.each.at c.in_ok-value.value c.in_ok-value.ensures;
      left =
          texts_on vs c.each.at c.in_ok-value.value c.in_ok-value.ensures c.each.symbols c.add_made.new.symbols (symbols_of vs)
          c.in_ok-add_made.ensures c.each.invariant.left;
    }

pub returns : goal.returns
returns g c =
    let vs = g.V.ValueSource.values c.args.source.now in
    texts_end vs c.each.at (omega (arith, c.each-test.false, c.count.ensures)) c.each.symbols (symbols_of vs) c.each.invariant.left
