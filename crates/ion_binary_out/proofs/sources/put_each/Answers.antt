use Rattle.std.proofs.Common.{◌++◌, map, arith}
use Rattle.hash_model.specs.Serialize.{joined}
use Rattle.ion_binary_out.specs.BinaryText.{value_bytes}
use Rattle.ion_binary_out.proofs.Made.{bytes_end, bytes_on, next_within, ranges_end, ranges_on}
use Rattle.ion_binary_out.proofs.sources.put_each.Goals as goal

pub each-preserved : goal.each-preserved
each-preserved g c =
    let vs = g.V.ValueSource.values c.args.source.now in
    let v = c.in_ok-value.value in
    let is = c.in_ok-value.ensures in
    record {
      bound = next_within vs c.each.at v is;
      left =
          bytes_on vs c.each.at v is c.args.symbols.now c.each.out c.put_made.new.out
          (c.args.out.now ++ joined (map (value_bytes c.args.symbols.now) vs)) c.in_ok-put_made.ensures.put c.each.invariant.left;
      ranges = ranges_on vs c.each.at v is c.put_made.ensures.within c.each.invariant.ranges;
    }

pub returns-clause-put : goal.returns-clause-put
returns-clause-put g c =
    let vs = g.V.ValueSource.values c.args.source.now in
    bytes_end vs c.each.at (omega (arith, c.each-test.false, c.count.ensures)) c.args.symbols.now c.each.out (c.args.out.now ++ joined (map (value_bytes c.args.symbols.now) vs))
    c.each.invariant.left

pub returns-clause-within : goal.returns-clause-within
returns-clause-within g c =
    let vs = g.V.ValueSource.values c.args.source.now in
    ranges_end vs c.each.at (omega (arith, c.each-test.false, c.count.ensures)) c.each.invariant.ranges
