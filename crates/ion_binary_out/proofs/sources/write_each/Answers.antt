use Rattle.std.proofs.Common.{◌∙◌}
use Rattle.ion_binary_out.proofs.Written.{bytes_written, written_denotes}
use Rattle.ion_binary_out.proofs.sources.write_each.Goals as goal

pub returns-clause-denotes : goal.returns-clause-denotes
returns-clause-denotes g c =
    let vs = g.V.ValueSource.values c.args.source.now in
    written_denotes vs c.into_bytes.result c.requires c.in_ok-put_each.ensures.within
    (bytes_written vs c.in_ok-symbols.symbols c.in_ok-out.out c.into_bytes.result c.in_ok-symbols.ensures c.in_ok-out.ensures
    (c.into_bytes.ensures ∙ c.in_ok-put_each.ensures.put))

pub returns-clause-table : goal.returns-clause-table
returns-clause-table g c =
    let vs = g.V.ValueSource.values c.args.source.now in
    bytes_written vs c.in_ok-symbols.symbols c.in_ok-out.out c.into_bytes.result c.in_ok-symbols.ensures c.in_ok-out.ensures
    (c.into_bytes.ensures ∙ c.in_ok-put_each.ensures.put)
