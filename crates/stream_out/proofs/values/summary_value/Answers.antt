use Rattle.std.proofs.Common.{◌∙◌, ap, map}
use Rattle.stream_out.specs.Records.{listed_value}
use Rattle.stream_out.proofs.Front.{summary_made}
use Rattle.stream_out.proofs.values.summary_value.Goals as goal

pub returns : goal.returns
returns c =
    summary_made c.args.summary.now c.in_ok-listed.listed c.in_ok-fields.fields c.put.new.fields c.list.result c.structure.result
    (c.in_ok-listed.ensures ∙ ap (map listed_value) c.as_slice.ensures) c.in_ok-fields.ensures c.list.ensures c.in_ok-put.ensures c.structure.ensures
