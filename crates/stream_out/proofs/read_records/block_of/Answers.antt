use Rattle.stream_out.proofs.OfSummaries.{read_as}
use Rattle.stream_out.proofs.read_records.block_of.Goals as goal

pub returns : goal.returns
returns c =
    read_as c.args.fields c.args.listed.now c.put.new.fields c.in_ok-revisions.revisions c.list.result c.structure-value.result c.in_ok-found.found
    c.in_ok-revisions.ensures c.list.ensures c.in_ok-put.ensures c.structure-value.ensures c.in_ok-found.ensures
