use Rattle.std.proofs.Common.{Some, ap, ◌∙◌}
use Rattle.std.specs.BTreeMap.Range.{entries_from}
use Rattle.pmap.specs.Ranges.{up_to}
use Rattle.pmap.proofs.Spans.{between}
use Rattle.pmap.proofs.map.PMap.range.Goals as goal

pub returns-clause-pairs : goal.returns-clause-pairs
returns-clause-pairs g c =
    let order = g.K.Keyed.order in
    let met = g.met.K.Keyed in
    let low = c.args.low.now in
    let high = c.args.high.now in
    c.new.ensures.pairs ∙ ap (up_to order (Some high)) (c.started.ensures.from_low ∙ ap (entries_from (order low)) c.upper_rows.ensures.pairs)
    ∙ between order met.total met.same low high c.args.self.now
