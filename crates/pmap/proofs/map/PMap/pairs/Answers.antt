use Rattle.std.proofs.Common.{◌∙◌}
use Rattle.pmap.specs.Ranges.{left_of}
use Rattle.pmap.proofs.Spans.{all_in}
use Rattle.pmap.proofs.map.PMap.pairs.Goals as goal

pub returns-clause-pairs : goal.returns-clause-pairs
returns-clause-pairs g c =
    let met = g.met.K.Keyed in
    c.new.ensures.pairs ∙ all_in g.K.Keyed.order met.total met.same (left_of c.default.result.now c.default-2.result.now c.upper_rows.result.now)
    ∙ (λ i. left_of (c.default.ensures i) (c.default-2.ensures i) c.upper_rows.result.now) ∙ c.upper_rows.ensures.pairs
