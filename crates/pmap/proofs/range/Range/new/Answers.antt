use Rattle.std.specs.Option.{option_copied}
use Rattle.pmap.specs.Ranges.{is_within, left_of}
use Rattle.pmap.proofs.Kept.{ascends_kept}
use Rattle.pmap.proofs.range.Range.new.Goals as goal

pub returns-clause-ascending : goal.returns-clause-ascending
returns-clause-ascending g c =
    let order = g.K.Keyed.order in
    let met = g.met.K.Keyed in
    ascends_kept order met.total met.same (λ pair. is_within order (option_copied c.args.high) pair.0)
    (left_of c.args.left.leaf.now c.args.left.middle.now c.args.left.upper.now) c.requires.ascending
