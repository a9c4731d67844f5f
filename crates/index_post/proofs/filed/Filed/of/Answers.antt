use Rattle.std.proofs.Common.{ap, sym, subst, ◌∙◌}
use Rattle.std.specs.Map.{keys_of}
use Rattle.index_post.specs.Positions.{positions_by, IsAscending}
use Rattle.index_post.proofs.Sets.{keys_ascend, none_listed, some_listed}
use Rattle.index_post.proofs.filed.Filed.of.Goals as goal

pub returns-in-None-clause-positions : goal.returns-in-None-clause-positions
returns-in-None-clause-positions g c =
    let order = g.K.Keyed.order in
    let met = g.met.K.Keyed in
    c.new.ensures ∙ none_listed order met.total met.same c.self.inside.sets c.args.key.now c.in-None.ensures.value
    ∙ ap (λ filed. positions_by order filed c.args.key.now) c.self.view_is

pub returns-in-Some-clause-positions : goal.returns-in-Some-clause-positions
returns-in-Some-clause-positions g c =
    let order = g.K.Keyed.order in
    let met = g.met.K.Keyed in
    c.new-in-Some.ensures ∙ ap keys_of c.pairs.ensures.pairs
    ∙ some_listed order met.total met.same c.self.inside.sets c.args.key.now c.in-Some.set.now c.in-Some.ensures.value
    ∙ ap (λ filed. positions_by order filed c.args.key.now) c.self.view_is

pub returns-in-Some-clause-ascending : goal.returns-in-Some-clause-ascending
returns-in-Some-clause-ascending g c = subst IsAscending (sym c.new-in-Some.ensures) (keys_ascend c.pairs.result c.pairs.ensures.ascending)
