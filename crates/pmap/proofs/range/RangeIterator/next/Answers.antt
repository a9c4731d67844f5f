use Rattle.std.proofs.Common.{not, sym, ap, ◌∙◌}
use Rattle.std.specs.Option.{option_copied}
use Rattle.pmap.specs.Ranges.{is_within}
use Rattle.pmap.proofs.Spans.{is_not, next_past}
use Rattle.pmap.proofs.range.RangeIterator.next.Goals as goal

pub returns-then-is_past-clause-steps : goal.returns-then-is_past-clause-steps
returns-then-is_past-clause-steps g c =
    let order = g.K.Keyed.order in
    let met = g.met.K.Keyed in
    let inside = c.self.inside in
    let rows = c.filled-rows.result in
    let high = option_copied inside.high in
    let key = c.key.ensures ∙ ap (λ pair. pair.0) c.get-entry.ensures in
    let past = is_not _ (ap (λ k. not (is_within order high k)) (sym key) ∙ sym c.is_past.ensures ∙ c.if-is_past.true) in
    let none = sym c.self.view_is ∙ next_past order met.total met.same inside.leaf.now rows.leaf.now c.in_ok-first.leaf.now inside.middle.now rows.middle.now
    inside.upper.now rows.upper.now c.in_ok-first.first.now c.filled-rows.ensures c.in_ok-first.ensures.cases.0 c.self.invariant high past in
    (none, none)
