use Rattle.std.proofs.Common.{sym, ap, ◌∙◌, length, arith, subst}
use Rattle.std.specs.Map.{lookup}
use Rattle.std.specs.BTreeMap.{is_at}
use Rattle.pmap.specs.Pairs.{IsPut, with_put}
use Rattle.pmap.proofs.Cuts.{removed}
use Rattle.pmap.proofs.Counts.{one_less}
use Rattle.pmap.proofs.Kept.{gone, unchanged}
use Rattle.pmap.proofs.map.PMap.remove.Goals as goal

pub returns-then-not-has-clause-rest : goal.returns-then-not-has-clause-rest
returns-then-not-has-clause-rest g c =
    let met = g.met.K.Keyed in
    c.in_ok-same.ensures ∙ unchanged g.K.Keyed.order met.total met.same c.args.key.now c.args.self.now c.has.ensures.ascending (sym c.has.ensures.found ∙ c.if-not-has.true)

pub returns-then-not-has-clause-gone : goal.returns-then-not-has-clause-gone
returns-then-not-has-clause-gone g c =
    let order = g.K.Keyed.order in
    let met = g.met.K.Keyed in
    let same = c.in_ok-same.ensures ∙ unchanged order met.total met.same c.args.key.now c.args.self.now c.has.ensures.ascending (sym c.has.ensures.found ∙ c.if-not-has.true) in
    ap (lookup (is_at (order c.args.key.now))) same ∙ gone order met.total met.same c.args.key.now c.args.self.now c.has.ensures.ascending

pub changed-requires-clause-put : goal.changed-requires-clause-put
changed-requires-clause-put g c = subst (IsPut c.args.key.now) (sym (c.as_slice.ensures ∙ c.new-none.ensures)) tt

pub changed-requires-clause-counted : goal.changed-requires-clause-counted
changed-requires-clause-counted g c =
    let met = g.met.K.Keyed in
    omega (
      arith,
      one_less g.K.Keyed.order met.total met.same c.args.key.now c.args.self.now c.len.result c.len.ensures (sym c.has.ensures.found ∙ c.if-not-has.false),
      ap length (c.as_slice.ensures ∙ c.new-none.ensures),
      c.saturating_sub.ensures,
    )

pub returns-clause-rest : goal.returns-clause-rest
returns-clause-rest g c =
    let order = g.K.Keyed.order in
    let met = g.met.K.Keyed in
    c.in_ok-new.ensures ∙ ap (λ put. with_put order c.args.key.now put c.args.self.now) (c.as_slice.ensures ∙ c.new-none.ensures)
    ∙ sym (removed order met.total met.same c.args.key.now c.args.self.now c.has.ensures.ascending)

pub returns-clause-gone : goal.returns-clause-gone
returns-clause-gone g c =
    let order = g.K.Keyed.order in
    let met = g.met.K.Keyed in
    let rest = c.in_ok-new.ensures ∙ ap (λ put. with_put order c.args.key.now put c.args.self.now) (c.as_slice.ensures ∙ c.new-none.ensures)
    ∙ sym (removed order met.total met.same c.args.key.now c.args.self.now c.has.ensures.ascending) in
    ap (lookup (is_at (order c.args.key.now))) rest ∙ gone order met.total met.same c.args.key.now c.args.self.now c.has.ensures.ascending
