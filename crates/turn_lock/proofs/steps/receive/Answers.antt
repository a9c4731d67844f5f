use Rattle.std.proofs.Common.{◌≡◌, ap, ◌∙◌, refl, sym, subst, arith, rules, length, List, [], ◌∷◌, ◌++◌, Some, None}
use mathlib.Core.Option.{none}
use Rattle.atomic_table.specs.Table.{step, rest}
use Rattle.turn_lock.specs.Rule.{viewed, IsTold}
use Rattle.turn_lock.specs.History.{with_seen}
use Rattle.turn_lock.specs.declared.view.Turn.TheVariants.{Away, Got, Held}
use Rattle.turn_lock.proofs.Passes.{looks, out_me, received, seized}
use Rattle.turn_lock.proofs.steps.receive.Goals as goal

pub exchange-requires : goal.exchange-requires
exchange-requires g c =
    let got = c.requires.got in
    (c.requires.pass.0, (Some got.0, ap (λ z. z.1) got.2 ∙ ap (λ z. (0, Some got.0) ∷ rest z.1) (sym got.2)))

pub load-requires : goal.load-requires
load-requires g c =
    let old = c.args.pass.now in
    let t = g.T.Counted in
    let got = c.requires.got in
    let swapped = c.exchange.ensures in
    let out = out_me t.opening t.entries t.is_right t.opens t.uses (t.opening c.args.top.now.key.value) _ _ old.me.0.me old.me.0.kept got.0 _ got.2 swapped.2 swapped.3 in (
      swapped.0 ∙ c.requires.pass.0,
      omega (arith, c.requires.sized),
      looks t.opening t.entries t.is_right t.opens t.uses _ _ _ _ old.me.0.me old.me.0.kept (t.entries got.0) ((0, None) ∷ []) (step 0 0 0 0 none) out.0,
    )

pub returns-clause-pass : goal.returns-clause-pass
returns-clause-pass g c =
    let old = c.args.pass.now in
    let t = g.T.Counted in
    let got = c.requires.got in
    let swapped = c.exchange.ensures in
    let r = received t.opening t.entries t.is_right t.opens t.uses (t.opening c.args.top.now.key.value) (step 0 0 0 0 none) _ _ _ c.load.result old.me.0.me old.me.0.kept got.0 c.unwrap-state.result _ got.2 got.1 swapped.2 swapped.3 c.unwrap-state.ensures c.load.ensures.2 in
    seized t.opening t.entries t.is_right t.opens t.uses (t.opening c.args.top.now.key.value) c.args.top.now.table_id old.me.0.me old.me.0.kept Away c.unwrap-state.result c.load.new.seat
    (c.load.ensures.0 ∙ (swapped.0 ∙ c.requires.pass.0)) r.0 r.1 c.requires.pass.1

pub returns-clause-seen : goal.returns-clause-seen
returns-clause-seen g c =
    let old = c.args.pass.now in
    let t = g.T.Counted in
    let got = c.requires.got in
    let swapped = c.exchange.ensures in
    let r = received t.opening t.entries t.is_right t.opens t.uses (t.opening c.args.top.now.key.value) (step 0 0 0 0 none) _ _ _ c.load.result old.me.0.me old.me.0.kept got.0 c.unwrap-state.result _ got.2 got.1 swapped.2 swapped.3 c.unwrap-state.ensures c.load.ensures.2 in
    ap (λ z. z.0.me) r.0

pub returns-clause-told : goal.returns-clause-told
returns-clause-told g c =
    let old = c.args.pass.now in
    let t = g.T.Counted in
    let got = c.requires.got in
    let swapped = c.exchange.ensures in
    let r = received t.opening t.entries t.is_right t.opens t.uses (t.opening c.args.top.now.key.value) (step 0 0 0 0 none) _ _ _ c.load.result old.me.0.me old.me.0.kept got.0 c.unwrap-state.result _ got.2 got.1 swapped.2 swapped.3 c.unwrap-state.ensures c.load.ensures.2 in
    r.1
