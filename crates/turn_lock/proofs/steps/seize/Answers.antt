use Rattle.std.proofs.Common.{◌≡◌, ap, ◌∙◌, refl, sym, subst, arith, rules, length, List, [], ◌∷◌, ◌++◌, Some, None}
use mathlib.Core.Option.{none}
use Rattle.atomic_table.specs.Table.{step, rest}
use Rattle.turn_lock.specs.Rule.{viewed, IsTold}
use Rattle.turn_lock.specs.History.{with_seen, IsPart}
use Rattle.turn_lock.specs.Seats.{IsSeat}
use Rattle.turn_lock.specs.declared.view.Turn.TheVariants.{Away, Got, Held}
use Rattle.turn_lock.proofs.Passes.{takes, got_me, as_own}
use Rattle.turn_lock.proofs.steps.seize.Goals as goal

pub compare_exchange-requires : goal.compare_exchange-requires
compare_exchange-requires g c =
    let old = c.args.pass.now in
    let inv = c.turns.invariant in
    let t = g.T.Counted in
    let me = inv.3 ∙ (λ i. (c.requires.pass.shows i, c.requires.pass.carries i)) in
    (inv.2 ∙ c.requires.pass.of_lock, omega (arith, c.requires.sized), takes t.opening t.entries t.is_right t.opens t.uses _ _ _ _ old.me.0.me old.me.0.kept (step 0 0 0 0 none) me)

pub receive-requires : goal.receive-requires
receive-requires g c =
    let old = c.args.pass.now in
    let inv = c.turns.invariant in
    let t = g.T.Counted in
    let o = t.opening c.args.top.now.key.value in
    let me = inv.3 ∙ (λ i. (c.requires.pass.shows i, c.requires.pass.carries i)) in
    let went = c.compare_exchange.ensures in
    let got = got_me t.opening t.entries t.is_right t.opens t.uses o (step 0 0 0 0 none) _ _ _ old.me.0.me old.me.0.kept me went.2 c.if-compare_exchange-eq0.true in
    record {
      sized = c.requires.sized;
      pass = (went.0 ∙ (inv.2 ∙ c.requires.pass.of_lock), subst (λ m. IsPart m) (ap (λ z. z.0.me) (sym got.1)) c.requires.pass.part);
      got = (got.0, got.2, as_own o _ old.me.0.me old.me.0.kept (Got (t.entries got.0)) ((0, Some got.0) ∷ []) got.1);
    }

pub returns-then-compare_exchange-eq0-clause-pass : goal.returns-then-compare_exchange-eq0-clause-pass
returns-then-compare_exchange-eq0-clause-pass g c =
    let old = c.args.pass.now in
    let inv = c.turns.invariant in
    let t = g.T.Counted in
    let o = t.opening c.args.top.now.key.value in
    let me = inv.3 ∙ (λ i. (c.requires.pass.shows i, c.requires.pass.carries i)) in
    let got = got_me t.opening t.entries t.is_right t.opens t.uses o (step 0 0 0 0 none) _ _ _ old.me.0.me old.me.0.kept me c.compare_exchange.ensures.2 c.if-compare_exchange-eq0.true in
    subst (λ k. IsSeat t.is_right c.args.top.now.table_id o k Held ((0, None) ∷ []) c.receive.new.pass) (ap (λ z. z.0.kept) got.1) c.receive.ensures.pass

pub returns-then-compare_exchange-eq0-clause-seen : goal.returns-then-compare_exchange-eq0-clause-seen
returns-then-compare_exchange-eq0-clause-seen g c =
    let old = c.args.pass.now in
    let inv = c.turns.invariant in
    let t = g.T.Counted in
    let o = t.opening c.args.top.now.key.value in
    let me = inv.3 ∙ (λ i. (c.requires.pass.shows i, c.requires.pass.carries i)) in
    let got = got_me t.opening t.entries t.is_right t.opens t.uses o (step 0 0 0 0 none) _ _ _ old.me.0.me old.me.0.kept me c.compare_exchange.ensures.2 c.if-compare_exchange-eq0.true in
    c.receive.ensures.seen ∙ ap (λ z. with_seen z.0.me (t.entries c.receive.result)) got.1

pub returns-then-compare_exchange-eq0-clause-told : goal.returns-then-compare_exchange-eq0-clause-told
returns-then-compare_exchange-eq0-clause-told g c =
    let old = c.args.pass.now in
    let inv = c.turns.invariant in
    let t = g.T.Counted in
    let o = t.opening c.args.top.now.key.value in
    let me = inv.3 ∙ (λ i. (c.requires.pass.shows i, c.requires.pass.carries i)) in
    let got = got_me t.opening t.entries t.is_right t.opens t.uses o (step 0 0 0 0 none) _ _ _ old.me.0.me old.me.0.kept me c.compare_exchange.ensures.2 c.if-compare_exchange-eq0.true in
    subst (λ z. IsTold t.is_right t.opens t.uses o (viewed (Some o) z.0.me z.0.kept Away) (t.entries c.receive.result)) got.1 c.receive.ensures.told
