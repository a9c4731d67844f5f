use Rattle.std.proofs.Common.{◌≡◌, ap, ◌∙◌, refl, sym, subst, arith, rules, length, List, [], ◌∷◌, ◌++◌, Some, None}
use mathlib.Core.Option.{none}
use Rattle.atomic_table.specs.Table.{step, rest}
use Rattle.turn_lock.specs.Rule.{viewed, IsTold}
use Rattle.turn_lock.specs.History.{with_seen, IsPart}
use Rattle.turn_lock.specs.Seats.{IsSeat, joined}
use Rattle.turn_lock.specs.declared.view.Turn.TheVariants.{Away, Got, Held}
use Rattle.turn_lock.proofs.Passes.{joins, reseat, at_own, told_prefix}
use Rattle.turn_lock.proofs.Growing.{grows_seen}
use Rattle.turn_lock.proofs.steps.visit.Goals as goal

pub join_seat-requires : goal.join_seat-requires
join_seat-requires g c =
    let t = g.T.Counted in
    let back = c.hand_back.ensures.pass in (
      c.requires.last.of_lock,
      back.of_lock,
      back.carries,
      omega (arith, c.requires.sized),
      joins t.opening t.entries t.is_right t.opens t.uses (t.opening c.args.top.now.key.value) _ _ _ _ c.args.last.now.me.0.me c.hand_back.new.pass.me.0.me c.args.last.now.me.0.kept c.seize-state.new.pass.me.0.kept c.requires.last.shows back.shows,
    )

pub returns-clause-last : goal.returns-clause-last
returns-clause-last g c =
    let t = g.T.Counted in
    let o = t.opening c.args.top.now.key.value in
    let last = c.args.last.now in
    let back = c.hand_back.new.pass in
    let me_is = c.join_seat.ensures.2 ∙ (λ i. (joined (c.requires.last.shows i) back.me.0, c.requires.last.carries i)) in
    at_own t.is_right c.args.top.now.table_id o (back.me.0.me ∷ back.me.0.kept ++ last.me.0.kept) Away [] c.join_seat.new.seat
    (reseat t.is_right c.args.top.now.table_id o last.me.0.me (back.me.0.me ∷ back.me.0.kept ++ last.me.0.kept) Away [] c.join_seat.new.seat
    (c.join_seat.ensures.0 ∙ c.requires.last.of_lock) me_is c.requires.last.is_right c.requires.last.part)

pub returns-clause-same : goal.returns-clause-same
returns-clause-same g c = ap (λ z. z.0.me) c.join_seat.ensures.2

pub returns-clause-kept : goal.returns-clause-kept
returns-clause-kept g c =
    let t = g.T.Counted in
    let o = t.opening c.args.top.now.key.value in
    let back = c.hand_back.new.pass in
    let none_kept = ap (λ v. v.kept) c.hand_back.ensures.pass.shows ∙ (ap (λ v. v.kept) c.seize-state.ensures.pass.shows ∙ ap (λ v. v.kept) c.requires.pass.shows) in (
      back.me.0.me,
      grows_seen c.args.pass.me.0.me back.me.0.me (t.entries c.seize-state.result) (c.hand_back.ensures.same ∙ c.seize-state.ensures.seen)
          (told_prefix t.opening t.entries t.is_right t.opens t.uses o c.args.pass.me.0.me c.args.pass.me.0.kept Away (t.entries c.seize-state.result) c.seize-state.ensures.told),
      ap (λ z. z.0.kept) c.join_seat.ensures.2 ∙ ap (λ k. back.me.0.me ∷ k ++ c.args.last.now.me.0.kept) none_kept,
    )
