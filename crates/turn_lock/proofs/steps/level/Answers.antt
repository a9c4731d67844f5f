use Rattle.std.proofs.Common.{◌≡◌, ap, ◌∙◌, refl, sym, subst, arith, rules, length, List, [], ◌∷◌, ◌++◌, Some, None}
use mathlib.Core.Option.{none}
use mathlib.Core.List.{IsPrefix}
use Rattle.atomic_table.specs.Table.{step, rest}
use Rattle.turn_lock.specs.Rule.{viewed, IsTold}
use Rattle.turn_lock.specs.History.{with_seen, IsPart}
use Rattle.turn_lock.specs.Seats.{IsSeat, joined, alone, kept_pass}
use Rattle.turn_lock.specs.declared.view.Turn.TheVariants.{Away, Got, Held}
use Rattle.turn_lock.proofs.Passes.{joins, ties, parts, sits, leveled, reseat, part_longer}
use Rattle.turn_lock.proofs.steps.level.Goals as goal

pub load_new_seat-blank-requires : goal.load_new_seat-blank-requires
load_new_seat-blank-requires g c = let t = g.T.Counted in (omega (arith, c.requires.sized), sits t.opening t.entries t.is_right t.opens t.uses (t.opening c.args.top.now.key.value) _)

pub join_seat-requires : goal.join_seat-requires
join_seat-requires g c =
    let t = g.T.Counted in
    let o = t.opening c.args.top.now.key.value in
    let a = c.args.a.now in
    let b = c.args.b.now in
    let shows_a = ap (λ s. s.me.0) c.replace-first.ensures.value ∙ c.requires.a.shows in
    let first = c.replace-first.ensures.value in (
      c.requires.b.of_lock,
      ap (λ s. s.table_id) first ∙ c.requires.a.of_lock,
      ap (λ s. s.me.1) first ∙ c.requires.a.carries,
      omega (arith, c.requires.sized),
      joins t.opening t.entries t.is_right t.opens t.uses o _ _ _ _ b.me.0.me a.me.0.me [] [] c.requires.b.shows shows_a,
    )

pub load-requires : goal.load-requires
load-requires g c =
    let t = g.T.Counted in
    let o = t.opening c.args.top.now.key.value in
    let a = c.args.a.now in
    let b = c.args.b.now in
    let shows_a = ap (λ s. s.me.0) c.replace-first.ensures.value ∙ c.requires.a.shows in
    let me_is = c.join_seat.ensures.2 ∙ (λ i. (joined (c.requires.b.shows i) (shows_a i), c.requires.b.carries i)) in
    (c.join_seat.ensures.0 ∙ c.requires.b.of_lock, omega (arith, c.requires.sized), ties t.opening t.entries t.is_right t.opens t.uses o _ _ _ b.me.0.me (a.me.0.me ∷ []) (step 0 0 0 0 none) me_is)

pub split_seat-requires : goal.split_seat-requires
split_seat-requires g c =
    let t = g.T.Counted in
    let o = t.opening c.args.top.now.key.value in
    let a = c.args.a.now in
    let b = c.args.b.now in
    let shows_a = ap (λ s. s.me.0) c.replace-first.ensures.value ∙ c.requires.a.shows in
    let me_is = c.join_seat.ensures.2 ∙ (λ i. (joined (c.requires.b.shows i) (shows_a i), c.requires.b.carries i)) in
    let r = leveled t.opening t.entries t.is_right t.opens t.uses o (step 0 0 0 0 none) a.me.0.me b.me.0.me _ _ c.load.result me_is c.load.ensures.2 in
    (c.load.ensures.0 ∙ (c.join_seat.ensures.0 ∙ c.requires.b.of_lock), omega (arith, c.requires.sized), parts t.opening t.entries t.is_right t.opens t.uses o _ _ (with_seen b.me.0.me r.0) a.me.0.me (ap (λ z. z.0) r.1))

pub returns-clause-a : goal.returns-clause-a
returns-clause-a g c =
    let t = g.T.Counted in
    let o = t.opening c.args.top.now.key.value in
    let a = c.args.a.now in
    let b = c.args.b.now in
    let shows_a = ap (λ s. s.me.0) c.replace-first.ensures.value ∙ c.requires.a.shows in
    let me_is = c.join_seat.ensures.2 ∙ (λ i. (joined (c.requires.b.shows i) (shows_a i), c.requires.b.carries i)) in
    let r = leveled t.opening t.entries t.is_right t.opens t.uses o (step 0 0 0 0 none) a.me.0.me b.me.0.me _ _ c.load.result me_is c.load.ensures.2 in
    reseat t.is_right c.args.top.now.table_id o (with_seen a.me.0.me r.0) [] Away [] c.split_seat.result
    (c.split_seat.ensures.3 ∙ (c.load.ensures.0 ∙ (c.join_seat.ensures.0 ∙ c.requires.b.of_lock))) (c.split_seat.ensures.4 ∙ ap (λ z. (kept_pass z.0, [])) r.1) r.2
    (part_longer 0 a.me.0.me.seen r.0 a.me.0.me.own r.3 c.requires.a.part)

pub returns-clause-b : goal.returns-clause-b
returns-clause-b g c =
    let t = g.T.Counted in
    let o = t.opening c.args.top.now.key.value in
    let a = c.args.a.now in
    let b = c.args.b.now in
    let shows_a = ap (λ s. s.me.0) c.replace-first.ensures.value ∙ c.requires.a.shows in
    let me_is = c.join_seat.ensures.2 ∙ (λ i. (joined (c.requires.b.shows i) (shows_a i), c.requires.b.carries i)) in
    let r = leveled t.opening t.entries t.is_right t.opens t.uses o (step 0 0 0 0 none) a.me.0.me b.me.0.me _ _ c.load.result me_is c.load.ensures.2 in
    reseat t.is_right c.args.top.now.table_id o (with_seen b.me.0.me r.0) [] Away [] c.split_seat.new.seat
    (c.split_seat.ensures.0 ∙ (c.load.ensures.0 ∙ (c.join_seat.ensures.0 ∙ c.requires.b.of_lock))) (c.split_seat.ensures.2 ∙ ap (λ z. (alone z.0, z.1)) r.1) r.2
    (part_longer 0 b.me.0.me.seen r.0 b.me.0.me.own r.4 c.requires.b.part)

pub returns-clause-both : goal.returns-clause-both
returns-clause-both g c =
    let t = g.T.Counted in
    let o = t.opening c.args.top.now.key.value in
    let a = c.args.a.now in
    let b = c.args.b.now in
    let shows_a = ap (λ s. s.me.0) c.replace-first.ensures.value ∙ c.requires.a.shows in
    let me_is = c.join_seat.ensures.2 ∙ (λ i. (joined (c.requires.b.shows i) (shows_a i), c.requires.b.carries i)) in
    let r = leveled t.opening t.entries t.is_right t.opens t.uses o (step 0 0 0 0 none) a.me.0.me b.me.0.me _ _ c.load.result me_is c.load.ensures.2 in
    let seen_b = ap (λ z. z.0.me.seen) r.1 in
    let new_b = c.split_seat.ensures.2 ∙ ap (λ z. (alone z.0, z.1)) r.1 in
    let new_a = c.split_seat.ensures.4 ∙ ap (λ z. (kept_pass z.0, [])) r.1 in
    let list = sym (ap (λ z. z.0.me.seen) new_b) in
    (ap (λ z. z.0.me) new_a ∙ ap (λ l. with_seen a.me.0.me l) list, ap (λ z. z.0.me) new_b ∙ ap (λ l. with_seen b.me.0.me l) list)

pub returns-clause-seen : goal.returns-clause-seen
returns-clause-seen g c =
    let t = g.T.Counted in
    let o = t.opening c.args.top.now.key.value in
    let a = c.args.a.now in
    let b = c.args.b.now in
    let shows_a = ap (λ s. s.me.0) c.replace-first.ensures.value ∙ c.requires.a.shows in
    let me_is = c.join_seat.ensures.2 ∙ (λ i. (joined (c.requires.b.shows i) (shows_a i), c.requires.b.carries i)) in
    let r = leveled t.opening t.entries t.is_right t.opens t.uses o (step 0 0 0 0 none) a.me.0.me b.me.0.me _ _ c.load.result me_is c.load.ensures.2 in
    let list = sym (ap (λ z. z.0.me.seen) (c.split_seat.ensures.2 ∙ ap (λ z. (alone z.0, z.1)) r.1)) in
    (subst (λ l. IsPrefix a.me.0.me.seen l) list r.3, subst (λ l. IsPrefix b.me.0.me.seen l) list r.4)

pub returns-clause-apart : goal.returns-clause-apart
returns-clause-apart g c =
    let t = g.T.Counted in
    let o = t.opening c.args.top.now.key.value in
    let a = c.args.a.now in
    let b = c.args.b.now in
    let shows_a = ap (λ s. s.me.0) c.replace-first.ensures.value ∙ c.requires.a.shows in
    let me_is = c.join_seat.ensures.2 ∙ (λ i. (joined (c.requires.b.shows i) (shows_a i), c.requires.b.carries i)) in
    let r = leveled t.opening t.entries t.is_right t.opens t.uses o (step 0 0 0 0 none) a.me.0.me b.me.0.me _ _ c.load.result me_is c.load.ensures.2 in
    r.5
