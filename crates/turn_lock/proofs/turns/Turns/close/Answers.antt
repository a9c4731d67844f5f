use Rattle.std.proofs.Common.{◌≡◌, ap, ◌∙◌, refl, sym, subst, map, arith, rules, List, [], ◌∷◌, ◌++◌, Some, None, option_to_list}
use mathlib.Core.List.{IsPrefix}
use Rattle.turn_lock.specs.declared.view.Turn.TheVariants.{Away, Held, Shut}
use Rattle.turn_lock.specs.History.{OwnedOnce}
use Rattle.turn_lock.specs.Rule.{Each}
use Rattle.turn_lock.specs.Seats.{Rests, known, seen}
use Rattle.turn_lock.proofs.Lists.{each_of_all, each_front, each_last, each_unmap}
use Rattle.turn_lock.proofs.Growing.{all_gathered, told_seen, told_once}
use Rattle.turn_lock.proofs.Passes.{at_own}
use Rattle.turn_lock.proofs.turns.Turns.close.Goals as goal

pub gather-requires-clause-each : goal.gather-requires-clause-each
gather-requires-clause-each g c =
    let t = g.T.Counted in
    let table = c.args.self.table.shared in
    let P = Rests t.is_right table.table_id (t.opening table.key.value) in
    let items = c.pop.ensures.items ∙ ap (λ o. c.pop.new.self.items ++ option_to_list o) c.unwrap-last.ensures in
    each_front P c.pop.new.self.items c.args.passes.items c.unwrap-last.result items (each_of_all P c.args.passes.items c.requires.each)

pub gather-requires-clause-last : goal.gather-requires-clause-last
gather-requires-clause-last g c =
    let t = g.T.Counted in
    let table = c.args.self.table.shared in
    let P = Rests t.is_right table.table_id (t.opening table.key.value) in
    let items = c.pop.ensures.items ∙ ap (λ o. c.pop.new.self.items ++ option_to_list o) c.unwrap-last.ensures in
    each_last P c.pop.new.self.items c.args.passes.items c.unwrap-last.result items (each_of_all P c.args.passes.items c.requires.each)

pub shut-requires-clause-pass : goal.shut-requires-clause-pass
shut-requires-clause-pass g c =
    let table = c.args.self.table.shared in
    at_own g.T.Counted.is_right table.table_id (g.T.Counted.opening table.key.value) c.gather.new.last.me.0.kept Held ((0, None) ∷ []) c.seize-state.new.pass c.seize-state.ensures.pass

pub take_out-requires-clause-pass : goal.take_out-requires-clause-pass
take_out-requires-clause-pass g c =
    let table = c.args.self.table.shared in
    at_own g.T.Counted.is_right table.table_id (g.T.Counted.opening table.key.value) c.seize-state.new.pass.me.0.kept Shut [] c.shut.new.pass c.shut.ensures.pass

pub returns-clause-right : goal.returns-clause-right
returns-clause-right g c =
    let list = c.take_out.ensures.entries ∙ (ap (λ k. k.seen) c.shut.ensures.same ∙ ap (λ k. k.seen) c.seize-state.ensures.seen) in
    subst (λ l. g.T.Counted.is_right (g.T.Counted.opening c.args.self.table.shared.key.value) l) (sym list) c.seize-state.ensures.told.fitting

pub returns-clause-seen : goal.returns-clause-seen
returns-clause-seen g c =
    let t = g.T.Counted in
    let o = t.opening c.args.self.table.shared.key.value in
    let items = c.pop.ensures.items ∙ ap (λ o. c.pop.new.self.items ++ option_to_list o) c.unwrap-last.ensures in
    let last = c.gather.new.last in
    let all = all_gathered known c.args.passes.items c.pop.new.self.items c.unwrap-last.result last.me.0.kept last.me.0.me items c.gather.ensures.kept c.gather.ensures.same in
    let list = c.take_out.ensures.entries ∙ (ap (λ k. k.seen) c.shut.ensures.same ∙ ap (λ k. k.seen) c.seize-state.ensures.seen) in
    let each = told_seen t.is_right t.opens t.uses o (map known c.args.passes.items) last.me.0.kept last.me.0.me Away (t.entries c.seize-state.result) all c.seize-state.ensures.told in
    subst (λ l. Each (λ p. IsPrefix (seen p) l) c.args.passes.items) (sym list) (each_unmap known (λ k. IsPrefix k.seen (t.entries c.seize-state.result)) c.args.passes.items each)

pub returns-clause-once : goal.returns-clause-once
returns-clause-once g c =
    let t = g.T.Counted in
    let o = t.opening c.args.self.table.shared.key.value in
    let items = c.pop.ensures.items ∙ ap (λ o. c.pop.new.self.items ++ option_to_list o) c.unwrap-last.ensures in
    let last = c.gather.new.last in
    let all = all_gathered known c.args.passes.items c.pop.new.self.items c.unwrap-last.result last.me.0.kept last.me.0.me items c.gather.ensures.kept c.gather.ensures.same in
    let list = c.take_out.ensures.entries ∙ (ap (λ k. k.seen) c.shut.ensures.same ∙ ap (λ k. k.seen) c.seize-state.ensures.seen) in
    λ whole. subst (λ l. OwnedOnce l (map known c.args.passes.items)) (sym list)
    (told_once t.is_right t.opens t.uses o (map known c.args.passes.items) last.me.0.kept last.me.0.me Away (t.entries c.seize-state.result) all c.seize-state.ensures.told whole)
