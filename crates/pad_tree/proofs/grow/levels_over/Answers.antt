use Rattle.std.proofs.Common.{◌≡◌, ◌∙◌, ◌+◌, [], ◌∷◌, length, length-append, ap, arith}
use Rattle.pad_tree.specs.Growing.{after_steps, nodes_up_to}
use Rattle.pad_tree.proofs.AtOnce.{counted_first, counted_more, each_push, is_above, is_lowest, made_leaves, made_tower}
use Rattle.pad_tree.proofs.grow.levels_over.Goals as goal

pub levels-init : goal.levels-init
levels-init c =
    let none : length c.in_ok-levels.levels.items ≡ 0 = ap length c.in_ok-levels.ensures.items in
    record {
      few = omega (arith, none);
      each = λ level d h. absurd (omega (arith, none, h));
      last = is_lowest c.args.leaves c.new-level.result (length c.in_ok-levels.levels.items) none
          (c.new-level.ensures.nodes ∙ c.into_vec.ensures) (c.new-level.ensures.pad ∙ c.pad.ensures);
      counted = counted_first c.args.leaves (length c.in_ok-levels.levels.items) c.args.steps.now.taken none;
    }

pub levels-preserved : goal.levels-preserved
levels-preserved c =
    let before = c.levels.levels.items in
    let after = c.push.new.self.items in
    let long : length after ≡ length before + 1 = ap length c.in_ok-push.ensures.items ∙ length-append before (c.levels.level ∷ []) in
    let above = is_above c.args.leaves (length before) (length after) c.levels.level c.in_ok-next.next long c.levels.invariant.last
    c.in_ok-next.ensures.nodes c.in_ok-next.ensures.pad in
    record {
      few = omega (arith, long);
      each = each_push c.args.leaves before after c.levels.level c.in_ok-push.ensures.items c.levels.invariant.last c.levels.invariant.each;
      last = above;
      counted = counted_more c.args.leaves (length before) (length after) c.args.steps.now.taken c.levels.steps.taken c.above.new.steps.taken
          c.in_ok-next.next long above c.levels.invariant.counted c.in_ok-next.ensures.counted;
    }

pub returns-clause-tower : goal.returns-clause-tower
returns-clause-tower c =
    let before = c.levels.levels.items in
    let all = c.push-2.new.self.items in
    let long : length all ≡ length before + 1 = ap length c.in_ok-push-2.ensures.items ∙ length-append before (c.levels.level ∷ []) in
    made_tower c.args.leaves all (omega (arith, long)) c.requires
    (each_push c.args.leaves before all c.levels.level c.in_ok-push-2.ensures.items c.levels.invariant.last c.levels.invariant.each)

pub returns-clause-leaves : goal.returns-clause-leaves
returns-clause-leaves c =
    let before = c.levels.levels.items in
    let all = c.push-2.new.self.items in
    let long : length all ≡ length before + 1 = ap length c.in_ok-push-2.ensures.items ∙ length-append before (c.levels.level ∷ []) in
    made_leaves c.args.leaves all (omega (arith, long))
    (each_push c.args.leaves before all c.levels.level c.in_ok-push-2.ensures.items c.levels.invariant.last c.levels.invariant.each)

pub returns-clause-counted : goal.returns-clause-counted
returns-clause-counted c =
    let top : length c.levels.levels.items ≡ 32 = omega arith in
    c.levels.invariant.counted ∙ ap (λ n. after_steps (nodes_up_to c.args.leaves n) c.args.steps.now.taken) top
