use Rattle.std.proofs.Common.{◌≡◌, ◌∙◌, ◌+◌, ◌-◌, ◌/◌, List, [], ◌∷◌, ◌++◌, length, length-append, ap, sym, arith}
use Rattle.ql_types.specs.declared.Hash32.{Hash32}
use Rattle.hash_model.specs.Tree.{height_of}
use Rattle.pad_tree.specs.Growing.{after_steps, leaves_in}
use Rattle.pad_tree.proofs.Growth.{no_step, step_more, two_below}
use Rattle.pad_tree.proofs.Towers.{count_first, raised_first, raised_leaves, raised_next, raised_tower}
use Rattle.pad_tree.proofs.grow.put_leaf.Goals as goal

pub levels-init : goal.levels-init
levels-init c =
    let count = count_first c.args.levels.now c.index-levels-0.result c.len-count.result c.requires.tower c.len-count.ensures in
    record {
      raised = raised_first c.args.levels.now c.args.leaf c.len-count.result c.set_last.new.self c.index-levels-0-2.result c.requires.tower c.requires.room
          count c.set_last.ensures.nodes c.set_last.ensures.pad;
      counted = no_step c.args.steps.now.taken;
    }

pub bounds-levels-at : goal.bounds-levels-at
bounds-levels-at c =
    let count = count_first c.args.levels.now c.index-levels-0.result c.len-count.result c.requires.tower c.len-count.ensures in
    let few = c.requires.few in
    let low = c.height-height.ensures.least 32 (omega (arith, count, few)) in
    let long = c.levels.invariant.raised.long in
    omega (arith, low, long)

pub overflow_sub-place : goal.overflow_sub-place
overflow_sub-place c =
    let leaves = leaves_in c.args.levels.now in
    let new = leaves ++ c.args.leaf ∷ [] in
    let count = count_first c.args.levels.now c.index-levels-0.result c.len-count.result c.requires.tower c.len-count.ensures in
    let few = c.requires.few in
    let low = c.height-height.ensures.least 32 (omega (arith, count, few)) in
    let long : length new ≡ length leaves + 1 = length-append leaves (c.args.leaf ∷ []) in
    let more : c.len-count.result + 1 ≡ length new = omega (arith, count, long) in
    let top : c.height-height.result ≡ height_of (length new) = c.height-height.ensures.defined ∙ ap height_of more in
    let is = c.levels.invariant.raised.raised c.levels.at c.index-levels-at.result (omega arith) (omega (arith, low)) in
    let two = two_below new c.levels.at (omega (arith, long)) (omega (arith, top)) in
    let nodes = ap length is.nodes in
    let found = c.len.ensures in
    omega (arith, two, nodes, found)

pub bounds-levels-at-in-levels : goal.bounds-levels-at-in-levels
bounds-levels-at-in-levels c =
    let count = count_first c.args.levels.now c.index-levels-0.result c.len-count.result c.requires.tower c.len-count.ensures in
    let few = c.requires.few in
    let low = c.height-height.ensures.least 32 (omega (arith, count, few)) in
    let long = c.levels.invariant.raised.long in
    omega (arith, low, long)

pub bounds-levels-at-in-levels-2 : goal.bounds-levels-at-in-levels-2
bounds-levels-at-in-levels-2 c =
    let count = count_first c.args.levels.now c.index-levels-0.result c.len-count.result c.requires.tower c.len-count.ensures in
    let few = c.requires.few in
    let low = c.height-height.ensures.least 32 (omega (arith, count, few)) in
    let long = c.levels.invariant.raised.long in
    omega (arith, low, long)

pub set_last-requires-in-levels : goal.set_last-requires-in-levels
set_last-requires-in-levels c =
    let count = count_first c.args.levels.now c.index-levels-0.result c.len-count.result c.requires.tower c.len-count.ensures in
    let few = c.requires.few in
    let low = c.height-height.ensures.least 32 (omega (arith, count, few)) in
    c.levels.invariant.raised.room (c.levels.at + 1) c.index-levels-at-in-levels-2.result (omega arith) (omega (arith, low))

pub levels-preserved : goal.levels-preserved
levels-preserved c =
    let leaves = leaves_in c.args.levels.now in
    let new = leaves ++ c.args.leaf ∷ [] in
    let place = (c.len.result - 1) / 2 in
    let count = count_first c.args.levels.now c.index-levels-0.result c.len-count.result c.requires.tower c.len-count.ensures in
    let few = c.requires.few in
    let low = c.height-height.ensures.least 32 (omega (arith, count, few)) in
    let long : length new ≡ length leaves + 1 = length-append leaves (c.args.leaf ∷ []) in
    let more : c.len-count.result + 1 ≡ length new = omega (arith, count, long) in
    let top : c.height-height.result ≡ height_of (length new) = c.height-height.ensures.defined ∙ ap height_of more in
    record {
      raised = raised_next c.args.levels.now c.levels.levels c.args.leaf c.over-node.result c.levels.at place c.set_last-in-levels.new.self
          c.index-levels-at.result c.index-levels-at-in-levels.result c.index-levels-at-in-levels-2.result c.levels.invariant.raised
          (omega (arith, low)) (omega (arith, top)) (ap (λ n. (n - 1) / 2) c.len.ensures) c.over-node.ensures.node c.set_last-in-levels.ensures.nodes c.set_last-in-levels.ensures.pad;
      counted = step_more c.levels.at c.args.steps.now.taken c.levels.steps.taken c.over-node.new.steps.taken c.levels.invariant.counted
          c.over-node.ensures.counted;
    }

pub returns-clause-tower : goal.returns-clause-tower
returns-clause-tower c =
    let leaves = leaves_in c.args.levels.now in
    let new = leaves ++ c.args.leaf ∷ [] in
    let count = count_first c.args.levels.now c.index-levels-0.result c.len-count.result c.requires.tower c.len-count.ensures in
    let long : length new ≡ length leaves + 1 = length-append leaves (c.args.leaf ∷ []) in
    let more : c.len-count.result + 1 ≡ length new = omega (arith, count, long) in
    let top : c.height-height.result ≡ height_of (length new) = c.height-height.ensures.defined ∙ ap height_of more in
    raised_tower c.args.levels.now c.levels.levels c.args.leaf c.levels.at c.levels.invariant.raised (omega (arith, top)) c.requires.few

pub returns-clause-leaves : goal.returns-clause-leaves
returns-clause-leaves c = raised_leaves c.args.levels.now c.levels.levels c.args.leaf c.levels.at c.levels.invariant.raised

pub returns-clause-counted : goal.returns-clause-counted
returns-clause-counted c =
    let leaves = leaves_in c.args.levels.now in
    let new = leaves ++ c.args.leaf ∷ [] in
    let count = count_first c.args.levels.now c.index-levels-0.result c.len-count.result c.requires.tower c.len-count.ensures in
    let long : length new ≡ length leaves + 1 = length-append leaves (c.args.leaf ∷ []) in
    let more : c.len-count.result + 1 ≡ length new = omega (arith, count, long) in
    let top : c.height-height.result ≡ height_of (length new) = c.height-height.ensures.defined ∙ ap height_of more in
    let last : c.levels.at ≡ height_of (length new) = omega (arith, top) in
    let all = raised_leaves c.args.levels.now c.levels.levels c.args.leaf c.levels.at c.levels.invariant.raised in
    c.levels.invariant.counted ∙ ap (λ n. after_steps n c.args.steps.now.taken) (last ∙ ap (λ (xs : List Hash32). height_of (length xs)) (sym all))
