use Rattle.std.proofs.Common.{◌≡◌, ◌∙◌, length, ap, sym, arith}
use Rattle.pad_tree.specs.Growing.{after_steps, level_over}
use Rattle.pad_tree.proofs.AtOnce.{over_more}
use Rattle.pad_tree.proofs.Growth.{no_step, step_more, take_none}
use Rattle.pad_tree.proofs.Towers.{take_all}
use Rattle.pad_tree.proofs.levels.Level.nodes_above.Goals as goal

pub places-init : goal.places-init
places-init c = record {
  so_far = c.in_ok-above.ensures.items ∙ sym (take_none (level_over c.args.self.now.pad c.args.self.now.nodes));
  counted = no_step c.args.steps.now.taken;
}

pub places-preserved : goal.places-preserved
places-preserved c =
    let count = c.count_above-count.ensures.count in
    record {
      so_far = over_more c.args.self.now.pad c.over.result c.args.self.now.nodes c.places.above.items c.push.new.self.items c.places.place
          (omega (arith, count)) c.places.invariant.so_far c.over.ensures.node c.in_ok-push.ensures.items;
      counted = step_more c.places.place c.args.steps.now.taken c.places.steps.taken c.over.new.steps.taken c.places.invariant.counted
          c.over.ensures.counted;
    }

pub returns-clause-nodes : goal.returns-clause-nodes
returns-clause-nodes c =
    let count = c.count_above-count.ensures.count in
    c.places.invariant.so_far ∙ take_all (level_over c.args.self.now.pad c.args.self.now.nodes) c.places.place (omega (arith, count))

pub returns-clause-counted : goal.returns-clause-counted
returns-clause-counted c =
    let count = c.count_above-count.ensures.count in
    let long = ap length (returns-clause-nodes c) in
    let all : c.places.place ≡ length c.places.above.items = omega (arith, count, long) in
    c.places.invariant.counted ∙ ap (λ n. after_steps n c.args.steps.now.taken) all
