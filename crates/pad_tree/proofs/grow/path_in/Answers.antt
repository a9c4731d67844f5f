use Rattle.std.proofs.Common.{◌≡◌, ◌∙◌, ◌≤◌, ◌<◌, List, get_or, length, ap, subst, sym, arith}
use Rattle.ql_types.specs.declared.Hash32.{Hash32}
use Rattle.hash_model.specs.Tree.{height_of}
use Rattle.pad_tree.specs.Growing.{leaves_in, level_of, pad_of}
use Rattle.pad_tree.specs.Paths.{sibling_of}
use Rattle.pad_tree.proofs.Growth.{level_short, lowest, path_first, path_last, path_step, place_step}
use Rattle.pad_tree.proofs.PathLevels.{length-path_of}
use Rattle.pad_tree.proofs.Towers.{count_is, level_is}
use Rattle.pad_tree.proofs.grow.path_in.Goals as goal

pub levels-init : goal.levels-init
levels-init c =
    let leaves = leaves_in c.args.levels.now in
    record {
      so_far = path_first leaves c.new-siblings.result.items c.args.i c.new-siblings.ensures.items;
      within = subst (λ (xs : List Hash32). c.args.i < length xs) (sym (lowest leaves)) c.requires.within;
    }

pub bounds-levels-at : goal.bounds-levels-at
bounds-levels-at c =
    let count = count_is c.args.levels.now c.index-levels-0.result c.len.result c.requires.tower c.index-levels-0.is c.len.ensures in
    let few = c.requires.tower.few in
    let long = c.requires.tower.long in
    let low = c.height-height.ensures.least 32 (omega (arith, count, few)) in
    omega (arith, low, long)

pub sibling-requires : goal.sibling-requires
sibling-requires c =
    let few = c.requires.tower.few in
    let short = level_short (leaves_in c.args.levels.now) c.levels.at in
    let within = c.levels.invariant.within in
    omega (arith, few, short, within)

pub levels-preserved : goal.levels-preserved
levels-preserved c =
    let leaves = leaves_in c.args.levels.now in
    let at = c.levels.at in
    let kept = c.index-levels-at.result in
    let count = count_is c.args.levels.now c.index-levels-0.result c.len.result c.requires.tower c.index-levels-0.is c.len.ensures in
    let few = c.requires.tower.few in
    let low = c.height-height.ensures.least 32 (omega (arith, count, few)) in
    let top : c.height-height.result ≡ height_of (length leaves) = c.height-height.ensures.defined ∙ ap height_of count in
    let is = level_is c.args.levels.now kept at c.requires.tower c.index-levels-at.is (omega (arith, low)) in
    let one : 1 ≤ length leaves = omega arith in
    let below : at < height_of (length leaves) = omega (arith, top) in
    let found : c.at.result ≡ get_or (level_of leaves at) (sibling_of c.levels.place) (pad_of at) =
    c.at.ensures ∙ ap (λ p. get_or kept.nodes p kept.pad) c.sibling.ensures
    ∙ ap (λ (xs : List Hash32). get_or xs (sibling_of c.levels.place) kept.pad) is.nodes
    ∙ ap (λ (p : Hash32). get_or (level_of leaves at) (sibling_of c.levels.place) p) is.pad in
    record {
      so_far = path_step leaves c.levels.siblings.items c.push.new.self.items c.at.result at c.levels.place one below c.in_ok-push.ensures.items found
          ∙ c.levels.invariant.so_far;
      within = place_step leaves at c.levels.place one below c.levels.invariant.within;
    }

pub returns-clause-siblings : goal.returns-clause-siblings
returns-clause-siblings c =
    let leaves = leaves_in c.args.levels.now in
    let count = count_is c.args.levels.now c.index-levels-0.result c.len.result c.requires.tower c.index-levels-0.is c.len.ensures in
    let top : c.height-height.result ≡ height_of (length leaves) = c.height-height.ensures.defined ∙ ap height_of count in
    c.from_vec.ensures
    ∙ path_last leaves c.levels.siblings.items c.levels.at c.levels.place c.args.i (omega arith) (omega (arith, top)) c.levels.invariant.so_far

pub returns-clause-long : goal.returns-clause-long
returns-clause-long c = ap length (returns-clause-siblings c) ∙ length-path_of (leaves_in c.args.levels.now) c.args.i
