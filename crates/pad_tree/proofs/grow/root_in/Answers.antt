use Rattle.std.proofs.Common.{◌≡◌, ◌∙◌, List, get_or, length, ap, arith}
use Rattle.ql_types.specs.declared.Hash.TheVariants.{Full}
use Rattle.ql_types.specs.declared.Hash32.{Hash32}
use Rattle.hash_model.specs.Tree.{height_of}
use Rattle.pad_tree.specs.Growing.{leaves_in}
use Rattle.pad_tree.proofs.Growth.{root_is_top}
use Rattle.pad_tree.proofs.Towers.{count_is, level_is}
use Rattle.pad_tree.proofs.grow.root_in.Goals as goal

pub bounds-levels-top : goal.bounds-levels-top
bounds-levels-top c =
    let count = count_is c.args.levels.now c.index-levels-0.result c.len-count.result c.requires c.index-levels-0.is c.len-count.ensures in
    let few = c.requires.few in
    let long = c.requires.long in
    let low = c.height-top.ensures.least 32 (omega (arith, count, few)) in
    omega (arith, low, long)

pub returns : goal.returns
returns c =
    let leaves = leaves_in c.args.levels.now in
    let kept = c.index-levels-top.result in
    let count = count_is c.args.levels.now c.index-levels-0.result c.len-count.result c.requires c.index-levels-0.is c.len-count.ensures in
    let few = c.requires.few in
    let top : c.height-top.result ≡ height_of (length leaves) = c.height-top.ensures.defined ∙ ap height_of count in
    let low = c.height-top.ensures.least 32 (omega (arith, count, few)) in
    let is = level_is c.args.levels.now kept c.height-top.result c.requires c.index-levels-top.is (omega (arith, low)) in
    ap Full (c.at.ensures ∙ ap (λ (xs : List Hash32). get_or xs 0 kept.pad) is.nodes)
    ∙ root_is_top leaves c.height-top.result kept.pad (omega (arith, count)) top
