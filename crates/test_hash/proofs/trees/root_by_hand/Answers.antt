use Rattle.std.proofs.Common.{arith, ◌≡◌, List, [], ◌∷◌}
use Rattle.ql_types.specs.declared.Hash.TheVariants.{Full}
use Rattle.ql_types.specs.declared.Hash32.{Hash32}
use Rattle.hash_model.specs.PairHash.{dot32}
use Rattle.hash_model.specs.Tree.{pad_hash, height_from, paired, paired_times, root_of}
use Rattle.test_hash.proofs.trees.root_by_hand.Goals as goal

pub returns : goal.returns
unfolding height_from paired paired_times
returns c =
    let x = c.args.x.now in
    let y = c.args.y.now in
    let z = c.args.z.now in
    let leaves : List Hash32 = x ∷ y ∷ z ∷ [] in
    let by_hand : Full (dot32 (dot32 x y) (dot32 z pad_hash)) ∷ [] ≡ root_of leaves ∷ [] =
    c.root_level_by_level.ensures leaves (omega arith) in
    cc
