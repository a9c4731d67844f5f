use Rattle.std.proofs.Common.{◌≡◌, ◌∙◌, List, length, Some, sym, ap, subst, arith}
use Rattle.std.specs.Prelude.{slice_get}
use Rattle.sha2.specs.Sha256.{sha256}
use Rattle.ql_types.specs.declared.Hash.TheVariants.{Full}
use Rattle.ql_types.specs.declared.Hash32.{Hash32}
use Rattle.hash_model.specs.Tree.{height_of, root_of}
use Rattle.pad_tree.specs.Paths.{folded}
use Rattle.tree_descent.proofs.OnePair.{pair_hash-is}
use Rattle.proof_extract.proofs.Upward.{ends_at, ends_at_pad, length-above, length-tips, tip_of}
use Rattle.proof_extract.proofs.blocks.number_of.Goals as goal

pub descend-requires-clause-long : goal.descend-requires-clause-long
descend-requires-clause-long c =
    let blocks = c.args.blocks.now in
    let d = c.args.digest.now in
    ap length c.above.ensures ∙ length-above d c.args.proof.now c.requires.long
    ∙ ap height_of (sym (length-tips blocks d.tip.sequence c.requires.within))
    ∙ ap (λ (xs : List Hash32). height_of (length xs)) (sym (c.as_slice.ensures ∙ c.in_ok-leaves.ensures))

pub descend-requires-clause-root : goal.descend-requires-clause-root
descend-requires-clause-root c =
    let climbed = c.args.climbed.now in
    ap (λ (xs : List Hash32). Full (folded climbed.block xs)) c.above.ensures ∙ ap Full c.requires.top
    ∙ c.requires.published.root ∙ ap root_of (sym (c.as_slice.ensures ∙ c.in_ok-leaves.ensures))

pub returns-in-Some : goal.returns-in-Some
returns-in-Some c =
    let block = c.args.climbed.now.block in
    let number = c.in-Some.number in
    let there = ends_at c.as_slice.result.now block c.in_ok-end.end number c.in-Some.is c.in_ok-end.ensures in
    tip_of c.args.blocks.now c.args.digest.now.tip.sequence number block
    (subst (λ (xs : List Hash32). slice_get xs number ≡ Some block) (c.as_slice.ensures ∙ c.in_ok-leaves.ensures) there)

pub not_a_pad-requires-clause-hash : goal.not_a_pad-requires-clause-hash
not_a_pad-requires-clause-hash c =
    let climbed = c.args.climbed.now in
    ap sha256 c.in_ok-form-in-None.ensures.form ∙ sym (pair_hash-is climbed.entries climbed.previous)
    ∙ ap (λ (h : Hash32). h.bytes)
    (sym c.requires.stacked.block ∙ ends_at_pad c.as_slice.result.now climbed.block c.in_ok-end.end c.in-None.is c.in_ok-end.ensures)

pub not_a_pad-requires-clause-long : goal.not_a_pad-requires-clause-long
not_a_pad-requires-clause-long c = let long = c.in_ok-form-in-None.ensures.long in omega (arith, long)
