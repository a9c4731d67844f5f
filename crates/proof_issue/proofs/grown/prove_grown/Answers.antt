use Rattle.std.proofs.Common.{◌≡◌, ◌∙◌, ◌-◌, length, subst, sym, take}
use Rattle.proof_model.specs.declared.Proof.{Proof}
use Rattle.proof_model.specs.Issued.{IsAccepted}
use Rattle.proof_model.proofs.Chains.{linked}
use Rattle.proof_issue.proofs.AtEnd.{found_for_the_end, has_leaf, is_for_the_end}
use Rattle.proof_issue.proofs.grown.prove_grown.Goals as goal

pub path-requires : goal.path-requires
path-requires c =
    let blocks = c.args.blocks.now.list in
    let there = c.in_ok-block.ensures.there in
    has_leaf blocks c.args.grow.now.leaves c.args.sequence (length blocks - 1) c.requires.leaves there.within there.room

pub proof_with-requires-clause-linked : goal.proof_with-requires-clause-linked
proof_with-requires-clause-linked c =
    let there = c.in_ok-block.ensures.there in
    (take c.args.sequence c.args.blocks.now.list, linked c.args.blocks.now.list c.requires.chained c.args.sequence c.in_ok-block.block.now there.at)

pub returns-clause-proof : goal.returns-clause-proof
returns-clause-proof c =
    let blocks = c.args.blocks.now.list in
    let b = c.in_ok-block.block.now in
    found_for_the_end blocks b c.args.sequence c.args.index c.in_ok-proof.proof c.in_ok-block.ensures.there.at
    (is_for_the_end blocks b c.args.sequence c.args.index c.args.grow.now.leaves c.as_slice.result.now c.in_ok-proof.proof c.requires.leaves
    (c.as_slice.ensures ∙ c.in_ok-above.ensures.siblings) c.in_ok-proof.ensures)

pub returns-clause-accepted : goal.returns-clause-accepted
returns-clause-accepted c =
    let blocks = c.args.blocks.now.list in
    let b = c.in_ok-block.block.now in
    let there = c.in_ok-block.ensures.there in
    let is = is_for_the_end blocks b c.args.sequence c.args.index c.args.grow.now.leaves c.as_slice.result.now c.in_ok-proof.proof c.requires.leaves
    (c.as_slice.ensures ∙ c.in_ok-above.ensures.siblings) c.in_ok-proof.ensures in
    subst (λ (p : Proof). IsAccepted blocks c.args.sequence c.args.index (length blocks - 1) p) (sym is)
    (c.proofs_verify.ensures blocks b c.args.sequence c.args.index (length blocks - 1) c.requires.chained there.room there.within there.at)
