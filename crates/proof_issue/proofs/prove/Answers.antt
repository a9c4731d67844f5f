use Rattle.std.proofs.Common.{◌∙◌, sym, ap, subst, take}
use Rattle.proof_model.specs.declared.Proof.{Proof}
use Rattle.proof_model.specs.Issued.{IsAccepted, proof_for}
use Rattle.proof_model.proofs.Chains.{linked}
use Rattle.proof_issue.proofs.prove.Goals as goal

pub proof_of-requires-clause-linked : goal.proof_of-requires-clause-linked
proof_of-requires-clause-linked c =
    let there = c.in_ok-block.ensures.there in
    (take c.args.sequence c.args.blocks.now.list, linked c.args.blocks.now.list c.requires c.args.sequence c.in_ok-block.block.now there.at)

pub returns-clause-accepted : goal.returns-clause-accepted
returns-clause-accepted c =
    let blocks = c.args.blocks.now.list in
    let there = c.in_ok-block.ensures.there in
    subst (λ (p : Proof). IsAccepted blocks c.args.sequence c.args.index c.args.tip p)
    (sym (c.in_ok-proof.ensures ∙ ap (λ l. proof_for l c.in_ok-block.block.now c.args.sequence c.args.index c.args.tip) c.as_slice.ensures))
    (c.proofs_verify.ensures blocks c.in_ok-block.block.now c.args.sequence c.args.index c.args.tip c.requires there.room there.within there.at)
