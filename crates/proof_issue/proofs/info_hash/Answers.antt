use Rattle.std.proofs.Common.{◌≡◌, ◌∙◌, sym}
use Rattle.std.proofs.lemmas.Option.{get_or_from_slice_get}
use Rattle.ql_types.specs.declared.Hash32.{Hash32}
use Rattle.ql_types.specs.declared.Hash.TheVariants.{Empty, Full}
use Rattle.ledger_model.specs.Seals.{info_hash}
use Rattle.proof_model.proofs.Chains.{info_entry}
use Rattle.proof_issue.proofs.info_hash.Goals as goal

same : (a b : Hash32) → Full a ≡ Full b → a ≡ b
same a b e = cc

pub returns : goal.returns
returns c =
    let b = c.args.block.now in
    same _ _ (sym c.in-Full.is ∙ get_or_from_slice_get b.list 0 (Full (info_hash b.info b.revisions)) Empty (info_entry b c.requires))
