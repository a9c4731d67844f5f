use Rattle.std.proofs.Common.{◌∙◌, length, sym}
use Rattle.std.proofs.lemmas.Bool.{eqb-true}
use Rattle.proof_extract.proofs.Upward.{folded_none}
use Rattle.proof_extract.proofs.revisions.stop_under_info.Goals as goal

pub stop_at_info-requires-clause-hash : goal.stop_at_info-requires-clause-hash
stop_at_info-requires-clause-hash c =
    let path = c.args.path.now in
    sym (folded_none c.args.revision.now.hash path (eqb-true (length path) 0 (sym c.is_empty.ensures ∙ c.if-is_empty.true)))
    ∙ c.requires.hash
