use Rattle.std.proofs.Common.{length, refl}
use Rattle.std.proofs.lemmas.Option.{slice_get_read}
use Rattle.proof_extract.proofs.revisions.revision_at.Goals as goal

pub returns : goal.returns
returns c =
    slice_get_read c.args.revisions.now (length c.args.revisions.now) c.args.index c.index-revisions-index.result refl
    c.requires c.index-revisions-index.is
