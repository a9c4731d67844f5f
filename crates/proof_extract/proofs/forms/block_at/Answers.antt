use Rattle.std.proofs.Common.{length, refl}
use Rattle.std.proofs.lemmas.Option.{slice_get_read}
use Rattle.proof_extract.proofs.forms.block_at.Goals as goal

pub returns : goal.returns
returns c =
    slice_get_read c.args.blocks.now (length c.args.blocks.now) c.args.number c.index-blocks-number.result refl c.requires
    c.index-blocks-number.is
