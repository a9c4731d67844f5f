use Rattle.std.proofs.Common.{length, subst}
use Rattle.ion_model.proofs.Lengths.{ShortAnswer, utf8_short}
use Rattle.ion_text.proofs.stream.read_stream.Goals as goal

pub returns-clause-short : goal.returns-clause-short
returns-clause-short c =
    let bytes = c.args.bytes.now in
    subst (ShortAnswer (length bytes)) c.in_ok-values.ensures (utf8_short c.args.depth bytes)
