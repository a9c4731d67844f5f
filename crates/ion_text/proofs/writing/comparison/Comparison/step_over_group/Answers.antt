use Rattle.std.proofs.Common.{◌∙◌, ap, true}
use Rattle.std.specs.List.{fold}
use Rattle.base64.specs.Rfc4648.{encode}
use Rattle.base64.proofs.EngineFacts.{encoded_prefix}
use Rattle.ion_model.specs.Write.{base64_digits}
use Rattle.ion_text.specs.Comparing.{without}
use Rattle.ion_text.proofs.writing.comparison.Comparison.step_over_group.Goals as goal

pub returns : goal.returns
returns c =
    let digits = encode base64_digits 61 true c.args.group.now in
    let text = encoded_prefix digits _ c.encode_slice.new.output _ c.in-Ok.count c.encode_slice.result _
    c.encode_slice.auto.output c.encode_slice.ensures.fits c.encode_slice.ensures.too_small
    c.in-Ok.is c.in-Ok.ensures.written in
    c.step_over.ensures ∙ ap (λ piece. fold without c.args.self.now piece) text
