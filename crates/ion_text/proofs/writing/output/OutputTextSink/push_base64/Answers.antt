use Rattle.std.proofs.Common.{◌∙◌, sym, ap, ◌++◌, true}
use Rattle.base64.specs.Rfc4648.{encode}
use Rattle.ion_model.specs.Write.{base64_digits}
use Rattle.ion_text.proofs.Compared.{appended}
use Rattle.ion_text.proofs.writing.output.OutputTextSink.push_base64.Goals as goal

pub returns : goal.returns
returns c =
    let digits = encode base64_digits 61 true c.args.bytes.now in
    c.in_ok-encode_string.ensures.ok ∙ ap (λ z. z ++ digits) c.self.view_is ∙ sym (appended c.args.self.now digits)
