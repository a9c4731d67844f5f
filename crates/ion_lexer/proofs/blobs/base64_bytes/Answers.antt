use Rattle.std.proofs.Common.{◌≡◌, Some, Result, Ok, Err, ap, sym, ◌∙◌, refl}
use Rattle.ion_lexer.proofs.Spelling.{bytes_of_encoding, no_encoding}
use Rattle.ion_lexer.proofs.blobs.base64_bytes.Goals as goal

not_both : {T E : Type 0} (r : Result T E) (x : T) (e : E) → r ≡ Err e → r ≡ Ok x → ⊥
not_both r x e fails holds =
    let both : Err e ≡ Ok x = sym fails ∙ holds in
    cc

pub returns-in-Ok : goal.returns-in-Ok
returns-in-Ok c =
    ap Some c.from_vec.ensures ∙ bytes_of_encoding c.args.text.now c.in-Ok.bytes.items c.in-Ok.ensures.bytes (c.in-Ok.ensures.exact (refl, refl))

pub returns-in-Err-DecodeError : goal.returns-in-Err-DecodeError
returns-in-Err-DecodeError c =
    let failed = rw c.in-Err-DecodeError.field-0-is at c.in-Err-DecodeError.ensures.err in
    no_encoding c.args.text.now (λ b bytes same. not_both _ _ _ failed ((c.in-Err-DecodeError.ensures.strict (refl, refl) b bytes).1 same))
