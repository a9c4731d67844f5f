use Rattle.std.proofs.Common.{◌≡◌, true, false, List, ℕ, Some, None, ap, sym, ◌∙◌, subst, if◌then◌else◌}
use Rattle.std.specs.Str.{IsUtf8, is_utf8}
use Rattle.std.specs.String.{string_bytes}
use Rattle.std.proofs.lemmas.Bool.{false≢true, false_from_ne_true}
use Rattle.std.proofs.lemmas.Str.{IsUtf8-string_bytes, is_utf8-from_IsUtf8, IsUtf8-from_is_utf8}
use Rattle.ion_lexer.proofs.texts.text_of.Goals as goal

is_text : (bytes text : List ℕ) → text ≡ bytes → is_utf8 text ≡ true → Some text ≡ (if is_utf8 bytes then Some bytes else None)
is_text bytes text same utf8 = rw (ap is_utf8 (sym same) ∙ utf8) (ap Some same)

is_none : (bytes : List ℕ) → is_utf8 bytes ≡ false → None ≡ (if is_utf8 bytes then Some bytes else None)
is_none bytes other = rw other

pub returns-in-Ok : goal.returns-in-Ok
returns-in-Ok c =
    let same : string_bytes c.in-Ok.text ≡ c.args.bytes = ap (λ v. v.items) c.in-Ok.ensures.ok ∙ c.into_vec.ensures in
    ap Some c.from_string.ensures ∙ is_text c.args.bytes (string_bytes c.in-Ok.text) same (is_utf8-from_IsUtf8 _ (IsUtf8-string_bytes c.in-Ok.text))

pub returns : goal.returns
returns c =
    let refused : IsUtf8 c.args.bytes → false ≡ true = λ utf8. c.in-Err.ensures.succeeds (subst IsUtf8 (sym c.into_vec.ensures) utf8) in
    is_none c.args.bytes (false_from_ne_true _ (λ utf8. false≢true (refused (IsUtf8-from_is_utf8 _ utf8))))
