use Rattle.std.proofs.Common.{◌≡◌, Bool, true, false, refl, ◌∙◌}
use Rattle.std.proofs.lemmas.Str.{is_utf8-from_IsUtf8, IsUtf8-from_is_utf8}
use Rattle.ion_pieces.proofs.checks.ill_formed.Goals as goal

not_true : (b : Bool) → (b ≡ true → ⊥) → b ≡ false
not_true true h = absurd (h refl)
not_true false h = refl

pub returns-in-Ok : goal.returns-in-Ok
returns-in-Ok c = is_utf8-from_IsUtf8 c.args.bytes.now c.in-Ok.ensures.cases.1

pub returns-in-Err : goal.returns-in-Err
returns-in-Err c = (not_true _ (λ h. c.in-Err.ensures.cases.0 (IsUtf8-from_is_utf8 c.args.bytes.now h)), c.valid_up_to.ensures ∙ c.in-Err.ensures.valid_len)
