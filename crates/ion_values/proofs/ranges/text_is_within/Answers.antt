use Rattle.std.proofs.Common.{◌≡◌, ℕ, List, subst, eq-eqb}
use Rattle.std.specs.Prelude.{IsTrue}
use Rattle.std.specs.Str.{IsUtf8}
use Rattle.std.proofs.lemmas.Str.{utf8_valid_len-IsUtf8}
use Rattle.ion_values.specs.Within.{text_within}
use Rattle.ion_values.proofs.ranges.text_is_within.Goals as goal

-- a text that is lent is UTF-8
text-in : (text given : List ℕ) → given ≡ text → IsUtf8 given → IsTrue (text_within text)
text-in text given same utf8 = subst (λ (bs : List ℕ). IsTrue (text_within bs)) same (eq-eqb _ _ (utf8_valid_len-IsUtf8 given utf8))

pub returns : goal.returns
returns c = text-in c.args.text.now c.as_str-text.result.now c.as_str-text.ensures c.as_str-text.utf8
