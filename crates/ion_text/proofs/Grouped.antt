-- Bytes in base64 are compared group by group: each group but the last is a multiple of three bytes, and so isn't padded
-- (RFC 4648, section 4).
use lib.Seq.{take-add}
use Rattle.std.proofs.Common.{◌≡◌, ℕ, ◌+◌, ◌-◌, ◌%◌, ◌≤◌, true, List, ◌++◌, length, take, drop, Option, ap, ◌∙◌, sym, arith}
use Rattle.std.specs.List.{fold}
use Rattle.std.proofs.lemmas.List.{length-take-le}
use Rattle.std.proofs.lemmas.List.Sums.{fold-append}
use Rattle.base64.specs.Rfc4648.{encode}
use Rattle.base64.proofs.EngineFacts.{encode-append}
use Rattle.ion_model.specs.Write.{base64_digits}
use Rattle.ion_text.specs.Comparing.{without}

abbrev digits : List ℕ → List ℕ
digits = encode base64_digits 61 true

next_group : (input : List ℕ) (n d : ℕ) → d % 3 ≡ 0 → d + n ≤ length input
    → digits (take (d + n) input) ≡ digits (take d input) ++ digits (take (d + n - d) (drop d input))
next_group input n d whole within =
    let back : d + n - d ≡ n = omega arith in
    let front : length (take d input) % 3 ≡ 0 = rw (length-take-le d input (omega (arith, within))) whole in
    rw (back, take-add d n input) (encode-append base64_digits 61 true (take d input) (take n (drop d input)) front)

-- the comparison behind one more group
pub grouped : (start old new : Option (List ℕ)) (input : List ℕ) (n d : ℕ)
    → d % 3 ≡ 0 → d + n ≤ length input
    → old ≡ fold without start (encode base64_digits 61 true (take d input))
    → new ≡ fold without old (encode base64_digits 61 true (take (d + n - d) (drop d input)))
    → new ≡ fold without start (encode base64_digits 61 true (take (d + n) input))
grouped start old new input n d whole within before now =
    let group = digits (take (d + n - d) (drop d input)) in
    now ∙ ap (λ s. fold without s group) before
    ∙ sym (fold-append without start (digits (take d input)) group)
    ∙ ap (fold without start) (sym (next_group input n d whole within))
