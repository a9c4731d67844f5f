-- What is written of texts and bytes is UTF-8.
use lib.Utf8.{encode, encodes, scalar, scalars}
use Rattle.std.proofs.Common.{◌≡◌, ℕ, zero, suc, ◌/◌, ◌%◌, ◌<◌, ◌==◌, ◌||◌, true, List, [], ◌∷◌, ◌++◌, inl, inr, refl, subst, arith, append-nil}
use Rattle.std.specs.Prelude.{codes}
use Rattle.std.specs.Char.{is_ascii}
use Rattle.std.specs.List.{flat_map, list_all}
use Rattle.std.specs.Str.{IsAscii, IsUtf8}
use Rattle.std.proofs.lemmas.Bool.{and_parts, cases_lt, cond_both, ltb-true}
use Rattle.std.proofs.lemmas.Bool.Decides.{nat_tests}
use Rattle.std.proofs.lemmas.List.Concat.{flat_map-append}
use Rattle.std.proofs.lemmas.Str.{IsUtf8-append, IsUtf8-encode, IsUtf8-from_ascii, IsUtf8-from_is_utf8, IsUtf8-nil, encode_ascii}
use Rattle.base64.specs.Rfc4648.{encode as base64}
use Rattle.ion_values.specs.Within.{bytes_within, text_within}
use Rattle.ion_model.specs.Quoted.{clob_escape, escape, is_bare, is_control, quoted, string_text, symbol_text}
use Rattle.ion_model.specs.Write.{base64_digits, blob_text, clob_text}
use Rattle.ion_text.proofs.Escaped.{escapes-encode}
use Rattle.ion_text.proofs.WrittenTexts.{utf8_within}
use Rattle.ion_text.proofs.WrittenLobs.{ascii_digit, clob_ascii, encoding_passes}

-- ---- ASCII

each_ascii : (text : List ℕ) → list_all is_ascii text ≡ true → IsAscii text
each_ascii [] h i = omega arith
each_ascii (b ∷ text) h zero = ltb-true b 128 (and_parts (is_ascii b) (list_all is_ascii text) h).0
each_ascii (b ∷ text) h (suc i) = each_ascii text (and_parts (is_ascii b) (list_all is_ascii text) h).1 i

pub ascii_utf8 : (text : List ℕ) → list_all is_ascii text ≡ true → IsUtf8 text
ascii_utf8 text h = IsUtf8-from_ascii text (each_ascii text h)

-- ---- texts between quotes

low : (b : ℕ) → b < 128 → is_ascii b ≡ true
low b h = grind (arith, nat_tests)

escape_ascii : (q b : ℕ) → b < 128 → list_all is_ascii (escape q b) ≡ true
escape_ascii q b h =
    let P : List ℕ → Type 0 = λ p. list_all is_ascii p ≡ true in
    cond_both (b == q || b == 92) _ _ P (λ _. rw (low b h) refl)
    (λ _. cond_both (b == 10) _ _ P (λ _. refl)
    (λ _. cond_both (b == 13) _ _ P (λ _. refl)
    (λ _. cond_both (b == 9) _ _ P (λ _. refl)
    (λ _. cond_both (is_control b) _ _ P (λ _. rw (ascii_digit (b / 16) (omega arith), ascii_digit (b % 16) (omega arith)) refl) (λ _. rw (low b h) refl)))))

character_utf8 : (q c : ℕ) → q < 128 → scalar c ≡ true → IsUtf8 (flat_map (escape q) (encode c))
character_utf8 q c quote h =
    elim (cases_lt c 128) [
      | inl small ↦ rw (encode_ascii c small, append-nil) (ascii_utf8 (escape q c) (escape_ascii q c small))
      | inr large ↦ rw (escapes-encode q c quote large) (IsUtf8-encode c h)
    ]

characters_utf8 : (q : ℕ) → q < 128 → (cs : List ℕ) → scalars cs ≡ true → IsUtf8 (flat_map (escape q) (encodes cs))
characters_utf8 q quote [] h = IsUtf8-nil
characters_utf8 q quote (c ∷ cs) h =
    let both = and_parts (scalar c) (scalars cs) h in
    rw (flat_map-append (escape q) (encode c) (encodes cs)) (IsUtf8-append _ _ (character_utf8 q c quote both.0) (characters_utf8 q quote cs both.1))

quoted_utf8 : (q : ℕ) (s : List ℕ) → q < 128 → text_within s ≡ true → IsUtf8 (quoted q s)
quoted_utf8 q s quote h =
    let u : IsUtf8 s = IsUtf8-from_is_utf8 s (utf8_within s h) in
    let mark : IsUtf8 (q ∷ []) = ascii_utf8 (q ∷ []) (rw (low q quote) refl) in
    let within : IsUtf8 (flat_map (escape q) s) = subst (λ text. IsUtf8 (flat_map (escape q) text)) u.1.1 (characters_utf8 q quote u.0 u.1.0) in
    IsUtf8-append (q ∷ flat_map (escape q) s) (q ∷ []) (IsUtf8-append (q ∷ []) (flat_map (escape q) s) mark within) mark

pub string_utf8 : (s : List ℕ) → text_within s ≡ true → IsUtf8 (string_text s)
string_utf8 s h = quoted_utf8 34 s (omega arith) h

pub symbol_utf8 : (s : List ℕ) → text_within s ≡ true → IsUtf8 (symbol_text s)
symbol_utf8 s h = cond_both (is_bare s) s (quoted 39 s) IsUtf8 (λ _. IsUtf8-from_is_utf8 s (utf8_within s h)) (λ _. quoted_utf8 39 s (omega arith) h)

-- ---- clobs and blobs

pub clob_utf8 : (bytes : List ℕ) → bytes_within bytes ≡ true → IsUtf8 (clob_text bytes)
clob_utf8 bytes h =
    let within : List ℕ = flat_map clob_escape bytes in
    IsUtf8-append (codes "{{\"" ++ within) (codes "\"}}")
    (IsUtf8-append (codes "{{\"") within (ascii_utf8 (codes "{{\"") refl) (ascii_utf8 within (clob_ascii bytes h))) (ascii_utf8 (codes "\"}}") refl)

pub blob_utf8 : (bytes : List ℕ) → IsUtf8 (blob_text bytes)
blob_utf8 bytes =
    let within : List ℕ = base64 base64_digits 61 true bytes in
    IsUtf8-append (codes "{{" ++ within) (codes "}}")
    (IsUtf8-append (codes "{{") within (ascii_utf8 (codes "{{") refl) (ascii_utf8 within (encoding_passes is_ascii refl refl refl bytes))) (ascii_utf8 (codes "}}") refl)
