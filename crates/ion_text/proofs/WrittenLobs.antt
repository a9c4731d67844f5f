-- What is written of a clob or a blob is read back.
use Rattle.std.proofs.Common.{◌≡◌, ℕ, zero, suc, ◌+◌, ◌-◌, ◌/◌, ◌%◌, ◌<◌, ◌==◌, ◌&&◌, ◌||◌, Bool, true, false, not, List, [], ◌∷◌, ◌++◌, replicate, slice_index, take, drop, length, ◌*◌, Option, Some, None, option_map, nat_lt, nat_le, inl, inr, refl, ap, sym, ◌∙◌, arith, append_assoc, length-append}
use Rattle.std.specs.Prelude.{codes, option_and_then}
use Rattle.std.specs.Char.{digit_char, is_ascii}
use Rattle.std.specs.List.{filter, flat_map, list_all}
use Rattle.std.proofs.lemmas.Bool.{and_parts, cond-false, cond_both, eqb-true, ltb-true, or_cases, or_parts}
use Rattle.std.proofs.lemmas.Bool.Decides.{nat_tests}
use Rattle.std.proofs.lemmas.List.{drop_all, take_at}
use Rattle.std.proofs.lemmas.List.Folds.{list_all-append}
use Rattle.base64.specs.GeneralPurpose.{IsBytes}
use Rattle.base64.specs.Rfc4648.{encode, encode_symbols, padding_len}
use Rattle.ion_values.specs.declared.fault.IonKind.TheVariants as fault
use Rattle.ion_values.specs.Within.{bytes_within}
use Rattle.ion_model.specs.Quoted as written
use Rattle.ion_model.specs.Quoted.{hex_escape}
use Rattle.ion_model.specs.Write.{base64_digits, blob_text, clob_text}
use Rattle.ion_model.specs.Blanks.{is_space}
use Rattle.ion_model.specs.Escapes.{clob_escape, piece}
use Rattle.ion_model.specs.Texts.{before, closed, may_stand, pieces, short}
use Rattle.ion_model.specs.Lobs.{base64_bytes, before_braces, begins_clob, clob_bytes, clob_hides, lex_blob, lex_clob, lex_lob, lob_token, without_white}
use Rattle.ion_model.specs.Lex.{lex}
use Rattle.ion_model.specs.declared.Scalar.TheVariants as scalar
use Rattle.ion_model.specs.declared.Token.TheVariants as token
use Rattle.ion_model.specs.declared.Lexed.TheVariants as lexed
use Rattle.ion_lexer.proofs.Spelling.{bytes_of_encoding}
use Rattle.ion_text.proofs.WrittenTexts.{Spells, hex_byte, none_on, spells_hex, spells_hidden, spells_plain, text_given, text_passed}

-- ---- clobs

suc_on : (n : ℕ) (o : Option ℕ) → option_map suc (option_map (λ k. n + k) o) ≡ option_map (λ k. suc n + k) o
suc_on n None = refl
suc_on n (Some k) = ap Some (omega arith)

-- the bytes that a quote hides
hidden_passed : (hidden : ℕ → List ℕ → Option ℕ) (xs z : List ℕ) → before_braces hidden (length xs) (xs ++ z) ≡ option_map (λ n. length xs + n) (before_braces hidden 0 z)
hidden_passed hidden [] z = none_on (before_braces hidden 0 z)
hidden_passed hidden (x ∷ xs) z = ap (option_map suc) (hidden_passed hidden xs z) ∙ suc_on (length xs) (before_braces hidden 0 z)

spells_mark : (b : ℕ) → (b == 34 || b == 92) ≡ true → Spells 34 clob_escape b (92 ∷ b ∷ [])
spells_mark b h =
    elim (or_cases (b == 34) (b == 92) h) [
      | inl quote ↦ rw (eqb-true b 34 quote) (spells_hidden 34 clob_escape 34 34 refl (λ z. refl))
      | inr backslash ↦ rw (eqb-true b 92 backslash) (spells_hidden 34 clob_escape 92 92 refl (λ z. refl))
    ]

hex_read : (b : ℕ) → b < 256 → (z : List ℕ) → clob_escape (120 ∷ digit_char (b / 16) ∷ digit_char (b % 16) ∷ z) ≡ Some (piece 3 (b ∷ []))
hex_read b h z = rw (hex_byte b z h) refl

other_quote : (b : ℕ) → (b == 34 || b == 92) ≡ false → (34 == b) ≡ false
other_quote b h = grind (arith, nat_tests)

printable : (b : ℕ) → (nat_le 32 b && nat_le b 126) ≡ true → may_stand b ≡ true
printable b h = grind (arith, nat_tests)

spelled : (b : ℕ) → nat_lt b 256 ≡ true → Spells 34 clob_escape b (written.clob_escape b)
spelled b h =
    let P : List ℕ → Type 0 = Spells 34 clob_escape b in
    let small : b < 256 = ltb-true b 256 h in
    cond_both (b == 34 || b == 92) _ _ P (spells_mark b)
    (λ other. cond_both (nat_le 32 b && nat_le b 126) _ _ P
    (λ plain. spells_plain 34 clob_escape b (other_quote b other) (or_parts (b == 34) (b == 92) other).1 (printable b plain))
    (λ _. spells_hex 34 clob_escape b (omega arith) small (hex_read b small)))

pub ascii_digit : (d : ℕ) → d < 16 → is_ascii (digit_char d) ≡ true
ascii_digit d h = grind (arith, nat_tests)

ascii_escape : (b : ℕ) → nat_lt b 256 ≡ true → list_all is_ascii (written.clob_escape b) ≡ true
ascii_escape b h =
    let P : List ℕ → Type 0 = λ p. list_all is_ascii p ≡ true in
    let small : b < 256 = ltb-true b 256 h in
    cond_both (b == 34 || b == 92) _ _ P (λ e. let low : is_ascii b ≡ true = grind (arith, nat_tests) in rw low refl)
    (λ _. cond_both (nat_le 32 b && nat_le b 126) _ _ P (λ e. let low : is_ascii b ≡ true = grind (arith, nat_tests) in rw low refl)
    (λ _. rw (ascii_digit (b / 16) (omega arith), ascii_digit (b % 16) (omega arith)) refl))

pub clob_ascii : (bytes : List ℕ) → bytes_within bytes ≡ true → list_all is_ascii (flat_map written.clob_escape bytes) ≡ true
clob_ascii [] h = refl
clob_ascii (b ∷ bytes) h =
    let both = and_parts (nat_lt b 256) (bytes_within bytes) h in
    rw (list_all-append is_ascii (written.clob_escape b) (flat_map written.clob_escape bytes), ascii_escape b both.0, clob_ascii bytes both.1) refl

-- the closing braces stand behind the closing quote
clob_ends :
    (within rest : List ℕ) → before (codes "\"") false (within ++ 34 ∷ 125 ∷ 125 ∷ rest) ≡ Some (length within) →
    before_braces clob_hides 0 (34 ∷ within ++ 34 ∷ 125 ∷ 125 ∷ rest) ≡ Some (length within + 2)
clob_ends within rest closes =
    let z : List ℕ = within ++ 34 ∷ 125 ∷ 125 ∷ rest in
    let hidden : length within + 1 ≡ length (within ++ 34 ∷ []) = sym (length-append within (34 ∷ [])) in
    ap (λ o. option_and_then (λ more. option_map suc (before_braces clob_hides more z)) (option_map (λ len. len + 1) o)) closes
    ∙ ap (λ more. option_map suc (before_braces clob_hides more z)) hidden
    ∙ ap (λ text. option_map suc (before_braces clob_hides (length (within ++ 34 ∷ [])) text)) (sym (append_assoc within (34 ∷ []) (125 ∷ 125 ∷ rest)))
    ∙ ap (option_map suc) (hidden_passed clob_hides (within ++ 34 ∷ []) (125 ∷ 125 ∷ rest))
    ∙ ap Some (omega (arith, hidden))

-- the string between the braces
clob_string :
    (within bytes : List ℕ) → before (codes "\"") false (within ++ 34 ∷ []) ≡ Some (length within) → list_all is_ascii within ≡ true →
    pieces (short clob_escape) 0 within ≡ Some bytes → clob_bytes (34 ∷ within ++ 34 ∷ []) ≡ Some bytes
clob_string within bytes closes low gives =
    let none : drop (length within + 1) (within ++ 34 ∷ []) ≡ [] = drop_all (length within + 1) (within ++ 34 ∷ []) (omega (arith, length-append within (34 ∷ []))) in
    rw (closes, none, take_at within (34 ∷ []) (length within) refl, low, gives) refl

clob_front : (within rest : List ℕ) → take (length within + 2) (34 ∷ within ++ 34 ∷ 125 ∷ 125 ∷ rest) ≡ 34 ∷ within ++ 34 ∷ []
clob_front within rest =
    ap (λ text. take (length within + 2) (34 ∷ text)) (sym (append_assoc within (34 ∷ []) (125 ∷ 125 ∷ rest)))
    ∙ take_at (34 ∷ within ++ 34 ∷ []) (125 ∷ 125 ∷ rest) (length within + 2) (omega (arith, length-append within (34 ∷ [])))

lex_clob_read :
    (within bytes rest : List ℕ) → ((z : List ℕ) → before (codes "\"") false (within ++ 34 ∷ z) ≡ Some (length within)) → list_all is_ascii within ≡ true →
    pieces (short clob_escape) 0 within ≡ Some bytes →
    lex_clob (34 ∷ within ++ 34 ∷ 125 ∷ 125 ∷ rest) ≡ lexed.Token (token.Scalar (scalar.Clob bytes)) (length within + 2 + 3)
lex_clob_read within bytes rest closes low gives =
    let text : List ℕ = 34 ∷ within ++ 34 ∷ 125 ∷ 125 ∷ rest in
    ap (closed (λ len. lob_token scalar.Clob fault.BadToken len (clob_bytes (without_white (take len text))))) (clob_ends within rest (closes (125 ∷ 125 ∷ rest)))
    ∙ ap (λ front. lob_token scalar.Clob fault.BadToken (length within + 2) (clob_bytes (without_white front))) (clob_front within rest)
    ∙ ap (lob_token scalar.Clob fault.BadToken (length within + 2)) (clob_string within bytes (closes []) low gives)

pub clob_read :
    (bytes rest : List ℕ) → bytes_within bytes ≡ true →
    lex (clob_text bytes ++ rest) ≡ lexed.Token (token.Scalar (scalar.Clob bytes)) (length (clob_text bytes) - 1)
unfolding lex lex_lob
clob_read bytes rest h =
    let within : List ℕ = flat_map written.clob_escape bytes in
    let closes : (z : List ℕ) → before (codes "\"") false (within ++ 34 ∷ z) ≡ Some (length within) = λ z.
    text_passed 34 clob_escape written.clob_escape (λ b. nat_lt b 256) spelled bytes (34 ∷ z) h ∙ ap Some (omega arith) in
    ap (λ text. lex_clob (34 ∷ text)) (append_assoc within (34 ∷ 125 ∷ 125 ∷ []) rest)
    ∙ lex_clob_read within bytes rest closes (clob_ascii bytes h) (text_given 34 clob_escape written.clob_escape (λ b. nat_lt b 256) spelled bytes h)
    ∙ ap (lexed.Token (token.Scalar (scalar.Clob bytes))) (omega (arith, length-append within (34 ∷ 125 ∷ 125 ∷ [])))

-- ---- blobs

-- a digit of base64 or a `=` is no white space, brace or quote
stands : ℕ → Bool
stands b = not (is_space b || b == 125 || b == 34 || b == 39)

record Stands (b : ℕ) : Type 0 where
  no_space : is_space b ≡ false
  no_brace : (125 == b) ≡ false
  no_double : (34 == b) ≡ false
  no_single : (39 == b) ≡ false

how_it_stands : (b : ℕ) → stands b ≡ true → Stands b
unfolding stands
how_it_stands b h = record {
  no_space = grind (arith, nat_tests);
  no_brace = grind (arith, nat_tests);
  no_double = grind (arith, nat_tests);
  no_single = grind (arith, nat_tests);
}

at_place : (p : ℕ → Bool) → p 0 ≡ true → (alphabet : List ℕ) (i : ℕ) → list_all p alphabet ≡ true → p (slice_index alphabet i) ≡ true
at_place p none [] i h = none
at_place p none (b ∷ alphabet) zero h = (and_parts (p b) (list_all p alphabet) h).0
at_place p none (b ∷ alphabet) (suc i) h = at_place p none alphabet i (and_parts (p b) (list_all p alphabet) h).1

symbols_stand : (p : ℕ → Bool) (alphabet : List ℕ) → ((i : ℕ) → p (slice_index alphabet i) ≡ true) → (bytes : List ℕ) → list_all p (encode_symbols alphabet bytes) ≡ true
unfolding encode_symbols
symbols_stand p alphabet each [] = refl
symbols_stand p alphabet each (a ∷ []) = rw (each (a / 4), each (a % 4 * 16)) refl
symbols_stand p alphabet each (a ∷ b ∷ []) = rw (each (a / 4), each (a % 4 * 16 + b / 16), each (b % 16 * 4)) refl
symbols_stand p alphabet each (a ∷ b ∷ c ∷ bytes) =
    rw (each (a / 4), each (a % 4 * 16 + b / 16), each (b % 16 * 4 + c / 64), each (c % 64)) (symbols_stand p alphabet each bytes)

padding_stands : (p : ℕ → Bool) (n b : ℕ) → p b ≡ true → list_all p (replicate n b) ≡ true
padding_stands p zero b h = refl
padding_stands p (suc n) b h = rw h (padding_stands p n b h)

-- a test that the digits and `=` pass, as what stands past their end does
pub encoding_passes : (p : ℕ → Bool) → p 0 ≡ true → p 61 ≡ true → list_all p base64_digits ≡ true → (bytes : List ℕ) → list_all p (encode base64_digits 61 true bytes) ≡ true
encoding_passes p none padding digits bytes =
    rw (
      list_all-append p (encode_symbols base64_digits bytes) (replicate (padding_len (length bytes)) 61),
      symbols_stand p base64_digits (λ i. at_place p none base64_digits i digits) bytes,
      padding_stands p (padding_len (length bytes)) 61 padding,
    ) refl

encoding_stands : (bytes : List ℕ) → list_all stands (encode base64_digits 61 true bytes) ≡ true
unfolding stands
encoding_stands bytes = encoding_passes stands refl refl refl bytes

no_clob : (text z : List ℕ) → list_all stands text ≡ true → begins_clob (without_white (text ++ 125 ∷ z)) ≡ false
no_clob [] z h = refl
no_clob (b ∷ text) z h =
    let s : Stands b = how_it_stands b (and_parts (stands b) (list_all stands text) h).0 in
    rw (s.no_space, s.no_double, s.no_single) refl

blob_ends : (text rest : List ℕ) → list_all stands text ≡ true → before_braces (λ b more. Some 0) 0 (text ++ 125 ∷ 125 ∷ rest) ≡ Some (length text)
blob_ends [] rest h = refl
blob_ends (b ∷ text) rest h =
    let both = and_parts (stands b) (list_all stands text) h in
    rw ((how_it_stands b both.0).no_brace) (ap (option_map suc) (blob_ends text rest both.1))

all_kept : (text : List ℕ) → list_all stands text ≡ true → filter (λ b. not (is_space b)) text ≡ text
all_kept [] h = refl
all_kept (b ∷ text) h =
    let both = and_parts (stands b) (list_all stands text) h in
    rw ((how_it_stands b both.0).no_space) (ap (λ more. b ∷ more) (all_kept text both.1))

each_byte : (bytes : List ℕ) → bytes_within bytes ≡ true → IsBytes bytes
each_byte [] h i = omega arith
each_byte (b ∷ bytes) h zero = ltb-true b 256 (and_parts (nat_lt b 256) (bytes_within bytes) h).0
each_byte (b ∷ bytes) h (suc i) = each_byte bytes (and_parts (nat_lt b 256) (bytes_within bytes) h).1 i

lex_blob_read :
    (text bytes rest : List ℕ) → list_all stands text ≡ true → Some bytes ≡ base64_bytes text →
    lex_blob (text ++ 125 ∷ 125 ∷ rest) ≡ lexed.Token (token.Scalar (scalar.Blob bytes)) (length text + 3)
lex_blob_read text bytes rest h read =
    let z : List ℕ = text ++ 125 ∷ 125 ∷ rest in
    ap (closed (λ len. lob_token scalar.Blob fault.BadBase64 len (base64_bytes (filter (λ b. not (is_space b)) (take len z))))) (blob_ends text rest h)
    ∙ ap (λ front. lob_token scalar.Blob fault.BadBase64 (length text) (base64_bytes (filter (λ b. not (is_space b)) front))) (take_at text (125 ∷ 125 ∷ rest) (length text) refl)
    ∙ ap (λ front. lob_token scalar.Blob fault.BadBase64 (length text) (base64_bytes front)) (all_kept text h)
    ∙ ap (lob_token scalar.Blob fault.BadBase64 (length text)) (sym read)

pub blob_read :
    (bytes rest : List ℕ) → bytes_within bytes ≡ true →
    lex (blob_text bytes ++ rest) ≡ lexed.Token (token.Scalar (scalar.Blob bytes)) (length (blob_text bytes) - 1)
unfolding lex lex_lob
blob_read bytes rest h =
    let text : List ℕ = encode base64_digits 61 true bytes in
    let ends : (text ++ 125 ∷ 125 ∷ []) ++ rest ≡ text ++ 125 ∷ 125 ∷ rest = append_assoc text (125 ∷ 125 ∷ []) rest in
    let blob : begins_clob (without_white ((text ++ 125 ∷ 125 ∷ []) ++ rest)) ≡ false =
    ap (λ z. begins_clob (without_white z)) ends ∙ no_clob text (125 ∷ rest) (encoding_stands bytes) in
    cond-false _ _ _ blob
    ∙ ap lex_blob ends
    ∙ lex_blob_read text bytes rest (encoding_stands bytes) (bytes_of_encoding text bytes (each_byte bytes h) refl)
    ∙ ap (lexed.Token (token.Scalar (scalar.Blob bytes))) (omega (arith, length-append text (125 ∷ 125 ∷ [])))
