-- What is written between quotes is read back.
use lib.Utf8.{low_scalar}
use Rattle.std.proofs.Common.{◌≡◌, ℕ, zero, suc, ◌+◌, ◌-◌, ◌/◌, ◌%◌, ◌<◌, ◌≤◌, ◌==◌, ◌||◌, Bool, true, false, List, [], ◌∷◌, ◌++◌, take, length, Option, Some, None, option_map, nat_lt, inl, inr, refl, ap, sym, ◌∙◌, arith, append_assoc, length-append}
use Rattle.std.specs.Char.{digit_char}
use Rattle.std.specs.List.{flat_map, list_all}
use Rattle.std.specs.Str.{all_scalars, chars, is_utf8}
use Rattle.std.specs.Str.Lossy.{utf8_valid_len, valid_len_up_to}
use Rattle.std.proofs.lemmas.Bool.{and_parts, cases_Bool, cond_both, eq-eqb, eqb-true, or_cases, or_parts, ne_eqb}
use Rattle.std.proofs.lemmas.Bool.Decides.{nat_tests}
use Rattle.std.proofs.lemmas.List.{take_at, take_all}
use Rattle.std.proofs.lemmas.Str.{digit_value-digit_char, encode_ascii}
use Rattle.ion_values.specs.Within.{text_within}
use Rattle.ion_model.specs.Quoted as written
use Rattle.ion_model.specs.Quoted.{hex_escape, is_control, quoted, string_text}
use Rattle.ion_model.specs.Escapes.{Piece, hex2, hex_digit, piece, text_escape}
use Rattle.ion_model.specs.Texts.{before, lex_string, lex_text, may_stand, pieces, short}
use Rattle.ion_model.specs.Lex.{lex}
use Rattle.ion_model.specs.declared.Token.{Token}
use Rattle.ion_model.specs.declared.Token.TheVariants as token
use Rattle.ion_model.specs.declared.Lexed.TheVariants as lexed

-- ---- texts within their range are UTF-8

at_most : (bs : List ℕ) (n : ℕ) → valid_len_up_to bs n ≤ n
at_most bs zero = omega arith
at_most bs (suc n) =
    cond_both (is_utf8 (take (suc n) bs)) (suc n) (valid_len_up_to bs n) (λ m. m ≤ suc n) (λ _. omega arith) (λ _. omega (arith, at_most bs n))

whole_valid : (bs : List ℕ) (n : ℕ) → length bs ≡ suc n → valid_len_up_to bs (suc n) ≡ suc n → is_utf8 bs ≡ true
whole_valid bs n len h =
    elim (cases_Bool (is_utf8 (take (suc n) bs))) [
      | inl is ↦ rw (take_all (suc n) bs (omega arith)) at is
      | inr isn't ↦ let less : valid_len_up_to bs n ≡ suc n = rw isn't at h in absurd (omega (arith, at_most bs n, less))
    ]

pub utf8_within : (bs : List ℕ) → text_within bs ≡ true → is_utf8 bs ≡ true
unfolding utf8_valid_len is_utf8 chars
utf8_within [] h = refl
utf8_within (b ∷ bs) h = whole_valid (b ∷ bs) (length bs) refl (eqb-true _ _ h)

-- ---- bytes, each with its spelling

pub record Spells (q : ℕ) (escape : List ℕ → Option Piece) (b : ℕ) (p : List ℕ) : Type 0 where
  pub passed : (z : List ℕ) → before (q ∷ []) false (p ++ z) ≡ option_map (λ n. length p + n) (before (q ∷ []) false z)
  pub gives : (z : List ℕ) → pieces (short escape) 0 (p ++ z) ≡ option_map (λ more. b ∷ more) (pieces (short escape) 0 z)

pub none_on : (o : Option ℕ) → o ≡ option_map (λ n. 0 + n) o
none_on None = refl
none_on (Some n) = ap Some (omega arith)

one_on : (o : Option ℕ) → option_map suc o ≡ option_map (λ n. 1 + n) o
one_on None = refl
one_on (Some n) = ap Some (omega arith)

two_on : (o : Option ℕ) → option_map suc (option_map suc o) ≡ option_map (λ n. 2 + n) o
two_on None = refl
two_on (Some n) = ap Some (omega arith)

four_on : (o : Option ℕ) → option_map suc (option_map suc (option_map suc (option_map suc o))) ≡ option_map (λ n. 4 + n) o
four_on None = refl
four_on (Some n) = ap Some (omega arith)

pub both_on : (m n : ℕ) (o : Option ℕ) → option_map (λ k. m + k) (option_map (λ k. n + k) o) ≡ option_map (λ k. m + n + k) o
both_on m n None = refl
both_on m n (Some k) = ap Some (omega arith)

-- a byte that stands as it is
passed_plain : (q b : ℕ) (z : List ℕ) → (q == b) ≡ false → (b == 92) ≡ false → before (q ∷ []) false (b ∷ z) ≡ option_map suc (before (q ∷ []) false z)
passed_plain q b z h k = rw (h, k) refl

-- and two of which the first is a backslash
passed_hidden : (q e : ℕ) (z : List ℕ) → (q == 92) ≡ false → before (q ∷ []) false (92 ∷ e ∷ z) ≡ option_map suc (option_map suc (before (q ∷ []) false z))
passed_hidden q e z h = rw h refl

pub spells_plain : (q : ℕ) (escape : List ℕ → Option Piece) (b : ℕ) → (q == b) ≡ false → (b == 92) ≡ false → may_stand b ≡ true → Spells q escape b (b ∷ [])
spells_plain q escape b h k stands = record {
  passed = λ z. passed_plain q b z h k ∙ one_on _;
  gives = λ z. rw (k, stands) refl;
}

pub spells_hidden :
    (q : ℕ) (escape : List ℕ → Option Piece) (b e : ℕ) → (q == 92) ≡ false → ((z : List ℕ) → escape (e ∷ z) ≡ Some (piece 1 (b ∷ []))) →
    Spells q escape b (92 ∷ e ∷ [])
spells_hidden q escape b e h k = record {
  passed = λ z. passed_hidden q e z h ∙ two_on _;
  gives = λ z. rw (k z) refl;
}

digit_high : (d : ℕ) → 48 ≤ digit_char d
digit_high d = grind (arith, nat_tests)

digit_no_backslash : (d : ℕ) → d < 16 → (digit_char d == 92) ≡ false
digit_no_backslash d h = grind (arith, nat_tests)

digit_no_quote : (q d : ℕ) → q < 48 → (q == digit_char d) ≡ false
digit_no_quote q d h = ne_eqb q (digit_char d) (λ e. omega (arith, digit_high d, e))

-- a byte by its two hexadecimal digits
pub spells_hex :
    (q : ℕ) (escape : List ℕ → Option Piece) (b : ℕ) → q < 48 → b < 256 →
    ((z : List ℕ) → escape (120 ∷ digit_char (b / 16) ∷ digit_char (b % 16) ∷ z) ≡ Some (piece 3 (b ∷ []))) → Spells q escape b (hex_escape b)
spells_hex q escape b low small h = record {
  passed = λ z.
      passed_hidden q 120 (digit_char (b / 16) ∷ digit_char (b % 16) ∷ z) (ne_eqb q 92 (λ e. omega (arith, e)))
      ∙ ap (λ o. option_map suc (option_map suc o))
      (passed_plain q (digit_char (b / 16)) (digit_char (b % 16) ∷ z) (digit_no_quote q (b / 16) low) (digit_no_backslash (b / 16) (omega arith))
      ∙ ap (option_map suc) (passed_plain q (digit_char (b % 16)) z (digit_no_quote q (b % 16) low) (digit_no_backslash (b % 16) (omega arith))))
      ∙ four_on _;
  gives = λ z. rw (h z) refl;
}

hex_read : (d : ℕ) → d < 16 → hex_digit (digit_char d) ≡ Some d
hex_read d h = rw (digit_value-digit_char d (omega arith)) (let lt : nat_lt d 16 ≡ true = grind (arith, nat_tests) in rw lt refl)

pub hex_byte : (b : ℕ) (z : List ℕ) → b < 256 → hex2 (digit_char (b / 16) ∷ digit_char (b % 16) ∷ z) ≡ Some b
hex_byte b z h = rw (hex_read (b / 16) (omega arith), hex_read (b % 16) (omega arith)) (ap Some (omega arith))

-- ---- texts, byte by byte

module _ (q : ℕ) (escape : List ℕ → Option Piece) (spelling : ℕ → List ℕ) (may : ℕ → Bool) (each : (b : ℕ) → may b ≡ true → Spells q escape b (spelling b)) where
  -- the closing quote stands behind the text
  pub text_passed :
      (text z : List ℕ) → list_all may text ≡ true →
      before (q ∷ []) false (flat_map spelling text ++ z) ≡ option_map (λ n. length (flat_map spelling text) + n) (before (q ∷ []) false z)
  text_passed [] z h = none_on (before (q ∷ []) false z)
  text_passed (b ∷ bs) z h =
      let both = and_parts (may b) (list_all may bs) h in
      ap (before (q ∷ []) false) (append_assoc (spelling b) (flat_map spelling bs) z)
      ∙ (each b both.0).passed (flat_map spelling bs ++ z)
      ∙ ap (option_map (λ n. length (spelling b) + n)) (text_passed bs z both.1)
      ∙ both_on (length (spelling b)) (length (flat_map spelling bs)) (before (q ∷ []) false z)
      ∙ ap (λ k. option_map (λ n. k + n) (before (q ∷ []) false z)) (sym (length-append (spelling b) (flat_map spelling bs)))

  -- and the text is what stands before it
  pub text_given : (text : List ℕ) → list_all may text ≡ true → pieces (short escape) 0 (flat_map spelling text) ≡ Some text
  text_given [] h = refl
  text_given (b ∷ bs) h =
      let both = and_parts (may b) (list_all may bs) h in
      (each b both.0).gives (flat_map spelling bs) ∙ ap (option_map (λ more. b ∷ more)) (text_given bs both.1)

-- ---- strings

-- the escapes of the quote itself and of a backslash
pub record Mark (q : ℕ) : Type 0 where
  pub low : q < 48
  pub read : (z : List ℕ) → text_escape (q ∷ z) ≡ Some (piece 1 (q ∷ []))

small_scalar : (b : ℕ) → b < 128 → all_scalars (b ∷ []) ≡ true
small_scalar b h = rw (low_scalar b (omega arith)) refl

hex_character : (b : ℕ) → b < 128 → (z : List ℕ) → text_escape (120 ∷ digit_char (b / 16) ∷ digit_char (b % 16) ∷ z) ≡ Some (piece 3 (b ∷ []))
hex_character b h z = rw (hex_byte b z (omega arith), small_scalar b h, encode_ascii b h) refl

no_backslash : (q : ℕ) → Mark q → (q == 92) ≡ false
no_backslash q mark = ne_eqb q 92 (λ e. omega (arith, e, mark.low))

spells_mark : (q b : ℕ) → Mark q → (b == q || b == 92) ≡ true → Spells q text_escape b (92 ∷ b ∷ [])
spells_mark q b mark h =
    elim (or_cases (b == q) (b == 92) h) [
      | inl quote ↦ rw (eqb-true b q quote) (spells_hidden q text_escape q q (no_backslash q mark) mark.read)
      | inr backslash ↦ rw (eqb-true b 92 backslash) (spells_hidden q text_escape 92 92 (no_backslash q mark) (λ z. refl))
    ]

control_small : (b : ℕ) → is_control b ≡ true → b < 128
control_small b h = grind (arith, nat_tests)

-- a control character by a letter
spells_letter :
    (q b c e : ℕ) → Mark q → ((z : List ℕ) → text_escape (e ∷ z) ≡ Some (piece 1 (c ∷ []))) → (b == c) ≡ true → Spells q text_escape b (92 ∷ e ∷ [])
spells_letter q b c e mark read is = rw (eqb-true b c is) (spells_hidden q text_escape c e (no_backslash q mark) read)

other_quote : (q b : ℕ) → (b == q || b == 92) ≡ false → (q == b) ≡ false
other_quote q b h = grind (arith, nat_tests)

other_backslash : (q b : ℕ) → (b == q || b == 92) ≡ false → (b == 92) ≡ false
other_backslash q b h = (or_parts (b == q) (b == 92) h).1

no_control : (b : ℕ) → is_control b ≡ false → may_stand b ≡ true
no_control b h = grind (arith, nat_tests)

spelled : (q : ℕ) → Mark q → (b : ℕ) → Spells q text_escape b (written.escape q b)
spelled q mark b =
    let P : List ℕ → Type 0 = Spells q text_escape b in
    cond_both (b == q || b == 92) _ _ P (spells_mark q b mark)
    (λ other. cond_both (b == 10) _ _ P (spells_letter q b 10 110 mark (λ z. refl))
    (λ _. cond_both (b == 13) _ _ P (spells_letter q b 13 114 mark (λ z. refl))
    (λ _. cond_both (b == 9) _ _ P (spells_letter q b 9 116 mark (λ z. refl))
    (λ _. cond_both (is_control b) _ _ P (λ c. spells_hex q text_escape b mark.low (omega (arith, control_small b c)) (hex_character b (control_small b c)))
    (λ c. spells_plain q text_escape b (other_quote q b other) (other_backslash q b other) (no_control b c))))))

-- a text between its quotes, with something behind them
closed_read :
    (q : ℕ) (front : ℕ → List ℕ → Option Piece) (made : List ℕ → Token) (s within rest z : List ℕ) → z ≡ within ++ q ∷ rest →
    before (q ∷ []) false z ≡ Some (length within) → pieces front 0 within ≡ Some s → is_utf8 s ≡ true →
    lex_text (q ∷ []) front made (q ∷ z) ≡ lexed.Token (made s) (length within + 1)
closed_read q front made s within rest z z_is closes gives utf8 = rw (closes, z_is, take_at within (q ∷ rest) (length within) refl, gives, utf8) refl

any : (text : List ℕ) → list_all (λ b. true) text ≡ true
any [] = refl
any (b ∷ text) = any text

pub closing : (q : ℕ) (rest : List ℕ) → before (q ∷ []) false (q ∷ rest) ≡ Some 0
closing q rest = rw (eq-eqb q q refl) refl

pub quoted_read :
    (q : ℕ) → Mark q → (made : List ℕ → Token) (s rest : List ℕ) → is_utf8 s ≡ true →
    lex_text (q ∷ []) (short text_escape) made (quoted q s ++ rest) ≡ lexed.Token (made s) (length (quoted q s) - 1)
quoted_read q mark made s rest utf8 =
    let within = flat_map (written.escape q) s in
    let z_is : (within ++ q ∷ []) ++ rest ≡ within ++ q ∷ rest = append_assoc within (q ∷ []) rest in
    let closes : before (q ∷ []) false ((within ++ q ∷ []) ++ rest) ≡ Some (length within) =
    ap (before (q ∷ []) false) z_is
    ∙ text_passed q text_escape (written.escape q) (λ b. true) (λ b _. spelled q mark b) s (q ∷ rest) (any s)
    ∙ ap (option_map (λ n. length within + n)) (closing q rest) ∙ ap Some (omega arith) in
    let gives : pieces (short text_escape) 0 within ≡ Some s = text_given q text_escape (written.escape q) (λ b. true) (λ b _. spelled q mark b) s (any s) in
    closed_read q (short text_escape) made s within rest ((within ++ q ∷ []) ++ rest) z_is closes gives utf8
    ∙ ap (lexed.Token (made s)) (omega (arith, length-append within (q ∷ [])))

pub string_read : (s rest : List ℕ) → text_within s ≡ true → lex (string_text s ++ rest) ≡ lexed.Token (token.String s) (length (string_text s) - 1)
unfolding lex lex_string
string_read s rest h = quoted_read 34 (record { low = omega arith; read = λ z. refl }) token.String s rest (utf8_within s h)
