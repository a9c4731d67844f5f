-- What is written of a symbol is read back.
use Rattle.std.proofs.Common.{◌≡◌, ℕ, ◌+◌, ◌-◌, ◌<◌, ◌==◌, ◌||◌, Bool, true, false, not, List, [], ◌∷◌, ◌++◌, take, length, inl, inr, refl, ap, sym, ◌∙◌, arith, append_assoc}
use Rattle.std.specs.Prelude.{codes}
use Rattle.std.specs.List.{flat_map, list_all, list_any, prefix_len}
use Rattle.std.specs.Str.{byte, bytes_eq}
use Rattle.std.proofs.lemmas.Bool.{and_parts, cases_Bool, cond_both, eqb-true, or_parts, false≢true, not-true}
use Rattle.std.proofs.lemmas.Bool.Decides.{Decides-eqb, nat_tests}
use Rattle.std.proofs.lemmas.List.{take_at}
use Rattle.std.proofs.lemmas.Slice.Eq.{starts_is}
use Rattle.ion_values.specs.Within.{text_within}
use Rattle.ion_model.specs.Quoted.{begins_name, continues_name, escape, is_bare, is_control, is_identifier, is_keyword, quoted, symbol_text}
use Rattle.ion_model.specs.Blanks.{begins, is_space}
use Rattle.ion_model.specs.Words.{begins_word, is_typed, is_word_char, lex_word, word_of}
use Rattle.ion_model.specs.Texts.{lex_quoted}
use Rattle.ion_model.specs.Lex.{begins_number, lex}
use Rattle.ion_model.specs.declared.Token.TheVariants as token
use Rattle.ion_model.specs.declared.Lexed.TheVariants as lexed
use Rattle.ion_text.proofs.WrittenTexts.{quoted_read, utf8_within}

-- What may stand behind a symbol: the end, or a byte that is no character of a word and no quote.
abbrev pub ends_symbol : List ℕ → Bool
ends_symbol [] = true
ends_symbol (b ∷ z) = not (is_word_char b || b == byte "'")

-- as the marks and the space are that stand behind what was written
pub mark_ends : (b : ℕ) (z : List ℕ) → list_any (λ s. s == b) (codes ",])}: ") ≡ true → ends_symbol (b ∷ z) ≡ true
mark_ends b z h = grind (arith, nat_tests)

-- ---- between quotes

-- an escape begins with no quote
apart_escape : (b : ℕ) (z : List ℕ) → begins (codes "''") (escape 39 b ++ z) ≡ false
apart_escape b z =
    let P : List ℕ → Type 0 = λ p. begins (codes "''") (p ++ z) ≡ false in
    cond_both (b == 39 || b == 92) _ _ P (λ _. refl)
    (λ other. cond_both (b == 10) _ _ P (λ _. refl)
    (λ _. cond_both (b == 13) _ _ P (λ _. refl)
    (λ _. cond_both (b == 9) _ _ P (λ _. refl)
    (λ _. cond_both (is_control b) _ _ P (λ _. refl)
    (λ _. let apart : (39 == b) ≡ false = grind (arith, nat_tests) in rw apart refl)))))

apart_rest : (rest : List ℕ) → ends_symbol rest ≡ true → begins (codes "'") rest ≡ false
apart_rest [] h = refl
apart_rest (b ∷ rest) h = let apart : (39 == b) ≡ false = grind (arith, nat_tests) in rw apart refl

-- the quote in front opens no long string
one_quote : (s rest : List ℕ) → ends_symbol rest ≡ true → begins (codes "'''") (quoted 39 s ++ rest) ≡ false
one_quote [] rest h = apart_rest rest h
one_quote (b ∷ s) rest h = ap (begins (codes "''")) (append_assoc (escape 39 b ++ flat_map (escape 39) s) (39 ∷ []) rest ∙ append_assoc (escape 39 b) (flat_map (escape 39) s) (39 ∷ rest)) ∙ apart_escape b (flat_map (escape 39) s ++ 39 ∷ rest)

quoted_symbol_read : (s rest : List ℕ) → text_within s ≡ true → ends_symbol rest ≡ true → lex (quoted 39 s ++ rest) ≡ lexed.Token (token.Symbol s true) (length (quoted 39 s) - 1)
unfolding lex lex_quoted
quoted_symbol_read s rest h ends =
    rw (one_quote s rest ends) (quoted_read 39 (record { low = omega arith; read = λ z. refl }) (λ text. token.Symbol text true) s rest (utf8_within s h))

-- ---- without quotes

-- a letter or `_` begins no other token than a word
record Starts (b : ℕ) : Type 0 where
  no_space : is_space b ≡ false
  no_slash : (47 == b) ≡ false
  no_brace : (123 == b) ≡ false
  no_double : (b == 34) ≡ false
  no_single : (b == 39) ≡ false
  no_long : (39 == b) ≡ false
  no_number : (z : List ℕ) → begins_number b z ≡ false
  word : begins_word b ≡ true
  no_id : (b == 0x24) ≡ false

starts : (b : ℕ) → begins_name b ≡ true → Starts b
starts b h = record {
  no_space = grind (arith, nat_tests);
  no_slash = grind (arith, nat_tests);
  no_brace = grind (arith, nat_tests);
  no_double = grind (arith, nat_tests);
  no_single = grind (arith, nat_tests);
  no_long = grind (arith, nat_tests);
  no_number = λ z. grind (arith, nat_tests);
  word = grind (arith, nat_tests);
  no_id = grind (arith, nat_tests);
}

word_in_front : (b : ℕ) (z : List ℕ) → begins_name b ≡ true → lex (b ∷ z) ≡ lex_word (b ∷ z)
unfolding lex
word_in_front b z h =
    let s : Starts b = starts b h in
    rw (s.no_space, s.no_slash, s.no_brace, s.no_double, s.no_long, s.no_single, s.no_number (b ∷ z), s.word) refl

continues : (b : ℕ) → continues_name b ≡ true → is_word_char b ≡ true
continues b h = grind (arith, nat_tests)

-- the word ends before the rest
word_length : (more rest : List ℕ) → list_all continues_name more ≡ true → ends_symbol rest ≡ true → prefix_len is_word_char (more ++ rest) ≡ length more
word_length [] [] h ends = refl
word_length [] (b ∷ rest) h ends = let other : is_word_char b ≡ false = (or_parts (is_word_char b) (b == 39) (not-true (is_word_char b || b == 39) ends)).0 in rw other refl
word_length (b ∷ more) rest h ends =
    let both = and_parts (continues_name b) (list_all continues_name more) h in
    rw (continues b both.0, word_length more rest both.1 ends) (omega arith)

-- and it is no `null` before a point
untyped : (b : ℕ) (more rest : List ℕ) → is_keyword (b ∷ more) ≡ false → is_typed (length more) (b ∷ more ++ rest) ≡ false
untyped b more rest h =
    elim (cases_Bool (is_typed (length more) (b ∷ more ++ rest))) [
      | inl is ↦
          let both = and_parts (length more == 3) (begins (codes "null.") (b ∷ more ++ rest)) is in
          let four : length (b ∷ more) ≡ 4 = omega (arith, eqb-true (length more) 3 both.0) in
          let front = (starts_is Decides-eqb (b ∷ more ++ rest) (codes "null.") (begins (codes "null.") (b ∷ more ++ rest)) refl).0 both.1 in
          let null : b ∷ more ≡ codes "null" = sym (take_at (b ∷ more) rest 4 four) ∙ ap (take 4) front in
          absurd (false≢true (sym h ∙ ap is_keyword null))
      | inr isn't ↦ isn't
    ]

-- nor another word that is no symbol
word_alone : (b : ℕ) (more : List ℕ) (n : ℕ) → begins_name b ≡ true → is_keyword (b ∷ more) ≡ false → word_of (b ∷ more) n ≡ lexed.Token (token.Symbol (b ∷ more) false) n
word_alone b more n first h =
    let s : List ℕ = b ∷ more in
    let nan = or_parts (bytes_eq s (codes "null") || bytes_eq s (codes "true") || bytes_eq s (codes "false")) (bytes_eq s (codes "nan")) h in
    let false_word = or_parts (bytes_eq s (codes "null") || bytes_eq s (codes "true")) (bytes_eq s (codes "false")) nan.0 in
    let true_word = or_parts (bytes_eq s (codes "null")) (bytes_eq s (codes "true")) false_word.0 in
    rw (true_word.0, true_word.1, false_word.1, nan.1, (starts b first).no_id) refl

bare_read :
    (b : ℕ) (more rest : List ℕ) → begins_name b ≡ true → list_all continues_name more ≡ true → is_keyword (b ∷ more) ≡ false → ends_symbol rest ≡ true →
    lex (b ∷ more ++ rest) ≡ lexed.Token (token.Symbol (b ∷ more) false) (length more)
bare_read b more rest first others word ends = word_in_front b (more ++ rest) first ∙ rw (word_length more rest others ends, untyped b more rest word, take_at (b ∷ more) rest (length more + 1) (omega arith)) (word_alone b more (length more) first word)

-- ---- both

pub symbol_read :
    (s rest : List ℕ) → text_within s ≡ true → ends_symbol rest ≡ true →
    lex (symbol_text s ++ rest) ≡ lexed.Token (token.Symbol s (not (is_bare s))) (length (symbol_text s) - 1)
symbol_read [] rest h ends = quoted_symbol_read [] rest h ends
symbol_read (b ∷ more) rest h ends =
    elim (cases_Bool (is_bare (b ∷ more))) [
      | inl bare ↦
          let both = and_parts (is_identifier (b ∷ more)) (not (is_keyword (b ∷ more))) bare in
          let name = and_parts (begins_name b) (list_all continues_name more) both.0 in
          rw bare (bare_read b more rest name.0 name.1 (not-true (is_keyword (b ∷ more)) both.1) ends ∙ ap (lexed.Token (token.Symbol (b ∷ more) false)) (omega arith))
      | inr other ↦ rw other (quoted_symbol_read (b ∷ more) rest h ends)
    ]

pub symbol_stands : (s : List ℕ) → 0 < length (symbol_text s)
symbol_stands [] = omega arith
symbol_stands (b ∷ more) = cond_both (is_bare (b ∷ more)) (b ∷ more) (quoted 39 (b ∷ more)) (λ text. 0 < length text) (λ _. omega arith) (λ _. omega arith)

-- ---- the marks behind names and annotations

pub colon_read : (z : List ℕ) → begins (codes ":") z ≡ false → lex (58 ∷ z) ≡ lexed.Token token.Colon 0
unfolding lex
colon_read z h = rw h refl

pub double_colon_read : (z : List ℕ) → lex (58 ∷ 58 ∷ z) ≡ lexed.Token token.DoubleColon 1
unfolding lex
double_colon_read z = refl
