-- A text that begins with a mark's byte has the mark in front.
use Rattle.std.proofs.Common.{◌≡◌, ℕ, ◌<◌, ◌==◌, true, false, List, [], ◌∷◌, codes, length, slice_index, subst, arith}
use Rattle.std.specs.Str.{byte}
use Rattle.std.proofs.lemmas.Bool.Decides.{nat_tests}
use Rattle.ion_model.specs.Blanks.{begins, is_space}
use Rattle.ion_model.specs.Lex.{begins_number, lex_at, lex_mark}
use Rattle.ion_model.specs.Words.{begins_word, is_operator}
use Rattle.ion_lexer.specs.Marks.{is_mark}

no_space : (b : ℕ) → is_mark b ≡ true → is_space b ≡ false
no_space b h = grind (arith, nat_tests)

no_line : (b : ℕ) (z : List ℕ) → is_mark b ≡ true → begins (codes "//") (b ∷ z) ≡ false
no_line b z h = grind (arith, nat_tests)

no_block : (b : ℕ) (z : List ℕ) → is_mark b ≡ true → begins (codes "/*") (b ∷ z) ≡ false
no_block b z h = grind (arith, nat_tests)

no_lob : (b : ℕ) (z : List ℕ) → is_mark b ≡ true → begins (codes "{{") (b ∷ z) ≡ false
no_lob b z h = grind (arith, nat_tests)

no_string : (b : ℕ) → is_mark b ≡ true → (b == byte "\"") ≡ false
no_string b h = grind (arith, nat_tests)

no_segment : (b : ℕ) (z : List ℕ) → is_mark b ≡ true → begins (codes "'''") (b ∷ z) ≡ false
no_segment b z h = grind (arith, nat_tests)

no_symbol : (b : ℕ) → is_mark b ≡ true → (b == byte "'") ≡ false
no_symbol b h = grind (arith, nat_tests)

no_number : (b : ℕ) (z : List ℕ) → is_mark b ≡ true → begins_number b z ≡ false
no_number b z h = grind (arith, nat_tests)

no_word : (b : ℕ) → is_mark b ≡ true → begins_word b ≡ false
no_word b h = grind (arith, nat_tests)

no_operator : (b : ℕ) → is_mark b ≡ true → is_operator b ≡ false
no_operator b h = grind (arith, nat_tests)

mark_at : (b : ℕ) (z : List ℕ) → is_mark b ≡ true → lex_at b (b ∷ z) ≡ lex_mark b (b ∷ z)
mark_at b z h =
    rw (
      no_space b h,
      no_line b z h,
      no_block b z h,
      no_lob b z h,
      no_string b h,
      no_segment b z h,
      no_symbol b h,
      no_number b (b ∷ z) h,
      no_word b h,
      no_operator b h,
    )

pub mark_in_front : (b : ℕ) (bytes : List ℕ) → 0 < length bytes → b ≡ slice_index bytes 0 → is_mark b ≡ true → lex_at b bytes ≡ lex_mark b bytes
mark_in_front b [] some e h = absurd (omega arith)
mark_in_front b (a ∷ z) some e h = subst (λ x. lex_at b (x ∷ z) ≡ lex_mark b (x ∷ z)) e (mark_at b z h)
