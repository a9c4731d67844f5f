-- Nulls and bools are read back (Ion 1.0, "Text encoding", null values and booleans).
use Rattle.std.proofs.Common.{◌≡◌, ℕ, Bool, true, false, nat_eq, List, [], ◌∷◌, codes, refl, arith}
use Rattle.std.specs.List.{prefix_len}
use Rattle.std.proofs.lemmas.Bool.Decides.{nat_tests}
use Rattle.ion_values.specs.declared.value.Kind.{Kind}
use Rattle.ion_values.specs.declared.value.Kind.TheVariants as kind
use Rattle.ion_model.specs.Write.{null_text, bool_text}
use Rattle.ion_model.specs.Lex.{lex}
use Rattle.ion_model.specs.Blanks.{begins}
use Rattle.ion_model.specs.Words.{is_word_char}
use Rattle.ion_model.specs.declared.Scalar.TheVariants as scalar
use Rattle.ion_model.specs.declared.Token.TheVariants as token
use Rattle.ion_text.specs.RoundTrip.{may_follow, MayFollow, ReadsAs}

no_word_char : (b : ℕ) → may_follow b ≡ true → is_word_char b ≡ false
no_word_char b h = grind (arith, nat_tests)

-- a word ends where it should
word_ends : (rest : List ℕ) → MayFollow rest → prefix_len is_word_char rest ≡ 0
word_ends [] h = refl
word_ends (b ∷ z) h = rw (no_word_char b h) refl

other_point : (b : ℕ) → may_follow b ≡ true → nat_eq 46 b ≡ false
other_point b h = grind (arith, nat_tests)

-- and no point stands behind it
no_point : (rest : List ℕ) → MayFollow rest → begins (codes ".") rest ≡ false
no_point [] h = refl
no_point (b ∷ z) h = rw (other_point b h) refl

pub bool_read : (b : Bool) → ReadsAs (bool_text b) (token.Scalar (scalar.Bool b))
unfolding lex
bool_read true rest h = rw (word_ends rest h) refl
bool_read false rest h = rw (word_ends rest h) refl

pub null_read : (k : Kind) → ReadsAs (null_text k) (token.Scalar (scalar.Null k))
unfolding lex
null_read kind.Null rest h = rw (word_ends rest h, no_point rest h) refl
null_read kind.Bool rest h = rw (word_ends rest h) refl
null_read kind.Int rest h = rw (word_ends rest h) refl
null_read kind.Decimal rest h = rw (word_ends rest h) refl
null_read kind.Timestamp rest h = rw (word_ends rest h) refl
null_read kind.Symbol rest h = rw (word_ends rest h) refl
null_read kind.String rest h = rw (word_ends rest h) refl
null_read kind.Clob rest h = rw (word_ends rest h) refl
null_read kind.Blob rest h = rw (word_ends rest h) refl
null_read kind.List rest h = rw (word_ends rest h) refl
null_read kind.Sexp rest h = rw (word_ends rest h) refl
null_read kind.Struct rest h = rw (word_ends rest h) refl
