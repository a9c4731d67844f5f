-- How texts of tokens begin.
use Rattle.std.proofs.Common.{◌≡◌, ◌-◌, ◌<◌, ◌==◌, ℕ, Bool, true, false, not, List, [], ◌∷◌, ◌++◌, length, inl, inr, refl, ap, sym, ◌∙◌, arith}
use Rattle.std.specs.Prelude.{codes}
use Rattle.std.specs.List.{list_all}
use Rattle.std.proofs.lemmas.Bool.{and_parts, cases_Bool, cond_both, eqb-true, false≢true, ne_eqb}
use Rattle.ion_values.specs.Within.{text_within}
use Rattle.ion_model.specs.Quoted.{begins_name, continues_name, is_bare, is_identifier, is_keyword, quoted, symbol_text}
use Rattle.ion_model.specs.Blanks.{begins}
use Rattle.ion_model.specs.Lex.{lex}
use Rattle.ion_model.specs.declared.Token.{Token}
use Rattle.ion_model.specs.declared.Token.TheVariants as token
use Rattle.ion_model.specs.declared.Lexed.{Lexed}
use Rattle.ion_model.specs.declared.Lexed.TheVariants as lexed
use Rattle.ion_text.specs.RoundTrip.{ReadsBefore}
use Rattle.ion_text.proofs.WrittenSymbols.{symbol_read, symbol_stands, ends_symbol}

-- a text that isn't empty
pub in_front : (rest text : List ℕ) (t : Token) → 0 < length text → lex (text ++ rest) ≡ lexed.Token t (length text - 1) → ReadsBefore rest text t
in_front rest [] t h reads = absurd (omega arith)
in_front rest (b ∷ z) t h reads = reads ∙ ap (lexed.Token t) (omega arith)

pub symbol_in_front : (rest s : List ℕ) → text_within s ≡ true → ends_symbol rest ≡ true → ReadsBefore rest (symbol_text s) (token.Symbol s (not (is_bare s)))
symbol_in_front rest s h ends = in_front rest (symbol_text s) _ (symbol_stands s) (symbol_read s rest h ends)

-- ---- a symbol begins with a letter, `_` or a quote

bare_front : (q b : ℕ) (more z : List ℕ) → begins_name q ≡ false → is_bare (b ∷ more) ≡ true → begins (q ∷ []) (b ∷ more ++ z) ≡ false
bare_front q b more z other bare =
    let name = and_parts (begins_name b) (list_all continues_name more) (and_parts (is_identifier (b ∷ more)) (not (is_keyword (b ∷ more))) bare).0 in
    let apart : (q == b) ≡ false = ne_eqb q b (λ e. false≢true (sym other ∙ ap begins_name e ∙ name.0)) in
    rw apart refl

pub symbol_front : (q : ℕ) (s z : List ℕ) → begins_name q ≡ false → (q == 39) ≡ false → begins (q ∷ []) (symbol_text s ++ z) ≡ false
symbol_front q [] z other quote = rw quote refl
symbol_front q (b ∷ more) z other quote =
    cond_both (is_bare (b ∷ more)) (b ∷ more) (quoted 39 (b ∷ more)) (λ text. begins (q ∷ []) (text ++ z) ≡ false)
    (λ bare. bare_front q b more z other bare) (λ _. rw quote refl)

-- ---- a token that is no colon begins with none

abbrev pub is_colon : Token → Bool
is_colon token.Colon = true
is_colon token.DoubleColon = true
is_colon _ = false

abbrev colon_in : Lexed → Bool
colon_in (lexed.Token t more) = is_colon t
colon_in _ = false

colon_lexed : (z : List ℕ) → colon_in (lex (58 ∷ z)) ≡ true
unfolding lex
colon_lexed z = cond_both (begins (codes "::") (58 ∷ z)) (lexed.Token token.DoubleColon 1) (lexed.Token token.Colon 0) (λ l. colon_in l ≡ true) (λ _. refl) (λ _. refl)

pub no_colon : (rest text : List ℕ) (t : Token) → is_colon t ≡ false → ReadsBefore rest text t → begins (codes ":") (text ++ rest) ≡ false
no_colon rest [] t other reads = absurd reads
no_colon rest (b ∷ z) t other reads =
    elim (cases_Bool (58 == b)) [
      | inl is ↦ absurd (false≢true (sym other ∙ sym (ap colon_in reads) ∙ ap (λ c. colon_in (lex (c ∷ z ++ rest))) (sym (eqb-true 58 b is)) ∙ colon_lexed (z ++ rest)))
      | inr apart ↦ rw apart refl
    ]
