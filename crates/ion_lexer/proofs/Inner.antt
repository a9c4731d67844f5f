-- Texts in which each byte gives itself, up to the closing quotes.
use Rattle.std.proofs.Common.{◌≡◌, ◌∙◌, ℕ, suc, ◌+◌, ◌-◌, ◌*◌, ◌==◌, true, false, List, [], ◌∷◌, ◌++◌, length, Some, nat_eq, option_map, take, drop, inl, inr, refl, ap, sym, subst, arith}
use Rattle.std.specs.List.{prefix_len, starts_with}
use Rattle.std.specs.Str.{is_utf8}
use Rattle.std.proofs.lemmas.Bool.{cases_Bool}
use Rattle.std.proofs.lemmas.Bool.Decides.{nat_tests}
use Rattle.ion_values.specs.declared.fault.IonKind.TheVariants as fault
use Rattle.ion_model.specs.declared.Token.{Token}
use Rattle.ion_model.specs.declared.Lexed.TheVariants as lexed
use Rattle.ion_model.specs.Escapes.{piece}
use Rattle.ion_model.specs.Texts.{before, lex_text, pieces, text_token}
use Rattle.ion_lexer.specs.Quotes.{front_of, is_inner, marks_of}
use Rattle.ion_lexer.specs.declared.texts.Content.{Content}
use Rattle.ion_lexer.specs.declared.texts.Quotes.{Quotes}
use Rattle.ion_lexer.specs.declared.texts.Quotes.TheVariants.{Double, Single, Triple}

gives_itself : (q : Quotes) (content : Content) (b : ℕ) (z : List ℕ) → is_inner q b ≡ true → front_of q content b z ≡ Some (piece 0 (b ∷ []))
gives_itself Double content b z inner = grind (arith, nat_tests)
gives_itself Single content b z inner = grind (arith, nat_tests)
gives_itself Triple content b z inner = grind (arith, nat_tests)

closes_none : (q : Quotes) (b : ℕ) (z : List ℕ) → is_inner q b ≡ true → starts_with nat_eq (b ∷ z) (marks_of q) ≡ false
closes_none Double b z inner = grind (arith, nat_tests)
closes_none Single b z inner = grind (arith, nat_tests)
closes_none Triple b z inner = grind (arith, nat_tests)

hides_none : (q : Quotes) (b : ℕ) → is_inner q b ≡ true → (b == 92) ≡ false
hides_none Double b inner = grind (arith, nat_tests)
hides_none Single b inner = grind (arith, nat_tests)
hides_none Triple b inner = grind (arith, nat_tests)

none_begins : (q : Quotes) → starts_with nat_eq [] (marks_of q) ≡ true → ⊥
none_begins Double h = cc
none_begins Single h = cc
none_begins Triple h = cc

-- the closing quotes behind the bytes that give themselves are the first
pub closed_behind :
    (q : Quotes) (z : List ℕ) → starts_with nat_eq (drop (prefix_len (is_inner q) z) z) (marks_of q) ≡ true →
    before (marks_of q) false z ≡ Some (prefix_len (is_inner q) z)
closed_behind q [] h = absurd (none_begins q h)
closed_behind q (b ∷ z) h =
    elim (cases_Bool (is_inner q b)) [
      | inl inner ↦
          let len : prefix_len (is_inner q) (b ∷ z) ≡ suc (prefix_len (is_inner q) z) = rw inner (omega arith) in
          rw (len, closes_none q b z inner, hides_none q b inner) (ap (option_map suc) (closed_behind q z (rw len at h)))
      | inr other ↦
          let none : prefix_len (is_inner q) (b ∷ z) ≡ 0 = rw other in
          rw (none, (rw none at h))
    ]

-- such bytes give themselves
pub plain_pieces :
    (q : Quotes) (content : Content) (z : List ℕ) →
    pieces (front_of q content) 0 (take (prefix_len (is_inner q) z) z) ≡ Some (take (prefix_len (is_inner q) z) z)
plain_pieces q content [] = refl
plain_pieces q content (b ∷ z) =
    let n = prefix_len (is_inner q) z in
    elim (cases_Bool (is_inner q b)) [
      | inl inner ↦
          let len : prefix_len (is_inner q) (b ∷ z) ≡ suc n = rw inner (omega arith) in
          rw (len, gives_itself q content b (take n z) inner) (ap (option_map (λ more. b ∷ [] ++ more)) (plain_pieces q content z))
      | inr other ↦ let none : prefix_len (is_inner q) (b ∷ z) ≡ 0 = rw other in rw none
    ]

pub utf8_token :
    (made : List ℕ → Token) (more : ℕ) (bytes text : List ℕ) → text ≡ bytes → is_utf8 bytes ≡ true →
    lexed.Token (made text) more ≡ text_token made more (Some bytes)
utf8_token made more bytes text same utf8 = rw (utf8, same)

pub no_token :
    (made : List ℕ → Token) (more : ℕ) (bytes : List ℕ) → is_utf8 bytes ≡ false → lexed.Refused fault.BadToken ≡ text_token made more (Some bytes)
no_token made more bytes other = rw other

-- a text between such quotes whose bytes all give themselves
pub plain_lexed :
    (q : Quotes) (content : Content) (made : List ℕ → Token) (z rest text others : List ℕ) (width len : ℕ) →
    width ≡ length (marks_of q) → rest ≡ drop width z → len ≡ prefix_len (is_inner q) rest → text ≡ take len rest → others ≡ drop len rest →
    starts_with nat_eq others (marks_of q) ≡ true →
    text_token made (len + (2 * width - 1)) (Some text) ≡ lex_text (marks_of q) (front_of q content) made z
plain_lexed q content made z rest text others width len width_is rest_is len_is text_is others_is closes =
    let behind : drop (length (marks_of q)) z ≡ rest = sym (rest_is ∙ ap (λ n. drop n z) width_is) in
    let same : others ≡ drop (prefix_len (is_inner q) rest) rest = others_is ∙ ap (λ n. drop n rest) len_is in
    let shut : before (marks_of q) false rest ≡ Some len =
    closed_behind q rest (subst (λ x. starts_with nat_eq x (marks_of q) ≡ true) same closes) ∙ ap Some (sym len_is) in
    let plain : take (prefix_len (is_inner q) rest) rest ≡ text = sym (text_is ∙ ap (λ n. take n rest) len_is) in
    let given : pieces (front_of q content) 0 (take len rest) ≡ Some text =
    ap (λ n. pieces (front_of q content) 0 (take n rest)) len_is ∙ plain_pieces q content rest ∙ ap Some plain in
    rw (behind, shut, given, width_is)
