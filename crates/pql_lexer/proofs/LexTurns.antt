-- The bytes of a token that was read are passed over, and a `?` has the number of those before it.
use Rattle.std.proofs.Common.{◌≡◌, ℕ, zero, suc, ◌+◌, ◌-◌, ◌^◌, ◌<◌, ◌≤◌, ◌==◌, ◌&&◌, Bool, true, false, cond, if◌then◌else◌, List, [], ◌∷◌, take, drop, length, length-drop, Option, Some, None, Ok, Err, codes, refl, ap, ◌∙◌, sym, subst, arith}
use Rattle.std.specs.Prelude.{nat_lt, nat_le, slice_index}
use Rattle.std.specs.List.{filter, position}
use Rattle.std.specs.Str.{byte, is_utf8}
use Rattle.std.specs.Str.Parse.{digits_value}
use Rattle.std.proofs.Math.Seq.{drop-cons}
use Rattle.std.proofs.lemmas.List.{drop-drop}
use Rattle.std.specs.Char.{is_ascii_digit}
use Rattle.ion_model.specs.Blanks.{begins, is_space}
use Rattle.ion_model.specs.Read.{Answer, read_text}
use Rattle.ion_model.specs.Words.{begins_word}
use Rattle.pql_model.specs.declared.ParseKind.TheVariants as kind
use Rattle.pql_model.specs.declared.token.Lexed.{Lexed}
use Rattle.pql_model.specs.declared.token.Lexed.TheVariants as lexed
use Rattle.pql_model.specs.declared.token.Located.{Located}
use Rattle.pql_model.specs.declared.token.Symbol.{Symbol}
use Rattle.pql_model.specs.declared.token.Token.{Token}
use Rattle.pql_model.specs.declared.token.Token.TheVariants as token
use Rattle.pql_model.specs.Tokens.{backquoted, closed, ion_token, is_float_mark, lex, lex_comment, lex_number, lex_symbol, lex_word, located, number, number_of, number_token, pairs, places_of, plain, quoted, singles, symbol_in, symbol_token, text_token, to_quote, tokens_from, turn, undoubled, whole_len}
use Rattle.pql_lexer.specs.Lexing.{IsNumbered, asked_behind}

skip : (n asked at : ℕ) (z : List ℕ) → n ≤ length z → tokens_from n asked at z ≡ tokens_from 0 asked (at + n) (drop n z)
skip zero asked at z h = ap (λ k. tokens_from 0 asked k z) (omega arith)
skip (suc n) asked at [] h = absurd (omega arith)
skip (suc n) asked at (b ∷ z) h = skip n asked (at + 1) z (omega arith) ∙ ap (λ k. tokens_from 0 asked k (drop n z)) (omega arith)

-- what the bytes behind the first one give
abbrev pub behind : ℕ → List ℕ → ℕ → ℕ → List Located
behind at text more asked = tokens_from more asked (at + 1) (drop (suc at) text)

-- one turn at what was read
pub turned : (asked at : ℕ) (text : List ℕ) (l : Lexed) → at < length text → l ≡ lex asked (drop at text) →
    tokens_from 0 asked at (drop at text) ≡ turn asked at (behind at text) l
turned asked at text l h e =
    let is = drop-cons text at 0 h in
    ap (λ z. tokens_from 0 asked at z) is ∙ ap (λ z. turn asked at (behind at text) (lex asked z)) (sym is) ∙ ap (turn asked at (behind at text)) (sym e)

-- the token's other bytes are passed over
pub passed : (asked at more : ℕ) (text : List ℕ) → at + (more + 1) ≤ length text →
    behind at text more asked ≡ tokens_from 0 asked (at + (more + 1)) (drop (at + (more + 1)) text)
passed asked at more text h =
    skip more asked (at + 1) (drop (suc at) text) (omega (arith, length-drop (suc at) text))
    ∙ ap (λ k. tokens_from 0 asked k (drop more (drop (suc at) text))) (omega arith)
    ∙ ap (λ z. tokens_from 0 asked (at + (more + 1)) z) (drop-drop more (suc at) text ∙ ap (λ k. drop k text) (omega arith))

-- a token goes before what the rest gives
pub put : (asked at more : ℕ) (rest : ℕ → ℕ → List Located) (t : Token) → turn asked at rest (lexed.Token t more) ≡ located at t (rest more (asked_behind asked t))
put asked at more rest (token.Word text) = refl
put asked at more rest (token.Quoted text) = refl
put asked at more rest (token.String text) = refl
put asked at more rest (token.Value v) = refl
put asked at more rest (token.Parameter n) = refl
put asked at more rest (token.Symbol s) = refl
put asked at more rest (token.Bad k) = refl
put asked at more rest token.End = refl

-- ---- numbers of `?`

chosen : (asked : ℕ) (b : Bool) (x y : Lexed) → IsNumbered asked x → IsNumbered asked y → IsNumbered asked (cond b x y)
chosen asked true x y hx hy = hx
chosen asked false x y hx hy = hy

of_symbol : (asked more : ℕ) (o : Option Symbol) (other : Lexed) → IsNumbered asked other → IsNumbered asked (symbol_token more o other)
of_symbol asked more (Some s) other h = tt
of_symbol asked more None other h = h

in_quotes : (asked quote : ℕ) (made : List ℕ → Token) (o : Option ℕ) (z : List ℕ) → ((more : ℕ) (text : List ℕ) → IsNumbered asked (lexed.Token (made text) more)) →
    IsNumbered asked (closed (λ len. text_token made len (undoubled quote false (take (len - 1) z))) o)
in_quotes asked quote made None z h = tt
in_quotes asked quote made (Some len) z h =
    let text : List ℕ = undoubled quote false (take (len - 1) z) in
    chosen asked (is_utf8 text) (lexed.Token (made text) len) (lexed.Refused kind.NotAToken) (h len text) tt

of_values : (asked more : ℕ) (a : Answer) → IsNumbered asked (ion_token more a)
of_values asked more (Ok []) = tt
of_values asked more (Ok (v ∷ [])) = tt
of_values asked more (Ok (v ∷ w ∷ vs)) = tt
of_values asked more (Err fault) = tt

in_backquotes : (asked : ℕ) (o : Option ℕ) (z : List ℕ) → IsNumbered asked (closed (λ len. ion_token (len + 1) (read_text 64 (take len z))) o)
in_backquotes asked None z = tt
in_backquotes asked (Some len) z = of_values asked (len + 1) (read_text 64 (take len z))

of_digits : (asked more digits places : ℕ) → IsNumbered asked (number_token more digits places)
of_digits asked more digits places =
    chosen asked (nat_lt digits (2 ^ 127) && nat_le places 32_767) (lexed.Token (token.Value (plain (number digits places))) more) (lexed.Refused kind.TooWide) tt tt

of_number : (asked len places : ℕ) (z : List ℕ) → IsNumbered asked (number_of len places z)
of_number asked len places z =
    let digits : ℕ = digits_value 10 (filter is_ascii_digit (take len z)) in
    chosen asked (is_float_mark (slice_index z len)) (lexed.Refused kind.FloatRefused) (number_token (len - 1) digits places) tt
    (of_digits asked (len - 1) digits places)

in_number : (asked : ℕ) (z : List ℕ) → IsNumbered asked (lex_number z)
in_number asked z =
    let whole : ℕ = whole_len z in
    let places : ℕ = places_of (drop whole z) in
    of_number asked (if places == 0 then whole else whole + 1 + places) places z

-- a `?` has the number of those before it
pub numbered : (asked : ℕ) (z : List ℕ) → IsNumbered asked (lex asked z)
unfolding lex
numbered asked [] = tt
numbered asked (b ∷ z) =
    let symbols : Lexed = lex_symbol (b ∷ z) in
    let parameters : Lexed = if b == byte "?" then lexed.Token (token.Parameter asked) 0 else symbols in
    let values : Lexed = if b == byte "`" then backquoted z else parameters in
    let strings : Lexed = if b == byte "'" then quoted token.String b z else values in
    let names : Lexed = if b == byte "\"" then quoted token.Quoted b z else strings in
    let numbers : Lexed = if is_ascii_digit b then lex_number (b ∷ z) else names in
    let words : Lexed = if begins_word b then lex_word (b ∷ z) else numbers in
    let comments : Lexed = if begins (codes "--") (b ∷ z) then lex_comment (b ∷ z) else words in
    let in_symbols : IsNumbered asked symbols = of_symbol asked 1 (symbol_in pairs (b ∷ z)) (symbol_token 0 (symbol_in singles (b ∷ z)) (lexed.Refused kind.NotAToken)) (of_symbol asked 0 (symbol_in singles (b ∷ z)) (lexed.Refused kind.NotAToken) tt) in
    let in_parameters : IsNumbered asked parameters = chosen asked (b == byte "?") (lexed.Token (token.Parameter asked) 0) symbols refl in_symbols in
    let in_values : IsNumbered asked values = chosen asked (b == byte "`") (backquoted z) parameters (in_backquotes asked (position (λ c. c == byte "`") z) z) in_parameters in
    let in_strings : IsNumbered asked strings = chosen asked (b == byte "'") (quoted token.String b z) values (in_quotes asked b token.String (to_quote b false z) z (λ more text. tt)) in_values in
    let in_names : IsNumbered asked names = chosen asked (b == byte "\"") (quoted token.Quoted b z) strings (in_quotes asked b token.Quoted (to_quote b false z) z (λ more text. tt)) in_strings in
    let in_numbers : IsNumbered asked numbers = chosen asked (is_ascii_digit b) (lex_number (b ∷ z)) names (in_number asked (b ∷ z)) in_names in
    let in_words : IsNumbered asked words = chosen asked (begins_word b) (lex_word (b ∷ z)) numbers tt in_numbers in
    let in_comments : IsNumbered asked comments = chosen asked (begins (codes "--") (b ∷ z)) (lex_comment (b ∷ z)) words tt in_words in
    chosen asked (is_space b) (lexed.Blank 0) comments tt in_comments

few : (asked more : ℕ) (t : Token) → IsNumbered asked (lexed.Token t more) → asked_behind asked t ≤ asked + 1
few asked more (token.Word text) h = omega arith
few asked more (token.Quoted text) h = omega arith
few asked more (token.String text) h = omega arith
few asked more (token.Value v) h = omega arith
few asked more (token.Parameter n) h = omega (arith, h)
few asked more (token.Symbol s) h = omega arith
few asked more (token.Bad k) h = omega arith
few asked more token.End h = omega arith

-- a token is one more `?` at most
pub asked_grows : (asked more : ℕ) (t : Token) (z : List ℕ) → lexed.Token t more ≡ lex asked z → asked_behind asked t ≤ asked + 1
asked_grows asked more t z e = few asked more t (subst (IsNumbered asked) (sym e) (numbered asked z))
