-- No value among the tokens of a statement is deeper than 64, if none is that Ion text gives with that number of levels.
use Rattle.std.proofs.Common.{◌≡◌, ℕ, zero, suc, ◌+◌, ◌-◌, ◌^◌, ◌≤◌, Bool, true, false, ◌&&◌, nat_le, nat_lt, if◌then◌else◌, List, [], ◌∷◌, take, drop, Ok, Err, Option, Some, None, codes, refl, arith, rules}
use Rattle.std.specs.Prelude.{◌==◌, slice_index}
use Rattle.std.specs.Char.{is_ascii_digit}
use Rattle.std.specs.List.{AllByRecursion, filter, position}
use Rattle.std.specs.Str.{byte, is_utf8}
use Rattle.std.specs.Str.Parse.{digits_value}
use Rattle.ion_values.specs.Depth.{depth_of}
use Rattle.ion_values.specs.declared.value.Body.TheFolds.{the_lemmas}
use Rattle.ion_values.specs.declared.value.Value.{Value}
use Rattle.ion_model.specs.Blanks.{begins, is_space}
use Rattle.ion_model.specs.Read.{Answer, read_text}
use Rattle.ion_model.specs.Words.{begins_word}
use Rattle.pql_model.specs.declared.token.Lexed.{Lexed}
use Rattle.pql_model.specs.declared.token.Lexed.TheVariants as lexed
use Rattle.pql_model.specs.declared.token.Located.{Located}
use Rattle.pql_model.specs.declared.token.Symbol.{Symbol}
use Rattle.pql_model.specs.declared.token.Token.{Token}
use Rattle.pql_model.specs.declared.token.Token.TheVariants as token
use Rattle.ion_model.proofs.Depths.{read_is_shallow}
use Rattle.pql_model.specs.Tokens.{backquoted, closed, ion_token, is_float_mark, lex, lex_at, lex_number, lex_symbol, number, number_of, number_token, pairs, places_of, plain, quoted, singles, symbol_in, symbol_token, to_quote, tokens, tokens_from, turn, undoubled, whole_len}
use Rattle.pql_model.proofs.Gives.{token_depth, tokens_depth}

-- ---- one token

abbrev lexed_depth : Lexed → ℕ
lexed_depth (lexed.Token t more) = token_depth t
lexed_depth _ = 0

choice_depth : (b : Bool) (x y : Lexed) → lexed_depth x ≤ 64 → lexed_depth y ≤ 64 → lexed_depth (if b then x else y) ≤ 64
choice_depth true x y f g = f
choice_depth false x y f g = g

closed_depth : (made : ℕ → Lexed) → ((len : ℕ) → lexed_depth (made len) ≤ 64) → (found : Option ℕ) → lexed_depth (closed made found) ≤ 64
closed_depth made h (Some len) = h len
closed_depth made h None = omega arith

quoted_depth : (made : List ℕ → Token) → ((text : List ℕ) → token_depth (made text) ≡ 0) → (quote : ℕ) (z : List ℕ) → lexed_depth (quoted made quote z) ≤ 64
quoted_depth made h quote z =
    closed_depth _
    (λ len. choice_depth (is_utf8 (undoubled quote false (take (len - 1) z))) _ _ (omega (arith, h (undoubled quote false (take (len - 1) z)))) (omega arith))
    (to_quote quote false z)

ion_token_depth : (more : ℕ) (answer : Answer) → ((vs : List Value) → answer ≡ Ok vs → AllByRecursion (λ v. depth_of v ≤ 64) vs) → lexed_depth (ion_token more answer) ≤ 64
ion_token_depth more (Ok []) h = omega arith
ion_token_depth more (Ok (v ∷ [])) h = (h (v ∷ []) refl).0
ion_token_depth more (Ok (v ∷ w ∷ vs)) h = omega arith
ion_token_depth more (Err fault) h = omega arith

number_depth : (digits places : ℕ) → depth_of (plain (number digits places)) ≡ 0
number_depth digits zero = search (rules, the_lemmas)
number_depth digits (suc places) = search (rules, the_lemmas)

number_token_depth : (more digits places : ℕ) → lexed_depth (number_token more digits places) ≤ 64
number_token_depth more digits places =
    choice_depth (nat_lt digits (2 ^ 127) && nat_le places 32_767) _ _ (omega (arith, number_depth digits places)) (omega arith)

number_of_depth : (len places : ℕ) (z : List ℕ) → lexed_depth (number_of len places z) ≤ 64
number_of_depth len places z =
    choice_depth (is_float_mark (slice_index z len)) _ _ (omega arith)
    (number_token_depth (len - 1) (digits_value 10 (filter is_ascii_digit (take len z))) places)

lex_number_depth : (z : List ℕ) → lexed_depth (lex_number z) ≤ 64
lex_number_depth z =
    let places = places_of (drop (whole_len z) z) in
    number_of_depth (if places == 0 then whole_len z else whole_len z + 1 + places) places z

symbol_token_depth : (more : ℕ) (found : Option Symbol) (other : Lexed) → lexed_depth other ≤ 64 → lexed_depth (symbol_token more found other) ≤ 64
symbol_token_depth more (Some s) other h = omega arith
symbol_token_depth more None other h = h

lex_symbol_depth : (z : List ℕ) → lexed_depth (lex_symbol z) ≤ 64
lex_symbol_depth z = symbol_token_depth 1 (symbol_in pairs z) _ (symbol_token_depth 0 (symbol_in singles z) _ (omega arith))

backquoted_depth : (z : List ℕ) → lexed_depth (backquoted z) ≤ 64
backquoted_depth z =
    closed_depth _ (λ len. ion_token_depth (len + 1) (read_text 64 (take len z)) (read_is_shallow 64 (take len z))) (position (λ b. b == byte "`") z)

lex_at_depth : (asked b : ℕ) (z : List ℕ) → lexed_depth (lex_at asked b z) ≤ 64
lex_at_depth asked b z =
    choice_depth (is_space b) _ _ (omega arith)
    (choice_depth (begins (codes "--") (b ∷ z)) _ _ (omega arith)
    (choice_depth (begins_word b) _ _ (omega arith)
    (choice_depth (is_ascii_digit b) _ _ (lex_number_depth (b ∷ z))
    (choice_depth (b == byte "\"") _ _ (quoted_depth token.Quoted (λ text. refl) b z)
    (choice_depth (b == byte "'") _ _ (quoted_depth token.String (λ text. refl) b z)
    (choice_depth (b == byte "`") _ _ (backquoted_depth z)
    (choice_depth (b == byte "?") _ _ (omega arith)
    (lex_symbol_depth (b ∷ z)))))))))

lex_depth : (asked : ℕ) (z : List ℕ) → lexed_depth (lex asked z) ≤ 64
unfolding lex
lex_depth asked [] = omega arith
lex_depth asked (b ∷ z) = lex_at_depth asked b z

-- ---- all tokens

turn_depth : (asked at : ℕ) (rest : ℕ → ℕ → List Located) → ((more next : ℕ) → tokens_depth (rest more next) ≤ 64) → (l : Lexed) → lexed_depth l ≤ 64 → tokens_depth (turn asked at rest l) ≤ 64
turn_depth asked at rest h (lexed.Blank more) le = h more asked
turn_depth asked at rest h (lexed.Token (token.Parameter n) more) le = omega (arith, h more (n + 1))
turn_depth asked at rest h (lexed.Token t more) le = omega (arith, h more asked)
turn_depth asked at rest h (lexed.Refused k) le = omega arith

tokens_from_depth : (left asked at : ℕ) (z : List ℕ) → tokens_depth (tokens_from left asked at z) ≤ 64
tokens_from_depth left asked at [] = omega arith
tokens_from_depth (suc left) asked at (b ∷ z) = tokens_from_depth left asked (at + 1) z
tokens_from_depth zero asked at (b ∷ z) =
    turn_depth asked at (λ more next. tokens_from more next (at + 1) z) (λ more next. tokens_from_depth more next (at + 1) z) (lex asked (b ∷ z)) (lex_depth asked (b ∷ z))

pub tokens_are_shallow : (text : List ℕ) → tokens_depth (tokens text) ≤ 64
tokens_are_shallow text = tokens_from_depth 0 0 0 text
