use Rattle.std.proofs.Common.{◌≡◌, ℕ, List, true, false, ap, ◌∙◌}
use Rattle.std.specs.Str.{is_utf8}
use Rattle.std.proofs.lemmas.Bool.{false_from_ne_true}
use Rattle.std.proofs.lemmas.Str.{is_utf8-from_IsUtf8, IsUtf8-from_is_utf8}
use Rattle.pql_model.specs.declared.ParseKind.TheVariants as kind
use Rattle.pql_model.specs.declared.token.Lexed.TheVariants as lexed
use Rattle.pql_model.specs.declared.token.Token.{Token}
use Rattle.pql_model.specs.Tokens.{text_token}
use Rattle.pql_lexer.specs.Lexing as lexing
use Rattle.pql_lexer.proofs.quoted.text_token.Goals as goal

is_text : (made : List ℕ → Token) (more : ℕ) (bytes : List ℕ) (t : Token) → t ≡ made bytes → is_utf8 bytes ≡ true → lexed.Token t more ≡ text_token made more bytes
is_text made more bytes t same utf8 = rw utf8 (ap (λ x. lexed.Token x more) same)

is_refused : (made : List ℕ → Token) (more : ℕ) (bytes : List ℕ) → is_utf8 bytes ≡ false → lexed.Refused kind.NotAToken ≡ text_token made more bytes
is_refused made more bytes other = rw other

pub returns-in_ok-from_text-in-Ok : goal.returns-in_ok-from_text-in-Ok
returns-in_ok-from_text-in-Ok c =
    let made = lexing.token_of c.args.quote in
    is_text made c.args.more c.args.bytes.now c.token_of.result (c.token_of.ensures ∙ ap made (c.in_ok-from_text-in-Ok.ensures ∙ c.in-Ok.ensures.cases.0)) (is_utf8-from_IsUtf8 _ c.in-Ok.ensures.cases.1)

pub returns-in-Err : goal.returns-in-Err
returns-in-Err c =
    is_refused (lexing.token_of c.args.quote) c.args.more c.args.bytes.now (false_from_ne_true _ (λ utf8. c.in-Err.ensures.cases.0 (IsUtf8-from_is_utf8 _ utf8)))
