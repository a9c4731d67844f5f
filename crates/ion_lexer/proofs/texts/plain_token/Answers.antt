use Rattle.std.proofs.Common.{ap, ◌∙◌}
use Rattle.std.proofs.lemmas.Bool.{false_from_ne_true}
use Rattle.std.proofs.lemmas.Str.{is_utf8-from_IsUtf8, IsUtf8-from_is_utf8}
use Rattle.ion_model.specs.declared.Lexed.TheVariants as lexed
use Rattle.ion_lexer.specs.Quotes.{token_of}
use Rattle.ion_lexer.proofs.Inner.{utf8_token, no_token}
use Rattle.ion_lexer.proofs.texts.plain_token.Goals as goal

pub returns-in_ok-text-in-Ok : goal.returns-in_ok-text-in-Ok
returns-in_ok-text-in-Ok c =
    let bytes = c.args.text.now in
    ap (λ t. lexed.Token t c.args.more) c.token_of.ensures
    ∙ utf8_token (token_of c.args.quotes) c.args.more bytes _ (c.in_ok-text-in-Ok.ensures ∙ c.in-Ok.ensures.cases.0) (is_utf8-from_IsUtf8 bytes c.in-Ok.ensures.cases.1)

pub returns-in-Err : goal.returns-in-Err
returns-in-Err c =
    let bytes = c.args.text.now in
    no_token (token_of c.args.quotes) c.args.more bytes (false_from_ne_true _ (λ utf8. c.in-Err.ensures.cases.0 (IsUtf8-from_is_utf8 bytes utf8)))
