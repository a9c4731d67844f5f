use Rattle.std.proofs.Common.{sym, ◌∙◌}
use Rattle.ion_lexer.specs.Quotes.{token_of}
use Rattle.ion_lexer.specs.declared.texts.Content.TheVariants as content
use Rattle.ion_lexer.proofs.Inner.{plain_lexed}
use Rattle.ion_lexer.proofs.texts.lex_text.Goals as goal

pub returns-clause-value : goal.returns-clause-value
returns-clause-value c =
    c.in_ok-lexed.ensures
    ∙ plain_lexed c.args.quotes content.Text (token_of c.args.quotes) c.args.bytes.now c.behind-rest.result.now _ _ _ _ c.width-width.ensures
    c.behind-rest.ensures c.inner_len-len.ensures.value c.split_at.ensures.front c.split_at.ensures.back (sym c.closes.ensures.value ∙ c.if-not-closes.false)
