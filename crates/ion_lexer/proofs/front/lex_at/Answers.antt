use Rattle.std.proofs.Common.{sym, ◌∙◌}
use Rattle.ion_lexer.proofs.Marks.{mark_in_front}
use Rattle.ion_lexer.proofs.front.lex_at.Goals as goal

pub returns-then-is_mark-clause-value : goal.returns-then-is_mark-clause-value
returns-then-is_mark-clause-value c =
    c.lex_mark.ensures.value ∙ sym (mark_in_front c.args.first c.args.bytes.now c.requires.some c.requires.front (sym c.is_mark.ensures ∙ c.if-is_mark.true))
