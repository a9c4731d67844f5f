use Rattle.std.proofs.Common.{◌∙◌}
use Rattle.ion_lexer.specs.Quotes.{marks_of}
use Rattle.ion_lexer.proofs.Reading.{hidden_passed}
use Rattle.ion_lexer.proofs.texts.before.Goals as goal

pub loop-at-preserved-then-hidden : goal.loop-at-preserved-then-hidden
loop-at-preserved-then-hidden c =
    hidden_passed (marks_of c.args.quotes) c.args.bytes.now c.loop-at.at c.loop-at-test.true ∙ (rw c.if-hidden.true at c.loop-at.invariant)
