use Rattle.std.proofs.Common.{◌+◌, refl, sym, ◌∙◌, arith}
use Rattle.ion_lexer.specs.Blobs.{hides_none}
use Rattle.ion_lexer.proofs.Braces.{byte_passed, to_end}
use Rattle.ion_lexer.proofs.blobs.before_braces.Goals as goal

pub loop-at-preserved : goal.loop-at-preserved
loop-at-preserved c =
    byte_passed hides_none c.args.bytes.now _ c.loop-at.at 0 (c.loop-at.at + 1) _ c.loop-at-test.true (to_end c.loop-at.at c.args.bytes.now)
    (sym c.closes.ensures.value ∙ c.if-closes.false) refl (omega arith) c.loop-at.invariant
