use Rattle.std.proofs.Common.{◌∙◌, ◌+◌, drop, refl, sym, arith}
use Rattle.journal_text.proofs.Asked.{first_here, first_next, first_none, in_front}
use Rattle.journal_text.proofs.registry.unasked.first.Goals as goal

pub each-init : goal.each-init
each-init c = λ h. refl

pub returns-then-not-is_asked : goal.returns-then-not-is_asked
returns-then-not-is_asked c = λ h.
    let blocks = c.args.blocks.now in
    let at = c.each.at in
    let b = c.index-blocks-at.result in
    first_here blocks at (at + 1) b (omega arith) (omega arith) c.index-blocks-at.is (c.each.invariant h)
    (sym (c.is_asked.ensures blocks (drop (at + 1) blocks) h (in_front blocks at (at + 1) c.front-front.result b (omega arith) (omega arith) c.index-blocks-at.is c.front-front.ensures))
    ∙ c.if-not-is_asked.true)

pub each-preserved : goal.each-preserved
each-preserved c = λ h.
    let blocks = c.args.blocks.now in
    let at = c.each.at in
    let b = c.index-blocks-at.result in
    first_next blocks at (at + 1) b (omega arith) (omega arith) c.index-blocks-at.is (c.each.invariant h)
    (sym (c.is_asked.ensures blocks (drop (at + 1) blocks) h (in_front blocks at (at + 1) c.front-front.result b (omega arith) (omega arith) c.index-blocks-at.is c.front-front.ensures))
    ∙ c.if-not-is_asked.false)

pub returns : goal.returns
returns c = λ h. first_none c.args.blocks.now c.each.at (omega arith) (c.each.invariant h)
