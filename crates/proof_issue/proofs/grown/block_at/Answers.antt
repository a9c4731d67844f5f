use Rattle.std.proofs.Common.{◌≡◌, ◌-◌, ℕ, length, Option, Some, None, IfOk, MatchResult, subst, sym, ap, arith}
use Rattle.proof_issue.specs.declared.NoSuch.{NoSuch}
use Rattle.proof_issue.specs.Refusals.{IsThere}
use Rattle.proof_issue.proofs.AtEnd.{no_blocks, some_blocks}
use Rattle.proof_issue.proofs.grown.block_at.Goals as goal

pub returns-then-len-eq0-clause-refused : goal.returns-then-len-eq0-clause-refused
returns-then-len-eq0-clause-refused c =
    no_blocks c.args.blocks.now.list c.args.sequence c.args.index (omega (arith, c.len-len.ensures, c.if-len-eq0.true))

pub returns-clause-there : goal.returns-clause-there
returns-clause-there c =
    let blocks = c.args.blocks.now.list in
    subst (λ (tip : ℕ). IfOk c.block_of.result (λ block. IsThere blocks block.now c.args.sequence c.args.index tip))
    (ap (λ (len : ℕ). len - 1) c.len-len.ensures) c.block_of.ensures.there

pub returns-clause-refused : goal.returns-clause-refused
returns-clause-refused c =
    let is = some_blocks c.args.blocks.now.list c.args.sequence c.args.index (c.len-len.result - 1) (omega (arith, c.len-len.ensures, c.if-len-eq0.false)) in
    subst (λ (refused : Option NoSuch). MatchResult c.block_of.result (λ _. refused ≡ None) (λ e. refused ≡ Some e)) (sym is)
    c.block_of.ensures.refused
