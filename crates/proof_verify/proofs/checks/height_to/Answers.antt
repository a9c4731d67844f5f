use Rattle.std.proofs.Common.{ℕ, ◌+◌, ◌^◌, ◌≤◌, ◌<◌, add-one, arith}
use Rattle.pad_tree.proofs.Room.{exponent-lt, height_of-only}
use Rattle.proof_verify.proofs.checks.height_to.Goals as goal

pub returns-then-tip-eq0-clause-height : goal.returns-then-tip-eq0-clause-height
returns-then-tip-eq0-clause-height c = height_of-only (c.args.tip + 1) 0 (omega arith) (λ h room. omega arith)

-- with 2 ^ r at most the tip, a tree with room for the blocks up to it is higher than r
higher : (tip r h : ℕ) → 2 ^ r ≤ tip → tip + 1 ≤ 2 ^ h → r + 1 ≤ h
higher tip r h low room = let p = exponent-lt r h (omega arith) in omega (arith, p)

pub returns-else-tip-eq0-clause-height : goal.returns-else-tip-eq0-clause-height
returns-else-tip-eq0-clause-height c =
    let more : c.args.tip < 2 ^ (c.ilog2.result + 1) = rw add-one (omega arith) in
    height_of-only (c.args.tip + 1) (c.ilog2.result + 1) (omega (arith, more)) (λ h room. higher c.args.tip c.ilog2.result h (omega arith) room)
