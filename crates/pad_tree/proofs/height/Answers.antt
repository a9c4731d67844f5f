use Rattle.std.proofs.Common.{ℕ, ◌+◌, ◌-◌, ◌^◌, ◌≤◌, add-one, arith}
use Rattle.pad_tree.proofs.Room.{exponent-lt, height_of-only}
use Rattle.pad_tree.proofs.height.Goals as goal

pub returns-then-n-eq1-clause-defined : goal.returns-then-n-eq1-clause-defined
returns-then-n-eq1-clause-defined c = height_of-only c.args.n 0 (omega arith) (λ h room. omega arith)

-- with 2 ^ r below n, a tree with room is higher than r
higher : (n r h : ℕ) → 2 ^ r ≤ n - 1 → n ≤ 2 ^ h → 1 ≤ n → r + 1 ≤ h
higher n r h low room one = let p = exponent-lt r h (omega arith) in omega (arith, p)

pub returns-else-n-eq1-clause-least : goal.returns-else-n-eq1-clause-least
returns-else-n-eq1-clause-least c = λ h room. higher c.args.n c.ilog2.result h (omega arith) room (omega arith)

pub returns-else-n-eq1-clause-defined : goal.returns-else-n-eq1-clause-defined
returns-else-n-eq1-clause-defined c =
    height_of-only c.args.n (c.ilog2.result + 1) (rw add-one (omega arith)) (returns-else-n-eq1-clause-least c)
