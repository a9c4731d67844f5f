-- How many calls of its store a call makes. A call of the store is counted if it leaves a moment of the content: each
-- append and each cut, failed ones too, and each sync that is Ok. What leaves no trace in the content isn't counted: a
-- read, a call that wanted memory, and a sync that failed.
use Rattle.std.specs.Prelude.{ℕ, ◌+◌, ◌≤◌, Option, IfSome, IsSomeAnd}
use Rattle.outside.specs.Store.{Content, moment}

-- at most `count` calls between `before` and `now`, if the store tells its content
abbrev pub CallsAtMost : ℕ → Option Content → Option Content → Type 0
CallsAtMost count before now = IfSome now (λ later. IsSomeAnd before (λ earlier. moment later ≤ moment earlier + count))
