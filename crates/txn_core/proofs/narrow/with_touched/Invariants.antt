use Rattle.std.proofs.Common.{◌≡◌, ◌++◌, drop, map}
use Rattle.txn_core.specs.declared.log.Touched.{Touched}
use Rattle.txn_core.proofs.narrow.with_touched.Given as goal

-- the ids so far and those of the rest are all
abbrev pub invariant-touched : goal.invariant-touched
invariant-touched l =
    l.all ++ map (λ (t : Touched). t.id) (drop l.document-index l.touched) ≡ l.fn.ids ++ map (λ (t : Touched). t.id) l.touched
