use Rattle.std.proofs.Common.{◌≡◌, ◌++◌, drop}
use Rattle.view_rows.proofs.named.append.Given as goal

abbrev pub invariant-more : goal.invariant-more
invariant-more l = l.ids ++ drop l.id-index l.more ≡ l.initial.ids ++ l.more
