use Rattle.std.proofs.Common.{◌≡◌, ◌++◌, take}
use Rattle.pvec.proofs.rows.extend.Given as goal

abbrev pub invariant-members : goal.invariant-members
invariant-members g l = l.row ≡ l.initial.row ++ take l.member-index l.part
