use Rattle.std.proofs.Common.{◌≡◌, ◌++◌, take}
use Rattle.proof_issue.proofs.put_all.Given as goal

abbrev pub invariant-more : goal.invariant-more
invariant-more l = l.hashes ≡ l.initial.hashes ++ take l.hash-index l.more
