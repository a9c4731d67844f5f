use Rattle.std.proofs.Common.{◌≡◌, map, take}
use Rattle.block_form.proofs.seals.revisions_root.Given as goal

abbrev pub invariant-loop-revision : goal.invariant-loop-revision
invariant-loop-revision l = l.hashes ≡ map (λ r. r.hash) (take l.revision-index l.revisions)
