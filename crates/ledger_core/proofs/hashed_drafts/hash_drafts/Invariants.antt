use Rattle.std.proofs.Common.{◌≡◌, map, take}
use Rattle.ledger_core.specs.NextBlock.{hashed_contents}
use Rattle.ledger_core.proofs.hashed_drafts.hash_drafts.Given as goal

abbrev pub invariant-drafts : goal.invariant-drafts
invariant-drafts l = l.all ≡ hashed_contents (map (λ d. d.now) (take l.draft-index l.drafts))
