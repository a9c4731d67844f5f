use Rattle.std.proofs.Common.{◌≡◌, map, take}
use Rattle.ledger_core.proofs.sealing.tables_of.Given as goal

abbrev pub invariant-drafts : goal.invariant-drafts
invariant-drafts l = l.tables ≡ map (λ d. d.table) (take l.draft-index l.drafts)
