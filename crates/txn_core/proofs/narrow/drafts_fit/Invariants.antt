use Rattle.std.proofs.Common.{drop}
use Rattle.txn_core.specs.Narrow.{DraftsFit}
use Rattle.txn_core.proofs.narrow.drafts_fit.Given as goal

-- those in front fit
abbrev pub invariant-log : goal.invariant-log
invariant-log l = DraftsFit (drop l.draft-index l.log) → DraftsFit l.log
