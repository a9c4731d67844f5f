use Rattle.std.proofs.Common.{◌≡◌, ◌+◌, ◌*◌, ◌^◌, ◌≤◌, drop, length, sum_by}
use Rattle.versions.specs.Held.{drafts_lent}
use Rattle.workload.specs.Sums.{row_amount, rows_among}
use Rattle.workload.proofs.totals.totals_among.Given as goal

-- what those in front come to, and what is left, is what all come to
abbrev pub invariant-documents : goal.invariant-documents
invariant-documents l = record {
  counted :
      l.totals.documents + length (rows_among l.table (drafts_lent (drop l.latest-index l.documents)))
      ≡ length (rows_among l.table (drafts_lent l.documents));
  added :
      l.totals.amounts + sum_by row_amount (rows_among l.table (drafts_lent (drop l.latest-index l.documents)))
      ≡ sum_by row_amount (rows_among l.table (drafts_lent l.documents));
  few : l.totals.documents ≤ l.latest-index;
  small : l.totals.amounts ≤ l.latest-index * 2 ^ 64;
  same : l.totals.blocks ≡ l.blocks;
}
