use Rattle.std.proofs.Common.{◌≡◌, ◌+◌, ◌*◌, ◌≤◌, drop}
use Rattle.cli_model.specs.Outputs.{revision_count}
use Rattle.ledger_cli.proofs.counts.revision_count.Given as goal

-- those of the blocks in front are counted, fewer than 2^64 for each
abbrev pub invariant-counted : goal.invariant-counted
invariant-counted l = record {
  sum : l.count + revision_count (drop l.block-index l.blocks) ≡ revision_count l.blocks;
  few : l.count ≤ l.block-index * 18446744073709551616;
}
