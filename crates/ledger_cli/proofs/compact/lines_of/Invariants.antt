use Rattle.std.proofs.Common.{◌≡◌, ◌++◌, drop}
use Rattle.ledger_model.specs.Journal.{journal_bytes}
use Rattle.ledger_cli.proofs.compact.lines_of.Given as goal

-- the lines so far and those of the rest are all
abbrev pub invariant-lines : goal.invariant-lines
invariant-lines l = l.text ++ journal_bytes (drop l.block-index l.blocks) ≡ journal_bytes l.blocks
