use Rattle.std.proofs.Common.{◌≡◌, take}
use Rattle.ledger_model.specs.State.{state}
use Rattle.test_conflicts.proofs.conflicts.state_of.Given as goal

-- the version is that of the blocks so far
abbrev pub invariant-followed : goal.invariant-followed
invariant-followed l = l.now ≡ state (take l.block-index l.blocks)
