use Rattle.std.proofs.Common.{◌≡◌, drop}
use Rattle.ledger_model.specs.State.{state, state_from}
use Rattle.versions.proofs.versions.Versions.of.Given as goal

-- the blocks that are left make of the version so far that of all
abbrev pub invariant-admitted : goal.invariant-admitted
invariant-admitted l = state_from l.version (drop l.block-index l.blocks) ≡ state l.blocks
