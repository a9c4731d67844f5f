use Rattle.std.proofs.Common.{take}
use Rattle.journal_text.specs.Reading.{StandsBehind}
use Rattle.journal_text.proofs.reader.registry_of.Given as goal

-- the registry is of the blocks so far
abbrev pub invariant-admitted : goal.invariant-admitted
invariant-admitted l = StandsBehind (take l.at l.blocks) l.registry
