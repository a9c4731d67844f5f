use Rattle.std.proofs.Common.{◌≡◌, map, take}
use Rattle.ledger_model.specs.Journal.{revision_value}
use Rattle.stream_out.specs.Records.{stand_in}
use Rattle.stream_out.proofs.stand_ins.stand_in_values.Given as goal

abbrev pub invariant-loop-one : goal.invariant-loop-one
invariant-loop-one l = l.values.items ≡ map revision_value (map stand_in (take l.one-index l.listed))
