use Rattle.std.proofs.Common.{◌≡◌, ◌+◌, ◌++◌, List, length, take}
use Rattle.ion_values.specs.declared.value.Value.{Value}
use Rattle.ledger_cli.specs.Replaying.{HasDelivered, IsReplaying}
use Rattle.ledger_cli.proofs.replay.deliver_all.Given as goal

-- the values so far are delivered behind those before
abbrev pub invariant-values : goal.invariant-values
invariant-values l = record {
  front : IsReplaying (l.count + l.index) l.replay;
  so_far : (before : List Value) → length before ≡ l.count → HasDelivered before l.initial.replay
      → HasDelivered (before ++ take l.index l.values) l.replay;
}
