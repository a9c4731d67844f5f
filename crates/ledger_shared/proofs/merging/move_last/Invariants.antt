use Rattle.std.proofs.Common.{◌≡◌, ◌+◌, ◌-◌, ◌≤◌, ◌++◌, List, length}
use Rattle.std.specs.Prelude.{reverse, vec_capacity, vec_len}
use Rattle.ledger_model.specs.declared.outcome.PlacedOutcome.{PlacedOutcome}
use Rattle.ledger_shared.proofs.merging.move_last.Given as goal

-- all but `left` outcomes are moved
abbrev pub invariant-outcomes : goal.invariant-outcomes
invariant-outcomes l =
    record {
      low : l.left ≤ l.count;
      moved : (moved : List PlacedOutcome) × (length moved + l.left ≡ l.count) × (l.to.items ≡ l.initial.to.items ++ moved)
          × (l.from.items ++ reverse moved ≡ l.initial.from.items);
      len : vec_len l.to + l.left ≡ vec_len l.initial.to + l.count;
      room : vec_len l.to + l.left ≤ vec_capacity l.to;
      from_len : vec_len l.initial.from ≡ vec_len l.from + (l.count - l.left);
      capacity : vec_capacity l.initial.to ≤ vec_capacity l.to;
    }

abbrev pub decreases-outcomes : goal.decreases-outcomes
decreases-outcomes l = l.left
