use Rattle.std.proofs.Common.{◌≡◌, ◌+◌, drop}
use Rattle.std.specs.Prelude.{option_map}
use Rattle.txn_core.specs.Logs.{place_touched}
use Rattle.txn_core.proofs.log.place_of.Given as goal

-- the documents in front are others
abbrev pub invariant-loop-at : goal.invariant-loop-at
invariant-loop-at l = place_touched l.touched l.id.raw ≡ option_map (λ k. l.at + k) (place_touched (drop l.at l.touched) l.id.raw)
