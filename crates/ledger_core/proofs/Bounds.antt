-- A tail has at most 2^32 - 1 blocks, and a place fits its type.
use Rattle.std.proofs.Common.{◌-◌, ◌^◌, ◌<◌, ◌≤◌, length}
use Rattle.std.specs.Prelude.{nat_lt, IsTrue}
use Rattle.std.proofs.lemmas.Bool.{and_from, lt-ltb}
use Rattle.ql_types.specs.declared.Place.{Place}
use Rattle.ledger_model.specs.Whole.{place_fits}
use Rattle.laws_history.specs.Standings.{Standing, IsStanding}
use Rattle.journal_reader.proofs.Bounds.{undamaged_bound}

pub bound : (s : Standing) → IsStanding s → length s.blocks ≤ 2 ^ 32 - 1
bound s is = undamaged_bound s.blocks is.undamaged

pub place_within : (p : Place) → p.session < 2 ^ 32 → p.transaction < 2 ^ 32 → IsTrue (place_fits p)
place_within p session transaction =
    and_from (nat_lt p.session (2 ^ 32)) (nat_lt p.transaction (2 ^ 32)) (lt-ltb p.session (2 ^ 32) session) (lt-ltb p.transaction (2 ^ 32) transaction)
