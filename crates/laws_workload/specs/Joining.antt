-- A job that runs first and alone, and a run by several workers behind it, as one run (the ledger's own).
use Rattle.std.specs.Prelude.{◌≡◌, ℕ, ◌<◌, List, [], ◌∷◌, ◌++◌}
use Rattle.turn_lock.specs.declared.view.Known.{Known}
use Rattle.laws_machine.specs.Entries.{Entry, Opening}
use Rattle.laws_history.specs.Runs.{AreWorkers, Served}
use Rattle.laws_history.specs.Seen.{IsRight, blocks_in, reach}

-- this is where the ledger has come to behind these entries
pub record OpensBehind (o : Opening) (es : List Entry) (behind : Opening) : Type 0 where
  pub mask : behind.mask ≡ o.mask
  pub blocks : behind.blocks ≡ blocks_in o es
  pub last : behind.last ≡ (reach o es).last
  pub count : behind.count ≡ (reach o es).count

-- workers have run these jobs, which left this right history
pub record HaveWorked (o : Opening) (workers : ℕ) (ss : List Served) (entries : List Entry) : Type 0 where
  pub right : IsRight o entries
  pub pass_of : ℕ → Known Entry
  pub are : AreWorkers o workers ss entries pass_of

abbrev pub WorkersJoin : Type 0
WorkersJoin =
    (o behind : Opening) (workers : ℕ) (first : Served) (ss : List Served) (es more : List Entry)
    → first.placed.place.session ≡ 0 → 0 < workers → OpensBehind o es behind → HaveWorked o 1 (first ∷ []) es
    → HaveWorked behind workers ss more → HaveWorked o workers (first ∷ ss) (es ++ more)
