-- What stands behind the turn: the tail, the tail as it was when the ledger was made, and the entries since.
use Rattle.std.specs.Prelude.{◌≡◌, ◌++◌, ℕ, ℤ, refl, false, List, [], ◌∷◌, Option, Some, None, IfSome, IsSomeAnd, Contains}
use mathlib.Core.List.{IsPrefix}
use Rattle.std.specs.Coded.{Coded, code_by, coded×, coded_list}
use Rattle.ion_time.specs.Millis.{BeginsAt, nearest}
use Rattle.ion_values.specs.declared.time.TimeParts.{TimeParts}
use Rattle.outside.specs.Told.{StoreTold, held}
use Rattle.ledger_model.specs.declared.block.Block.{Block}
use Rattle.ledger_model.specs.Making.{time_behind}
use Rattle.laws_history.specs.Standings.{Standing, IsStanding}
use Rattle.laws_history.specs.Stores.{IsSynced}
use Rattle.laws_machine.specs.Entries.{Entry, IsRunFrom, Opening, Reach, begun_at, comes, failed, reach_at, sealed, wanted}
use Rattle.laws_history.specs.Seen.{IsRight, blocks_in, reach}
use Rattle.ledger_core.specs.Tails.{TailHeld, tail_code}
use Rattle.ledger_shared.specs.EntryCode.{entry_code}
use Rattle.ledger_shared.specs.Images.{KeepsImages}
use Rattle.ledger_shared.specs.Rests.{HoldsRest, tried_in}

pub record SharedHeld (S C : Type 0) : Type 0 where
  pub tail : TailHeld S C
  pub opened : TailHeld S C
  pub entries : List Entry

abbrev pub shared_code : {S C : Type 0} → Coded S → Coded C → Coded (SharedHeld S C)
shared_code {S} {C} store clock =
    code_by (TailHeld S C × (TailHeld S C × List Entry))
    (coded× (tail_code store clock) (coded× (tail_code store clock) (coded_list entry_code)))
    (λ s. (s.tail, (s.opened, s.entries))) (λ p. record { tail = p.0; opened = p.1.0; entries = p.1.1 }) (λ _. refl)

module _ {S C : Type 0} (told : S → StoreTold) where
  -- the tail as it was when the ledger was made, as the opening of the entries
  abbrev pub opening_of : TailHeld S C → Opening
  opening_of t = record {
    mask = t.standing.mask;
    blocks = t.standing.blocks;
    last = t.standing.last;
    count = (told t.store).faults;
  }

  -- where no cut of its store is marked, all bytes that the store tells are synced
  abbrev pub IsKept : TailHeld S C → Type 0
  IsKept t = t.marked ≡ false → IsSynced (told t.store)

  -- the entries are a run behind it, and the blocks that they leave are undamaged
  abbrev pub IsRightFor : TailHeld S C → List Entry → Type 0
  IsRightFor t es = IsRight (opening_of t) es

-- ---- what the tail is behind the entries

-- the entries are a run that has come to the tail's blocks and last number; its store has failed as often as the last
-- of them tells, or else as at the opening
pub record IsBehind (o : Opening) (opened s : Standing) (count : ℕ) (es : List Entry) : Type 0 where
  pub opening : IsStanding opened
  pub of_mask : opened.mask ≡ o.mask
  pub of_blocks : opened.blocks ≡ o.blocks
  pub of_last : opened.last ≡ o.last
  pub run : IsRunFrom (reach_at o) es
  pub mask : s.mask ≡ o.mask
  pub blocks : s.blocks ≡ blocks_in o es
  pub last : s.last ≡ (reach o es).last
  pub counts : (reach o es).count ≡ count

-- ---- the times of the blocks

-- between the two moments the clock gave this answer, where it tells them
abbrev pub GaveBetween : Option (List ℤ) → Option (List ℤ) → ℤ → Type 0
GaveBetween before now answer =
    IfSome now
    (λ told. IsSomeAnd before (λ earlier. (given : List ℤ) × (told ≡ earlier ++ given) × Contains given answer))

-- the time is that of such an answer, which is the clock's one answer where it has one
pub record IsTimeOf (always : Option ℤ) (before now : Option (List ℤ)) (time : TimeParts) : Type 0 where
  pub answer : ℤ
  pub one : IfSome always (λ same. answer ≡ same)
  pub among : GaveBetween before now answer
  pub begins : BeginsAt (nearest answer) time

-- the block is as late as the last one of these, or has one of these times where that is later
pub record HasTimeOf (P : TimeParts → Type 0) (before : List Block) (b : Block) : Type 0 where
  pub time : TimeParts
  pub among : P time
  pub is : b.header.time ≡ time_behind before time

abbrev pub IsTimed : (TimeParts → Type 0) → List Block → Entry → Type 0
IsTimed P before (begun_at place number since) = Unit {0}
IsTimed P before (sealed number block) = HasTimeOf P before block
IsTimed P before (failed number count block) = HasTimeOf P before block
IsTimed P before (wanted number None) = Unit {0}
IsTimed P before (wanted number (Some block)) = HasTimeOf P before block

-- so is each block that an entry carries
abbrev pub AreTimed : (TimeParts → Type 0) → Reach → List Entry → Type 0
AreTimed P r [] = Unit {0}
AreTimed P r (e ∷ es) = IsTimed P r.blocks e × AreTimed P (comes r e) es

-- what the clock tells now goes on from what it told before
abbrev pub GoesOn : Option (List ℤ) → Option (List ℤ) → Type 0
GoesOn before now = IfSome now (λ told. IsSomeAnd before (λ earlier. IsPrefix earlier told))

-- the clock has the one answer that it had, its list goes on, and each block that an entry carries has a time that it
-- told since
pub record HasTimes (always later : Option ℤ) (before now : Option (List ℤ)) (o : Opening) (es : List Entry)
    : Type 0 where
  pub always_is : later ≡ always
  pub goes_on : GoesOn before now
  pub timed : AreTimed (IsTimeOf always before now) (reach_at o) es

-- ---- all that is true of the tail behind the entries

module _ {S C : Type 0} (told : S → StoreTold) (answers : C → Option (List ℤ)) (always : C → Option ℤ) where
  -- these entries have come since the tail was as it was opened
  pub record Keeps (opened tail : TailHeld S C) (es : List Entry) : Type 0 where
    pub behind : IsBehind (opening_of told opened) opened.standing tail.standing (told tail.store).faults es
    pub times : HasTimes (always opened.clock) (always tail.clock) (answers opened.clock) (answers tail.clock)
        (opening_of told opened) es
    pub rest : HoldsRest (held (told opened.store)) (held (told tail.store)) opened.standing.blocks
        tail.standing.blocks (tried_in es)
    pub synced : IsKept told opened → IsKept told tail
    pub images : KeepsImages told (opening_of told opened) opened tail es
