-- The entries that begins and commits leave, in order, and when a list of them is a run behind its opening (the
-- ledger's own).
use Rattle.std.specs.Prelude.{◌≡◌, ℕ, ◌+◌, ◌<◌, ◌≤◌, ◌==◌, not, List, [], ◌∷◌, ◌++◌, length, ◌⊎◌, Option, Some, None}
use Rattle.std.specs.List.{filter}
use Rattle.std.specs.Option.{unwrap_or}
use Rattle.ion_values.specs.declared.time.TimeParts.{TimeParts}
use Rattle.ql_types.specs.declared.Place.{Place}
use Rattle.ledger_model.specs.declared.block.Block.{Block}
use Rattle.ledger_model.specs.declared.script.Request.{Request}
use Rattle.ledger_model.specs.Making.{IsMadeOf}
use Rattle.laws_machine.specs.Machine.{Answer, Event, Machine, Service, begin, begun, behind, commit, ends, fails, happens, opened, seals, store_failed, wants}
use Rattle.laws_machine.specs.Ranges.{AllFit, IsOpening}

-- A transaction has begun on a number of blocks; its block was sealed; the store failed at it, for the `count`th time;
-- or memory ran out, with a block if it had come to its store.
pub data Entry : Type 0 where
  begun_at : Place → (number since : ℕ) → Entry
  sealed : (number : ℕ) → Block → Entry
  failed : (number count : ℕ) → Block → Entry
  wanted : (number : ℕ) → Option Block → Entry

-- what stood before the entries: the mask, the blocks, the last number, and how often the store had failed
pub record Opening : Type 0 where
  pub mask : ℕ
  pub blocks : List Block
  pub last : ℕ
  pub count : ℕ

-- a number that was opened and isn't used yet, with the place of its transaction
pub record Unused : Type 0 where
  pub number : ℕ
  pub place : Place

-- how far a run has come: the blocks, the last number and count, and the numbers that may still be used
pub record Reach : Type 0 where
  pub mask : ℕ
  pub blocks : List Block
  pub last : ℕ
  pub count : ℕ
  pub unused : List Unused

abbrev pub reach_at : Opening → Reach
reach_at o = record { mask = o.mask; blocks = o.blocks; last = o.last; count = o.count; unused = [] }

-- it is one of these
abbrev pub IsAmong : Unused → List Unused → Type 0
IsAmong u [] = ⊥
IsAmong u (x ∷ xs) = (x ≡ u) ⊎ IsAmong u xs

-- ---- one entry

-- the transaction of this number was opened, and nothing has used it
pub record MayUse (r : Reach) (number : ℕ) : Type 0 where
  pub place : Place
  pub unused : IsAmong (record { number = number; place = place }) r.unused

-- so it was, and the block is that of some statements of it behind the blocks that stand
pub record MayMake (r : Reach) (number : ℕ) (block : Block) : Type 0 where
  pub place : Place
  pub unused : IsAmong (record { number = number; place = place }) r.unused
  pub time : TimeParts
  pub asked : List Request
  pub made : IsMadeOf (record { mask = r.mask; number = number }) r.blocks place time asked block

-- numbers come in order without a gap, each begin sees all blocks that stand, and counts rise
abbrev pub MayCome : Reach → Entry → Type 0
MayCome r (begun_at place number since) = (number ≡ r.last + 1) × (since ≡ length r.blocks)
MayCome r (sealed number block) = MayMake r number block
MayCome r (failed number count block) = MayMake r number block × (r.count < count)
MayCome r (wanted number None) = MayUse r number
MayCome r (wanted number (Some block)) = MayMake r number block

abbrev pub used : ℕ → List Unused → List Unused
used number us = filter (λ (u : Unused). not (u.number == number)) us

abbrev pub comes : Reach → Entry → Reach
comes r (begun_at place number since) =
    record r { last = number; unused = record { number = number; place = place } ∷ r.unused }
comes r (sealed number block) = record r { blocks = r.blocks ++ block ∷ []; unused = used number r.unused }
comes r (failed number count block) = record r { count = count; unused = used number r.unused }
comes r (wanted number o) = record r { unused = used number r.unused }

-- ---- a run

abbrev pub IsRunFrom : Reach → List Entry → Type 0
IsRunFrom r [] = Unit {0}
IsRunFrom r (e ∷ es) = MayCome r e × IsRunFrom (comes r e) es

abbrev pub reached : Reach → List Entry → Reach
reached r [] = r
reached r (e ∷ es) = reached (comes r e) es

-- the entries are a run behind the opening, and the store has failed at least as often as the last of them tells by
-- now
pub record IsRun (o : Opening) (now : ℕ) (entries : List Entry) : Type 0 where
  pub run : IsRunFrom (reach_at o) entries
  pub counts : (reached (reach_at o) entries).count ≤ now

-- ---- the entries of a machine's events

abbrev pub entry_of : Event → Answer → List Entry
entry_of (begin place) (begun number since) = begun_at place number since ∷ []
entry_of (commit number c) (ends (wants o)) = wanted number o ∷ []
entry_of (commit number c) (ends (fails count block)) = failed number count block ∷ []
entry_of (commit number c) (ends (seals block)) = sealed number block ∷ []
entry_of _ _ = []

abbrev pub entries : List Event → Machine → List Entry
entries [] m = []
entries (e ∷ es) m = entry_of e (happens m e).answer ++ entries es (happens m e).now

-- how often the store has failed, where a commit tells it
abbrev pub count_in : Service → Option ℕ
count_in (store_failed count) = Some count
count_in _ = None

abbrev pub told_count : Event → Option ℕ
told_count (commit number c) = count_in c.service
told_count _ = None

-- this count, or the one that is told, which is greater
abbrev pub IsRisen : ℕ → Option ℕ → Type 0
IsRisen count None = Unit {0}
IsRisen count (Some more) = count < more

-- each count that is told is above those before, and the last isn't above that by now
abbrev pub Rise : ℕ → ℕ → List Event → Type 0
Rise count now [] = count ≤ now
Rise count now (e ∷ es) = IsRisen count (told_count e) × Rise (unwrap_or (told_count e) count) now es

abbrev pub opening_of : ℕ → List Block → ℕ → Opening
opening_of mask before count =
    let m = opened mask before in
    record { mask = mask; blocks = before; last = m.last; count = count }

-- the events of a machine leave a run, whose blocks are the machine's
pub record LeaveRun (o : Opening) (now : ℕ) (entries : List Entry) (m : Machine) : Type 0 where
  pub run : IsRun o now entries
  pub blocks : (reached (reach_at o) entries).blocks ≡ m.blocks
  pub last : (reached (reach_at o) entries).last ≡ m.last

abbrev pub EntriesAreRun : Type 0
EntriesAreRun =
    (mask count now : ℕ) (before : List Block) (events : List Event)
    → IsOpening mask before → AllFit events (opened mask before) → Rise count now events
    → LeaveRun (opening_of mask before count) now (entries events (opened mask before))
    (behind events (opened mask before))
