-- What a list of entries tells of a ledger, and when it is right for the ledger's opening (the ledger's own).
use Rattle.std.specs.Prelude.{ℕ, List, length}
use Rattle.ledger_model.specs.declared.block.Block.{Block}
use Rattle.ledger_model.specs.Damages.{Undamaged}
use Rattle.ledger_model.specs.Legal.{Legal}
use Rattle.laws_machine.specs.Entries.{Entry, IsRunFrom, Opening, Reach, Rise, entries, opening_of, reach_at, reached}
use Rattle.laws_machine.specs.Machine.{Event, opened}
use Rattle.laws_machine.specs.Ranges.{AllFit, IsOpening}

-- how far the ledger has come behind these entries: its blocks, its last number, and how often its store has failed
abbrev pub reach : Opening → List Entry → Reach
reach o es = reached (reach_at o) es

abbrev pub blocks_in : Opening → List Entry → List Block
blocks_in o es = (reach o es).blocks

-- the entries are a run behind the opening, and the blocks that they leave are undamaged
pub record IsRight (o : Opening) (es : List Entry) : Type 0 where
  pub run : IsRunFrom (reach_at o) es
  pub undamaged : Undamaged (blocks_in o es)

-- so these blocks are one serial history: from the opening on each is what its transaction means at its place
abbrev pub RunsAreLegal : Type 0
RunsAreLegal =
    (o : Opening) (es : List Entry) → IsRunFrom (reach_at o) es → Legal o.mask (blocks_in o es) (length o.blocks)

-- and whatever events come to a machine, the entries that they leave are right
abbrev pub MachinesLeaveRight : Type 0
MachinesLeaveRight =
    (mask count now : ℕ) (before : List Block) (events : List Event)
    → IsOpening mask before → AllFit events (opened mask before) → Rise count now events
    → IsRight (opening_of mask before count) (entries events (opened mask before))
