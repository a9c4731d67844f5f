-- The tail of a journal: the blocks that its store has taken, the numbers that its transactions have, and what stands
-- after the lines of the blocks in the store. A store keeps the journal as the lines of its blocks, one after
-- another.
use Rattle.std.specs.Prelude.{◌≡◌, ◌⊎◌, ℕ, Bool, false, refl, List, [], ◌∷◌, ◌++◌, length, take, Option, Some, None, IfSome}
use Rattle.std.specs.Coded.{Coded, code_by, coded×, coded_ℕ, coded_bool, coded_list}
use Rattle.ledger_model.specs.declared.block.Block.{Block}
use Rattle.ledger_model.specs.contracts.block.Block as block
use Rattle.ledger_model.specs.Journal.{line, journal_bytes}
use Rattle.laws_history.specs.Standings.{Standing, IsStanding}
use Rattle.laws_history.specs.Stores.{HoldsBehind}

-- the store and the clock, what the ledger stands for between two transactions, and whether the store is to be cut to
-- the lines of the blocks before it takes another one
pub record TailHeld (S C : Type 0) : Type 0 where
  pub store : S
  pub clock : C
  pub standing : Standing
  pub marked : Bool

abbrev pub standing_code : Coded Standing
standing_code =
    code_by (ℕ × (ℕ × List Block)) (coded× coded_ℕ (coded× coded_ℕ (coded_list block.the_row.coded)))
    (λ s. (s.mask, (s.last, s.blocks))) (λ p. record { mask = p.0; last = p.1.0; blocks = p.1.1 }) (λ _. refl)

abbrev pub tail_code : {S C : Type 0} → Coded S → Coded C → Coded (TailHeld S C)
tail_code {S} {C} store clock =
    code_by (S × (C × (Standing × Bool))) (coded× store (coded× clock (coded× standing_code coded_bool)))
    (λ t. (t.store, (t.clock, (t.standing, t.marked))))
    (λ p. record { store = p.0; clock = p.1.0; standing = p.1.1.0; marked = p.1.1.1 }) (λ _. refl)

-- one block more
abbrev pub joined : Standing → Block → Standing
joined s b = record s { blocks = s.blocks ++ b ∷ [] }

-- After these bytes the store holds nothing, or a rest that is marked to be cut.
abbrev pub HoldsMarked : List ℕ → Bool → Option (List ℕ) → Type 0
HoldsMarked journal marked held =
    IfSome held (λ bytes. (rest : List ℕ) × (bytes ≡ journal ++ rest) × (marked ≡ false → rest ≡ []))

-- what a tail keeps true of the bytes of its store, its standing, its mark and the length of the lines of its blocks
pub record IsTail (held : Option (List ℕ)) (standing : Standing) (marked : Bool) (size : ℕ) : Type 0 where
  pub stands : IsStanding standing
  pub long : size ≡ length (journal_bytes standing.blocks)
  pub holds : HoldsMarked (journal_bytes standing.blocks) marked held

-- the bytes are as before, or a part of the block's line stands after the lines of the blocks, perhaps none of it or
-- all
abbrev pub MayHoldPart : List Block → Block → Option (List ℕ) → Option (List ℕ) → Type 0
MayHoldPart blocks b before now = (now ≡ before) ⊎ ((kept : ℕ) × HoldsBehind blocks (take kept (line b)) now)

-- if no line had come to the store, it is as before
abbrev pub Leaves : List Block → Option Block → Option (List ℕ) → Option (List ℕ) → Type 0
Leaves blocks None before now = now ≡ before
Leaves blocks (Some tried) before now = MayHoldPart blocks tried before now
