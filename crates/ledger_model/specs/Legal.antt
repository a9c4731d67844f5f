-- When a list of blocks is a history: each block is what its transaction's statements mean on the blocks before it.
-- That it is sealed and chained to the block before is told by undamaged blocks.
use Rattle.std.specs.Prelude.{◌≡◌, ℕ, List, [], ◌∷◌, map, take, drop}
use Rattle.ql_types.specs.Ids.{raw_id}
use Rattle.ql_types.specs.declared.Hash32.{Hash32}
use Rattle.ledger_model.specs.declared.block.Said.{Said}
use Rattle.ledger_model.specs.declared.block.Told.TheVariants as told
use Rattle.ledger_model.specs.declared.block.Block.{Block}
use Rattle.ledger_model.specs.declared.script.Request.{Request}
use Rattle.ledger_model.specs.Journal.{said_in}
use Rattle.ledger_model.specs.State.{State, state, after, draft_of, recorded_in}
use Rattle.ledger_model.specs.Run.{Progress, run, ran, final_revisions}
use Rattle.ledger_model.specs.Seals.{strand_hash}

-- what was asked, without the answers
abbrev pub asked_in : List Said → List Request
asked_in said = map (λ s. record { text = s.text; params = s.params }) said

-- the block is what its transaction's statements mean on this state
pub record Means (mask : ℕ) (s : State) (b : Block) : Type 0 where
  pub number : ℕ
  pub progress : Progress
  pub id : b.header.tx.raw ≡ raw_id mask number 0
  pub runs : run (record { mask = mask; number = number }) s (asked_in (said_in b.info.said)) ≡ ran progress
  pub said : b.info.said ≡ told.Said progress.said
  pub schema : b.info.schema ≡ progress.schema
  pub revisions : map draft_of (recorded_in b.info.tables b.revisions) ≡ final_revisions progress

abbrev pub LegalFrom : ℕ → State → List Block → Type 0
LegalFrom mask s [] = Unit {0}
LegalFrom mask s (b ∷ bs) = Means mask s b × LegalFrom mask (after s b) bs

-- from a place on, each block is what its transaction means at its place
abbrev pub Legal : ℕ → List Block → ℕ → Type 0
Legal mask blocks from = LegalFrom mask (state (take from blocks)) (drop from blocks)

-- the hash of the last block, or of the strand where there is none
abbrev pub last_hash : ℕ → List Block → Hash32
last_hash mask [] = strand_hash mask
last_hash mask (b ∷ []) = b.hash
last_hash mask (b ∷ c ∷ bs) = last_hash mask (c ∷ bs)
