-- Blocks with a made one behind them are again those behind which others can become blocks. And a transaction makes few
-- things.
use Rattle.std.proofs.Common.{◌≡◌, ◌∙◌, ◌≤◌, ◌<◌, ◌^◌, ℕ, List, [], ◌∷◌, ◌++◌, refl, sym, arith}
use Rattle.ion_values.specs.declared.time.TimeParts.{TimeParts}
use Rattle.ql_types.specs.Ids.{transaction_in}
use Rattle.ql_types.specs.declared.Place.{Place}
use Rattle.ledger_model.specs.declared.block.Block.{Block}
use Rattle.ledger_model.specs.declared.script.Request.{Request}
use Rattle.ledger_model.specs.Run.{Begun, Progress, ran, run}
use Rattle.ledger_model.specs.State.{state}
use Rattle.ledger_model.specs.Making.{block_of}
use Rattle.laws_validity.specs.Before.{CanFollow, HasStrand, IsUnused}
use Rattle.laws_validity.proofs.Lists.{all_push}
use Rattle.laws_validity.proofs.Ids.{transaction_of}
use Rattle.laws_validity.proofs.Progress.{few}
use Rattle.laws_validity.proofs.Ready.{ready_of}
use Rattle.laws_validity.proofs.Runs.{so_far_of}

module _ (b : Begun) (blocks : List Block) (place : Place) (time : TimeParts) (p : Progress) where
  abbrev made : Block
  made = block_of b blocks place time p

  -- they have the same strand
  pub strand_goes_on : HasStrand b.mask blocks → HasStrand b.mask (blocks ++ block_of b blocks place time p ∷ [])
  strand_goes_on h = begins blocks made h refl where
    begins : (bs : List Block) (c : Block) → HasStrand b.mask bs → c.header.address.strand.raw ≡ b.mask
        → HasStrand b.mask (bs ++ c ∷ [])
    begins [] c h own = own
    begins (first ∷ more) c h own = h

  -- and another number that none had is still one
  pub still_unused : (number : ℕ) → (b.number ≡ number → ⊥) → IsUnused b.mask number blocks
      → IsUnused b.mask number (blocks ++ block_of b blocks place time p ∷ [])
  still_unused number other h =
      all_push (λ (c : Block). transaction_in b.mask c.header.tx.raw ≡ number → ⊥) blocks made h
      (λ own. other (sym (transaction_of b.mask b.number 0 (omega arith)) ∙ own))

-- a transaction makes at most 20 tables and 40 documents
pub few_made : (b : Begun) (blocks : List Block) (asked : List Request) (p : Progress) → b.mask < 2 ^ 128
    → CanFollow b blocks → run b (state blocks) asked ≡ ran p → p.made ≤ 60
few_made b blocks asked p mask can all =
    let ready = ready_of b blocks mask can in
    few b (state blocks) ready p.schema p.log p.made (so_far_of b (state blocks) ready asked p all).made
