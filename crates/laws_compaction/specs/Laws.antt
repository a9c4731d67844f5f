-- What a compacted journal keeps of the journal that it is made of.
use Rattle.std.specs.Prelude.{◌≡◌, ◌↔◌, ℕ, List, map}
use Rattle.ledger_model.specs.declared.block.Block.{Block}
use Rattle.ledger_model.specs.Compaction.{compacted}
use Rattle.ledger_model.specs.Damages.{Undamaged}
use Rattle.ledger_model.specs.HashesAsked.{AreAsked}
use Rattle.ledger_model.specs.State.{state}
use Rattle.proof_model.specs.declared.Digest.{Digest}
use Rattle.proof_model.specs.Issued.{IsDigest}

-- of a journal that passes all checks
pub record CompactedKeeps (blocks : List Block) : Type 0 where
  -- it passes them too
  pub undamaged : Undamaged (compacted blocks)
  pub asked : AreAsked (compacted blocks)
  -- its blocks have the same hashes
  pub hashes : map (λ b. b.hash) (compacted blocks) ≡ map (λ b. b.hash) blocks
  -- it leaves the same tables, indexes and revisions
  pub state_is : state (compacted blocks) ≡ state blocks
  -- its digests are the same at each tip
  pub digests : (tip : ℕ) (d : Digest) → IsDigest blocks tip d ↔ IsDigest (compacted blocks) tip d
  -- and to compact it again changes nothing
  pub again : compacted (compacted blocks) ≡ compacted blocks

abbrev pub CompactionKeeps : Type 0
CompactionKeeps = (blocks : List Block) → Undamaged blocks → AreAsked blocks → CompactedKeeps blocks
