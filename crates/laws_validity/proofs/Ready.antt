-- What a begun transaction finds: a state in which nothing has an id of its own, whose versions are few, and in which
-- ids and contents are within their ranges.
use Rattle.std.proofs.Common.{◌≡◌, ◌-◌, ◌^◌, ◌<◌, ℕ, true, List, length, arith}
use Rattle.std.specs.List.{AllByRecursion}
use Rattle.ql_types.specs.Ids.{transaction_in}
use Rattle.ledger_model.specs.declared.block.Block.{Block}
use Rattle.ledger_model.specs.State.{State, state}
use Rattle.ledger_model.specs.Run.{Begun}
use Rattle.ledger_model.specs.Whole.{id_fits}
use Rattle.laws_validity.specs.Before.{is_made_in, CanFollow}
use Rattle.laws_validity.proofs.Lists.{all_like}
use Rattle.laws_validity.proofs.Parts.{ShallowContent}
use Rattle.laws_validity.proofs.Tables.{TableFits}
use Rattle.laws_validity.proofs.States.{sound_state, is_other}

-- the id isn't of this transaction
abbrev pub IsOther : Begun → ℕ → Type 0
IsOther b id = transaction_in b.mask id ≡ b.number → ⊥

pub record IsReady (b : Begun) (s : State) : Type 0 where
  pub mask_fits : b.mask < 2 ^ 128
  pub counted : b.number < 2 ^ 64
  pub others : AllByRecursion (λ r. IsOther b r.revision.metadata.id.raw) s.revisions
  pub versions : AllByRecursion (λ r. r.revision.metadata.version < 2 ^ 32 - 1) s.revisions
  pub fits : AllByRecursion (λ r. id_fits r.revision.metadata.id.raw ≡ true) s.revisions
  pub contents : AllByRecursion (λ r. ShallowContent r.revision.content) s.revisions
  pub tables : AllByRecursion TableFits s.tables

-- so it is after undamaged blocks, of which none has the transaction's number
pub ready_of : (b : Begun) (blocks : List Block) → b.mask < 2 ^ 128 → CanFollow b blocks → IsReady b (state blocks)
ready_of b blocks mask can =
    let sound = sound_state b.mask blocks can.undamaged can.strand in
    record {
      mask_fits = mask;
      counted = can.counted;
      others = all_like (λ r. is_made_in b.mask blocks r.revision.metadata.id.raw ≡ true)
          (λ r. IsOther b r.revision.metadata.id.raw)
          (λ r made. is_other b.mask b.number blocks r.revision.metadata.id.raw can.unused made)
          (state blocks).revisions sound.documents;
      versions = all_like (λ r. r.revision.metadata.version < length blocks)
          (λ r. r.revision.metadata.version < 2 ^ 32 - 1)
          (λ r low. let room = can.room in omega (arith, low, room)) (state blocks).revisions sound.versions;
      fits = sound.fits;
      contents = sound.contents;
      tables = sound.tables;
    }
