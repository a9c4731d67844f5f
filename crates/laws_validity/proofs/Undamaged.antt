-- The block that a transaction becomes leaves the blocks before it undamaged, and it is undamaged behind them.
use Rattle.std.proofs.Common.{◌≡◌, true, List, [], ◌∷◌, ◌++◌, map, refl, sym, subst}
use Rattle.ion_values.specs.declared.time.TimeParts.{TimeParts}
use Rattle.ql_types.specs.declared.Place.{Place}
use Rattle.ledger_model.specs.declared.block.Block.{Block}
use Rattle.ledger_model.specs.declared.block.Draft.{Draft}
use Rattle.ledger_model.specs.declared.block.Header.{Header}
use Rattle.ledger_model.specs.declared.script.Request.{Request}
use Rattle.ledger_model.specs.State.{state}
use Rattle.ledger_model.specs.Run.{Begun, Progress, run, ran}
use Rattle.ledger_model.specs.Legal.{last_hash}
use Rattle.ledger_model.specs.Seals.{sealed}
use Rattle.ledger_model.specs.Making.{IsMadeOf, revision_of, header_of, info_of, block_of}
use Rattle.ledger_model.specs.Follows.{follows}
use Rattle.ledger_model.specs.Damages.{Undamaged, strand_of, last_block, has_address, has_id, has_previous}
use Rattle.laws_validity.specs.Before.{CanFollow}
use Rattle.laws_validity.specs.Makes.{CanMake, IsWithinAll}
use Rattle.laws_validity.specs.Pending.{left_of}
use Rattle.laws_validity.proofs.Hashes.{sealed_hashes, same_own}
use Rattle.laws_validity.proofs.Journals.{Passes, no_damage, undamaged_push, strand_next}
use Rattle.laws_validity.proofs.Headers.{address_ok, id_ok, later_ok}
use Rattle.laws_validity.proofs.Ready.{ready_of}
use Rattle.laws_validity.proofs.Effects.{FineProgress}
use Rattle.laws_validity.proofs.Runs.{so_far_of}
use Rattle.laws_validity.proofs.Follows.{follows_made}
use Rattle.laws_validity.proofs.Blocks.{is_whole}
use Rattle.laws_validity.proofs.Redacted.{are_redacted}
use Rattle.laws_validity.proofs.RedactionsMade.{redactions_made}

-- the block of these revisions
abbrev block_with : Begun → List Block → Place → TimeParts → Progress → List Draft → Block
block_with b before place time p drafts =
    let header = header_of b before time drafts in
    sealed (last_hash b.mask before) header (info_of place p drafts) (map (revision_of header) drafts)

module _ (b : Begun) (blocks : List Block) (place : Place) (time : TimeParts) (asked : List Request) (p : Progress)
    (can : CanFollow b blocks)
    (make : CanMake b.mask time place) (ranges : IsWithinAll p) (runs : run b (state blocks) asked ≡ ran p) where
  so_far : FineProgress b (state blocks) p
  so_far = so_far_of b (state blocks) (ready_of b blocks make.mask_fits can) asked p runs

  abbrev final : List Draft
  final = left_of p.log

  abbrev header : Header
  header = header_of b blocks time final

  abbrev block : Block
  block = block_with b blocks place time p final

  strand : strand_of blocks block ≡ b.mask
  strand = strand_next b.mask blocks block can.strand refl

  passes : Passes blocks block
  passes = record {
    address = subst (λ m. has_address m blocks block ≡ true) (sym strand)
        (address_ok b.mask blocks block refl refl can.room);
    id = subst (λ m. has_id m blocks block ≡ true) (sym strand)
        (id_ok b.mask b.number blocks block refl can.first can.counted can.unused);
    time = later_ok (last_block blocks) time;
    previous = subst (λ m. has_previous m blocks block ≡ true) (sym strand) (same_own (last_hash b.mask blocks));
    hashes = sealed_hashes (last_hash b.mask blocks) header (info_of place p final) final;
    follows_is = subst (λ m. follows m (state blocks) block ≡ true) (sym strand) (
        follows_made b (state blocks) (ready_of b blocks make.mask_fits can) p so_far.made
        (last_hash b.mask blocks) header place refl);
    redactions = redactions_made b blocks (are_redacted blocks can.undamaged) asked p runs;
  }

  -- The block that a transaction becomes is undamaged behind the blocks on whose state its statements ran: where they
  -- are undamaged, of its strand and none of its number, where what it did, its place, the time and the mask are
  -- within their ranges, and where there is room for one more.
  pub made_is_undamaged : Undamaged (blocks ++ block_of b blocks place time p ∷ [])
  made_is_undamaged =
      let whole = is_whole b blocks place time p can make ranges so_far in
      undamaged_push blocks [] block can.undamaged whole (no_damage blocks block passes)

-- so each block that is made of statements behind others is undamaged there
pub made_of_is_undamaged : (b : Begun) (blocks : List Block) (place : Place) (time : TimeParts) (asked : List Request)
    (sealed_one : Block)
    (made : IsMadeOf b blocks place time asked sealed_one) → CanFollow b blocks → CanMake b.mask time place
    → IsWithinAll made.progress
    → Undamaged (blocks ++ sealed_one ∷ [])
made_of_is_undamaged b blocks place time asked sealed_one made can make ranges =
    subst (λ x. Undamaged (blocks ++ x ∷ [])) (sym made.block_is)
    (made_is_undamaged b blocks place time asked made.progress can make ranges made.runs)
