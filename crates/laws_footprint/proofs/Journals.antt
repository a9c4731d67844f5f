-- Undamaged blocks follow one another.
use Rattle.std.proofs.Common.{◌≡◌, ◌∙◌, ℕ, ◌^◌, Bool, true, false, not, ◌&&◌, nat_lt, List, [], ◌∷◌, ◌++◌, map, refl, sym, ap, subst, Option, Some, None}
use Rattle.std.specs.Prelude.{if◌then◌else◌}
use Rattle.std.specs.List.{list_all}
use Rattle.std.proofs.lemmas.Bool.{and_parts, not-false}
use Rattle.std.proofs.lemmas.List.{map-append}
use Rattle.ql_types.specs.declared.TableId.{TableId}
use Rattle.ledger_model.specs.declared.block.Block.{Block}
use Rattle.ledger_model.specs.declared.block.Revision.{Revision}
use Rattle.ledger_model.specs.declared.damage.Damage.{Damage}
use Rattle.ledger_model.specs.Damages.{UndamagedBehind, damage_behind, has_address, has_hashes, has_id, has_previous, has_time, strand_of}
use Rattle.ledger_model.specs.Follows.{follows, follows_blocks, redactions_follow}
use Rattle.ledger_model.specs.State.{State, after, draft_of, empty, recorded_in, revisions_after, state, state_from}
use Rattle.ledger_model.specs.Whole.{IsWhole, address_fits, content_fits, hash_fits, hashes_fit, header_fits, id_fits, info_fits, metadata_fits, revision_fits}
use Rattle.laws_footprint.specs.Journalled.{HasStrand, UndamagedFollow}
use Rattle.laws_footprint.specs.Own.{AllFollow, IdsFit}
use Rattle.laws_footprint.specs.Touches.{revisions_in}
use Rattle.laws_footprint.proofs.Rows.{all_joined, fits_redacted}

-- ---- the checks

passed : (b : Bool) (d : Damage) (o : Option Damage) → (if b then Some d else o) ≡ None → (b ≡ false) × (o ≡ None)
passed true d o h = cc
passed false d o h = (refl, h)

follows_behind : (before : List Block) (b : Block) → damage_behind before b ≡ None
    → follows (strand_of before b) (state before) b ≡ true
follows_behind before b h =
    let strand = strand_of before b in
    let address = passed (not (has_address strand before b)) _ _ h in
    let id = passed (not (has_id strand before b)) _ _ address.1 in
    let time = passed (not (has_time before b)) _ _ id.1 in
    let previous = passed (not (has_previous strand before b)) _ _ time.1 in
    let hashes = passed (not (has_hashes b)) _ _ previous.1 in
    let state_follows = passed (not (follows_blocks strand before b)) _ _ hashes.1 in
    (and_parts (follows strand (state before) b) (redactions_follow before (state before).revisions [] b.info.schema)
    (not-false (follows_blocks strand before b) state_follows.0)).0

state_more : (s : State) (before : List Block) (b : Block)
    → state_from s (before ++ b ∷ []) ≡ after (state_from s before) b
state_more s [] b = refl
state_more s (x ∷ xs) b = state_more (after s x) xs b

-- the strand of the next block is that of the blocks before it
abbrev NextStrand : ℕ → List Block → List Block → Type 0
NextStrand mask before [] = Unit {0}
NextStrand mask before (b ∷ bs) = strand_of before b ≡ mask

same_strand : (mask : ℕ) (before : List Block) (b : Block) (bs : List Block) → strand_of before b ≡ mask
    → NextStrand mask (before ++ b ∷ []) bs
same_strand mask before b [] h = tt
same_strand mask [] b (c ∷ bs) h = h
same_strand mask (x ∷ xs) b (c ∷ bs) h = h

all_follow : (mask : ℕ) (before blocks : List Block) → UndamagedBehind before blocks → NextStrand mask before blocks
    → AllFollow mask (state before) blocks
all_follow mask before [] h strand = tt
all_follow mask before (b ∷ bs) h strand = (
  ap (λ n. follows n (state before) b) (sym strand) ∙ follows_behind before b h.1,
  subst (λ s. AllFollow mask s bs) (state_more empty before b)
      (all_follow mask (before ++ b ∷ []) bs h.2 (same_strand mask before b bs strand)),
)

-- ---- the ids

revision_id_fits : (r : Revision) → revision_fits r ≡ true → nat_lt r.metadata.id.raw (2 ^ 128) ≡ true
revision_id_fits r h =
    let most =
    and_parts (address_fits r.address && hash_fits r.hash && metadata_fits r.metadata)
    (content_fits r.content) h in
    let metadata = and_parts (address_fits r.address && hash_fits r.hash) (metadata_fits r.metadata) most.0 in
    let first =
    and_parts (id_fits r.metadata.id.raw && nat_lt r.metadata.version (2 ^ 64))
    (id_fits r.metadata.tx.raw) metadata.1 in
    (and_parts (id_fits r.metadata.id.raw) (nat_lt r.metadata.version (2 ^ 64)) first.0).0

recorded_fit : (ts : List TableId) (rs : List Revision) → list_all revision_fits rs ≡ true
    → IdsFit (map draft_of (recorded_in ts rs))
recorded_fit [] [] h = tt
recorded_fit [] (r ∷ rs) h = tt
recorded_fit (t ∷ ts) [] h = tt
recorded_fit (t ∷ ts) (r ∷ rs) h =
    let parts = and_parts (revision_fits r) (list_all revision_fits rs) h in
    (revision_id_fits r parts.0, recorded_fit ts rs parts.1)

block_ids_fit : (b : Block) → IsWhole b → IdsFit (map draft_of (revisions_in b))
block_ids_fit b whole =
    recorded_fit b.info.tables b.revisions
    (and_parts (header_fits b.header && hashes_fit b && info_fits b.info)
    (list_all revision_fits b.revisions) whole.fits).1

all_fit : (before blocks : List Block) (s : State) → UndamagedBehind before blocks → IdsFit (map draft_of s.revisions)
    → IdsFit (map draft_of (state_from s blocks).revisions)
all_fit before [] s h fit = fit
all_fit before (b ∷ bs) s h fit =
    all_fit (before ++ b ∷ []) bs (after s b) h.2
    (subst IdsFit (sym (map-append draft_of (revisions_after b.info.schema s.revisions) (revisions_in b)))
    (all_joined _ (map draft_of (revisions_after b.info.schema s.revisions)) (map draft_of (revisions_in b))
    (fits_redacted b.info.schema s.revisions fit) (block_ids_fit b h.0)))

first_strand : (mask : ℕ) (blocks : List Block) → HasStrand mask blocks → NextStrand mask [] blocks
first_strand mask [] h = tt
first_strand mask (b ∷ bs) h = h

pub undamaged_follow : UndamagedFollow
undamaged_follow mask blocks h strand =
    (all_follow mask [] blocks h (first_strand mask blocks strand), all_fit [] blocks empty h tt)
