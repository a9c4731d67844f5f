-- What stays in a compacted journal by the definitions.
use Rattle.std.proofs.Common.{◌≡◌, ◌∙◌, Bool, true, false, ◌||◌, List, [], ◌∷◌, map, refl, sym, ap, if◌then◌else◌}
use Rattle.std.specs.List.{list_any}
use Rattle.ql_types.specs.declared.Hash32.{Hash32}
use Rattle.ql_types.specs.declared.TableId.{TableId}
use Rattle.ledger_model.specs.declared.block.Block.{Block}
use Rattle.ledger_model.specs.declared.block.Content.{Content}
use Rattle.ledger_model.specs.declared.block.Content.TheVariants.{Deleted, Kept, Redacted}
use Rattle.ledger_model.specs.declared.block.Metadata.{Metadata}
use Rattle.ledger_model.specs.declared.block.Revision.{Revision}
use Rattle.ledger_model.specs.declared.block.Schema.{Schema}
use Rattle.ledger_model.specs.declared.block.Told.{Told}
use Rattle.ledger_model.specs.Compaction.{compacted, compacted_from, shown_content, shown_revision, shown_revisions, shown_told}
use Rattle.ledger_model.specs.Follows.{is_redacted_in}
use Rattle.ledger_model.specs.HashesAsked.{redacts_any}
use Rattle.ledger_model.specs.Seals.{revision_hash, told_hash}
use Rattle.ledger_model.specs.State.{Recorded, hashed, redacts}

-- ---- hashes

-- the hash of the statements
pub told_hash_stays : (hides : Bool) (t : Told) → told_hash (shown_told hides t) ≡ told_hash t
told_hash_stays true t = refl
told_hash_stays false t = refl

hashed_stays : (c : Content) (m : Metadata) → revision_hash (hashed c) m ≡ revision_hash c m
hashed_stays Deleted m = refl
hashed_stays (Kept v) m = refl
hashed_stays (Redacted hash) m = refl

when_hidden : (hides : Bool) (c : Content) (m : Metadata)
    → revision_hash (if hides then hashed c else c) m ≡ revision_hash c m
when_hidden true c m = hashed_stays c m
when_hidden false c m = refl

-- of a revision
pub revision_hash_stays : (blocks : List Block) (r : Recorded)
    → revision_hash (shown_content blocks r) r.revision.metadata ≡ revision_hash r.revision.content r.revision.metadata
revision_hash_stays blocks r = when_hidden (is_redacted_in blocks r) r.revision.content r.revision.metadata

hashes_from : (blocks bs : List Block)
    → map (λ (b : Block). b.hash) (compacted_from blocks bs) ≡ map (λ (b : Block). b.hash) bs
hashes_from blocks [] = refl
hashes_from blocks (b ∷ bs) = ap (λ (hs : List Hash32). b.hash ∷ hs) (hashes_from blocks bs)

-- of the blocks
pub hashes_stay : (blocks : List Block)
    → map (λ (b : Block). b.hash) (compacted blocks) ≡ map (λ (b : Block). b.hash) blocks
hashes_stay blocks = hashes_from blocks blocks

-- ---- what is redacted

-- one of the blocks redacts it, by their changes of the schema
redacted_by : List (List Schema) → Recorded → Bool
redacted_by changes r = list_any (λ (cs : List Schema). list_any (redacts r) cs) changes

abbrev schemas : List Block → List (List Schema)
schemas bs = map (λ (b : Block). b.info.schema) bs

by_schemas : (bs : List Block) (r : Recorded) → is_redacted_in bs r ≡ redacted_by (schemas bs) r
unfolding redacted_by
by_schemas [] r = refl
by_schemas (b ∷ bs) r = ap (λ (x : Bool). list_any (redacts r) b.info.schema || x) (by_schemas bs r)

schemas_from : (blocks bs : List Block) → schemas (compacted_from blocks bs) ≡ schemas bs
schemas_from blocks [] = refl
schemas_from blocks (b ∷ bs) = ap (λ (cs : List (List Schema)). b.info.schema ∷ cs) (schemas_from blocks bs)

-- the compacted journal redacts what the journal redacts
pub redactions_stay : (blocks : List Block) (r : Recorded)
    → is_redacted_in (compacted blocks) r ≡ is_redacted_in blocks r
redactions_stay blocks r =
    by_schemas (compacted blocks) r ∙ ap (λ (cs : List (List Schema)). redacted_by cs r) (schemas_from blocks blocks)
    ∙ sym (by_schemas blocks r)

pub redacts_any_from : (blocks bs : List Block)
    → list_any redacts_any (compacted_from blocks bs) ≡ list_any redacts_any bs
redacts_any_from blocks [] = refl
redacts_any_from blocks (b ∷ bs) = ap (λ (x : Bool). redacts_any b || x) (redacts_any_from blocks bs)

-- ---- once more

twice_hashed : (c : Content) → hashed (hashed c) ≡ hashed c
twice_hashed Deleted = refl
twice_hashed (Kept v) = refl
twice_hashed (Redacted hash) = refl

twice_hidden : (hides : Bool) (c : Content)
    → (if hides then hashed (if hides then hashed c else c) else (if hides then hashed c else c)) ≡
    (if hides then hashed c else c)
twice_hidden true c = twice_hashed c
twice_hidden false c = refl

twice_told : (hides : Bool) (t : Told) → shown_told hides (shown_told hides t) ≡ shown_told hides t
twice_told true t = refl
twice_told false t = refl

-- the revision with this content
abbrev with_content : Revision → Content → Revision
with_content r c = record r { content = c }

twice_revision : (blocks : List Block) (t : TableId) (r : Revision)
    → shown_revision (compacted blocks) t (shown_revision blocks t r) ≡ shown_revision blocks t r
twice_revision blocks t r =
    let here : Recorded = record { table = t; revision = r } in
    let once = shown_content blocks here in
    ap (λ (hides : Bool). with_content r (if hides then hashed once else once)) (redactions_stay blocks here)
    ∙ ap (λ (c : Content). with_content r c) (twice_hidden (is_redacted_in blocks here) r.content)

twice_revisions : (blocks : List Block) (ts : List TableId) (rs : List Revision)
    → shown_revisions (compacted blocks) ts (shown_revisions blocks ts rs) ≡ shown_revisions blocks ts rs
twice_revisions blocks [] rs = refl
twice_revisions blocks (t ∷ ts) [] = refl
twice_revisions blocks (t ∷ ts) (r ∷ rs) = λ i. twice_revision blocks t r i ∷ twice_revisions blocks ts rs i

-- the block with these statements and revisions
abbrev with_parts : Block → Told → List Revision → Block
with_parts b t rs = record b { info = record b.info { said = t }; revisions = rs }

twice_from : (blocks bs : List Block)
    → compacted_from (compacted blocks) (compacted_from blocks bs) ≡ compacted_from blocks bs
twice_from blocks [] = refl
twice_from blocks (b ∷ bs) =
    let hides = list_any redacts_any (b ∷ bs) in
    let said = ap (λ (x : Bool). shown_told (redacts_any b || x) (shown_told hides b.info.said))
    (redacts_any_from blocks bs)
    ∙ twice_told hides b.info.said in
    let revisions = twice_revisions blocks b.info.tables b.revisions in
    λ i. with_parts b (said i) (revisions i) ∷ twice_from blocks bs i

pub again : (blocks : List Block) → compacted (compacted blocks) ≡ compacted blocks
again blocks = twice_from blocks blocks
