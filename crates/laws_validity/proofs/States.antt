-- What undamaged blocks tell of their state: each id in it was made by a transaction of theirs, the versions of a
-- document are fewer than the blocks, and ids and contents are within their ranges.
use Rattle.std.proofs.Common.{◌≡◌, ◌∙◌, ◌+◌, ◌^◌, ◌<◌, ◌&&◌, ◌==◌, ℕ, Bool, true, false, List, [], ◌∷◌, ◌++◌, length, Option, Some, None, refl, sym, subst, append-nil, append_assoc, arith, inl, inr, length-append}
use Rattle.std.specs.Prelude.{nat_le, nat_lt, if◌then◌else◌}
use Rattle.std.specs.List.{AllByRecursion, list_all}
use Rattle.std.proofs.lemmas.Bool.{and_parts, or_cases, or_left, or_right, eqb-true, cases_Bool}
use Rattle.std.proofs.lemmas.List.Folds.{list_any-append}
use Rattle.ql_types.specs.Ids.{transaction_in, thing_in}
use Rattle.ql_types.specs.declared.TableId.{TableId}
use Rattle.ledger_model.specs.declared.block.Block.{Block}
use Rattle.ledger_model.specs.declared.block.Revision.{Revision}
use Rattle.ledger_model.specs.declared.block.Content.{Content}
use Rattle.ledger_model.specs.declared.block.Content.TheVariants.{Deleted, Kept, Redacted}
use Rattle.ledger_model.specs.State.{State, Recorded, recorded_in, after, empty, state, hashed, revisions_after}
use Rattle.ledger_model.specs.Whole.{IsWhole, id_fits, table_fits, schema_fits, header_fits, hashes_fit, info_fits, place_fits, revision_fits, address_fits, hash_fits, metadata_fits, content_fits, told_fits}
use Rattle.ledger_model.specs.Follows.{latest_of, is_new, is_made_by, is_kept, created_ids, document_ids, revision_follows, continues, is_of, has_table, follows}
use Rattle.ledger_model.specs.Damages.{UndamagedBehind, Undamaged, strand_of}
use Rattle.laws_validity.specs.Before.{HasStrand, IsUnused, is_made_in, AreMadeIn}
use Rattle.ledger_model.proofs.Redactions.{each_after}
use Rattle.laws_validity.proofs.Lists.{all_append, all_like, all_unmapped, passing}
use Rattle.laws_validity.proofs.Thinned.{unthinned}
use Rattle.laws_validity.proofs.Parts.{ShallowContent, parts_of}
use Rattle.laws_validity.proofs.Journals.{passes_all, state_push, strand_is}
use Rattle.laws_validity.proofs.Tables.{TableFits, all_changed_like, tables_fit}
use Rattle.laws_validity.proofs.Following.{Parted, parted, latest_like, old_like}

shallow_hidden : (c : Bool) (content : Content) → ShallowContent content
    → ShallowContent (if c then hashed content else content)
shallow_hidden false content h = h
shallow_hidden true Deleted h = tt
shallow_hidden true (Kept v) h = tt
shallow_hidden true (Redacted hash) h = h

-- ---- what a whole block tells of ids

schemas_fit : (b : Block) → IsWhole b → AllByRecursion (λ c. schema_fits c ≡ true) b.info.schema
schemas_fit b w =
    let most = and_parts (header_fits b.header && hashes_fit b && info_fits b.info)
    (list_all revision_fits b.revisions) w.fits in
    let info = and_parts (header_fits b.header && hashes_fit b) (info_fits b.info) most.0 in
    let parts = and_parts
    (place_fits b.info.place && list_all schema_fits b.info.schema && list_all table_fits b.info.tables)
    (told_fits b.info.said) info.1 in
    let schema = and_parts (place_fits b.info.place && list_all schema_fits b.info.schema)
    (list_all table_fits b.info.tables) parts.0 in
    passing schema_fits b.info.schema
    (and_parts (place_fits b.info.place) (list_all schema_fits b.info.schema) schema.0).1

document_fits : (r : Revision) → revision_fits r ≡ true → id_fits r.metadata.id.raw ≡ true
document_fits r h =
    let most = and_parts (address_fits r.address && hash_fits r.hash && metadata_fits r.metadata)
    (content_fits r.content) h in
    let all = and_parts (address_fits r.address && hash_fits r.hash) (metadata_fits r.metadata) most.0 in
    let two = and_parts (id_fits r.metadata.id.raw && nat_lt r.metadata.version (2 ^ 64))
    (id_fits r.metadata.tx.raw) all.1 in
    (and_parts (id_fits r.metadata.id.raw) (nat_lt r.metadata.version (2 ^ 64)) two.0).0

documents_fit : (b : Block) → IsWhole b → AllByRecursion (λ r. id_fits r.metadata.id.raw ≡ true) b.revisions
documents_fit b w =
    all_like (λ r. revision_fits r ≡ true) (λ r. id_fits r.metadata.id.raw ≡ true) document_fits b.revisions
    (passing revision_fits b.revisions
    (and_parts (header_fits b.header && hashes_fit b && info_fits b.info)
    (list_all revision_fits b.revisions) w.fits).1)

recorded_like : (P : Revision → Type 0) (ts : List TableId) (rs : List Revision) → AllByRecursion P rs
    → AllByRecursion (λ r. P r.revision) (recorded_in ts rs)
recorded_like P [] rs h = tt
recorded_like P (t ∷ ts) [] h = tt
recorded_like P (t ∷ ts) (r ∷ rs) h = (h.0, recorded_like P ts rs h.1)

-- ---- versions

version_next : (count : ℕ) (r : Recorded) (o : Option Recorded)
    → ((last : Recorded) → o ≡ Some last → last.revision.metadata.version < count)
    → continues r o ≡ true → r.revision.metadata.version < count + 1
version_next count r None h k =
    let e = eqb-true r.revision.metadata.version 0
    (and_parts (r.revision.metadata.version == 0) (is_kept r.revision.content) k).0 in
    omega (arith, e)
version_next count r (Some last) h k =
    let most = and_parts
    ((r.table.raw == last.table.raw) && (r.revision.metadata.version == last.revision.metadata.version + 1))
    (is_kept last.revision.content) k in
    let e = eqb-true r.revision.metadata.version (last.revision.metadata.version + 1)
    (and_parts (r.table.raw == last.table.raw)
    (r.revision.metadata.version == last.revision.metadata.version + 1) most.0).1 in
    let low = h last refl in
    omega (arith, e, low)

version_of : (count : ℕ) (s : State) (b : Block) (r : Recorded)
    → AllByRecursion (λ x. x.revision.metadata.version < count) s.revisions
    → revision_follows s b r ≡ true → r.revision.metadata.version < count + 1
version_of count s b r h f =
    let last = latest_of s.revisions r.revision.metadata.id.raw in
    let parts = and_parts (is_of b.header r.revision && has_table s.tables (created_ids b.info.schema) r.table)
    (continues r last) f in
    version_next count r last
    (λ x e. latest_like (λ y. y.revision.metadata.version < count) s.revisions r.revision.metadata.id.raw x h e)
    parts.1

-- ---- the state

module _ (mask : ℕ) where
  abbrev MadeIn : List Block → ℕ → Type 0
  MadeIn blocks id = is_made_in mask blocks id ≡ true

  still_made : (blocks : List Block) (b : Block) (id : ℕ) → MadeIn blocks id → MadeIn (blocks ++ b ∷ []) id
  still_made blocks b id h =
      let by : Block → Bool = λ x. is_made_by mask (transaction_in mask x.header.tx.raw) id in
      list_any-append by blocks (b ∷ []) ∙ or_left (is_made_in mask blocks id) _ h

  made_last : (blocks : List Block) (b : Block) (id : ℕ)
      → is_made_by mask (transaction_in mask b.header.tx.raw) id ≡ true → MadeIn (blocks ++ b ∷ []) id
  made_last blocks b id h =
      let by : Block → Bool = λ x. is_made_by mask (transaction_in mask x.header.tx.raw) id in
      list_any-append by blocks (b ∷ []) ∙ or_right (is_made_in mask blocks id) _ (or_left (by b) false h)

  pub record IsSound (blocks : List Block) (s : State) : Type 0 where
    pub documents : AllByRecursion (λ r. MadeIn blocks r.revision.metadata.id.raw) s.revisions
    pub created : AllByRecursion (λ t. MadeIn blocks t.id.raw) s.tables
    pub versions : AllByRecursion (λ r. r.revision.metadata.version < length blocks) s.revisions
    pub fits : AllByRecursion (λ r. id_fits r.revision.metadata.id.raw ≡ true) s.revisions
    pub contents : AllByRecursion (λ r. ShallowContent r.revision.content) s.revisions
    pub tables : AllByRecursion TableFits s.tables

  -- ---- one block more

  module _ (blocks : List Block) (s : State) (b : Block) (sound : IsSound blocks s) (w : IsWhole b)
      (f : follows mask s b ≡ true) where
    abbrev more : List Block
    more = blocks ++ b ∷ []

    parts : Parted mask s b
    parts = parted mask s b f

    document_made : (id : ℕ)
        → (is_new s.revisions id ≡ true → is_made_by mask (transaction_in mask b.header.tx.raw) id ≡ true)
        → MadeIn more id
    document_made id h =
        elim (cases_Bool (is_new s.revisions id)) [
          | inl new ↦ made_last blocks b id (h new)
          | inr old ↦ still_made blocks b id (old_like (MadeIn blocks) s.revisions id sound.documents old)
        ]

    documents_made : AllByRecursion (MadeIn more) (document_ids b.revisions)
    documents_made =
        let by : ℕ → Bool = is_made_by mask (transaction_in mask b.header.tx.raw) in
        all_like (λ id. is_new s.revisions id ≡ true → by id ≡ true) (MadeIn more) document_made
        (document_ids b.revisions)
        (unthinned (λ id. by id ≡ true) (is_new s.revisions) (document_ids b.revisions)
        (passing by _ parts.documents))

    tables_made : AllByRecursion (MadeIn more) (created_ids b.info.schema)
    tables_made =
        let by : ℕ → Bool = is_made_by mask (transaction_in mask b.header.tx.raw) in
        all_like (λ id. by id ≡ true) (MadeIn more) (made_last blocks b) (created_ids b.info.schema)
        (passing by (created_ids b.info.schema) parts.created)

    versions_next : AllByRecursion (λ r. r.revision.metadata.version < length blocks + 1)
        (recorded_in b.info.tables b.revisions)
    versions_next =
        all_like (λ r. revision_follows s b r ≡ true) (λ r. r.revision.metadata.version < length blocks + 1)
        (λ r h. version_of (length blocks) s b r sound.versions h) _
        (passing (revision_follows s b) _ parts.revisions)

    -- the revisions of the blocks before, as they are after the block
    abbrev before : List Recorded
    before = revisions_after b.info.schema s.revisions

    sound_after : IsSound more (after s b)
    sound_after =
        let long : length blocks + 1 ≡ length more = sym (length-append blocks (b ∷ [])) in
        let old = all_like (λ r. r.revision.metadata.version < length blocks)
        (λ r. r.revision.metadata.version < length blocks + 1)
        (λ r h. omega (arith, h)) s.revisions sound.versions in
        record {
          documents = all_append (λ r. MadeIn more r.revision.metadata.id.raw) before _
              (each_after b.info.schema (λ r. MadeIn more r.revision.metadata.id.raw) (λ c r h. h) s.revisions
              (all_like (λ r. MadeIn blocks r.revision.metadata.id.raw) (λ r. MadeIn more r.revision.metadata.id.raw)
              (λ r h. still_made blocks b r.revision.metadata.id.raw h) s.revisions sound.documents))
              (recorded_like (λ r. MadeIn more r.metadata.id.raw) b.info.tables b.revisions
              (all_unmapped (MadeIn more) (λ r. r.metadata.id.raw) b.revisions documents_made));
          created = all_changed_like (MadeIn more) b.info.schema s.tables
              (all_like (λ t. MadeIn blocks t.id.raw) (λ t. MadeIn more t.id.raw)
              (λ t h. still_made blocks b t.id.raw h) s.tables sound.created) tables_made;
          versions = subst (λ n. AllByRecursion (λ r. r.revision.metadata.version < n) (after s b).revisions) long
              (all_append (λ r. r.revision.metadata.version < length blocks + 1) before _
              (each_after b.info.schema (λ r. r.revision.metadata.version < length blocks + 1)
              (λ c r h. h) s.revisions old)
              versions_next);
          fits = all_append (λ r. id_fits r.revision.metadata.id.raw ≡ true) before _
              (each_after b.info.schema (λ r. id_fits r.revision.metadata.id.raw ≡ true)
              (λ c r h. h) s.revisions sound.fits)
              (recorded_like (λ r. id_fits r.metadata.id.raw ≡ true) b.info.tables b.revisions (documents_fit b w));
          contents = all_append (λ r. ShallowContent r.revision.content) before _
              (each_after b.info.schema (λ r. ShallowContent r.revision.content)
              (λ c r h. shallow_hidden c r.revision.content h) s.revisions sound.contents)
              (recorded_like (λ r. ShallowContent r.content) b.info.tables b.revisions (parts_of b w).revisions);
          tables = tables_fit b.info.schema s.tables sound.tables (schemas_fit b w);
        }

  -- ---- all blocks

  sound_behind : (bs before : List Block) → UndamagedBehind before bs → HasStrand mask (before ++ bs)
      → IsSound before (state before)
      → IsSound (before ++ bs) (state (before ++ bs))
  sound_behind [] before u m sound = subst (λ xs. IsSound xs (state xs)) (sym (append-nil before)) sound
  sound_behind (b ∷ bs) before u m sound =
      let strand : strand_of before b ≡ mask = strand_is mask before b bs m in
      let f = subst (λ x. follows x (state before) b ≡ true) strand (passes_all before b u.1).follows_is in
      let next = subst (IsSound (before ++ b ∷ [])) (sym (state_push before empty b))
      (sound_after before (state before) b sound u.0 f) in
      let again = subst (HasStrand mask) (sym (append_assoc before (b ∷ []) bs)) m in
      subst (λ xs. IsSound xs (state xs)) (append_assoc before (b ∷ []) bs)
      (sound_behind bs (before ++ b ∷ []) u.2 again next)

  pub sound_state : (bs : List Block) → Undamaged bs → HasStrand mask bs → IsSound bs (state bs)
  sound_state bs u m =
      sound_behind bs [] u m
      (record { documents = tt; created = tt; versions = tt; fits = tt; contents = tt; tables = tt })

  -- Each id in the state after undamaged blocks was made by a transaction of theirs.
  pub ids_are_made : (bs : List Block) → Undamaged bs → HasStrand mask bs → AreMadeIn mask bs
  ids_are_made bs u m =
      let sound = sound_state bs u m in
      record { tables = sound.created; documents = sound.documents; versions = sound.versions }

  -- so none is of a transaction whose number no block has
  pub is_other : (number : ℕ) (bs : List Block) (id : ℕ) → IsUnused mask number bs → MadeIn bs id
      → transaction_in mask id ≡ number → ⊥
  is_other number [] id h k e = cc
  is_other number (b ∷ bs) id h k e =
      let n = transaction_in mask b.header.tx.raw in
      elim (or_cases (is_made_by mask n id) (is_made_in mask bs id) k) [
        | inl here ↦ h.0 (sym
            (eqb-true (transaction_in mask id) n
            (and_parts (transaction_in mask id == n) (nat_le 1 (thing_in mask id)) here).0) ∙ e)
        | inr rest ↦ is_other number bs id h.1 rest e
      ]
