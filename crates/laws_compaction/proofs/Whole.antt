-- A compacted block is whole.
use Rattle.std.proofs.Common.{◌≡◌, ◌∙◌, ◌+◌, ◌&&◌, ℕ, Bool, true, false, List, [], ◌∷◌, ◌++◌, map, length, codes, refl, sym, ap, subst, if◌then◌else◌, arith, rules}
use Rattle.std.specs.List.{list_all, list_any}
use Rattle.std.proofs.lemmas.Bool.{and_from, and_parts, eq-eqb}
use Rattle.sha2.specs.Sha256.{sha256}
use Rattle.sha2.proofs.Facts256.{length-sha256}
use Rattle.ion_values.specs.Within.{bytes_within}
use Rattle.ion_values.specs.declared.value.Value.{Value}
use Rattle.ion_values.specs.declared.value.Field.{Field}
use Rattle.ion_values.specs.declared.value.Body.TheFolds.{the_lemmas}
use Rattle.hash_model.specs.Serialize.{field_digest, field_hash, hash_of, serialize, symbol_bytes}
use Rattle.ql_types.specs.declared.TableId.{TableId}
use Rattle.ledger_model.specs.declared.block.Block.{Block}
use Rattle.ledger_model.specs.declared.block.Content.{Content}
use Rattle.ledger_model.specs.declared.block.Content.TheVariants.{Deleted, Kept, Redacted}
use Rattle.ledger_model.specs.declared.block.Info.{Info}
use Rattle.ledger_model.specs.declared.block.Revision.{Revision}
use Rattle.ledger_model.specs.declared.block.Told.{Told}
use Rattle.ledger_model.specs.declared.block.Told.TheVariants as told
use Rattle.ledger_model.specs.Compaction.{compacted_block, shown_content, shown_revision, shown_revisions, shown_told}
use Rattle.ledger_model.specs.Follows.{is_redacted_in}
use Rattle.ledger_model.specs.HashesAsked.{redacts_any}
use Rattle.ledger_model.specs.Journal.{address_value, block_value, documents_field, hash_value, info_value, list, metadata_value, place_field, revision_value, schema_field, structure, told_field}
use Rattle.ledger_model.specs.State.{hashed}
use Rattle.ledger_model.specs.Values.{field}
use Rattle.ledger_model.specs.Whole.{IsWhole, address_fits, block_fits, content_fits, hash_fits, hashes_fit, header_fits, info_fits, is_shallow, metadata_fits, place_fits, revision_fits, schema_fits, table_fits, told_fits}
use Rattle.laws_validity.proofs.Hashes.{hash_of_is, sha_within}
use Rattle.laws_validity.proofs.Parts.{ascii_text}
use Rattle.laws_compaction.proofs.Hashes.{documents_shown}
use Rattle.laws_compaction.proofs.Smaller.{EachSmaller, Smaller, SmallerField, bytes_field, in_field, in_list, in_structure, same_field, same_value}

-- ---- the hash of a field

field_is : (f : Field) → field_hash f ≡ sha256 (symbol_bytes f.name ++ serialize f.value)
unfolding field_digest
field_is f = search (rules, the_lemmas)

field_long : (f : Field) → length (field_hash f) ≡ 32
field_long f = ap (λ (bs : List ℕ). length bs) (field_is f) ∙ length-sha256 (symbol_bytes f.name ++ serialize f.value)

field_bytes : (f : Field) → bytes_within (field_hash f) ≡ true
field_bytes f = ap (λ (bs : List ℕ). bytes_within bs) (field_is f)
    ∙ sha_within (symbol_bytes f.name ++ serialize f.value)

-- ---- values

told_smaller : (hides : Bool) (t : Told) → SmallerField (told_field t) (told_field (shown_told hides t))
told_smaller false t = same_field (told_field t)
told_smaller true (told.Said said) =
    bytes_field (told_field (told.Said said)) (codes "statementsHash") (field_hash (told_field (told.Said said)))
    (ascii_text (codes "statementsHash") refl) (field_bytes (told_field (told.Said said)))
told_smaller true (told.Hashed hash) = same_field (told_field (told.Hashed hash))

module _ (blocks : List Block) where
  abbrev with : Revision → Content → Revision
  with r c = record r { content = c }

  content_smaller : (hides : Bool) (r : Revision) (c : Content)
      → Smaller (revision_value (with r c)) (revision_value (with r (if hides then hashed c else c)))
  content_smaller false r c = same_value (revision_value (with r c))
  content_smaller true r Deleted = same_value (revision_value (with r Deleted))
  content_smaller true r (Kept v) =
      in_structure _ _ (
        same_field (field (codes "blockAddress") (address_value r.address)),
        (
          same_field (field (codes "hash") (hash_value r.hash)),
          (
            bytes_field (field (codes "data") v) (codes "dataHash") (hash_of v).bytes
                (ascii_text (codes "dataHash") refl)
                (hash_of_is v).ranges,
            (same_field (field (codes "metadata") (metadata_value r.metadata)), tt),
          ),
        ),
      )
  content_smaller true r (Redacted hash) = same_value (revision_value (with r (Redacted hash)))

  revisions_smaller : (ts : List TableId) (rs : List Revision)
      → EachSmaller (map revision_value rs) (map revision_value (shown_revisions blocks ts rs))
  revisions_smaller [] [] = tt
  revisions_smaller [] (r ∷ rs) = (same_value (revision_value r), revisions_smaller [] rs)
  revisions_smaller (t ∷ ts) [] = tt
  revisions_smaller (t ∷ ts) (r ∷ rs) = (
    content_smaller (is_redacted_in blocks (record { table = t; revision = r })) r r.content,
    revisions_smaller ts rs,
  )

  info_smaller : (hides : Bool) (i : Info) (rs : List Revision)
      → Smaller (info_value i rs)
      (info_value (record i { said = shown_told hides i.said }) (shown_revisions blocks i.tables rs))
  info_smaller hides i rs =
      subst (λ (vs : List Value). Smaller (info_value i rs)
      (structure (place_field i ∷ told_field (shown_told hides i.said) ∷ schema_field i ∷ field (codes "documents")
      (list vs) ∷ [])))
      (sym (documents_shown blocks i.tables rs))
      (in_structure _ _ (
        same_field (place_field i),
        (told_smaller hides i.said, (same_field (schema_field i), (same_field (documents_field i rs), tt))),
      ))

  block_smaller : (b : Block) (later : List Block)
      → Smaller (block_value b) (block_value (compacted_block blocks b later))
  block_smaller b later =
      let hides = list_any redacts_any (b ∷ later) in
      let info = info_smaller hides b.info b.revisions in
      let revisions = in_list (map revision_value b.revisions)
      (map revision_value (shown_revisions blocks b.info.tables b.revisions))
      (revisions_smaller b.info.tables b.revisions) in
      in_structure _ _ (
        same_field _,
        (
          same_field _,
          (
            same_field _,
            (
              same_field _,
              (
                same_field _,
                (
                  same_field _,
                  (
                    same_field _,
                    (
                      in_field (codes "transactionInfo") _ _ info,
                      (in_field (codes "revisions") _ _ revisions, tt),
                    ),
                  ),
                ),
              ),
            ),
          ),
        ),
      )

  -- ---- parts

  content_fit : (hides : Bool) (c : Content) → content_fits c ≡ true
      → content_fits (if hides then hashed c else c) ≡ true
  content_fit false c h = h
  content_fit true Deleted h = refl
  content_fit true (Kept v) h = eq-eqb (length (hash_of v).bytes) 32 (hash_of_is v).long
  content_fit true (Redacted hash) h = h

  revisions_fit : (ts : List TableId) (rs : List Revision) → list_all revision_fits rs ≡ true
      → list_all revision_fits (shown_revisions blocks ts rs) ≡ true
  revisions_fit [] rs h = h
  revisions_fit (t ∷ ts) [] h = refl
  revisions_fit (t ∷ ts) (r ∷ rs) h =
      let parts = and_parts (revision_fits r) (list_all revision_fits rs) h in
      let here = and_parts (address_fits r.address && hash_fits r.hash && metadata_fits r.metadata)
      (content_fits r.content) parts.0 in
      and_from (revision_fits (shown_revision blocks t r)) (list_all revision_fits (shown_revisions blocks ts rs))
      (and_from (address_fits r.address && hash_fits r.hash && metadata_fits r.metadata)
      (content_fits (shown_content blocks (record { table = t; revision = r }))) here.0
      (content_fit (is_redacted_in blocks (record { table = t; revision = r })) r.content here.1))
      (revisions_fit ts rs parts.1)

  told_fit : (hides : Bool) (t : Told) → told_fits t ≡ true → told_fits (shown_told hides t) ≡ true
  told_fit false t h = h
  told_fit true (told.Said said) h =
      eq-eqb (length (field_hash (told_field (told.Said said)))) 32 (field_long (told_field (told.Said said)))
  told_fit true (told.Hashed hash) h = h

  block_fit : (b : Block) (later : List Block) → block_fits b ≡ true
      → block_fits (compacted_block blocks b later) ≡ true
  block_fit b later h =
      let i = b.info in
      let all = and_parts (header_fits b.header && hashes_fit b && info_fits i)
      (list_all revision_fits b.revisions) h in
      let front = and_parts (header_fits b.header && hashes_fit b) (info_fits i) all.0 in
      let info = and_parts (place_fits i.place && list_all schema_fits i.schema && list_all table_fits i.tables)
      (told_fits i.said) front.1 in
      let hides = list_any redacts_any (b ∷ later) in
      and_from (header_fits b.header && hashes_fit b && info_fits (record i { said = shown_told hides i.said }))
      (list_all revision_fits (shown_revisions blocks i.tables b.revisions))
      (and_from (header_fits b.header && hashes_fit b) (info_fits (record i { said = shown_told hides i.said })) front.0
      (and_from (place_fits i.place && list_all schema_fits i.schema && list_all table_fits i.tables)
      (told_fits (shown_told hides i.said)) info.0 (told_fit hides i.said info.1)))
      (revisions_fit i.tables b.revisions all.1)

  shallow : (hides : Bool) (c : Content) → is_shallow c ≡ true → is_shallow (if hides then hashed c else c) ≡ true
  shallow false c h = h
  shallow true Deleted h = refl
  shallow true (Kept v) h = refl
  shallow true (Redacted hash) h = refl

  all_shallow : (ts : List TableId) (rs : List Revision) → list_all (λ (r : Revision). is_shallow r.content) rs ≡ true
      → list_all (λ (r : Revision). is_shallow r.content) (shown_revisions blocks ts rs) ≡ true
  all_shallow [] rs h = h
  all_shallow (t ∷ ts) [] h = refl
  all_shallow (t ∷ ts) (r ∷ rs) h =
      let parts = and_parts (is_shallow r.content) (list_all (λ (x : Revision). is_shallow x.content) rs) h in
      and_from (is_shallow (shown_content blocks (record { table = t; revision = r })))
      (list_all (λ (x : Revision). is_shallow x.content) (shown_revisions blocks ts rs))
      (shallow (is_redacted_in blocks (record { table = t; revision = r })) r.content parts.0)
      (all_shallow ts rs parts.1)

  length_shown : (ts : List TableId) (rs : List Revision) → length (shown_revisions blocks ts rs) ≡ length rs
  length_shown [] rs = refl
  length_shown (t ∷ ts) [] = refl
  length_shown (t ∷ ts) (r ∷ rs) = let more = length_shown ts rs in omega (arith, more)

  pub whole : (b : Block) (later : List Block) → IsWhole b → IsWhole (compacted_block blocks b later)
  whole b later w =
      let less = block_smaller b later in
      let long = length_shown b.info.tables b.revisions in
      record {
        count = w.count ∙ sym long;
        tables = w.tables ∙ sym long;
        documents = all_shallow b.info.tables b.revisions w.documents;
        depth = let d = w.depth in let e = less.depth in omega (arith, d, e);
        fits = block_fit b later w.fits;
        ranges = less.ranges w.ranges;
      }
