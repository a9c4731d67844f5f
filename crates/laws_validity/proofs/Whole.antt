-- The block of a transaction is whole.
use Rattle.std.proofs.Common.{◌≡◌, ◌<◌, ◌^◌, ◌&&◌, ℕ, true, List, [], ◌∷◌, map, length, codes, refl, arith}
use Rattle.std.specs.Prelude.{nat_lt}
use Rattle.std.specs.List.{AllByRecursion, list_all}
use Rattle.std.proofs.lemmas.Bool.{and_from, and_parts, lt-ltb, ltb-true, le-leb, eq-eqb}
use Rattle.ion_values.specs.Depth.{depth_of}
use Rattle.ion_values.specs.Within.{within, text_within}
use Rattle.ion_values.specs.Time.{is_time}
use Rattle.ion_values.specs.declared.value.Body.TheVariants as body
use Rattle.ql_types.specs.declared.Hash32.{Hash32}
use Rattle.ql_types.specs.declared.Hash.{Hash}
use Rattle.ql_types.specs.declared.Hash.TheVariants.{Empty, Full}
use Rattle.ql_types.specs.declared.Place.{Place}
use Rattle.ql_types.specs.declared.BlockAddress.{BlockAddress}
use Rattle.ql_types.specs.declared.TableId.{TableId}
use Rattle.ledger_model.specs.declared.block.Said.{Said}
use Rattle.ledger_model.specs.declared.block.Schema.{Schema}
use Rattle.ledger_model.specs.declared.block.Schema.TheVariants.{Create, Index, Drop, Redact}
use Rattle.ledger_model.specs.declared.block.Content.{Content}
use Rattle.ledger_model.specs.declared.block.Content.TheVariants.{Deleted, Kept, Redacted}
use Rattle.ledger_model.specs.declared.block.Metadata.{Metadata}
use Rattle.ledger_model.specs.declared.block.Revision.{Revision}
use Rattle.ledger_model.specs.declared.block.Told.{Told}
use Rattle.ledger_model.specs.declared.block.Told.TheVariants as told
use Rattle.ledger_model.specs.declared.block.Info.{Info}
use Rattle.ledger_model.specs.declared.block.Block.{Block}
use Rattle.ledger_model.specs.Values.{plain}
use Rattle.ledger_model.specs.Journal.{hash_value, hash_bytes, address_value, metadata_value, revision_value, place_value, said_value, change_value, schema_value, document_value, document_values, told_field, info_value, block_value}
use Rattle.ledger_model.specs.Whole as whole
use Rattle.ledger_model.specs.Whole.{IsWhole, content_fits, told_fits, id_fits, table_fits, hash_fits, entry_fits, address_fits, revision_fits, place_fits, schema_fits, info_fits, header_fits, hashes_fit, block_fits}
use Rattle.laws_validity.specs.Makes.{change_within, said_within}
use Rattle.laws_validity.proofs.Lists.{all_like, all_mapped, passes}
use Rattle.laws_validity.proofs.Shapes.{Fine, FineField}
use Rattle.laws_validity.proofs.Hashes.{IsDigest, IsEntry, HasDigests}
use Rattle.laws_validity.proofs.Parts.{FineContent, fine_string, fine_id, fine_number, fine_moment, fine_blob, fine_list, fine_structure, fine_field, fine_more, fine_each}
use Rattle.laws_validity.proofs.Progress.{ShallowSaid}

-- ---- what was said and changed

pub record FineSaid (x : Said) : Type 0 where
  pub text : text_within x.text ≡ true
  pub params : AllByRecursion (Fine 64) x.params
  pub rows : AllByRecursion (Fine 130) x.answer.rows

-- a transaction's statements are told
abbrev pub FineTold : Told → Type 0
FineTold (told.Said said) = AllByRecursion FineSaid said
FineTold (told.Hashed statements) = ⊥

pub record FineChange (c : Schema) : Type 0 where
  pub name : change_within c ≡ true
  pub fits : schema_fits c ≡ true

pub said_is : (x : Said) → ShallowSaid x → said_within x ≡ true → FineSaid x
said_is x h k =
    let both = and_parts (text_within x.text && list_all within x.params) (list_all within x.answer.rows) k in
    let front = and_parts (text_within x.text) (list_all within x.params) both.0 in
    record {
      text = front.0;
      params = fine_each 64 x.params h.params front.1;
      rows = fine_each 130 x.answer.rows
          h.rows both.1;
    }

-- ---- the parts' values

address_fine : (a : BlockAddress) → a.sequence < 2 ^ 127 → Fine 1 (address_value a)
address_fine a h = fine_structure 0 _ (
  fine_field 0 (codes "strandId") _ refl (fine_id 0 a.strand.raw),
  (fine_field 0 (codes "sequenceNo") _ refl (fine_number 0 a.sequence h), tt),
)

metadata_fine : (m : Metadata) → m.version < 2 ^ 127 → is_time m.time ≡ true → Fine 1 (metadata_value m)
metadata_fine m h t =
    fine_structure 0 _ (
      fine_field 0 (codes "id") _ refl (fine_id 0 m.id.raw),
      (
        fine_field 0 (codes "version") _ refl (fine_number 0 m.version h),
        (
          fine_field 0 (codes "txTime") _ refl (fine_moment 0 m.time t),
          (fine_field 0 (codes "txId") _ refl (fine_id 0 m.tx.raw), tt),
        ),
      ),
    )

-- what a revision has to be for its value
pub record FineRevision (r : Revision) : Type 0 where
  pub sequence : r.address.sequence < 2 ^ 64
  pub strand : id_fits r.address.strand.raw ≡ true
  pub hash : IsDigest r.hash
  pub content : FineContent r.content
  pub id : id_fits r.metadata.id.raw ≡ true
  pub version : r.metadata.version < 2 ^ 64
  pub time : is_time r.metadata.time ≡ true
  pub tx : id_fits r.metadata.tx.raw ≡ true

content_fine : (a : BlockAddress) (h : Hash32) (c : Content) (m : Metadata) → Fine 64 (address_value a)
    → Fine 64 (hash_value h) → FineContent c → Fine 64 (metadata_value m)
    → Fine 65 (revision_value (record { address = a; hash = h; content = c; metadata = m }))
content_fine a h Deleted m fa fh fc fm =
    fine_structure 64 _ (
      fine_field 64 (codes "blockAddress") _ refl fa,
      (fine_field 64 (codes "hash") _ refl fh, (fine_field 64 (codes "metadata") _ refl fm, tt)),
    )
content_fine a h (Kept v) m fa fh fc fm =
    fine_structure 64 _ (
      fine_field 64 (codes "blockAddress") _ refl fa,
      (
        fine_field 64 (codes "hash") _ refl fh,
        (fine_field 64 (codes "data") v refl fc, (fine_field 64 (codes "metadata") _ refl fm, tt)),
      ),
    )
content_fine a h (Redacted hash) m fa fh fc fm = absurd fc

revision_fine : (r : Revision) → FineRevision r → Fine 65 (revision_value r)
revision_fine r f =
    content_fine r.address r.hash r.content r.metadata
    (fine_more 1 64 _ (omega arith) (address_fine r.address (let h = f.sequence in omega (arith, h))))
    (fine_blob 64 r.hash.bytes f.hash.ranges) f.content
    (fine_more 1 64 _ (omega arith) (metadata_fine r.metadata (let h = f.version in omega (arith, h)) f.time))

place_fine : (p : Place) → p.session < 2 ^ 32 → p.transaction < 2 ^ 32 → Fine 1 (place_value p)
place_fine p h k =
    fine_structure 0 _ (
      fine_field 0 (codes "session") _ refl (fine_number 0 p.session (omega (arith, h))),
      (fine_field 0 (codes "transaction") _ refl (fine_number 0 p.transaction (omega (arith, k))), tt),
    )

said_fine : (s : Said) → FineSaid s → Fine 132 (said_value s)
said_fine s f =
    fine_structure 131 _ (
      fine_field 131 (codes "statement") _ refl (fine_string 131 s.text f.text),
      (
        fine_field 131 (codes "parameters") _ refl
            (fine_more 65 131 _ (omega arith) (fine_list 64 s.params f.params)),
        (fine_field 131 (codes "answer") _ refl (fine_list 130 s.answer.rows f.rows), tt),
      ),
    )

change_fine : (change name : List ℕ) (id : TableId) → list_all (λ b. nat_lt b 128) change ≡ true
    → text_within name ≡ true → Fine 1 (change_value change name id)
change_fine change name id h k =
    fine_structure 0 _ (
      fine_field 0 change _ h (fine_string 0 name k),
      (fine_field 0 (codes "tableId") _ refl (fine_id 0 id.raw), tt),
    )

schema_fine : (c : Schema) → FineChange c → Fine 2 (schema_value c)
schema_fine (Create name id) f = fine_more 1 2 _ (omega arith) (change_fine (codes "create") name id refl f.name)
schema_fine (Index name id) f = fine_more 1 2 _ (omega arith) (change_fine (codes "index") name id refl f.name)
schema_fine (Drop name id) f = fine_more 1 2 _ (omega arith) (change_fine (codes "drop") name id refl f.name)
schema_fine (Redact address id document) f =
    let both = and_parts (address_fits address && table_fits id) (id_fits document.raw) f.fits in
    let own = (and_parts (address_fits address) (table_fits id) both.0).0 in
    let low = ltb-true address.sequence (2 ^ 64)
    (and_parts (id_fits address.strand.raw) (nat_lt address.sequence (2 ^ 64)) own).1 in
    fine_structure 1 _ (
      fine_field 1 (codes "redact") _ refl (address_fine address (omega (arith, low))),
      (
        fine_field 1 (codes "tableId") _ refl (fine_id 1 id.raw),
        (fine_field 1 (codes "documentId") _ refl (fine_id 1 document.raw), tt),
      ),
    )

document_fine : (t : TableId) (r : Revision) → Fine 1 (document_value t r)
document_fine t r =
    fine_structure 0 _ (
      fine_field 0 (codes "documentId") _ refl (fine_id 0 r.metadata.id.raw),
      (fine_field 0 (codes "tableId") _ refl (fine_id 0 t.raw), tt),
    )

documents_fine : (ts : List TableId) (rs : List Revision) → AllByRecursion (Fine 1) (document_values ts rs)
documents_fine [] rs = tt
documents_fine (t ∷ ts) [] = tt
documents_fine (t ∷ ts) (r ∷ rs) = (document_fine t r, documents_fine ts rs)

entry_fine : (h : Hash) → IsEntry h → Fine 0 (plain (body.Blob (hash_bytes h)))
entry_fine Empty e = fine_blob 0 [] refl
entry_fine (Full h) e = fine_blob 0 h.bytes e.ranges

-- ---- the block's value

-- what a block has to be for its value
pub record FineBlock (b : Block) : Type 0 where
  pub sequence : b.header.address.sequence < 2 ^ 64
  pub strand : id_fits b.header.address.strand.raw ≡ true
  pub tx : id_fits b.header.tx.raw ≡ true
  pub time : is_time b.header.time ≡ true
  pub number : b.header.revisions < 2 ^ 32
  pub digests : HasDigests b
  pub session : b.info.place.session < 2 ^ 32
  pub transaction : b.info.place.transaction < 2 ^ 32
  pub said : FineTold b.info.said
  pub schema : AllByRecursion FineChange b.info.schema
  pub tables : AllByRecursion (λ (t : TableId). id_fits t.raw ≡ true) b.info.tables
  pub revisions : AllByRecursion FineRevision b.revisions

told_fine : (t : Told) → FineTold t → FineField 133 (told_field t)
told_fine (told.Said said) f =
    fine_field 133 (codes "statements") _ refl
    (fine_list 132 (map said_value said)
    (all_mapped (Fine 132) said_value said (all_like FineSaid (λ s. Fine 132 (said_value s)) said_fine said f)))
told_fine (told.Hashed statements) f = absurd f

info_fine : (i : Info) (rs : List Revision) → Fine 1 (place_value i.place) → FineTold i.said
    → AllByRecursion FineChange i.schema → Fine 134 (info_value i rs)
info_fine i rs place said schema =
    let changes = fine_list 2 (map schema_value i.schema)
    (all_mapped (Fine 2) schema_value i.schema
    (all_like FineChange (λ c. Fine 2 (schema_value c)) schema_fine i.schema schema)) in
    let documents = fine_list 1 (document_values i.tables rs) (documents_fine i.tables rs) in
    fine_structure 133 _ (
      fine_field 133 (codes "place") _ refl (fine_more 1 133 _ (omega arith) place),
      (
        told_fine i.said said,
        (
          fine_field 133 (codes "schema") _ refl (fine_more 3 133 _ (omega arith) changes),
          (fine_field 133 (codes "documents") _ refl (fine_more 2 133 _ (omega arith) documents), tt),
        ),
      ),
    )

block_fine : (b : Block) → FineBlock b → Fine 135 (block_value b)
block_fine b f =
    let address = fine_more 1 134 _ (omega arith)
    (address_fine b.header.address (let h = f.sequence in omega (arith, h))) in
    let entries = fine_list 0 _
    (all_mapped (Fine 0) (λ h. plain (body.Blob (hash_bytes h))) b.list
    (all_like IsEntry (λ h. Fine 0 (plain (body.Blob (hash_bytes h)))) entry_fine b.list f.digests.list)) in
    let info = info_fine b.info b.revisions (place_fine b.info.place f.session f.transaction) f.said f.schema in
    let revisions = fine_list 65 (map revision_value b.revisions)
    (all_mapped (Fine 65) revision_value b.revisions
    (all_like FineRevision (λ r. Fine 65 (revision_value r)) revision_fine b.revisions f.revisions)) in
    fine_structure 134 _ (
      fine_field 134 (codes "blockAddress") _ refl address,
      (
        fine_field 134 (codes "transactionId") _ refl (fine_id 134 b.header.tx.raw),
        (
          fine_field 134 (codes "blockTimestamp") _ refl (fine_moment 134 b.header.time f.time),
          (
            fine_field 134 (codes "blockHash") _ refl (fine_blob 134 b.hash.bytes f.digests.hash.ranges),
            (
              fine_field 134 (codes "entriesHash") _ refl (fine_blob 134 b.entries.bytes f.digests.entries.ranges),
              (
                fine_field 134 (codes "previousBlockHash") _ refl
                    (fine_blob 134 b.previous.bytes f.digests.previous.ranges),
                (
                  fine_field 134 (codes "entriesHashList") _ refl (fine_more 1 134 _ (omega arith) entries),
                  (
                    fine_field 134 (codes "transactionInfo") _ refl info,
                    (fine_field 134 (codes "revisions") _ refl (fine_more 66 134 _ (omega arith) revisions), tt),
                  ),
                ),
              ),
            ),
          ),
        ),
      ),
    )

-- ---- the block's parts fit their types

digest_fits : (h : Hash32) → IsDigest h → hash_fits h ≡ true
digest_fits h d = eq-eqb _ 32 d.long

entry_is : (h : Hash) → IsEntry h → entry_fits h ≡ true
entry_is Empty e = refl
entry_is (Full h) e = digest_fits h e

address_is : (a : BlockAddress) → id_fits a.strand.raw ≡ true → a.sequence < 2 ^ 64 → address_fits a ≡ true
address_is a h k = and_from _ _ h (lt-ltb a.sequence (2 ^ 64) k)

content_is : (c : Content) → FineContent c → content_fits c ≡ true
content_is Deleted f = refl
content_is (Kept v) f = refl
content_is (Redacted hash) f = absurd f

told_is : (t : Told) → FineTold t → told_fits t ≡ true
told_is (told.Said said) f = refl
told_is (told.Hashed statements) f = absurd f

revision_is : (r : Revision) → FineRevision r → revision_fits r ≡ true
revision_is r f =
    and_from _ _ (and_from _ _ (and_from _ _ (address_is r.address f.strand f.sequence) (digest_fits r.hash f.hash))
    (and_from _ _ (and_from _ _ f.id (lt-ltb r.metadata.version (2 ^ 64) f.version)) f.tx))
    (content_is r.content f.content)

block_is : (b : Block) → FineBlock b → block_fits b ≡ true
block_is b f =
    let header : header_fits b.header ≡ true =
    and_from _ _ (and_from _ _ (address_is b.header.address f.strand f.sequence) f.tx)
    (lt-ltb b.header.revisions (2 ^ 32) f.number) in
    let hashes : hashes_fit b ≡ true =
    and_from _ _ (and_from _ _
    (and_from _ _ (and_from _ _ (digest_fits b.hash f.digests.hash) (digest_fits b.entries f.digests.entries))
    (digest_fits b.previous f.digests.previous))
    (eq-eqb _ 3 f.digests.count))
    (passes entry_fits b.list (all_like IsEntry (λ h. entry_fits h ≡ true) entry_is b.list f.digests.list)) in
    let place : place_fits b.info.place ≡ true =
    and_from _ _ (lt-ltb b.info.place.session (2 ^ 32) f.session)
    (lt-ltb b.info.place.transaction (2 ^ 32) f.transaction) in
    let info : info_fits b.info ≡ true =
    and_from _ _ (and_from _ _
    (and_from _ _ place (passes schema_fits b.info.schema
    (all_like FineChange (λ c. schema_fits c ≡ true) (λ c x. x.fits) b.info.schema f.schema)))
    (passes table_fits b.info.tables f.tables)) (told_is b.info.said f.said) in
    and_from _ _ (and_from _ _ (and_from _ _ header hashes) info)
    (passes revision_fits b.revisions
    (all_like FineRevision (λ r. revision_fits r ≡ true) revision_is b.revisions f.revisions))

shallow_is : (c : Content) → FineContent c → whole.is_shallow c ≡ true
shallow_is Deleted f = refl
shallow_is (Kept v) f = le-leb (depth_of v) 64 f.depth
shallow_is (Redacted hash) f = absurd f

pub whole_of : (b : Block) → FineBlock b → b.header.revisions ≡ length b.revisions
    → length b.info.tables ≡ length b.revisions → IsWhole b
whole_of b f count tables =
    let v = block_fine b f in
    record {
      count = count;
      tables = tables;
      documents = passes (λ r. whole.is_shallow r.content) b.revisions
          (all_like FineRevision (λ r. whole.is_shallow r.content ≡ true)
          (λ r x. shallow_is r.content x.content) b.revisions f.revisions);
      depth = let d = v.depth in omega (arith, d);
      fits = block_is b f;
      ranges = v.ranges;
    }
