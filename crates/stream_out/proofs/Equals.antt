-- The tests of equal parts pass exactly if the parts are equal.
use Rattle.std.proofs.Common.{◌≡◌, ◌∙◌, ℕ, ◌==◌, ◌&&◌, Bool, true, false, List, map, refl, sym, ap, true≢false}
use Rattle.std.specs.Str.{bytes_eq}
use Rattle.std.specs.Cmp.Lexicographic.{pointwise, pointwise_decides, bytes_decides}
use Rattle.std.proofs.lemmas.Bool.Decides.{Decides-eqb}
use Rattle.ion_values.specs.Equivalent.{in_order, same_time}
use Rattle.ql_types.specs.declared.Hash32.{Hash32}
use Rattle.ql_types.specs.declared.Hash.{Hash}
use Rattle.ql_types.specs.declared.Hash.TheVariants.{Empty, Full}
use Rattle.ql_types.specs.declared.TableId.{TableId}
use Rattle.ql_types.specs.declared.Place.{Place}
use Rattle.ql_types.specs.declared.BlockAddress.{BlockAddress}
use Rattle.ledger_model.specs.declared.block.Said.{Said}
use Rattle.ledger_model.specs.declared.block.Told.{Told}
use Rattle.ledger_model.specs.declared.block.Told.TheVariants as told
use Rattle.ledger_model.specs.declared.block.Schema.{Schema}
use Rattle.ledger_model.specs.declared.block.Schema.TheVariants.{Create, Index, Drop, Redact}
use Rattle.ledger_model.specs.declared.block.Info.{Info}
use Rattle.ledger_model.specs.declared.block.Header.{Header}
use Rattle.ledger_model.specs.declared.block.Content.{Content}
use Rattle.ledger_model.specs.declared.block.Content.TheVariants.{Deleted, Kept, Redacted}
use Rattle.ledger_model.specs.declared.block.Metadata.{Metadata}
use Rattle.ledger_model.specs.declared.block.Revision.{Revision}
use Rattle.ledger_model.specs.declared.block.Block.{Block}
use Rattle.ledger_model.specs.Follows.{same_address}
use Rattle.ledger_model.specs.Damages.{same_hash, same_entry}
use Rattle.ion_same.specs.Same.{is_same}
use Rattle.value_codec.proofs.Inverse.{left, right}
use Rattle.ion_same.proofs.Sameness.{values-decide, lists-decide, time_is, time_own}
use Rattle.stream_out.specs.declared.record.RevisionSummary.{RevisionSummary}
use Rattle.stream_out.specs.declared.record.Summary.{Summary}
use Rattle.stream_out.specs.declared.record.Details.{Details}
use Rattle.stream_out.specs.Same.{TellsEqual, same_said, same_told, same_table, same_change, same_place, same_info, same_content, same_metadata, same_revision, same_header, same_hashes, same_block, same_listed, same_summary, same_details}

-- ---- of a test that passes where the values are equal, by its values that are equal

-- what is equal passes, if each value passes beside itself
own : {A : Type 0} (test : A → A → Bool) → ((a : A) → test a a ≡ true) → (a b : A) → a ≡ b → test a b ≡ true
own test itself a b e = ap (test a) (sym e) ∙ itself a

both : (a b : Bool) → a ≡ true → b ≡ true → (a && b) ≡ true
both true b e f = f
both false b e f = cc

nat_is : (a b : ℕ) → (a == b) ≡ true → a ≡ b
nat_is a b h = (Decides-eqb a b).0 h

nat_own : (a : ℕ) → (a == a) ≡ true
nat_own a = (Decides-eqb a a).1 refl

bytes_own : (a : List ℕ) → bytes_eq a a ≡ true
bytes_own a = (bytes_decides a a).1 refl

-- ---- ids, hashes, addresses

hash_is : (a b : Hash32) → same_hash a b ≡ true → a ≡ b
hash_is a b h = let bytes : a.bytes ≡ b.bytes = (bytes_decides _ _).0 h in λ i. record { bytes = bytes i }

hash_own : (a : Hash32) → same_hash a a ≡ true
hash_own a = bytes_own a.bytes

entry_is : (a b : Hash) → same_entry a b ≡ true → a ≡ b
entry_is Empty Empty h = refl
entry_is (Full a) (Full b) h = ap Full (hash_is a b h)
entry_is Empty (Full b) h = absurd (true≢false (sym h))
entry_is (Full a) Empty h = absurd (true≢false (sym h))

entry_own : (a : Hash) → same_entry a a ≡ true
entry_own Empty = refl
entry_own (Full a) = hash_own a

entry-tells : TellsEqual same_entry
entry-tells a b = (entry_is a b, own same_entry entry_own a b)

address_is : (a b : BlockAddress) → same_address a b ≡ true → a ≡ b
address_is a b h =
    let strand : a.strand.raw ≡ b.strand.raw = nat_is _ _ (left _ _ h) in
    let sequence : a.sequence ≡ b.sequence = nat_is _ _ (right (a.strand.raw == b.strand.raw) _ h) in
    λ i. record { strand = record { raw = strand i }; sequence = sequence i }

address_own : (a : BlockAddress) → same_address a a ≡ true
address_own a = both _ _ (nat_own a.strand.raw) (nat_own a.sequence)

table_is : (a b : TableId) → same_table a b ≡ true → a ≡ b
table_is a b h = let raw : a.raw ≡ b.raw = nat_is _ _ h in λ i. record { raw = raw i }

table_own : (a : TableId) → same_table a a ≡ true
table_own a = nat_own a.raw

table-tells : TellsEqual same_table
table-tells a b = (table_is a b, own same_table table_own a b)

-- ---- what a transaction said and did

said_is : (a b : Said) → same_said a b ≡ true → a ≡ b
said_is a b h =
    let two = left (bytes_eq a.text b.text && in_order (map is_same a.params) b.params) _ h in
    let text : a.text ≡ b.text = (bytes_decides _ _).0 (left _ _ two) in
    let params : a.params ≡ b.params = (lists-decide a.params b.params).0 (right (bytes_eq a.text b.text) _ two) in
    let rows : a.answer.rows ≡ b.answer.rows = (lists-decide a.answer.rows b.answer.rows).0 (right (bytes_eq a.text b.text && in_order (map is_same a.params) b.params) _ h) in
    λ i. record { text = text i; params = params i; answer = record { rows = rows i } }

said_own : (a : Said) → same_said a a ≡ true
said_own a = both _ _ (both _ _ (bytes_own a.text) ((lists-decide a.params a.params).1 refl)) ((lists-decide a.answer.rows a.answer.rows).1 refl)

said-tells : TellsEqual same_said
said-tells a b = (said_is a b, own same_said said_own a b)

told_is : (a b : Told) → same_told a b ≡ true → a ≡ b
told_is (told.Said a) (told.Said b) h = ap (λ x. told.Said x) ((pointwise_decides said-tells a b).0 h)
told_is (told.Hashed a) (told.Hashed b) h = ap (λ x. told.Hashed x) (hash_is a b h)
told_is (told.Said a) (told.Hashed b) h = absurd (true≢false (sym h))
told_is (told.Hashed a) (told.Said b) h = absurd (true≢false (sym h))

told_own : (a : Told) → same_told a a ≡ true
told_own (told.Said a) = (pointwise_decides said-tells a a).1 refl
told_own (told.Hashed a) = hash_own a

change_is : (a b : Schema) → same_change a b ≡ true → a ≡ b
change_is (Create a s) (Create b t) h =
    let name : a ≡ b = (bytes_decides a b).0 (left _ _ h) in
    let table : s ≡ t = table_is s t (right (bytes_eq a b) _ h) in
    λ i. Create (name i) (table i)
change_is (Index a s) (Index b t) h =
    let name : a ≡ b = (bytes_decides a b).0 (left _ _ h) in
    let table : s ≡ t = table_is s t (right (bytes_eq a b) _ h) in
    λ i. Index (name i) (table i)
change_is (Drop a s) (Drop b t) h =
    let name : a ≡ b = (bytes_decides a b).0 (left _ _ h) in
    let table : s ≡ t = table_is s t (right (bytes_eq a b) _ h) in
    λ i. Drop (name i) (table i)
change_is (Redact a s d) (Redact b t e) h =
    let two = left (same_address a b && same_table s t) _ h in
    let address : a ≡ b = address_is a b (left _ _ two) in
    let table : s ≡ t = table_is s t (right (same_address a b) _ two) in
    let raw : d.raw ≡ e.raw = nat_is _ _ (right (same_address a b && same_table s t) _ h) in
    λ i. Redact (address i) (table i) (record { raw = raw i })
change_is _ _ h = absurd (true≢false (sym h))

change_own : (a : Schema) → same_change a a ≡ true
change_own (Create a s) = both _ _ (bytes_own a) (table_own s)
change_own (Index a s) = both _ _ (bytes_own a) (table_own s)
change_own (Drop a s) = both _ _ (bytes_own a) (table_own s)
change_own (Redact a s d) = both _ _ (both _ _ (address_own a) (table_own s)) (nat_own d.raw)

change-tells : TellsEqual same_change
change-tells a b = (change_is a b, own same_change change_own a b)

place_is : (a b : Place) → same_place a b ≡ true → a ≡ b
place_is a b h =
    let session : a.session ≡ b.session = nat_is _ _ (left _ _ h) in
    let transaction : a.transaction ≡ b.transaction = nat_is _ _ (right (a.session == b.session) _ h) in
    λ i. record { session = session i; transaction = transaction i }

place_own : (a : Place) → same_place a a ≡ true
place_own a = both _ _ (nat_own a.session) (nat_own a.transaction)

info_is : (a b : Info) → same_info a b ≡ true → a ≡ b
info_is a b h =
    let three = left (same_place a.place b.place && same_told a.said b.said && pointwise same_change a.schema b.schema) _ h in
    let two = left (same_place a.place b.place && same_told a.said b.said) _ three in
    let place : a.place ≡ b.place = place_is _ _ (left _ _ two) in
    let said : a.said ≡ b.said = told_is _ _ (right (same_place a.place b.place) _ two) in
    let schema : a.schema ≡ b.schema = (pointwise_decides change-tells _ _).0 (right (same_place a.place b.place && same_told a.said b.said) _ three) in
    let tables : a.tables ≡ b.tables = (pointwise_decides table-tells _ _).0 (right (same_place a.place b.place && same_told a.said b.said && pointwise same_change a.schema b.schema) _ h) in
    λ i. record { place = place i; said = said i; schema = schema i; tables = tables i }

info_own : (a : Info) → same_info a a ≡ true
info_own a =
    both _ _ (both _ _ (both _ _ (place_own a.place) (told_own a.said)) ((pointwise_decides change-tells a.schema a.schema).1 refl))
    ((pointwise_decides table-tells a.tables a.tables).1 refl)

-- ---- revisions

content_is : (a b : Content) → same_content a b ≡ true → a ≡ b
content_is Deleted Deleted h = refl
content_is (Kept a) (Kept b) h = ap (λ x. Kept x) ((values-decide a b).0 h)
content_is (Redacted a) (Redacted b) h = ap (λ x. Redacted x) (hash_is a b h)
content_is _ _ h = absurd (true≢false (sym h))

content_own : (a : Content) → same_content a a ≡ true
content_own Deleted = refl
content_own (Kept a) = (values-decide a a).1 refl
content_own (Redacted a) = hash_own a

metadata_is : (a b : Metadata) → same_metadata a b ≡ true → a ≡ b
metadata_is a b h =
    let three = left ((a.id.raw == b.id.raw) && (a.version == b.version) && same_time a.time b.time) _ h in
    let two = left ((a.id.raw == b.id.raw) && (a.version == b.version)) _ three in
    let id : a.id.raw ≡ b.id.raw = nat_is _ _ (left _ _ two) in
    let version : a.version ≡ b.version = nat_is _ _ (right (a.id.raw == b.id.raw) _ two) in
    let time : a.time ≡ b.time = time_is _ _ (right ((a.id.raw == b.id.raw) && (a.version == b.version)) _ three) in
    let tx : a.tx.raw ≡ b.tx.raw = nat_is _ _ (right ((a.id.raw == b.id.raw) && (a.version == b.version) && same_time a.time b.time) _ h) in
    λ i. record { id = record { raw = id i }; version = version i; time = time i; tx = record { raw = tx i } }

metadata_own : (a : Metadata) → same_metadata a a ≡ true
metadata_own a = both _ _ (both _ _ (both _ _ (nat_own a.id.raw) (nat_own a.version)) (time_own a.time)) (nat_own a.tx.raw)

revision_is : (a b : Revision) → same_revision a b ≡ true → a ≡ b
revision_is a b h =
    let three = left (same_address a.address b.address && same_hash a.hash b.hash && same_content a.content b.content) _ h in
    let two = left (same_address a.address b.address && same_hash a.hash b.hash) _ three in
    let address : a.address ≡ b.address = address_is _ _ (left _ _ two) in
    let hash : a.hash ≡ b.hash = hash_is _ _ (right (same_address a.address b.address) _ two) in
    let content : a.content ≡ b.content = content_is _ _ (right (same_address a.address b.address && same_hash a.hash b.hash) _ three) in
    let metadata : a.metadata ≡ b.metadata = metadata_is _ _ (right (same_address a.address b.address && same_hash a.hash b.hash && same_content a.content b.content) _ h) in
    λ i. record { address = address i; hash = hash i; content = content i; metadata = metadata i }

revision_own : (a : Revision) → same_revision a a ≡ true
revision_own a = both _ _ (both _ _ (both _ _ (address_own a.address) (hash_own a.hash)) (content_own a.content)) (metadata_own a.metadata)

revision-tells : TellsEqual same_revision
revision-tells a b = (revision_is a b, own same_revision revision_own a b)

-- ---- blocks

header_is : (a b : Header) → same_header a b ≡ true → a ≡ b
header_is a b h =
    let three = left (same_address a.address b.address && (a.tx.raw == b.tx.raw) && same_time a.time b.time) _ h in
    let two = left (same_address a.address b.address && (a.tx.raw == b.tx.raw)) _ three in
    let address : a.address ≡ b.address = address_is _ _ (left _ _ two) in
    let tx : a.tx.raw ≡ b.tx.raw = nat_is _ _ (right (same_address a.address b.address) _ two) in
    let time : a.time ≡ b.time = time_is _ _ (right (same_address a.address b.address && (a.tx.raw == b.tx.raw)) _ three) in
    let revisions : a.revisions ≡ b.revisions = nat_is _ _ (right (same_address a.address b.address && (a.tx.raw == b.tx.raw) && same_time a.time b.time) _ h) in
    λ i. record { address = address i; tx = record { raw = tx i }; time = time i; revisions = revisions i }

header_own : (a : Header) → same_header a a ≡ true
header_own a = both _ _ (both _ _ (both _ _ (address_own a.address) (nat_own a.tx.raw)) (time_own a.time)) (nat_own a.revisions)

hashes_own : (a : Block) → same_hashes a a ≡ true
hashes_own a =
    both _ _ (both _ _ (both _ _ (hash_own a.hash) (hash_own a.entries)) (hash_own a.previous)) ((pointwise_decides entry-tells a.list a.list).1 refl)

block_is : (a b : Block) → same_block a b ≡ true → a ≡ b
block_is a b h =
    let three = left (same_header a.header b.header && same_hashes a b && same_info a.info b.info) _ h in
    let two = left (same_header a.header b.header && same_hashes a b) _ three in
    let hashes = right (same_header a.header b.header) _ two in
    let h3 = left (same_hash a.hash b.hash && same_hash a.entries b.entries && same_hash a.previous b.previous) _ hashes in
    let h2 = left (same_hash a.hash b.hash && same_hash a.entries b.entries) _ h3 in
    let header : a.header ≡ b.header = header_is _ _ (left _ _ two) in
    let hash : a.hash ≡ b.hash = hash_is _ _ (left _ _ h2) in
    let entries : a.entries ≡ b.entries = hash_is _ _ (right (same_hash a.hash b.hash) _ h2) in
    let previous : a.previous ≡ b.previous = hash_is _ _ (right (same_hash a.hash b.hash && same_hash a.entries b.entries) _ h3) in
    let list : a.list ≡ b.list = (pointwise_decides entry-tells _ _).0 (right (same_hash a.hash b.hash && same_hash a.entries b.entries && same_hash a.previous b.previous) _ hashes) in
    let info : a.info ≡ b.info = info_is _ _ (right (same_header a.header b.header && same_hashes a b) _ three) in
    let revisions : a.revisions ≡ b.revisions = (pointwise_decides revision-tells _ _).0 (right (same_header a.header b.header && same_hashes a b && same_info a.info b.info) _ h) in
    λ i. record { header = header i; hash = hash i; entries = entries i; previous = previous i; list = list i; info = info i; revisions = revisions i }

block_own : (a : Block) → same_block a a ≡ true
block_own a =
    both _ _ (both _ _ (both _ _ (header_own a.header) (hashes_own a)) (info_own a.info)) ((pointwise_decides revision-tells a.revisions a.revisions).1 refl)

-- ---- records

listed_is : (a b : RevisionSummary) → same_listed a b ≡ true → a ≡ b
listed_is a b h =
    let hash : a.hash ≡ b.hash = hash_is _ _ (left _ _ h) in
    let raw : a.document.raw ≡ b.document.raw = nat_is _ _ (right (same_hash a.hash b.hash) _ h) in
    λ i. record { hash = hash i; document = record { raw = raw i } }

listed_own : (a : RevisionSummary) → same_listed a a ≡ true
listed_own a = both _ _ (hash_own a.hash) (nat_own a.document.raw)

listed-tells : TellsEqual same_listed
listed-tells a b = (listed_is a b, own same_listed listed_own a b)

summary_is : (a b : Summary) → same_summary a b ≡ true → a ≡ b
summary_is a b h =
    let block : a.block ≡ b.block = block_is _ _ (left _ _ h) in
    let listed : a.listed ≡ b.listed = (pointwise_decides listed-tells _ _).0 (right (same_block a.block b.block) _ h) in
    λ i. record { block = block i; listed = listed i }

summary_own : (a : Summary) → same_summary a a ≡ true
summary_own a = both _ _ (block_own a.block) ((pointwise_decides listed-tells a.listed a.listed).1 refl)

pub summary-tells : TellsEqual same_summary
summary-tells a b = (summary_is a b, own same_summary summary_own a b)

details_is : (a b : Details) → same_details a b ≡ true → a ≡ b
details_is a b h =
    let two = left (same_table a.table b.table && bytes_eq a.name b.name) _ h in
    let table : a.table ≡ b.table = table_is _ _ (left _ _ two) in
    let name : a.name ≡ b.name = (bytes_decides _ _).0 (right (same_table a.table b.table) _ two) in
    let revision : a.revision ≡ b.revision = revision_is _ _ (right (same_table a.table b.table && bytes_eq a.name b.name) _ h) in
    λ i. record { table = table i; name = name i; revision = revision i }

details_own : (a : Details) → same_details a a ≡ true
details_own a = both _ _ (both _ _ (table_own a.table) (bytes_own a.name)) (revision_own a.revision)

pub details-tells : TellsEqual same_details
details-tells a b = (details_is a b, own same_details details_own a b)
