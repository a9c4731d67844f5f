-- The hashes of revisions and blocks. A hash of two hashes is that of the pair (FIPS 180-4 for SHA-256, Ion Hash for
-- values).
use Rattle.std.specs.Prelude.{◌≡◌, ℕ, List, [], ◌∷◌, map}
use Rattle.hash_model.specs.Serialize.{field_hash, hash_of, struct_hash}
use Rattle.hash_model.specs.PairHash.{dot32}
use Rattle.hash_model.specs.Tree.{root_of}
use Rattle.ql_types.specs.declared.Hash32.{Hash32}
use Rattle.ql_types.specs.declared.Hash.{Hash}
use Rattle.ql_types.specs.declared.Hash.TheVariants.{Empty, Full}
use Rattle.ledger_model.specs.declared.block.Content.{Content}
use Rattle.ledger_model.specs.declared.block.Content.TheVariants.{Deleted, Kept, Redacted}
use Rattle.ledger_model.specs.declared.block.Metadata.{Metadata}
use Rattle.ledger_model.specs.declared.block.Revision.{Revision}
use Rattle.ledger_model.specs.declared.block.Told.{Told}
use Rattle.ledger_model.specs.declared.block.Told.TheVariants as told
use Rattle.ledger_model.specs.declared.block.Info.{Info}
use Rattle.ledger_model.specs.declared.block.Header.{Header}
use Rattle.ledger_model.specs.declared.block.Block.{Block}
use Rattle.ledger_model.specs.Journal.{metadata_value, place_field, told_field, schema_field, documents_field, header_value, id_value}

-- of the metadata and the data, whose hash may stand for them, or of the metadata alone for a delete
abbrev pub revision_hash : Content → Metadata → Hash32
revision_hash Deleted m = hash_of (metadata_value m)
revision_hash (Kept v) m = dot32 (hash_of (metadata_value m)) (hash_of v)
revision_hash (Redacted hash) m = dot32 (hash_of (metadata_value m)) hash

-- of the field of the statements, or the hash that stands in its place
abbrev pub told_hash : Told → List ℕ
told_hash (told.Said said) = field_hash (told_field (told.Said said))
told_hash (told.Hashed hash) = hash.bytes

-- of the fields of what a transaction said and did
abbrev pub info_hashes : Info → List Revision → List (List ℕ)
info_hashes i revisions =
    field_hash (place_field i) ∷ told_hash i.said ∷ field_hash (schema_field i)
    ∷ field_hash (documents_field i revisions) ∷ []

-- of what it said and did, so that the statements' own hash may stand for them (Ion Hash 1.0, for structs)
unfoldable pub info_hash : Info → List Revision → Hash32
info_hash i revisions = struct_hash (info_hashes i revisions)

-- of the first two and then of the third, the second being empty or not
abbrev pub entries_hash : Hash32 → Hash → Hash32 → Hash32
entries_hash info Empty header = dot32 info header
entries_hash info (Full revisions) header = dot32 (dot32 info revisions) header

abbrev pub revisions_root : List Revision → Hash
revisions_root revisions = root_of (map (λ r. r.hash) revisions)

-- the block of these parts, with its hashes
abbrev pub sealed : Hash32 → Header → Info → List Revision → Block
sealed previous header info revisions =
    let said = info_hash info revisions in
    let root = revisions_root revisions in
    let head = hash_of (header_value header) in
    let entries = entries_hash said root head in
    record {
      header = header;
      hash = dot32 entries previous;
      entries = entries;
      previous = previous;
      list = Full said ∷ root ∷ Full head ∷ [];
      info = info;
      revisions = revisions;
    }

-- the block's hashes are those of its parts
abbrev pub IsSealed : Block → Type 0
IsSealed b = b ≡ sealed b.previous b.header b.info b.revisions

-- what stands before block 0
abbrev pub strand_hash : ℕ → Hash32
strand_hash strand = hash_of (id_value strand)
