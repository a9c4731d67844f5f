-- The hashes of those parts of a block that stand in its value as they are hashed (Ion Hash 1.0): what it said and
-- did, and each revision's metadata. And what is read of a value whose hashes are checked.
use Rattle.std.specs.Prelude.{◌≡◌, ◌≢◌, ℕ, List, [], ◌∷◌, map, codes, slice_get, Option, Some, None, option_map, if◌then◌else◌}
use Rattle.std.specs.Str.{bytes_eq}
use Rattle.hash_model.specs.Serialize.{field_hash, hash_of, struct_hash}
use Rattle.ion_values.specs.declared.value.Value.{Value}
use Rattle.ion_values.specs.declared.value.Field.{Field}
use Rattle.ql_types.specs.declared.Hash32.{Hash32}
use Rattle.hash_model.specs.PairHash.{dot32}
use Rattle.ledger_model.specs.declared.block.Content.{Content}
use Rattle.ledger_model.specs.declared.block.Content.TheVariants.{Deleted, Kept, Redacted}
use Rattle.ledger_model.specs.declared.block.Revision.{Revision}
use Rattle.ledger_model.specs.declared.block.Said.{Said}
use Rattle.ledger_model.specs.declared.block.Told.{Told}
use Rattle.ledger_model.specs.declared.block.Told.TheVariants as told
use Rattle.ledger_model.specs.declared.block.Block.{Block}
use Rattle.ledger_model.specs.Values.{field, list_in, fields_in}
use Rattle.ledger_model.specs.Script.{and_then, each}
use Rattle.ledger_model.specs.Journal.{metadata_value, hash_value, told_field, block_value}
use Rattle.ledger_model.specs.Seals.{info_hash, told_hash}
use Rattle.ledger_model.specs.Whole.{IsWhole}
use Rattle.ledger_model.specs.Damages as damages
use Rattle.block_form.specs.declared.part_hashes.PartHashes.{PartHashes}
use Rattle.block_form.specs.declared.checked.CheckedBlock.{CheckedBlock}
use Rattle.block_form.specs.declared.contents.HashedContent.{HashedContent}
use Rattle.block_form.specs.declared.told.HashedField.{HashedField}
use Rattle.value_codec.specs.ReadParts.{hash_in}
use Rattle.block_form.specs.ReadBack.{IsReadAs}

-- ---- of a block

abbrev pub metadata_hash : Revision → Hash32
metadata_hash r = hash_of (metadata_value r.metadata)

abbrev pub part_hashes : Block → PartHashes
part_hashes b = record { said = info_hash b.info b.revisions; metadata = map metadata_hash b.revisions }

-- the field of a revision's data, or of the hash that stands for them; a delete has none
abbrev pub data_field : Content → Option Field
data_field Deleted = None
data_field (Kept v) = Some (field (codes "data") v)
data_field (Redacted hash) = Some (field (codes "dataHash") (hash_value hash))

-- the hash of the data, or the one that stands for them
abbrev pub data_hash : Content → Option Hash32
data_hash Deleted = None
data_hash (Kept v) = Some (hash_of v)
data_hash (Redacted hash) = Some hash

-- what a revision's value has of this content, with its hash
abbrev pub hashed_content : Content → HashedContent
hashed_content c = record { field = data_field c; hash = data_hash c }

-- a revision's hash, by that of its metadata and that of its data
abbrev pub joined_hash : Hash32 → Option Hash32 → Hash32
joined_hash metadata None = metadata
joined_hash metadata (Some content) = dot32 metadata content

-- the field of what it tells of its statements, with its hash or the one that stands in its place
abbrev pub hashed_told : Told → HashedField
hashed_told t = record { field = told_field t; hash = told_hash t }

-- of these statements
abbrev pub hashed_said : List Said → HashedField
hashed_said said = hashed_told (told.Said said)

-- of the fields of what the block said and did, of which the second has this hash
abbrev pub hashes_with : List ℕ → List Field → List (List ℕ)
hashes_with hash (place ∷ said ∷ more) = field_hash place ∷ hash ∷ map field_hash more
hashes_with hash fields = map field_hash fields

-- ---- of the block whose value this is

-- of a field of what it said and did, or the hash that is stored for the statements
abbrev pub hash_for : Field → Option (List ℕ)
hash_for f =
    if bytes_eq f.name (codes "statementsHash") then option_map (λ (h : Hash32). h.bytes) (hash_in f.value)
    else Some (field_hash f)

abbrev pub info_hash_in : Value → Option Hash32
info_hash_in v = option_map struct_hash (and_then (fields_in v) (each hash_for))

-- the last field of a revision has its metadata
abbrev pub last_field : List Field → Option Field
last_field (f ∷ g ∷ h ∷ []) = Some h
last_field (f ∷ g ∷ d ∷ h ∷ []) = Some h
last_field _ = None

abbrev pub metadata_hash_in : Value → Option Hash32
metadata_hash_in v = option_map (λ (f : Field). hash_of f.value) (and_then (fields_in v) last_field)

-- the last two of a block's nine fields have what it said and did, and its revisions
abbrev pub part_hashes_of : List Field → Option PartHashes
part_hashes_of fields =
    and_then (slice_get fields 7) (λ (info : Field).
    and_then (slice_get fields 8) (λ (revisions : Field).
    and_then (and_then (list_in revisions.value) (each metadata_hash_in)) (λ (metadata : List Hash32).
    and_then (info_hash_in info.value) (λ (said : Hash32).
    Some (record { said = said; metadata = metadata })))))

abbrev pub part_hashes_in : Value → Option PartHashes
part_hashes_in v = and_then (fields_in v) part_hashes_of

-- these are the hashes of the parts of the block whose value this is, or it is the value of no whole block
abbrev pub TellParts : Value → Option PartHashes → Type 0
TellParts v (Some p) = (b : Block) → v ≡ block_value b → p ≡ part_hashes b
TellParts v None = (b : Block) → IsWhole b → v ≢ block_value b

-- ---- blocks whose hashes are checked

-- a value is read as its block, with whether its hashes are those of what they stand for
abbrev pub IsCheckedAs : Value → Option CheckedBlock → Type 0
IsCheckedAs v (Some c) = IsReadAs v (Some c.block) × (c.hashes_hold ≡ damages.has_hashes c.block)
IsCheckedAs v None = IsReadAs v None
