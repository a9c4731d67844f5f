-- The hashes that the value of a block gives of its parts are those of its parts.
use Rattle.std.proofs.Common.{◌≡◌, ◌∙◌, ◌==◌, ◌&&◌, ℕ, Bool, true, false, List, [], ◌∷◌, ◌++◌, length, map, Option, Some, None, option_map, refl, sym, ap, codes}
use Rattle.std.specs.List.{list_all}
use Rattle.ion_values.specs.declared.value.Value.{Value}
use Rattle.ion_values.specs.declared.value.Field.{Field}
use Rattle.ion_values.specs.declared.value.Body.{out-Body}
use Rattle.ql_types.specs.declared.Hash32.{Hash32}
use Rattle.ledger_model.specs.declared.block.Content.{Content}
use Rattle.ledger_model.specs.declared.block.Content.TheVariants.{Deleted, Kept, Redacted}
use Rattle.ledger_model.specs.declared.block.Revision.{Revision}
use Rattle.ledger_model.specs.declared.block.Info.{Info}
use Rattle.ledger_model.specs.declared.block.Told.{Told}
use Rattle.ledger_model.specs.declared.block.Told.TheVariants as told
use Rattle.ledger_model.specs.declared.block.Block.{Block}
use Rattle.ledger_model.specs.Values.{field}
use Rattle.ledger_model.specs.Journal.{structure, address_value, hash_value, metadata_value, data_fields, told_field, info_fields, info_value, revision_value, block_value}
use Rattle.ledger_model.specs.Seals.{info_hash, told_hash}
use Rattle.ledger_model.specs.Whole.{IsWhole, hashes_fit, header_fits, info_fits, place_fits, revision_fits, schema_fits, table_fits, told_fits}
use Rattle.ledger_model.specs.Script.{each}
use Rattle.value_codec.specs.ReadParts.{hash_in}
use Rattle.block_form.specs.declared.part_hashes.PartHashes.{PartHashes}
use Rattle.block_form.specs.Hashed.{hash_for, info_hash_in, metadata_hash, metadata_hash_in, part_hashes, part_hashes_in, TellParts}
use Rattle.value_codec.proofs.Inverse.{left, right}
use Rattle.value_codec.proofs.SmallParts.{fields-puts, hash-puts, list-puts}

fields_with : Content → Revision → List Field
fields_with content r =
    (field (codes "blockAddress") (address_value r.address) ∷ field (codes "hash") (hash_value r.hash) ∷ [])
    ++ data_fields content ++ field (codes "metadata") (metadata_value r.metadata) ∷ []

metadata_hash_with : (content : Content) (r : Revision) → metadata_hash_in (structure (fields_with content r)) ≡ Some (metadata_hash r)
unfolding fields_with
metadata_hash_with Deleted r = rw (fields-puts _) refl
metadata_hash_with (Kept v) r = rw (fields-puts _) refl
metadata_hash_with (Redacted hash) r = rw (fields-puts _) refl

metadata_hash_put : (r : Revision) → metadata_hash_in (revision_value r) ≡ Some (metadata_hash r)
unfolding fields_with
metadata_hash_put r = metadata_hash_with r.content r

each_put : {A B : Type 0} (read : Value → Option B) (value : A → Value) (made : A → B) → ((x : A) → read (value x) ≡ Some (made x))
    → (xs : List A) → each read (map value xs) ≡ Some (map made xs)
each_put read value made puts [] = refl
each_put read value made puts (x ∷ xs) =
    let this = puts x in
    let more = each_put read value made puts xs in
    rw (this, more) refl

-- ---- what a block said and did

told_for : (t : Told) → told_fits t ≡ true → hash_for (told_field t) ≡ Some (told_hash t)
told_for (told.Said said) fits = refl
told_for (told.Hashed hash) fits = ap (option_map (λ (h : Hash32). h.bytes)) (hash-puts hash fits)

info_hash_put : (i : Info) (b : Block) → told_fits i.said ≡ true → info_hash_in (info_value i b.revisions) ≡ Some (info_hash i b.revisions)
unfolding info_hash
info_hash_put i b fits =
    let said = told_for i.said fits in
    rw (fields-puts (info_fields i b.revisions), said) refl

pub part_hashes_put : (b : Block) → told_fits b.info.said ≡ true → part_hashes_in (block_value b) ≡ Some (part_hashes b)
part_hashes_put b fits =
    let metadata = each_put metadata_hash_in revision_value metadata_hash metadata_hash_put b.revisions in
    let said = info_hash_put b.info b fits in
    rw (fields-puts _, list-puts (map revision_value b.revisions), metadata, said) refl

told_of : (b : Block) → IsWhole b → told_fits b.info.said ≡ true
told_of b whole =
    let i = b.info in
    right (place_fits i.place && list_all schema_fits i.schema && list_all table_fits i.tables) (told_fits i.said)
    (right (header_fits b.header && hashes_fit b) (info_fits i)
    (left (header_fits b.header && hashes_fit b && info_fits i) (list_all revision_fits b.revisions) whole.fits))

-- ---- a stored hash that is no hash

of_other_length : (bytes : List ℕ) → (length bytes == 32) ≡ false → hash_in (hash_value (record { bytes = bytes })) ≡ None
unfolding hash_in out-Body denote.Hole.Carrier.out
of_other_length bytes other = rw other refl

told_unfit : (t : Told) → told_fits t ≡ false → hash_for (told_field t) ≡ None
told_unfit (told.Said said) unfit = cc
told_unfit (told.Hashed hash) unfit = ap (option_map (λ (h : Hash32). h.bytes)) (of_other_length hash.bytes unfit)

info_unfit : (i : Info) (b : Block) → told_fits i.said ≡ false → info_hash_in (info_value i b.revisions) ≡ None
info_unfit i b unfit =
    let said = told_unfit i.said unfit in
    rw (fields-puts (info_fields i b.revisions), said) refl

part_hashes_unfit : (b : Block) → told_fits b.info.said ≡ false → part_hashes_in (block_value b) ≡ None
part_hashes_unfit b unfit =
    let metadata = each_put metadata_hash_in revision_value metadata_hash metadata_hash_put b.revisions in
    let said = info_unfit b.info b unfit in
    rw (fields-puts _, list-puts (map revision_value b.revisions), metadata, said) refl

-- ---- of a value

pub part_hashes_tell : (v : Value) → TellParts v (part_hashes_in v)
part_hashes_tell v = go (part_hashes_in v) refl where
  at_block : (b : Block) → v ≡ block_value b → part_hashes_in v ≡ part_hashes_in (block_value b)
  at_block b is = ap part_hashes_in is

  told_by : (b : Block) (p : PartHashes) → part_hashes_in (block_value b) ≡ Some p → (fits : Bool) → told_fits b.info.said ≡ fits
      → p ≡ part_hashes b
  told_by b p e true fits = let h = part_hashes_put b fits in cc
  told_by b p e false unfit = let h = part_hashes_unfit b unfit in cc

  go : (o : Option PartHashes) → part_hashes_in v ≡ o → TellParts v o
  go (Some p) e = λ b is. told_by b p (sym (at_block b is) ∙ e) (told_fits b.info.said) refl
  go None e = λ b whole is. let h = part_hashes_put b (told_of b whole) in let k = at_block b is in cc
