-- The hashes of a block are those of its contents where they are so of the block that it is made of.
use Rattle.std.proofs.Common.{◌≡◌, ◌∙◌, ℕ, Bool, ◌&&◌, List, [], ◌∷◌, map, codes, refl, ap}
use Rattle.std.specs.List.{list_all, list_any}
use Rattle.std.specs.Cmp.Lexicographic.{pointwise}
use Rattle.ion_values.specs.declared.value.Value.{Value}
use Rattle.hash_model.specs.PairHash.{dot32}
use Rattle.hash_model.specs.Serialize.{field_hash, hash_of, struct_hash}
use Rattle.hash_model.specs.Tree.{root_of}
use Rattle.ql_types.specs.declared.Hash32.{Hash32}
use Rattle.ql_types.specs.declared.Hash.{Hash}
use Rattle.ql_types.specs.declared.Hash.TheVariants.{Full}
use Rattle.ql_types.specs.declared.TableId.{TableId}
use Rattle.ledger_model.specs.declared.block.Block.{Block}
use Rattle.ledger_model.specs.declared.block.Info.{Info}
use Rattle.ledger_model.specs.declared.block.Revision.{Revision}
use Rattle.ledger_model.specs.Compaction.{compacted_block, shown_revisions, shown_told}
use Rattle.ledger_model.specs.Damages.{has_hashes, has_revision_hash, same_entry, same_hash}
use Rattle.ledger_model.specs.HashesAsked.{redacts_any}
use Rattle.ledger_model.specs.Journal.{document_value, document_values, header_value, list, place_field, schema_field}
use Rattle.ledger_model.specs.Seals.{entries_hash, info_hash, revisions_root, told_hash}
use Rattle.ledger_model.specs.Values.{field}
use Rattle.laws_compaction.proofs.Keeps.{revision_hash_stays, told_hash_stays}

module _ (blocks : List Block) where
  pub documents_shown : (ts : List TableId) (rs : List Revision)
      → document_values ts (shown_revisions blocks ts rs) ≡ document_values ts rs
  documents_shown [] rs = refl
  documents_shown (t ∷ ts) [] = refl
  documents_shown (t ∷ ts) (r ∷ rs) = ap (λ (vs : List Value). document_value t r ∷ vs) (documents_shown ts rs)

  hashes_shown : (ts : List TableId) (rs : List Revision)
      → map (λ (r : Revision). r.hash) (shown_revisions blocks ts rs) ≡ map (λ (r : Revision). r.hash) rs
  hashes_shown [] rs = refl
  hashes_shown (t ∷ ts) [] = refl
  hashes_shown (t ∷ ts) (r ∷ rs) = ap (λ (hs : List Hash32). r.hash ∷ hs) (hashes_shown ts rs)

  each_shown : (ts : List TableId) (rs : List Revision)
      → list_all has_revision_hash (shown_revisions blocks ts rs) ≡ list_all has_revision_hash rs
  each_shown [] rs = refl
  each_shown (t ∷ ts) [] = refl
  each_shown (t ∷ ts) (r ∷ rs) =
      ap (λ (h : Hash32). same_hash r.hash h && list_all has_revision_hash (shown_revisions blocks ts rs))
      (revision_hash_stays blocks (record { table = t; revision = r }))
      ∙ ap (λ (x : Bool). has_revision_hash r && x) (each_shown ts rs)

  info_shown : (hides : Bool) (i : Info) (rs : List Revision)
      → info_hash (record i { said = shown_told hides i.said }) (shown_revisions blocks i.tables rs) ≡ info_hash i rs
  unfolding info_hash
  info_shown hides i rs =
      ap (λ (h : List ℕ). struct_hash (field_hash (place_field i) ∷ h ∷ field_hash (schema_field i)
      ∷ field_hash (field (codes "documents")
      (list (document_values i.tables (shown_revisions blocks i.tables rs)))) ∷ []))
      (told_hash_stays hides i.said)
      ∙ ap (λ (vs : List Value). struct_hash
      (field_hash (place_field i) ∷ told_hash i.said ∷ field_hash (schema_field i)
      ∷ field_hash (field (codes "documents") (list vs)) ∷ []))
      (documents_shown i.tables rs)

  -- the tests of a block's hashes, by what its contents come to
  abbrev tests : Block → Hash32 → Hash → Bool → Bool
  tests b said root each =
      let head = hash_of (header_value b.header) in
      let entries = entries_hash said root head in
      each && pointwise same_entry b.list (Full said ∷ root ∷ Full head ∷ []) && same_hash b.entries entries
      && same_hash b.hash (dot32 entries b.previous)

  pub hashes_hold : (b : Block) (later : List Block) → has_hashes (compacted_block blocks b later) ≡ has_hashes b
  hashes_hold b later =
      let said = info_shown (list_any redacts_any (b ∷ later)) b.info b.revisions in
      let root = ap (λ (hs : List Hash32). root_of hs) (hashes_shown b.info.tables b.revisions) in
      let each = each_shown b.info.tables b.revisions in
      ap (λ (h : Hash32). tests b h (revisions_root (shown_revisions blocks b.info.tables b.revisions))
      (list_all has_revision_hash (shown_revisions blocks b.info.tables b.revisions))) said
      ∙ ap (λ (h : Hash). tests b (info_hash b.info b.revisions) h
      (list_all has_revision_hash (shown_revisions blocks b.info.tables b.revisions))) root
      ∙ ap (λ (x : Bool). tests b (info_hash b.info b.revisions) (revisions_root b.revisions) x) each
