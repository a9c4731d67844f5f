-- Readings of revisions are inverse to their writings.
use Rattle.std.proofs.Common.{◌≡◌, ◌∙◌, ◌^◌, ◌&&◌, Bool, true, false, List, [], ◌∷◌, ◌++◌, Option, Some, None, if◌then◌else◌, refl, sym, ap, subst, bytes_eq, codes}
use Rattle.std.proofs.lemmas.Slice.Eq.{bytes_eq-Decides}
use Rattle.std.specs.Prelude.{option_map}
use Rattle.std.specs.Cmp.Derive.{both_true}
use Rattle.ion_values.specs.declared.value.Value.{Value}
use Rattle.ion_values.specs.declared.value.Field.{Field}
use Rattle.ql_types.specs.declared.Hash32.{Hash32}
use Rattle.ledger_model.specs.declared.block.Content.{Content}
use Rattle.ledger_model.specs.declared.block.Content.TheVariants.{Deleted, Kept, Redacted}
use Rattle.ledger_model.specs.declared.block.Metadata.{Metadata}
use Rattle.ledger_model.specs.declared.block.Revision.{Revision}
use Rattle.ledger_model.specs.Values.{field, fields_in}
use Rattle.ledger_model.specs.Journal.{structure, number, moment, id_value, hash_value, address_value, metadata_value, data_fields, revision_value}
use Rattle.ledger_model.specs.Whole.{id_fits, hash_fits, address_fits, content_fits, metadata_fits, revision_fits}
use Rattle.value_codec.specs.ReadParts.{named, number_in, moment_in, id_in, hash_in, address_in}
use Rattle.block_form.specs.ReadBack.{metadata_of, metadata_in, with_content, content_of, revision_of, revision_in}
use Rattle.value_codec.proofs.Inverse.{Gets, Puts, took, fields-gets, left, right, cons}
use Rattle.value_codec.proofs.SmallParts.{fields-puts, below, number-gets, number-puts, id-gets, id-puts, hash-gets, hash-puts, moment-gets, moment-puts}
use Rattle.value_codec.proofs.Fields.{named-is, taken, always, address-gets, address-puts}

metadata_of-is : (fs : List Field) (m : Metadata) → metadata_of fs ≡ Some m → (structure fs ≡ metadata_value m) × (metadata_fits m ≡ true)
metadata_of-is (f ∷ g ∷ h ∷ i ∷ []) m e =
    let a = taken id_in id_value id_fits id-gets (codes "id") f _ m e in
    let b = taken (number_in (2 ^ 64)) number (below (2 ^ 64)) (number-gets (2 ^ 64)) (codes "version") g _ m a.3 in
    let c = taken moment_in moment always (λ v t is. (moment-gets v t is, refl)) (codes "txTime") h _ m b.3 in
    let d = taken id_in id_value id_fits id-gets (codes "txId") i _ m c.3 in
    let made : Metadata = record { id = record { raw = a.0 }; version = b.0; time = c.0; tx = record { raw = d.0 } } in
    let same : made ≡ m = cc in
    subst (λ x. (structure (f ∷ g ∷ h ∷ i ∷ []) ≡ metadata_value x) × (metadata_fits x ≡ true)) same
    (ap structure (cons a.1 (cons b.1 (cons c.1 (cons d.1 refl)))), both_true (both_true a.2 b.2) d.2)
metadata_of-is [] m e = cc
metadata_of-is (f ∷ []) m e = cc
metadata_of-is (f ∷ g ∷ []) m e = cc
metadata_of-is (f ∷ g ∷ h ∷ []) m e = cc
metadata_of-is (f ∷ g ∷ h ∷ i ∷ j ∷ fs) m e = cc

pub metadata-gets : Gets metadata_in metadata_value metadata_fits
metadata-gets v m e =
    let t = took (fields_in v) metadata_of m e in
    let s = metadata_of-is t.0 m t.2 in
    (fields-gets v t.0 t.1 ∙ s.0, s.1)

pub metadata-puts : Puts metadata_in metadata_value metadata_fits
metadata-puts m fits =
    let a = id-puts m.id.raw (left _ _ (left _ _ fits)) in
    let b = number-puts (2 ^ 64) m.version (right _ _ (left _ _ fits)) in
    let d = id-puts m.tx.raw (right _ _ fits) in
    rw (fields-puts _, a, b, moment-puts m.time, d) refl

-- ---- revisions

with_content-is : (content : Content) → content_fits content ≡ true → (f g h : Field) (r : Revision) → with_content content f g h ≡ Some r
    → (f ≡ field (codes "blockAddress") (address_value r.address)) × (g ≡ field (codes "hash") (hash_value r.hash))
    × (h ≡ field (codes "metadata") (metadata_value r.metadata)) × (r.content ≡ content) × (revision_fits r ≡ true)
with_content-is content fits f g h r e =
    let a = taken address_in address_value address_fits address-gets (codes "blockAddress") f _ r e in
    let b = taken hash_in hash_value hash_fits hash-gets (codes "hash") g _ r a.3 in
    let c = taken metadata_in metadata_value metadata_fits metadata-gets (codes "metadata") h _ r b.3 in
    let made : Revision = record { address = a.0; hash = b.0; content = content; metadata = c.0 } in
    let same : made ≡ r = cc in
    subst (λ (x : Revision). (f ≡ field (codes "blockAddress") (address_value x.address)) × (g ≡ field (codes "hash") (hash_value x.hash))
    × (h ≡ field (codes "metadata") (metadata_value x.metadata)) × (x.content ≡ content) × (revision_fits x ≡ true)) same
    (a.1, b.1, c.1, refl, both_true (both_true (both_true a.2 b.2) c.2) fits)

-- the value of a revision by its content
value_with : Content → Revision → Value
value_with content r = structure (
    (field (codes "blockAddress") (address_value r.address) ∷ field (codes "hash") (hash_value r.hash) ∷ [])
    ++ data_fields content ++ field (codes "metadata") (metadata_value r.metadata) ∷ [])

-- the field of the data, or of their hash
content_of-is : (d : Field) (content : Content) → content_of d ≡ Some content → (d ∷ [] ≡ data_fields content) × (content_fits content ≡ true)
content_of-is d content e = go (bytes_eq d.name (codes "dataHash")) refl e where
  hashed : bytes_eq d.name (codes "dataHash") ≡ true → (o : Option Hash32) → hash_in d.value ≡ o → option_map (λ h. Redacted h) o ≡ Some content
      → (d ∷ [] ≡ data_fields content) × (content_fits content ≡ true)
  hashed t None is e = cc
  hashed t (Some h) is e =
      let s = hash-gets d.value h is in
      let same : Redacted h ≡ content = cc in
      let name : d.name ≡ codes "dataHash" = (bytes_eq-Decides d.name (codes "dataHash")).0 t in
      subst (λ c. (d ∷ [] ≡ data_fields c) × (content_fits c ≡ true)) same
      (cons (ap (λ n. field n d.value) name ∙ ap (field (codes "dataHash")) s.0) refl, s.1)

  kept : (o : Option Value) → named (codes "data") d ≡ o → option_map (λ v. Kept v) o ≡ Some content
      → (d ∷ [] ≡ data_fields content) × (content_fits content ≡ true)
  kept None is e = cc
  kept (Some v) is e =
      let same : Kept v ≡ content = cc in
      subst (λ c. (d ∷ [] ≡ data_fields c) × (content_fits c ≡ true)) same (cons (named-is (codes "data") d v is) refl, refl)

  go : (b : Bool) → bytes_eq d.name (codes "dataHash") ≡ b
      → (if b then option_map (λ h. Redacted h) (hash_in d.value) else option_map (λ v. Kept v) (named (codes "data") d)) ≡ Some content
      → (d ∷ [] ≡ data_fields content) × (content_fits content ≡ true)
  go true t e = hashed t (hash_in d.value) refl e
  go false t e = kept (named (codes "data") d) refl e

-- the fields of a revision around those of its data
around : Field → Field → List Field → Field → Value
around f g middle h = structure ((f ∷ g ∷ []) ++ middle ++ h ∷ [])

revision_of-is : (fs : List Field) (r : Revision) → revision_of fs ≡ Some r → (structure fs ≡ revision_value r) × (revision_fits r ≡ true)
unfolding value_with around
revision_of-is (f ∷ g ∷ h ∷ []) r e =
    let s = with_content-is Deleted refl f g h r e in
    (ap structure (cons s.0 (cons s.1 (cons s.2 refl))) ∙ ap (λ c. value_with c r) (sym s.3), s.4)
revision_of-is (f ∷ g ∷ d ∷ h ∷ []) r e =
    let t = took (content_of d) _ r e in
    let c = content_of-is d t.0 t.1 in
    let s = with_content-is t.0 c.1 f g h r t.2 in
    let here : around f g (d ∷ []) h ≡ value_with t.0 r =
    ap (λ middle. around f g middle h) c.0
    ∙ ap (λ x. structure ((x ∷ g ∷ []) ++ data_fields t.0 ++ h ∷ [])) s.0
    ∙ ap (λ x. structure ((field (codes "blockAddress") (address_value r.address) ∷ x ∷ []) ++ data_fields t.0 ++ h ∷ [])) s.1
    ∙ ap (λ x. structure ((field (codes "blockAddress") (address_value r.address) ∷ field (codes "hash") (hash_value r.hash) ∷ []) ++ data_fields t.0 ++ x ∷ [])) s.2 in
    (here ∙ ap (λ c. value_with c r) (sym s.3), s.4)
revision_of-is [] r e = cc
revision_of-is (f ∷ []) r e = cc
revision_of-is (f ∷ g ∷ []) r e = cc
revision_of-is (f ∷ g ∷ h ∷ i ∷ j ∷ fs) r e = cc

pub revision-gets : Gets revision_in revision_value revision_fits
revision-gets v r e =
    let t = took (fields_in v) revision_of r e in
    let s = revision_of-is t.0 r t.2 in
    (fields-gets v t.0 t.1 ∙ s.0, s.1)

put_with : (content : Content) (r : Revision) → revision_fits r ≡ true → content_fits content ≡ true
    → revision_in (value_with content r) ≡ Some (record { address = r.address; hash = r.hash; content = content; metadata = r.metadata })
unfolding value_with
put_with Deleted r fits here =
    let a = address-puts r.address (left _ _ (left _ _ (left _ _ fits))) in
    let b = hash-puts r.hash (right _ _ (left _ _ (left _ _ fits))) in
    let c = metadata-puts r.metadata (right _ _ (left _ _ fits)) in
    rw (fields-puts _, a, b, c) refl
put_with (Kept v) r fits here =
    let a = address-puts r.address (left _ _ (left _ _ (left _ _ fits))) in
    let b = hash-puts r.hash (right _ _ (left _ _ (left _ _ fits))) in
    let c = metadata-puts r.metadata (right _ _ (left _ _ fits)) in
    rw (fields-puts _, a, b, c) refl
put_with (Redacted hash) r fits here =
    let a = address-puts r.address (left _ _ (left _ _ (left _ _ fits))) in
    let b = hash-puts r.hash (right _ _ (left _ _ (left _ _ fits))) in
    let c = metadata-puts r.metadata (right _ _ (left _ _ fits)) in
    let d = hash-puts hash here in
    rw (fields-puts _, a, b, c, d) refl

pub revision-puts : Puts revision_in revision_value revision_fits
unfolding value_with
revision-puts r fits = put_with r.content r fits (right (address_fits r.address && hash_fits r.hash && metadata_fits r.metadata) _ fits)
