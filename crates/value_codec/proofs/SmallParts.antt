-- The readings of the smallest parts are inverse to their writings.
use Rattle.std.proofs.Common.{◌≡◌, ◌∙◌, ℕ, pos, Bool, true, false, List, [], ◌∷◌, length, Option, Some, None, refl, sym, ap, subst, if◌then◌else◌, ◌==◌, nat_lt, arith}
use Rattle.std.proofs.lemmas.Bool.Decides.{nat_tests}
use Rattle.std.specs.Prelude.{option_map}
use Rattle.ion_values.specs.declared.value.Value.{Value}
use Rattle.ion_values.specs.declared.value.Field.{Field}
use Rattle.ion_values.specs.declared.value.Body.{Body, roll-Body, out-Body, out-roll-Body}
use Rattle.ion_values.specs.declared.value.Body.TheVariants as body
use Rattle.ion_values.specs.declared.value.Body.TheOpen.{Body-F}
use Rattle.ion_values.specs.declared.time.TimeParts.{TimeParts}
use Rattle.ql_types.specs.Ids as ids
use Rattle.ql_types.proofs.Spelled.{id_in-text, id_in-spells}
use Rattle.ql_types.specs.declared.Hash32.{Hash32}
use Rattle.ql_types.specs.declared.Hash.{Hash}
use Rattle.ql_types.specs.declared.Hash.TheVariants.{Empty, Full}
use Rattle.ledger_model.specs.Values.{plain, bare, fields_at, list_at, string_at, fields_in, list_in, string_in}
use Rattle.ledger_model.specs.Journal.{structure, list, string, number, moment, id_value, hash_value, hash_bytes}
use Rattle.ledger_model.specs.Whole.{id_fits, hash_fits, entry_fits}
use Rattle.value_codec.specs.ReadParts.{number_at, number_in, moment_at, moment_in, blob_at, blob_in, id_in, hash_of_bytes, hash_in, entry_of_bytes, entry_in}
use Rattle.value_codec.proofs.Inverse.{Gets, Puts, took, bare-plain}

pub list-gets : (v : Value) (vs : List Value) → list_in v ≡ Some vs → v ≡ list vs
unfolding roll-Body denote.Hole.Carrier.roll
list-gets v vs e = go (bare v) refl e where
  go : (o : Option (Body-F Body Field Value)) → bare v ≡ o → list_at o ≡ Some vs → v ≡ list vs
  go (Some (Body-F.List ws)) is e = let same : ws ≡ vs = cc in bare-plain v (Body-F.List ws) is ∙ ap list same
  go _ is e = cc

pub string-gets : (v : Value) (text : List ℕ) → string_in v ≡ Some text → v ≡ string text
unfolding roll-Body denote.Hole.Carrier.roll
string-gets v text e = go (bare v) refl e where
  go : (o : Option (Body-F Body Field Value)) → bare v ≡ o → string_at o ≡ Some text → v ≡ string text
  go (Some (Body-F.String t)) is e = let same : t ≡ text = cc in bare-plain v (Body-F.String t) is ∙ ap string same
  go _ is e = cc

pub moment-gets : (v : Value) (t : TimeParts) → moment_in v ≡ Some t → v ≡ moment t
unfolding roll-Body denote.Hole.Carrier.roll
moment-gets v t e = go (bare v) refl e where
  go : (o : Option (Body-F Body Field Value)) → bare v ≡ o → moment_at o ≡ Some t → v ≡ moment t
  go (Some (Body-F.Timestamp u)) is e = let same : u ≡ t = cc in bare-plain v (Body-F.Timestamp u) is ∙ ap moment same
  go _ is e = cc

blob : List ℕ → Value
blob bytes = plain (body.Blob bytes)

pub blob-gets : (v : Value) (bytes : List ℕ) → blob_in v ≡ Some bytes → v ≡ plain (body.Blob bytes)
unfolding roll-Body denote.Hole.Carrier.roll
blob-gets v bytes e = go (bare v) refl e where
  go : (o : Option (Body-F Body Field Value)) → bare v ≡ o → blob_at o ≡ Some bytes → v ≡ plain (body.Blob bytes)
  go (Some (Body-F.Blob bs)) is e = let same : bs ≡ bytes = cc in bare-plain v (Body-F.Blob bs) is ∙ ap (λ x. plain (body.Blob x)) same
  go _ is e = cc

-- what stands below a limit
abbrev pub below : ℕ → ℕ → Bool
below limit n = nat_lt n limit

pub number-gets : (limit : ℕ) → Gets (number_in limit) number (below limit)
unfolding roll-Body denote.Hole.Carrier.roll
number-gets limit v n e = go (bare v) refl e where
  small : (m : ℕ) (b : Bool) → nat_lt m limit ≡ b → (if b then Some m else None) ≡ Some n → (m ≡ n) × (nat_lt n limit ≡ true)
  small m true t e = let same : m ≡ n = cc in (same, subst (λ k. nat_lt k limit ≡ true) same t)
  small m false t e = cc

  go : (o : Option (Body-F Body Field Value)) → bare v ≡ o → number_at limit o ≡ Some n → (v ≡ number n) × (nat_lt n limit ≡ true)
  go (Some (Body-F.Int (pos m))) is e = let s = small m (nat_lt m limit) refl e in (bare-plain v (Body-F.Int (pos m)) is ∙ ap number s.0, s.1)
  go _ is e = cc

pub number-puts : (limit : ℕ) → Puts (number_in limit) number (below limit)
unfolding out-Body denote.Hole.Carrier.out
number-puts limit n fits = rw fits refl

pub id-gets : Gets id_in id_value id_fits
id-gets v raw e =
    let t = took (string_in v) ids.id_in raw e in
    let s = id_in-spells t.0 raw t.2 in
    (string-gets v t.0 t.1 ∙ ap string (sym s.0), grind (arith, nat_tests, s.1))

pub id-puts : Puts id_in id_value id_fits
unfolding out-Body denote.Hole.Carrier.out ids.digits_of ids.spelled
id-puts raw fits = id_in-text raw (grind (arith, nat_tests))

pub hash_of_bytes-is : (bytes : List ℕ) (h : Hash32) → hash_of_bytes bytes ≡ Some h → (bytes ≡ h.bytes) × (hash_fits h ≡ true)
hash_of_bytes-is bytes h e = go (length bytes == 32) refl e where
  go : (b : Bool) → (length bytes == 32) ≡ b → (if b then Some (record { bytes = bytes }) else None) ≡ Some h → (bytes ≡ h.bytes) × (hash_fits h ≡ true)
  go true t e =
      let made : Hash32 = record { bytes = bytes } in
      let same : made ≡ h = cc in
      (ap (λ (x : Hash32). x.bytes) same, subst (λ (x : Hash32). hash_fits x ≡ true) same t)
  go false t e = cc

pub hash-gets : Gets hash_in hash_value hash_fits
unfolding hash_in
hash-gets v h e =
    let t = took (blob_in v) hash_of_bytes h e in
    let s = hash_of_bytes-is t.0 h t.2 in
    (blob-gets v t.0 t.1 ∙ ap (λ x. plain (body.Blob x)) s.0, s.1)

pub hash-puts : Puts hash_in hash_value hash_fits
unfolding hash_in out-Body denote.Hole.Carrier.out
hash-puts h fits = rw fits refl

-- each reading gives what stands in a value

pub string-puts : (text : List ℕ) → string_in (string text) ≡ Some text
unfolding out-Body denote.Hole.Carrier.out
string-puts text = refl

pub list-puts : (vs : List Value) → list_in (list vs) ≡ Some vs
unfolding roll-Body denote.Hole.Carrier.roll
list-puts vs = ap (λ b. list_at (Some b)) (out-roll-Body (Body-F.List vs))

pub fields-puts : (fs : List Field) → fields_in (structure fs) ≡ Some fs
unfolding roll-Body denote.Hole.Carrier.roll
fields-puts fs = ap (λ b. fields_at (Some b)) (out-roll-Body (Body-F.Struct fs))

pub moment-puts : (t : TimeParts) → moment_in (moment t) ≡ Some t
unfolding out-Body denote.Hole.Carrier.out
moment-puts t = refl

blob-puts : (bytes : List ℕ) → blob_in (plain (body.Blob bytes)) ≡ Some bytes
unfolding out-Body denote.Hole.Carrier.out
blob-puts bytes = refl

-- ---- entries of a block's hashes

abbrev pub entry_value : Hash → Value
entry_value h = plain (body.Blob (hash_bytes h))

entry_of_bytes-is : (bytes : List ℕ) (h : Hash) → entry_of_bytes bytes ≡ Some h → (bytes ≡ hash_bytes h) × (entry_fits h ≡ true)
entry_of_bytes-is [] Empty e = (refl, refl)
entry_of_bytes-is [] (Full g) e = cc
entry_of_bytes-is (b ∷ bs) h e = go (hash_of_bytes (b ∷ bs)) refl e where
  go : (o : Option Hash32) → hash_of_bytes (b ∷ bs) ≡ o → option_map Full o ≡ Some h → (b ∷ bs ≡ hash_bytes h) × (entry_fits h ≡ true)
  go None is e = cc
  go (Some g) is e =
      let same : Full g ≡ h = cc in
      let s = hash_of_bytes-is (b ∷ bs) g is in
      subst (λ x. (b ∷ bs ≡ hash_bytes x) × (entry_fits x ≡ true)) same s

pub entry-gets : Gets entry_in entry_value entry_fits
entry-gets v h e =
    let t = took (blob_in v) entry_of_bytes h e in
    let s = entry_of_bytes-is t.0 h t.2 in
    (blob-gets v t.0 t.1 ∙ ap (λ x. plain (body.Blob x)) s.0, s.1)

full_entry : (bytes : List ℕ) → (length bytes == 32) ≡ true → entry_of_bytes bytes ≡ Some (Full (record { bytes = bytes }))
full_entry [] fits = cc
full_entry (b ∷ bs) fits = rw fits refl

pub entry-puts : Puts entry_in entry_value entry_fits
entry-puts Empty fits = rw (blob-puts []) refl
entry-puts (Full g) fits = rw (blob-puts g.bytes) (full_entry g.bytes fits)
