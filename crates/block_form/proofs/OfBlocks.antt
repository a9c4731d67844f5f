-- Reading a block is inverse to writing it.
use Rattle.std.proofs.Common.{◌≡◌, ◌∙◌, ◌&&◌, ◌==◌, ℕ, ◌^◌, Bool, true, false, List, [], ◌∷◌, ◌++◌, take, drop, map, length, nat_lt, Some, None, refl, sym, ap, subst, codes, if◌then◌else◌, arith, length-append}
use Rattle.std.specs.List.{list_all}
use Rattle.std.specs.Cmp.Derive.{both_true}
use Rattle.std.proofs.lemmas.Bool.Decides.{nat_tests}
use Rattle.std.proofs.lemmas.List.{take-append-drop}
use Rattle.ion_values.specs.declared.value.Value.{Value}
use Rattle.ion_values.specs.declared.value.Field.{Field}
use Rattle.ql_types.specs.declared.Hash.{Hash}
use Rattle.ledger_model.specs.declared.block.Revision.{Revision}
use Rattle.ledger_model.specs.declared.block.Info.{Info}
use Rattle.ledger_model.specs.declared.block.Header.{Header}
use Rattle.ledger_model.specs.declared.block.Block.{Block}
use Rattle.ledger_model.specs.Values.{field, fields_in, list_in}
use Rattle.ledger_model.specs.Journal.{structure, list, moment, id_value, hash_value, address_value, revision_value, info_value, front_fields, block_value}
use Rattle.ledger_model.specs.Script.{and_then, each}
use Rattle.ledger_model.specs.Whole.{id_fits, hash_fits, entry_fits, address_fits, revision_fits, info_fits, header_fits, hashes_fit, block_fits}
use Rattle.block_form.specs.declared.read_blocks.Hashes.{Hashes}
use Rattle.value_codec.specs.ReadParts.{named, moment_in, id_in, hash_in, entry_in, address_in}
use Rattle.block_form.specs.ReadBack.{revision_in, revisions_in, info_in, header_of, entries_of, hashes_of, count_of, block_with, parts_of, block_of, block_in}
use Rattle.value_codec.proofs.Inverse.{took, fields-gets, left, right, cons}
use Rattle.value_codec.proofs.SmallParts.{fields-puts, list-gets, list-puts, id-gets, id-puts, hash-gets, hash-puts, entry_value, entry-gets, entry-puts, moment-gets, moment-puts}
use Rattle.value_codec.proofs.Fields.{named-is, taken, always, address-gets, address-puts, each-gets, each-puts}
use Rattle.block_form.proofs.OfRevisions.{revision-gets, revision-puts}
use Rattle.block_form.proofs.OfInfo.{info-gets, info-puts}

-- ---- headers

header_of-is : (n : ℕ) (fs : List Field) (h : Header) → header_of n fs ≡ Some h
    → (fs ≡ front_fields h) × (address_fits h.address && id_fits h.tx.raw ≡ true) × (h.revisions ≡ n)
header_of-is n (f ∷ g ∷ i ∷ []) h e =
    let a = taken address_in address_value address_fits address-gets (codes "blockAddress") f _ h e in
    let b = taken id_in id_value id_fits id-gets (codes "transactionId") g _ h a.3 in
    let c = taken moment_in moment always (λ v t is. (moment-gets v t is, refl)) (codes "blockTimestamp") i _ h b.3 in
    let made : Header = record { address = a.0; tx = record { raw = b.0 }; time = c.0; revisions = n } in
    let same : made ≡ h = cc in
    subst (λ (x : Header). (f ∷ g ∷ i ∷ [] ≡ front_fields x) × (address_fits x.address && id_fits x.tx.raw ≡ true) × (x.revisions ≡ n)) same
    (cons a.1 (cons b.1 (cons c.1 refl)), both_true a.2 b.2, refl)
header_of-is n [] h e = cc
header_of-is n (f ∷ []) h e = cc
header_of-is n (f ∷ g ∷ []) h e = cc
header_of-is n (f ∷ g ∷ i ∷ j ∷ fs) h e = cc

header-puts : (h : Header) → address_fits h.address && id_fits h.tx.raw ≡ true → header_of h.revisions (front_fields h) ≡ Some h
header-puts h fits =
    let a = address-puts h.address (left _ _ fits) in
    let b = id-puts h.tx.raw (right (address_fits h.address) _ fits) in
    rw (a, b, moment-puts h.time) refl

-- ---- hashes

entries_of-is : (vs : List Value) (hs : List Hash) → entries_of vs ≡ Some hs
    → (vs ≡ map entry_value hs) × ((length hs == 3) ≡ true) × (list_all entry_fits hs ≡ true)
unfolding entries_of
entries_of-is (u ∷ v ∷ w ∷ []) hs e =
    let a = took (entry_in u) _ hs e in
    let b = took (entry_in v) _ hs a.2 in
    let c = took (entry_in w) _ hs b.2 in
    let x = entry-gets u a.0 a.1 in
    let y = entry-gets v b.0 b.1 in
    let z = entry-gets w c.0 c.1 in
    let same : a.0 ∷ b.0 ∷ c.0 ∷ [] ≡ hs = cc in
    subst (λ l. (u ∷ v ∷ w ∷ [] ≡ map entry_value l) × ((length l == 3) ≡ true) × (list_all entry_fits l ≡ true)) same
    (cons x.0 (cons y.0 (cons z.0 refl)), refl, both_true x.1 (both_true y.1 (both_true z.1 refl)))
entries_of-is [] hs e = cc
entries_of-is (u ∷ []) hs e = cc
entries_of-is (u ∷ v ∷ []) hs e = cc
entries_of-is (u ∷ v ∷ w ∷ x ∷ vs) hs e = cc

entries-puts : (hs : List Hash) → (length hs == 3) ≡ true → list_all entry_fits hs ≡ true → entries_of (map entry_value hs) ≡ Some hs
unfolding entries_of
entries-puts (a ∷ b ∷ c ∷ []) long fits =
    let x = entry-puts a (left (entry_fits a) _ fits) in
    let y = entry-puts b (left (entry_fits b) _ (right (entry_fits a) _ fits)) in
    let z = entry-puts c (left (entry_fits c) _ (right (entry_fits b) _ (right (entry_fits a) _ fits))) in
    rw (x, y, z) refl
entries-puts [] long fits = cc
entries-puts (a ∷ []) long fits = cc
entries-puts (a ∷ b ∷ []) long fits = cc
entries-puts (a ∷ b ∷ c ∷ d ∷ hs) long fits = absurd (grind (arith, nat_tests))

abbrev fields_of_hashes : Hashes → List Field
fields_of_hashes b =
    field (codes "blockHash") (hash_value b.hash) ∷ field (codes "entriesHash") (hash_value b.entries)
    ∷ field (codes "previousBlockHash") (hash_value b.previous)
    ∷ field (codes "entriesHashList") (list (map entry_value b.list)) ∷ []

abbrev all_fit : Hashes → Bool
all_fit b = hash_fits b.hash && hash_fits b.entries && hash_fits b.previous && (length b.list == 3) && list_all entry_fits b.list

hashes_of-is : (fs : List Field) (h : Hashes) → hashes_of fs ≡ Some h → (fs ≡ fields_of_hashes h) × (all_fit h ≡ true)
hashes_of-is (f ∷ g ∷ i ∷ j ∷ []) h e =
    let a = taken hash_in hash_value hash_fits hash-gets (codes "blockHash") f _ h e in
    let b = taken hash_in hash_value hash_fits hash-gets (codes "entriesHash") g _ h a.3 in
    let c = taken hash_in hash_value hash_fits hash-gets (codes "previousBlockHash") i _ h b.3 in
    let d = took (and_then (and_then (named (codes "entriesHashList") j) list_in) entries_of) _ h c.3 in
    let u = took (and_then (named (codes "entriesHashList") j) list_in) entries_of d.0 d.1 in
    let w = took (named (codes "entriesHashList") j) list_in u.0 u.1 in
    let s = entries_of-is u.0 d.0 u.2 in
    let made : Hashes = record { hash = a.0; entries = b.0; previous = c.0; list = d.0 } in
    let same : made ≡ h = cc in
    subst (λ (x : Hashes). (f ∷ g ∷ i ∷ j ∷ [] ≡ fields_of_hashes x) × (all_fit x ≡ true)) same (
      cons a.1 (cons b.1 (cons c.1 (cons (named-is (codes "entriesHashList") j w.0 w.1 ∙ ap (field (codes "entriesHashList")) (list-gets w.0 u.0 w.2 ∙ ap list s.0)) refl))),
      both_true (both_true (both_true (both_true a.2 b.2) c.2) s.1) s.2,
    )
hashes_of-is [] h e = cc
hashes_of-is (f ∷ []) h e = cc
hashes_of-is (f ∷ g ∷ []) h e = cc
hashes_of-is (f ∷ g ∷ i ∷ []) h e = cc
hashes_of-is (f ∷ g ∷ i ∷ j ∷ k ∷ fs) h e = cc

hashes-puts : (h : Hashes) → all_fit h ≡ true → hashes_of (fields_of_hashes h) ≡ Some h
hashes-puts h fits =
    let three = left _ _ (left _ _ fits) in
    let a = hash-puts h.hash (left _ _ (left _ _ three)) in
    let b = hash-puts h.entries (right _ _ (left _ _ three)) in
    let c = hash-puts h.previous (right (hash_fits h.hash && hash_fits h.entries) _ three) in
    let d = entries-puts h.list (right (hash_fits h.hash && hash_fits h.entries && hash_fits h.previous) _ (left _ _ fits)) (right _ _ fits) in
    rw (a, b, c, list-puts (map entry_value h.list), d) refl

-- ---- blocks

abbrev hashes_in : Block → Hashes
hashes_in b = record { hash = b.hash; entries = b.entries; previous = b.previous; list = b.list }

count_of-is : (rs : List Revision) (n : ℕ) → count_of rs ≡ Some n → (n ≡ length rs) × (nat_lt n (2 ^ 32) ≡ true)
count_of-is rs n e = go (nat_lt (length rs) (2 ^ 32)) refl e where
  go : (b : Bool) → nat_lt (length rs) (2 ^ 32) ≡ b → (if b then Some (length rs) else None) ≡ Some n → (n ≡ length rs) × (nat_lt n (2 ^ 32) ≡ true)
  go true t e = let same : length rs ≡ n = cc in (sym same, subst (λ k. nat_lt k (2 ^ 32) ≡ true) same t)
  go false t e = cc

-- the fields behind the hashes
abbrev fields_behind : Block → List Field
fields_behind b =
    field (codes "transactionInfo") (info_value b.info b.revisions) ∷ field (codes "revisions") (list (map revision_value b.revisions)) ∷ []

-- what is known of a block that was read
pub record IsRead (b : Block) : Type 0 where
  pub count : b.header.revisions ≡ length b.revisions
  pub tables : length b.info.tables ≡ length b.revisions
  pub fits : block_fits b ≡ true

pub record ArePartsOf (front hashes entries : List Field) (b : Block) : Type 0 where
  pub front_is : front ≡ front_fields b.header
  pub hashes_are : hashes ≡ fields_of_hashes (hashes_in b)
  pub entries_are : entries ≡ fields_behind b
  pub read : IsRead b

assembled : (front hashes : List Field) (f g : Field) (h : Hashes) (rs : List Revision) (n : ℕ) (head : Header) (i : Info)
    → (hashes ≡ fields_of_hashes h) × (all_fit h ≡ true) → (n ≡ length rs) × (nat_lt n (2 ^ 32) ≡ true)
    → (front ≡ front_fields head) × (address_fits head.address && id_fits head.tx.raw ≡ true) × (head.revisions ≡ n)
    → f ≡ field (codes "transactionInfo") (info_value i rs) → info_fits i ≡ true → length i.tables ≡ length rs
    → g ≡ field (codes "revisions") (list (map revision_value rs)) → list_all revision_fits rs ≡ true
    → ArePartsOf front hashes (f ∷ g ∷ []) (block_with head h i rs)
assembled front hashes f g h rs n head i he ne front-is fe info tables ge revisions =
    let small : nat_lt head.revisions (2 ^ 32) ≡ true = subst (λ k. nat_lt k (2 ^ 32) ≡ true) (sym front-is.2) ne.1 in
    record {
      front_is = front-is.0;
      hashes_are = he.0;
      entries_are = cons fe (cons ge refl);
      read = record {
        count = front-is.2 ∙ ne.0;
        tables = tables;
        fits = both_true (both_true (both_true (both_true front-is.1 small) he.1) info) revisions;
      };
    }

parts_of-is : (front hashes entries : List Field) (b : Block) → parts_of front hashes entries ≡ Some b → ArePartsOf front hashes entries b
parts_of-is front hashes (f ∷ g ∷ []) b e =
    let h = took (hashes_of hashes) _ b e in
    let rs = took (and_then (named (codes "revisions") g) revisions_in) _ b h.2 in
    let n = took (count_of rs.0) _ b rs.2 in
    let head = took (header_of n.0 front) _ b n.2 in
    let i = took (and_then (named (codes "transactionInfo") f) (info_in rs.0)) _ b head.2 in
    let w = took (named (codes "transactionInfo") f) (info_in rs.0) i.0 i.1 in
    let q = info-gets rs.0 w.0 i.0 w.2 in
    let u = took (named (codes "revisions") g) revisions_in rs.0 rs.1 in
    let l = took (list_in u.0) (each revision_in) rs.0 u.2 in
    let s = each-gets revision_in revision_value revision_fits revision-gets l.0 rs.0 l.2 in
    let same : block_with head.0 h.0 i.0 rs.0 ≡ b = cc in
    subst (ArePartsOf front hashes (f ∷ g ∷ [])) same
    (assembled front hashes f g h.0 rs.0 n.0 head.0 i.0 (hashes_of-is hashes h.0 h.1) (count_of-is rs.0 n.0 n.1) (header_of-is n.0 front head.0 head.1)
    (named-is (codes "transactionInfo") f w.0 w.1 ∙ ap (field (codes "transactionInfo")) q.0) q.1 q.2
    (named-is (codes "revisions") g u.0 u.1 ∙ ap (field (codes "revisions")) (list-gets u.0 l.0 l.1 ∙ ap list s.0)) s.1)
parts_of-is front hashes [] b e = cc
parts_of-is front hashes (f ∷ []) b e = cc
parts_of-is front hashes (f ∷ g ∷ h ∷ fs) b e = cc

three_parts : (fs : List Field) → fs ≡ take 3 fs ++ (take 4 (drop 3 fs) ++ drop 4 (drop 3 fs))
three_parts fs = sym (take-append-drop 3 fs) ∙ ap (λ rest. take 3 fs ++ rest) (sym (take-append-drop 4 (drop 3 fs)))

joined_parts : (front hashes entries : List Field) (b : Block) → ArePartsOf front hashes entries b → structure (front ++ (hashes ++ entries)) ≡ block_value b
joined_parts front hashes entries b p =
    ap structure (ap (λ x. x ++ (hashes ++ entries)) p.front_is ∙ ap (λ x. front_fields b.header ++ (x ++ entries)) p.hashes_are
    ∙ ap (λ x. front_fields b.header ++ (fields_of_hashes (hashes_in b) ++ x)) p.entries_are)

-- the value that is read is that of the block
pub block-gets : (v : Value) (b : Block) → block_in v ≡ Some b → (v ≡ block_value b) × IsRead b
block-gets v b e =
    let t = took (fields_in v) block_of b e in
    go t.0 (fields-gets v t.0 t.1) (length t.0 == 9) refl t.2 where
      go : (fs : List Field) → v ≡ structure fs → (nine : Bool) → (length fs == 9) ≡ nine
          → (if nine then parts_of (take 3 fs) (take 4 (drop 3 fs)) (drop 4 (drop 3 fs)) else None) ≡ Some b → (v ≡ block_value b) × IsRead b
      go fs is true t e =
          let p = parts_of-is (take 3 fs) (take 4 (drop 3 fs)) (drop 4 (drop 3 fs)) b e in
          (is ∙ ap structure (three_parts fs) ∙ joined_parts (take 3 fs) (take 4 (drop 3 fs)) (drop 4 (drop 3 fs)) b p, p.read)
      go fs is false t e = cc

-- and the value of a block is read as the block
pub block-puts : (b : Block) → IsRead b → block_in (block_value b) ≡ Some b
block-puts b r =
    let fits = r.fits in
    let two = left _ _ (left _ _ fits) in
    let head-fits = left _ _ two in
    let revisions = right (header_fits b.header && hashes_fit b && info_fits b.info) _ fits in
    let h = hashes-puts (hashes_in b) (right (header_fits b.header) _ two) in
    let rs = each-puts revision_in revision_value revision_fits revision-puts b.revisions revisions in
    let small : nat_lt (length b.revisions) (2 ^ 32) ≡ true =
    subst (λ k. nat_lt k (2 ^ 32) ≡ true) r.count (right (address_fits b.header.address && id_fits b.header.tx.raw) _ head-fits) in
    let head : header_of (length b.revisions) (front_fields b.header) ≡ Some b.header =
    subst (λ n. header_of n (front_fields b.header) ≡ Some b.header) r.count (header-puts b.header (left _ _ head-fits)) in
    let i = info-puts b.revisions b.info (right (header_fits b.header && hashes_fit b) _ (left _ _ fits)) r.tables revisions in
    rw (fields-puts _, h, list-puts (map revision_value b.revisions), rs, small, head, i) refl

-- ---- the last two of nine fields, and the others

parts_of_nine : (rest : List Field) (f g : Field) → length rest ≡ 7
    → block_of ((rest ++ f ∷ []) ++ g ∷ []) ≡ parts_of (take 3 rest) (drop 3 rest) (f ∷ g ∷ [])
parts_of_nine (a ∷ b ∷ c ∷ d ∷ e ∷ h ∷ i ∷ []) f g is = refl
parts_of_nine [] f g is = absurd (omega arith)
parts_of_nine (a ∷ []) f g is = absurd (omega arith)
parts_of_nine (a ∷ b ∷ []) f g is = absurd (omega arith)
parts_of_nine (a ∷ b ∷ c ∷ []) f g is = absurd (omega arith)
parts_of_nine (a ∷ b ∷ c ∷ d ∷ []) f g is = absurd (omega arith)
parts_of_nine (a ∷ b ∷ c ∷ d ∷ e ∷ []) f g is = absurd (omega arith)
parts_of_nine (a ∷ b ∷ c ∷ d ∷ e ∷ h ∷ []) f g is = absurd (omega arith)
parts_of_nine (a ∷ b ∷ c ∷ d ∷ e ∷ h ∷ i ∷ j ∷ rest) f g is = absurd (omega arith)

seven : (rest : List Field) (f g : Field) → length ((rest ++ f ∷ []) ++ g ∷ []) ≡ 9 → length rest ≡ 7
seven rest f g is = omega (arith, length-append (rest ++ f ∷ []) (g ∷ []), length-append rest (f ∷ []))

pub nine_parts : (fields most rest : List Field) (f g : Field) → length fields ≡ 9 → fields ≡ most ++ g ∷ [] → most ≡ rest ++ f ∷ []
    → block_of fields ≡ parts_of (take 3 rest) (drop 3 rest) (f ∷ g ∷ [])
nine_parts fields most rest f g nine last before =
    let whole : fields ≡ (rest ++ f ∷ []) ++ g ∷ [] = last ∙ ap (λ (fs : List Field). fs ++ g ∷ []) before in
    let long : length ((rest ++ f ∷ []) ++ g ∷ []) ≡ 9 = sym (ap (λ (fs : List Field). length fs) whole) ∙ nine in
    ap (λ (fs : List Field). block_of fs) whole ∙ parts_of_nine rest f g (seven rest f g long)
