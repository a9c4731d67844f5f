-- Reading a summary is inverse to writing it: its value is that of its block, with what stands for the revisions.
use Rattle.std.proofs.Common.{◌≡◌, ◌∙◌, ◌&&◌, Bool, true, false, List, [], ◌∷◌, ◌++◌, map, Option, Some, None, refl, sym, ap, subst, codes, IsTrue}
use Rattle.std.specs.List.{list_all}
use Rattle.std.specs.Cmp.Derive.{both_true}
use Rattle.ion_values.specs.Within.{within}
use Rattle.ion_values.specs.declared.value.Value.{Value}
use Rattle.ion_values.specs.declared.value.Field.{Field}
use Rattle.ql_types.specs.declared.TableId.{TableId}
use Rattle.ledger_model.specs.declared.block.Content.{Content}
use Rattle.ledger_model.specs.declared.block.Content.TheVariants.{Deleted, Kept, Redacted}
use Rattle.ledger_model.specs.declared.block.Metadata.{Metadata}
use Rattle.ledger_model.specs.declared.block.Revision.{Revision}
use Rattle.ledger_model.specs.declared.block.Info.{Info}
use Rattle.ledger_model.specs.declared.block.Block.{Block}
use Rattle.ledger_model.specs.Values.{field, fields_in, list_in}
use Rattle.ledger_model.specs.Journal.{structure, list, number, moment, id_value, hash_value, address_value, data_fields, place_value, told_field, schema_value, metadata_value, revision_value, document_values, info_value, front_fields, hash_fields, block_value}
use Rattle.ledger_model.specs.Script.{and_then, each}
use Rattle.ledger_model.specs.Whole.{id_fits, hash_fits, revision_fits, header_fits, hashes_fit, info_fits, IsWhole}
use Rattle.value_codec.specs.ReadParts.{named, id_in, hash_in}
use Rattle.value_codec.proofs.Inverse.{Gets, Puts, took, fields-gets, left, right, cons}
use Rattle.value_codec.proofs.SmallParts.{fields-puts, list-gets, list-puts, id-gets, id-puts, hash-gets, hash-puts}
use Rattle.value_codec.proofs.Fields.{named-is, taken, each-gets, each-puts}
use Rattle.block_form.specs.ReadBack as blocks
use Rattle.block_form.specs.ReadBack.{revision_in}
use Rattle.block_form.proofs.OfRevisions.{revision-puts}
use Rattle.block_form.proofs.Wholes.{values-tell}
use Rattle.stream_out.specs.declared.record.RevisionSummary.{RevisionSummary}
use Rattle.stream_out.specs.declared.record.Summary.{Summary}
use Rattle.stream_out.specs.declared.read_records.Parts.{Parts}
use Rattle.stream_out.specs.Records.{stand_in, stood_in, listed_value, summary_fields, summary_value, IsSummary}
use Rattle.stream_out.specs.ReadRecords.{listed_of, listed_in, listed_from, stood_value, summary_by, IsSplit, IsJoined, IsSummaryAs}
use Rattle.stream_out.proofs.Ranges.{stood_within}

-- ---- what is listed

abbrev pub listed_fits : RevisionSummary → Bool
listed_fits l = hash_fits l.hash && id_fits l.document.raw

listed_of-is : (fs : List Field) (l : RevisionSummary) → listed_of fs ≡ Some l → (structure fs ≡ listed_value l) × (listed_fits l ≡ true)
listed_of-is (f ∷ g ∷ []) l e =
    let a = taken hash_in hash_value hash_fits hash-gets (codes "hash") f _ l e in
    let b = taken id_in id_value id_fits id-gets (codes "documentId") g _ l a.3 in
    let made : RevisionSummary = record { hash = a.0; document = record { raw = b.0 } } in
    let same : made ≡ l = cc in
    subst (λ x. (structure (f ∷ g ∷ []) ≡ listed_value x) × (listed_fits x ≡ true)) same
    (ap structure (cons a.1 (cons b.1 refl)), both_true a.2 b.2)
listed_of-is [] l e = cc
listed_of-is (f ∷ []) l e = cc
listed_of-is (f ∷ g ∷ h ∷ fs) l e = cc

listed-gets : Gets listed_in listed_value listed_fits
listed-gets v l e =
    let t = took (fields_in v) listed_of l e in
    let s = listed_of-is t.0 l t.2 in
    (fields-gets v t.0 t.1 ∙ s.0, s.1)

listed-puts : Puts listed_in listed_value listed_fits
listed-puts l fits =
    let h = hash-puts l.hash (left (hash_fits l.hash) _ fits) in
    let d = id-puts l.document.raw (right (hash_fits l.hash) _ fits) in
    rw (fields-puts _, h, d) refl

abbrev list_field : List RevisionSummary → Field
list_field listed = field (codes "revisionSummaries") (list (map listed_value listed))

listed_from-is : (f : Field) (listed : List RevisionSummary) → listed_from f ≡ Some listed
    → (f ≡ list_field listed) × (list_all listed_fits listed ≡ true)
listed_from-is f listed e =
    let u = took (and_then (named (codes "revisionSummaries") f) list_in) (each listed_in) listed e in
    let w = took (named (codes "revisionSummaries") f) list_in u.0 u.1 in
    let s = each-gets listed_in listed_value listed_fits listed-gets u.0 listed u.2 in
    (named-is (codes "revisionSummaries") f w.0 w.1 ∙ ap (field (codes "revisionSummaries")) (list-gets w.0 u.0 w.2 ∙ ap list s.0), s.1)

listed_from-puts : (listed : List RevisionSummary) → list_all listed_fits listed ≡ true → listed_from (list_field listed) ≡ Some listed
listed_from-puts listed fits =
    let l = each-puts listed_in listed_value listed_fits listed-puts listed fits in
    rw (list-puts (map listed_value listed), l) refl

-- ---- the last of some fields

same_head : {A : Type 0} (x y : A) (xs ys : List A) → x ∷ xs ≡ y ∷ ys → x ≡ y
same_head x y xs ys e = cc

same_tail : {A : Type 0} (x y : A) (xs ys : List A) → x ∷ xs ≡ y ∷ ys → xs ≡ ys
same_tail x y xs ys e = cc

not_nil : {A : Type 0} (x : A) (xs : List A) → x ∷ xs ≡ [] → ⊥
not_nil x xs e = cc

pub last_is : {A : Type 0} (xs ys : List A) (x y : A) → xs ++ x ∷ [] ≡ ys ++ y ∷ [] → (xs ≡ ys) × (x ≡ y)
last_is [] [] x y e = (refl, same_head x y [] [] e)
last_is [] (z ∷ []) x y e = absurd (not_nil y [] (sym (same_tail x z [] (y ∷ []) e)))
last_is [] (z ∷ w ∷ ys) x y e = absurd (not_nil w (ys ++ y ∷ []) (sym (same_tail x z [] (w ∷ ys ++ y ∷ []) e)))
last_is (z ∷ []) [] x y e = absurd (not_nil x [] (same_tail z y (x ∷ []) [] e))
last_is (z ∷ w ∷ xs) [] x y e = absurd (not_nil w (xs ++ x ∷ []) (same_tail z y (w ∷ xs ++ x ∷ []) [] e))
last_is (z ∷ xs) (w ∷ ys) x y e =
    let more = last_is xs ys x y (same_tail z w (xs ++ x ∷ []) (ys ++ y ∷ []) e) in
    (cons (same_head z w (xs ++ x ∷ []) (ys ++ y ∷ []) e) more.0, more.1)

some_same : {A : Type 0} (x y : A) → Some x ≡ Some y → x ≡ y
some_same x y e = cc

pub fields_same : (fs gs : List Field) → structure fs ≡ structure gs → fs ≡ gs
fields_same fs gs e = some_same fs gs (sym (fields-puts fs) ∙ ap fields_in e ∙ fields-puts gs)

lists_same : (vs ws : List Value) → list vs ≡ list ws → vs ≡ ws
lists_same vs ws e = some_same vs ws (sym (list-puts vs) ∙ ap list_in e ∙ list-puts ws)

-- ---- the documents that the values of revisions tell

abbrev fields_or : Option (List Field) → List Field
fields_or None = []
fields_or (Some fs) = fs

abbrev last_value : List Field → Value → Value
last_value [] v = v
last_value (f ∷ fs) v = last_value fs f.value

abbrev first_value : List Field → Value → Value
first_value [] v = v
first_value (f ∷ fs) v = f.value

abbrev metadata_part : Value → Value
metadata_part v = last_value (fields_or (fields_in v)) v

abbrev id_part : Value → Value
id_part v = first_value (fields_or (fields_in (metadata_part v))) v

abbrev revision_fields : Revision → List Field
revision_fields r =
    (field (codes "blockAddress") (address_value r.address) ∷ field (codes "hash") (hash_value r.hash) ∷ [])
    ++ data_fields r.content ++ field (codes "metadata") (metadata_value r.metadata) ∷ []

abbrev metadata_fields : Metadata → List Field
metadata_fields m =
    field (codes "id") (id_value m.id.raw) ∷ field (codes "version") (number m.version)
    ∷ field (codes "txTime") (moment m.time) ∷ field (codes "txId") (id_value m.tx.raw) ∷ []

last_is_metadata : (a h : Field) (c : Content) (m v : Value) → last_value ((a ∷ h ∷ []) ++ data_fields c ++ field (codes "metadata") m ∷ []) v ≡ m
last_is_metadata a h Deleted m v = refl
last_is_metadata a h (Kept w) m v = refl
last_is_metadata a h (Redacted g) m v = refl

metadata_part-is : (r : Revision) → metadata_part (revision_value r) ≡ metadata_value r.metadata
metadata_part-is r =
    ap (λ o. last_value (fields_or o) (revision_value r)) (fields-puts (revision_fields r))
    ∙ last_is_metadata (field (codes "blockAddress") (address_value r.address)) (field (codes "hash") (hash_value r.hash)) r.content
    (metadata_value r.metadata) (revision_value r)

id_part-is : (r : Revision) → id_part (revision_value r) ≡ id_value r.metadata.id.raw
id_part-is r =
    ap (λ v. first_value (fields_or (fields_in v)) (revision_value r)) (metadata_part-is r)
    ∙ ap (λ o. first_value (fields_or o) (revision_value r)) (fields-puts (metadata_fields r.metadata))

same_id : (r s : Revision) → revision_value r ≡ revision_value s → id_value r.metadata.id.raw ≡ id_value s.metadata.id.raw
same_id r s e = sym (id_part-is r) ∙ ap id_part e ∙ id_part-is s

same_documents : (ts : List TableId) (rs ss : List Revision) → map revision_value rs ≡ map revision_value ss
    → document_values ts rs ≡ document_values ts ss
same_documents [] rs ss e = refl
same_documents (t ∷ ts) [] [] e = refl
same_documents (t ∷ ts) [] (s ∷ ss) e = absurd (not_nil (revision_value s) (map revision_value ss) (sym e))
same_documents (t ∷ ts) (r ∷ rs) [] e = absurd (not_nil (revision_value r) (map revision_value rs) e)
same_documents (t ∷ ts) (r ∷ rs) (s ∷ ss) e =
    let first = same_head (revision_value r) (revision_value s) (map revision_value rs) (map revision_value ss) e in
    let rest = same_tail (revision_value r) (revision_value s) (map revision_value rs) (map revision_value ss) e in
    cons (ap (λ d. structure (field (codes "documentId") d ∷ field (codes "tableId") (id_value t.raw) ∷ [])) (same_id r s first))
    (same_documents ts rs ss rest)

-- ---- what stands for the revisions fits, and is told by its values

all_fit : (h i : Bool) → (h && i) ≡ true → (((true && h) && ((i && true) && true)) && true) ≡ true
all_fit true true e = refl
all_fit true false e = e
all_fit false i e = e

stand_in_fits : (l : RevisionSummary) → listed_fits l ≡ true → revision_fits (stand_in l) ≡ true
stand_in_fits l fits = all_fit (hash_fits l.hash) (id_fits l.document.raw) fits

stand_ins_fit : (listed : List RevisionSummary) → list_all listed_fits listed ≡ true → list_all revision_fits (map stand_in listed) ≡ true
stand_ins_fit [] fits = refl
stand_ins_fit (l ∷ ls) fits =
    both_true (stand_in_fits l (left (listed_fits l) _ fits)) (stand_ins_fit ls (right (listed_fits l) _ fits))

-- and the other way round
one_fits : (h i : Bool) → (((true && h) && ((i && true) && true)) && true) ≡ true → (h && i) ≡ true
one_fits true true e = refl
one_fits true false e = e
one_fits false i e = e

listed_fit : (listed : List RevisionSummary) → list_all revision_fits (map stand_in listed) ≡ true → list_all listed_fits listed ≡ true
listed_fit [] fits = refl
listed_fit (l ∷ ls) fits =
    both_true (one_fits (hash_fits l.hash) (id_fits l.document.raw) (left (revision_fits (stand_in l)) _ fits))
    (listed_fit ls (right (revision_fits (stand_in l)) _ fits))

revisions_same : (rs ss : List Revision) → list_all revision_fits rs ≡ true → list_all revision_fits ss ≡ true
    → map revision_value rs ≡ map revision_value ss → rs ≡ ss
revisions_same rs ss r s e =
    some_same rs ss (sym (each-puts revision_in revision_value revision_fits revision-puts rs r)
    ∙ ap (each revision_in) e ∙ each-puts revision_in revision_value revision_fits revision-puts ss s)

whole_fits : (b : Block) → IsWhole b → list_all revision_fits b.revisions ≡ true
whole_fits b w = right (header_fits b.header && hashes_fit b && info_fits b.info) _ w.fits

-- ---- the summary of a block that is read

abbrev most_fields : Block → List Field
most_fields b = front_fields b.header ++ hash_fields b ++ field (codes "transactionInfo") (info_value b.info b.revisions) ∷ []

record StandsFor (fs : List Field) (listed : List RevisionSummary) (b : Block) : Type 0 where
  fields : fs ≡ most_fields b
  revisions : map revision_value b.revisions ≡ map revision_value (map stand_in listed)

stands : (fs : List Field) (listed : List RevisionSummary) (b : Block) → stood_value fs listed ≡ block_value b → StandsFor fs listed b
stands fs listed b e =
    let parts = last_is fs (most_fields b) (field (codes "revisions") (list (map revision_value (map stand_in listed))))
    (field (codes "revisions") (list (map revision_value b.revisions))) (fields_same _ _ e) in
    record {
      fields = parts.0;
      revisions = sym (lists_same (map revision_value (map stand_in listed)) (map revision_value b.revisions) (ap (λ (f : Field). f.value) parts.1));
    }

abbrev info_with : Info → List Value → Value
info_with i documents = structure (
    field (codes "place") (place_value i.place) ∷ told_field i.said
    ∷ field (codes "schema") (list (map schema_value i.schema)) ∷ field (codes "documents") (list documents) ∷ [])

summary_of_block : (fs : List Field) (listed : List RevisionSummary) (b : Block) → StandsFor fs listed b
    → fs ≡ summary_fields (summary_by listed b)
summary_of_block fs listed b s =
    s.fields
    ∙ ap (λ documents. front_fields b.header ++ hash_fields b ++ field (codes "transactionInfo") (info_with b.info documents) ∷ [])
    (same_documents b.info.tables b.revisions (map stand_in listed) s.revisions)

pub summary_is : (fields : List Field) (p : Parts) (s : Summary) → IsSplit fields (Some p) → IsJoined p (Some s) → IsSummaryAs (structure fields) (Some s)
summary_is fields p s split joined =
    let b : Block = joined.0 in
    let read = joined.1 in
    let l = listed_from-is split.0 p.listed split.2 in
    let st = stands p.fields p.listed b read.0 in
    let whole : fields ≡ p.fields ++ list_field p.listed ∷ [] = split.1 ∙ ap (λ f. p.fields ++ f ∷ []) l.0 in
    let value : structure fields ≡ summary_value (summary_by p.listed b) =
    ap structure (whole ∙ ap (λ fs. fs ++ list_field p.listed ∷ []) (summary_of_block p.fields p.listed b st)) in
    let made : IsTrue (within (structure fields)) → IsSummary (summary_by p.listed b) =
    (λ ranges.
    let w = read.1 (stood_within p.fields p.listed (subst (λ fs. within (structure fs) ≡ true) whole ranges)) in
    let same : b.revisions ≡ map stand_in p.listed =
    revisions_same b.revisions (map stand_in p.listed) (whole_fits b w) (stand_ins_fit p.listed l.1) st.revisions in
    record { empty = refl; whole = subst (λ rs. IsWhole (record b { revisions = rs })) same w }) in
    subst (λ x. IsSummaryAs (structure fields) (Some x)) (sym joined.2) (value, made)

-- the block that is read of the fields with what stands for the revisions
pub read_as : (fs : List Field) (listed : List RevisionSummary) (made : List Field) (revisions : List Value) (items v : Value) (o : Option Block)
    → revisions ≡ map revision_value (map stand_in listed) → items ≡ list revisions → made ≡ fs ++ field (codes "revisions") items ∷ [] → v ≡ structure made
    → blocks.IsReadAs v o → blocks.IsReadAs (stood_value fs listed) o
read_as fs listed made revisions items v o all is more value h =
    subst (λ (x : Value). blocks.IsReadAs x o)
    (value ∙ ap structure (more ∙ ap (λ (x : Value). fs ++ field (codes "revisions") x ∷ []) (is ∙ ap list all))) h

-- ---- a value of no summary

listed_fits_of : (s : Summary) → IsSummary s → list_all listed_fits s.listed ≡ true
listed_fits_of s w =
    listed_fit s.listed (right (header_fits s.block.header && hashes_fit s.block && info_fits s.block.info) _ w.whole.fits)

nothing_is : {A : Type 0} (x : A) → None ≡ Some x → ⊥
nothing_is x e = cc

pub unsplit_is : (fields : List Field) → IsSplit fields None → IsSummaryAs (structure fields) None
unsplit_is fields split = λ s w is.
    let same : fields ≡ summary_fields s ++ list_field s.listed ∷ [] = fields_same fields _ is in
    nothing_is s.listed (sym (split (summary_fields s) (list_field s.listed) same) ∙ listed_from-puts s.listed (listed_fits_of s w))

pub unjoined_is : (fields : List Field) (p : Parts) → IsSplit fields (Some p) → IsJoined p None → IsSummaryAs (structure fields) None
unjoined_is fields p split joined = λ s w is.
    let same : fields ≡ summary_fields s ++ list_field s.listed ∷ [] = fields_same fields _ is in
    let parts = last_is p.fields (summary_fields s) split.0 (list_field s.listed) (sym split.1 ∙ same) in
    let listed : p.listed ≡ s.listed =
    some_same p.listed s.listed (sym split.2 ∙ ap listed_from parts.1 ∙ listed_from-puts s.listed (listed_fits_of s w)) in
    let stood : stood_value p.fields p.listed ≡ block_value (stood_in s) = (λ i. stood_value (parts.0 i) (listed i)) in
    joined (stood_in s) w.whole stood

pub joined_is : (fields : List Field) (p : Parts) (o : Option Summary) → IsSplit fields (Some p) → IsJoined p o → IsSummaryAs (structure fields) o
joined_is fields p (Some s) split joined = summary_is fields p s split joined
joined_is fields p None split joined = unjoined_is fields p split joined

not_empty : (front : List Field) (last : Field) → front ++ last ∷ [] ≡ [] → ⊥
not_empty [] last e = not_nil last [] e
not_empty (f ∷ fs) last e = not_nil f (fs ++ last ∷ []) e

-- without fields there is no last one
pub empty_split : (fields : List Field) → fields ≡ [] → IsSplit fields None
empty_split fields none = λ front last e. absurd (not_empty front last (sym e ∙ none))

-- the last field lists nothing
pub none_listed : (fields rest : List Field) (own : Field) → fields ≡ rest ++ own ∷ [] → listed_from own ≡ None → IsSplit fields None
none_listed fields rest own is none = λ front last e.
    ap listed_from (last_is front rest last own (sym e ∙ is)).1 ∙ none

-- a value without fields is that of no summary
pub fieldless_is : (v : Value) → fields_in v ≡ None → IsSummaryAs v None
fieldless_is v none = λ s w is. nothing_is _ (sym none ∙ ap fields_in is ∙ fields-puts _)

pub of_fields : (v : Value) (fields : List Field) (o : Option Summary) → fields_in v ≡ Some fields → IsSummaryAs (structure fields) o → IsSummaryAs v o
of_fields v fields o is h = subst (λ x. IsSummaryAs x o) (sym (fields-gets v fields is)) h

-- ---- summaries of one value are one

abbrev with_revisions : Summary → List Revision → Summary
with_revisions s rs = record { block = record s.block { revisions = rs }; listed = s.listed }

pub summaries_same : (s t : Summary) → IsSummary s → IsSummary t → summary_value s ≡ summary_value t → s ≡ t
summaries_same s t ws wt e =
    let parts = last_is (summary_fields s) (summary_fields t) (list_field s.listed) (list_field t.listed) (fields_same _ _ e) in
    let listed : s.listed ≡ t.listed =
    some_same s.listed t.listed (sym (listed_from-puts s.listed (listed_fits_of s ws)) ∙ ap listed_from parts.1 ∙ listed_from-puts t.listed (listed_fits_of t wt)) in
    let stood : block_value (stood_in s) ≡ block_value (stood_in t) = (λ i. stood_value (parts.0 i) (listed i)) in
    let blocks : stood_in s ≡ stood_in t = values-tell (stood_in s) (stood_in t) ws.whole wt.whole stood in
    let first : s ≡ summary_by s.listed s.block = ap (with_revisions s) ws.empty in
    let middle : summary_by s.listed s.block ≡ summary_by t.listed t.block = (λ i. summary_by (listed i) (blocks i)) in
    let last : summary_by t.listed t.block ≡ t = ap (with_revisions t) (sym wt.empty) in
    first ∙ middle ∙ last
