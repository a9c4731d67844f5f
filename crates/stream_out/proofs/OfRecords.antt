-- Reading records is inverse to writing them.
use Rattle.std.proofs.Common.{◌≡◌, ◌≢◌, ◌∙◌, ◌&&◌, ℕ, Bool, true, false, List, [], ◌∷◌, Option, Some, None, refl, sym, ap, subst, codes, if◌then◌else◌, IsTrue, bytes_eq, true≢false}
use Rattle.std.specs.Prelude.{option_map}
use Rattle.std.specs.Cmp.Derive.{both_true}
use Rattle.std.proofs.lemmas.Slice.Eq.{bytes_eq-Decides}
use Rattle.ion_values.specs.Within.{within, field_within, text_within}
use Rattle.ion_values.specs.declared.value.Value.{Value}
use Rattle.ion_values.specs.declared.value.Field.{Field}
use Rattle.ledger_model.specs.declared.block.Revision.{Revision}
use Rattle.ledger_model.specs.Values.{field, fields_in, string_in}
use Rattle.ledger_model.specs.Journal.{structure, string, id_value, revision_value}
use Rattle.ledger_model.specs.Whole.{id_fits, table_fits, revision_fits, is_shallow}
use Rattle.value_codec.specs.ReadParts.{named, id_in}
use Rattle.value_codec.proofs.Inverse.{Gets, Puts, took, fields-gets, left, right, cons}
use Rattle.value_codec.proofs.SmallParts.{fields-puts, string-gets, string-puts, id-gets, id-puts}
use Rattle.value_codec.proofs.Fields.{named-is, taken, always}
use Rattle.block_form.specs.ReadBack.{revision_in}
use Rattle.block_form.proofs.OfRevisions.{revision-gets, revision-puts}
use Rattle.stream_out.specs.declared.record.Summary.{Summary}
use Rattle.stream_out.specs.declared.record.Details.{Details}
use Rattle.stream_out.specs.declared.record.Record.{Record}
use Rattle.stream_out.specs.declared.record.Record.TheVariants as kind
use Rattle.stream_out.specs.declared.read_records.TableInfo.{TableInfo}
use Rattle.stream_out.specs.Records.{typed, control_value, summary_value, details_value, record_value, IsDetails, IsRecord}
use Rattle.stream_out.specs.ReadRecords.{table_of, table_in, details_of, details_in, control_by, control_of, control_in, other_by, typed_of, typed_in, IsSummaryAs, IsTypedAs, IsReadAs, ValuesTellRecords}
use Rattle.stream_out.proofs.Ranges.{within_structure, within_field}
use Rattle.stream_out.proofs.OfSummaries.{summaries_same}

-- ---- details

table_of-is : (fs : List Field) (t : TableInfo) → table_of fs ≡ Some t
    → (structure fs ≡ structure (field (codes "tableId") (id_value t.table.raw) ∷ field (codes "tableName") (string t.name) ∷ [])) × (table_fits t.table ≡ true)
table_of-is (f ∷ g ∷ []) t e =
    let a = taken id_in id_value id_fits id-gets (codes "tableId") f _ t e in
    let b = taken string_in string always (λ v x is. (string-gets v x is, refl)) (codes "tableName") g _ t a.3 in
    let made : TableInfo = record { table = record { raw = a.0 }; name = b.0 } in
    let same : made ≡ t = cc in
    subst (λ x. (structure (f ∷ g ∷ []) ≡ structure (field (codes "tableId") (id_value x.table.raw) ∷ field (codes "tableName") (string x.name) ∷ [])) × (table_fits x.table ≡ true)) same
    (ap structure (cons a.1 (cons b.1 refl)), a.2)
table_of-is [] t e = cc
table_of-is (f ∷ []) t e = cc
table_of-is (f ∷ g ∷ h ∷ fs) t e = cc

abbrev info_value : TableInfo → Value
info_value t = structure (field (codes "tableId") (id_value t.table.raw) ∷ field (codes "tableName") (string t.name) ∷ [])

abbrev info_fits : TableInfo → Bool
info_fits t = table_fits t.table

table-gets : Gets table_in info_value info_fits
table-gets v t e =
    let f = took (fields_in v) table_of t e in
    let s = table_of-is f.0 t f.2 in
    (fields-gets v f.0 f.1 ∙ s.0, s.1)

table-puts : Puts table_in info_value info_fits
table-puts t fits = let a = id-puts t.table.raw fits in rw (fields-puts _, a, string-puts t.name) refl

record AreDetails (v : Value) (d : Details) : Type 0 where
  value : v ≡ details_value d
  shallow : is_shallow d.revision.content ≡ true
  table : table_fits d.table ≡ true
  revision : revision_fits d.revision ≡ true

details_of-is : (fs : List Field) (d : Details) → details_of fs ≡ Some d → AreDetails (structure fs) d
details_of-is (f ∷ g ∷ []) d e =
    let a = taken table_in info_value info_fits table-gets (codes "tableInfo") f _ d e in
    let b = taken revision_in revision_value revision_fits revision-gets (codes "revision") g _ d a.3 in
    go a.0 b.0 a.1 b.1 a.2 b.2 (is_shallow b.0.content) refl b.3 where
      go : (t : TableInfo) (r : Revision) → f ≡ field (codes "tableInfo") (info_value t) → g ≡ field (codes "revision") (revision_value r)
          → info_fits t ≡ true → revision_fits r ≡ true → (test : Bool) → is_shallow r.content ≡ test
          → (if test then Some (record { table = t.table; name = t.name; revision = r }) else None) ≡ Some d → AreDetails (structure (f ∷ g ∷ [])) d
      go t r fe ge fits own true is e =
          let made : Details = record { table = t.table; name = t.name; revision = r } in
          let same : made ≡ d = cc in
          subst (AreDetails (structure (f ∷ g ∷ []))) same (record { value = ap structure (cons fe (cons ge refl)); shallow = is; table = fits; revision = own })
      go t r fe ge fits own false is e = cc
details_of-is [] d e = cc
details_of-is (f ∷ []) d e = cc
details_of-is (f ∷ g ∷ h ∷ fs) d e = cc

abbrev DetailsOf : Value → Details → Type 0
DetailsOf v d = (v ≡ details_value d) × (IsTrue (within v) → IsDetails d)

details-gets : (v : Value) (d : Details) → details_in v ≡ Some d → DetailsOf v d
details-gets v d e =
    let f = took (fields_in v) details_of d e in
    let r = details_of-is f.0 d f.2 in
    let value : v ≡ details_value d = fields-gets v f.0 f.1 ∙ r.value in (
      value,
      λ ranges. record {
        shallow = r.shallow;
        fits = both_true r.table r.revision;
        ranges = subst (λ x. within x ≡ true) value ranges;
      },
    )

details-puts : (d : Details) → IsDetails d → details_in (details_value d) ≡ Some d
details-puts d w =
    let t = table-puts (record { table = d.table; name = d.name }) (left (table_fits d.table) _ w.fits) in
    let r = revision-puts d.revision (right (table_fits d.table) _ w.fits) in
    let shallow = w.shallow in
    rw (fields-puts _, t, r, shallow) refl

-- ---- types and payloads

abbrev type_of : Record → List ℕ
type_of kind.Created = codes "CONTROL"
type_of (kind.Summary s) = codes "BLOCK_SUMMARY"
type_of (kind.Details d) = codes "REVISION_DETAILS"
type_of kind.Completed = codes "CONTROL"

abbrev word_value : List ℕ → Value
word_value word = structure (field (codes "controlRecordType") (string word) ∷ [])

abbrev payload_of : Record → Value
payload_of kind.Created = word_value (codes "CREATED")
payload_of (kind.Summary s) = summary_value s
payload_of (kind.Details d) = details_value d
payload_of kind.Completed = word_value (codes "COMPLETED")

typed_is : (r : Record) → record_value r ≡ typed (type_of r) (payload_of r)
typed_is kind.Created = refl
typed_is (kind.Summary s) = refl
typed_is (kind.Details d) = refl
typed_is kind.Completed = refl

typed-puts : (type : List ℕ) (v : Value) → typed_in (typed type v) ≡ Some (type, v)
typed-puts type v = rw (fields-puts _, string-puts type) refl

typed_of-is : (fs : List Field) (x : List ℕ × Value) → typed_of fs ≡ Some x → structure fs ≡ typed x.0 x.1
typed_of-is (f ∷ g ∷ []) x e =
    let a = taken string_in string always (λ v t is. (string-gets v t is, refl)) (codes "recordType") f _ x e in
    let b = took (named (codes "payload") g) (λ payload. Some (a.0, payload)) x a.3 in
    let made : List ℕ × Value = (a.0, b.0) in
    let same : made ≡ x = cc in
    subst (λ y. structure (f ∷ g ∷ []) ≡ typed y.0 y.1) same
    (ap structure (cons a.1 (cons (named-is (codes "payload") g b.0 b.1) refl)))
typed_of-is [] x e = cc
typed_of-is (f ∷ []) x e = cc
typed_of-is (f ∷ g ∷ h ∷ fs) x e = cc

typed-gets : (v : Value) (x : List ℕ × Value) → typed_in v ≡ Some x → v ≡ typed x.0 x.1
typed-gets v x e =
    let f = took (fields_in v) typed_of x e in
    fields-gets v f.0 f.1 ∙ typed_of-is f.0 x f.2

some_is : {A : Type 0} (x y : A) → Some x ≡ Some y → x ≡ y
some_is x y e = cc

nothing_is : {A : Type 0} (x : A) → None ≡ Some x → ⊥
nothing_is x e = cc

typed_same : (t u : List ℕ) (v w : Value) → typed t v ≡ typed u w → (t ≡ u) × (v ≡ w)
typed_same t u v w e =
    let both : (t, v) ≡ (u, w) = some_is (t, v) (u, w) (sym (typed-puts t v) ∙ ap typed_in e ∙ typed-puts u w) in
    (ap (λ (x : List ℕ × Value). x.0) both, ap (λ (x : List ℕ × Value). x.1) both)

-- no record has it if none of its type has the payload
abbrev NotPayload : List ℕ → Value → Type 0
NotPayload type v = (r : Record) → IsRecord r → type ≡ type_of r → v ≢ payload_of r

unread : (type : List ℕ) (v : Value) → NotPayload type v → IsTypedAs type v None
unread type v none = λ r w is.
    let same = typed_same type (type_of r) v (payload_of r) (is ∙ typed_is r) in
    none r w same.0 same.1

-- texts that the test tells apart
apart : (a b : List ℕ) → bytes_eq a b ≡ false → a ≡ b → ⊥
apart a b other same = true≢false (sym ((bytes_eq-Decides a b).1 same) ∙ other)

-- a record within its ranges has a payload within its own
payload_within : (type : List ℕ) (v : Value) → within (typed type v) ≡ true → within v ≡ true
payload_within type v h =
    let first = field_within (field (codes "recordType") (string type)) in
    let second = field_within (field (codes "payload") v) in
    let all : (first && (second && true)) ≡ true = sym (within_structure _) ∙ h in
    let last : second ≡ true = left second true (right first (second && true) all) in
    right (text_within (codes "payload")) (within v) (sym (within_field (field (codes "payload") v)) ∙ last)

-- ---- summaries

pub typed_summary : (v : Value) (o : Option Summary) → IsSummaryAs v o → IsTypedAs (codes "BLOCK_SUMMARY") v (option_map kind.Summary o)
typed_summary v (Some s) h = (ap (typed (codes "BLOCK_SUMMARY")) h.0, h.1)
typed_summary v None h = unread (codes "BLOCK_SUMMARY") v not where
  not : NotPayload (codes "BLOCK_SUMMARY") v
  not kind.Created w same = absurd (apart (codes "BLOCK_SUMMARY") (codes "CONTROL") refl same)
  not (kind.Summary s) w same = h s w
  not (kind.Details d) w same = absurd (apart (codes "BLOCK_SUMMARY") (codes "REVISION_DETAILS") refl same)
  not kind.Completed w same = absurd (apart (codes "BLOCK_SUMMARY") (codes "CONTROL") refl same)

-- ---- control records

abbrev ControlOf : List ℕ → Record → Type 0
ControlOf word r = (control_value word ≡ record_value r) × IsRecord r

control_by-is : (word : List ℕ) (r : Record) → control_by word ≡ Some r → ControlOf word r
control_by-is word r e = go (bytes_eq word (codes "CREATED")) refl e where
  second : (b : Bool) → bytes_eq word (codes "COMPLETED") ≡ b → (if b then Some kind.Completed else None) ≡ Some r → ControlOf word r
  second true t e =
      let same : kind.Completed ≡ r = cc in
      subst (ControlOf word) same (ap control_value ((bytes_eq-Decides word (codes "COMPLETED")).0 t), tt)
  second false t e = cc

  go : (b : Bool) → bytes_eq word (codes "CREATED") ≡ b
      → (if b then Some kind.Created else if bytes_eq word (codes "COMPLETED") then Some kind.Completed else None) ≡ Some r → ControlOf word r
  go true t e =
      let same : kind.Created ≡ r = cc in
      subst (ControlOf word) same (ap control_value ((bytes_eq-Decides word (codes "CREATED")).0 t), tt)
  go false t e = second (bytes_eq word (codes "COMPLETED")) refl e

abbrev TypedAs : List ℕ → Value → Record → Type 0
TypedAs type v r = (typed type v ≡ record_value r) × (within v ≡ true → IsRecord r)

control_of-is : (fs : List Field) (r : Record) → control_of fs ≡ Some r → TypedAs (codes "CONTROL") (structure fs) r
control_of-is (f ∷ []) r e =
    let a = taken string_in string always (λ v t is. (string-gets v t is, refl)) (codes "controlRecordType") f _ r e in
    let c = control_by-is a.0 r a.3 in
    (ap (λ g. typed (codes "CONTROL") (structure (g ∷ []))) a.1 ∙ c.0, λ ranges. c.1)
control_of-is [] r e = cc
control_of-is (f ∷ g ∷ fs) r e = cc

control-gets : (v : Value) (r : Record) → control_in v ≡ Some r → TypedAs (codes "CONTROL") v r
control-gets v r e =
    let f = took (fields_in v) control_of r e in
    let c = control_of-is f.0 r f.2 in
    subst (λ w. TypedAs (codes "CONTROL") w r) (sym (fields-gets v f.0 f.1)) c

control-puts : (word : List ℕ) → control_in (structure (field (codes "controlRecordType") (string word) ∷ [])) ≡ control_by word
control-puts word = rw (fields-puts _, string-puts word) refl

-- ---- records that aren't summaries

of_details : (v : Value) (o : Option Details) → details_in v ≡ o → (r : Record) → option_map kind.Details o ≡ Some r
    → TypedAs (codes "REVISION_DETAILS") v r
of_details v None is r e = cc
of_details v (Some d) is r e =
    let g = details-gets v d is in
    let same : kind.Details d ≡ r = cc in
    subst (TypedAs (codes "REVISION_DETAILS") v) same (ap (typed (codes "REVISION_DETAILS")) g.0, g.1)

other_by-is : (type : List ℕ) (v : Value) (r : Record) → other_by type v ≡ Some r → TypedAs type v r
other_by-is type v r e = go (bytes_eq type (codes "CONTROL")) refl e where
  at : (word : List ℕ) → bytes_eq type word ≡ true → TypedAs word v r → TypedAs type v r
  at word t is = subst (λ w. TypedAs w v r) (sym ((bytes_eq-Decides type word).0 t)) is

  second : (b : Bool) → bytes_eq type (codes "REVISION_DETAILS") ≡ b → (if b then option_map kind.Details (details_in v) else None) ≡ Some r
      → TypedAs type v r
  second true t e = at (codes "REVISION_DETAILS") t (of_details v (details_in v) refl r e)
  second false t e = cc

  go : (b : Bool) → bytes_eq type (codes "CONTROL") ≡ b
      → (if b then control_in v else if bytes_eq type (codes "REVISION_DETAILS") then option_map kind.Details (details_in v) else None) ≡ Some r
      → TypedAs type v r
  go true t e = at (codes "CONTROL") t (control-gets v r e)
  go false t e = second (bytes_eq type (codes "REVISION_DETAILS")) refl e

of_control : (v : Value) → other_by (codes "CONTROL") v ≡ control_in v
of_control v = refl

of_revisions : (v : Value) → other_by (codes "REVISION_DETAILS") v ≡ option_map kind.Details (details_in v)
of_revisions v = refl

created_is : control_by (codes "CREATED") ≡ Some kind.Created
created_is = refl

completed_is : control_by (codes "COMPLETED") ≡ Some kind.Completed
completed_is = refl

-- what other_by reads of a record's payload
own-puts : (r : Record) → IsRecord r → bytes_eq (type_of r) (codes "BLOCK_SUMMARY") ≡ false → other_by (type_of r) (payload_of r) ≡ Some r
own-puts kind.Created w other = of_control (word_value (codes "CREATED")) ∙ control-puts (codes "CREATED") ∙ created_is
own-puts (kind.Summary s) w other = absurd (true≢false other)
own-puts (kind.Details d) w other =
    of_revisions (details_value d) ∙ ap (λ (o : Option Details). option_map kind.Details o) (details-puts d w)
own-puts kind.Completed w other = of_control (word_value (codes "COMPLETED")) ∙ control-puts (codes "COMPLETED") ∙ completed_is

other-puts : (type : List ℕ) (v : Value) → bytes_eq type (codes "BLOCK_SUMMARY") ≡ false → (r : Record) → IsRecord r → type ≡ type_of r → v ≡ payload_of r
    → other_by type v ≡ Some r
other-puts type v other r w t p =
    ap (λ (x : List ℕ). other_by x v) t ∙ ap (λ (x : Value). other_by (type_of r) x) p
    ∙ own-puts r w (ap (λ (x : List ℕ). bytes_eq x (codes "BLOCK_SUMMARY")) (sym t) ∙ other)

typed_by : (type : List ℕ) (v : Value) → bytes_eq type (codes "BLOCK_SUMMARY") ≡ false → (o : Option Record) → other_by type v ≡ o → IsTypedAs type v o
typed_by type v other (Some r) e = other_by-is type v r e
typed_by type v other None e = unread type v (λ r w t p. nothing_is r (sym e ∙ other-puts type v other r w t p))

pub typed_other : (type : List ℕ) (v : Value) → bytes_eq type (codes "BLOCK_SUMMARY") ≡ false → IsTypedAs type v (other_by type v)
typed_other type v other = typed_by type v other (other_by type v) refl

pub at_type : (type : List ℕ) (v : Value) (o : Option Record) → bytes_eq type (codes "BLOCK_SUMMARY") ≡ true
    → IsTypedAs (codes "BLOCK_SUMMARY") v o → IsTypedAs type v o
at_type type v o is h = subst (λ t. IsTypedAs t v o) (sym ((bytes_eq-Decides type (codes "BLOCK_SUMMARY")).0 is)) h

pub at_other : (type : List ℕ) (v : Value) (o : Option Record) → bytes_eq type (codes "BLOCK_SUMMARY") ≡ false → o ≡ other_by type v → IsTypedAs type v o
at_other type v o other is = subst (λ x. IsTypedAs type v x) (sym is) (typed_other type v other)

-- ---- records

-- a value of no type and payload is that of no record
pub untyped_is : (v : Value) → typed_in v ≡ None → IsReadAs v None
untyped_is v none = λ r w is. nothing_is _ (sym none ∙ ap typed_in (is ∙ typed_is r) ∙ typed-puts (type_of r) (payload_of r))

pub of_type : (v : Value) (type : List ℕ) (payload : Value) (o : Option Record) → typed_in v ≡ Some (type, payload) → IsTypedAs type payload o → IsReadAs v o
of_type v type payload o is h = go o h where
  value : v ≡ typed type payload
  value = typed-gets v (type, payload) is

  go : (o : Option Record) → IsTypedAs type payload o → IsReadAs v o
  go (Some r) h = (value ∙ h.0, λ ranges. h.1 (payload_within type payload (subst (λ x. within x ≡ true) value ranges)))
  go None h = λ r w e. h r w (sym value ∙ e)

-- ---- records of one value are one

told_by_other : (a b : Record) → IsRecord a → IsRecord b → type_of a ≡ type_of b → payload_of a ≡ payload_of b
    → bytes_eq (type_of a) (codes "BLOCK_SUMMARY") ≡ false → a ≡ b
told_by_other a b wa wb t p other =
    some_is a b (sym (own-puts a wa other) ∙ other-puts (type_of a) (payload_of a) other b wb t p)

told_by : (a b : Record) → IsRecord a → IsRecord b → type_of a ≡ type_of b → payload_of a ≡ payload_of b → a ≡ b
told_by (kind.Summary s) (kind.Summary t) wa wb types payloads = ap (λ (x : Summary). kind.Summary x) (summaries_same s t wa wb payloads)
told_by (kind.Summary s) kind.Created wa wb types payloads = absurd (apart (codes "BLOCK_SUMMARY") (codes "CONTROL") refl types)
told_by (kind.Summary s) (kind.Details d) wa wb types payloads = absurd (apart (codes "BLOCK_SUMMARY") (codes "REVISION_DETAILS") refl types)
told_by (kind.Summary s) kind.Completed wa wb types payloads = absurd (apart (codes "BLOCK_SUMMARY") (codes "CONTROL") refl types)
told_by kind.Created b wa wb types payloads = told_by_other kind.Created b wa wb types payloads refl
told_by (kind.Details d) b wa wb types payloads = told_by_other (kind.Details d) b wa wb types payloads refl
told_by kind.Completed b wa wb types payloads = told_by_other kind.Completed b wa wb types payloads refl

pub values-tell : ValuesTellRecords
values-tell a b wa wb e =
    let same = typed_same (type_of a) (type_of b) (payload_of a) (payload_of b) (sym (typed_is a) ∙ e ∙ typed_is b) in
    told_by a b wa wb same.0 same.1
