-- What the value of a whole block tells of its parts, and what the value of each part tells.
use Rattle.std.proofs.Common.{◌≡◌, ◌∙◌, ◌≤◌, ◌+◌, ◌<◌, ◌^◌, ℕ, true, false, List, [], ◌∷◌, map, refl, sym, arith}
use Rattle.std.specs.Prelude.{nat_lt}
use Rattle.std.specs.List.{AllByRecursion, list_all}
use Rattle.std.proofs.lemmas.Bool.{and_from, and_parts, lt-ltb, leb-true, ltb-true, eq-eqb}
use Rattle.std.proofs.lemmas.List.Sums.{AllPass-from_list_all}
use Rattle.std.proofs.lemmas.Str.{IsUtf8-from_ascii, utf8_valid_len-IsUtf8}
use Rattle.std.proofs.lemmas.Str.Ascii.{IsAscii-from_all}
use Rattle.ion_values.specs.Depth.{depth_of, field_depth, deepest}
use Rattle.ion_values.specs.Within.{within, field_within, all_true, text_within, bytes_within}
use Rattle.ion_values.specs.Time.{is_time}
use Rattle.ion_values.specs.declared.time.TimeParts.{TimeParts}
use Rattle.ion_values.specs.declared.value.Value.{Value}
use Rattle.ion_values.specs.declared.value.Field.{Field}
use Rattle.ion_values.specs.declared.value.Body.TheVariants as body
use Rattle.ql_types.specs.Ids.{id_text}
use Rattle.ql_types.proofs.Digits.{id_text-ascii}
use Rattle.ledger_model.specs.declared.block.Content.{Content}
use Rattle.ledger_model.specs.declared.block.Content.TheVariants.{Deleted, Kept, Redacted}
use Rattle.ledger_model.specs.declared.block.Block.{Block}
use Rattle.ledger_model.specs.Values.{plain, field, named_id}
use Rattle.ledger_model.specs.Journal.{number, string, moment, structure, list, id_value}
use Rattle.ledger_model.specs.Whole as whole
use Rattle.ledger_model.specs.Whole.{IsWhole, is_redacted}
use Rattle.laws_validity.specs.Makes.{content_within}
use Rattle.laws_validity.proofs.Lists.{all_like, passing}
use Rattle.laws_validity.proofs.Shapes.{Fine, FineField, Shallow, within_string, depth_string, within_number, depth_number, within_moment, depth_moment, within_blob, depth_blob, within_list, depth_list, within_structure, depth_structure, within_field, depth_field}

-- ---- values that are fine

pub ascii_text : (text : List ℕ) → list_all (λ b. nat_lt b 128) text ≡ true → text_within text ≡ true
ascii_text text h =
    let low = AllPass-from_list_all (λ b. nat_lt b 128) text h in
    eq-eqb _ _ (utf8_valid_len-IsUtf8 text
    (IsUtf8-from_ascii text (IsAscii-from_all text (λ k d here. ltb-true _ 128 (low k d here)))))

pub id_text_within : (raw : ℕ) → text_within (id_text raw) ≡ true
id_text_within raw =
    eq-eqb _ _ (utf8_valid_len-IsUtf8 (id_text raw)
    (IsUtf8-from_ascii (id_text raw) (IsAscii-from_all (id_text raw) (id_text-ascii raw))))

pub fine_string : (d : ℕ) (text : List ℕ) → text_within text ≡ true → Fine d (string text)
fine_string d text h =
    record { ranges = within_string text ∙ h; depth = let e = depth_string text in omega (arith, e) }

pub fine_id : (d raw : ℕ) → Fine d (id_value raw)
fine_id d raw = fine_string d (id_text raw) (id_text_within raw)

pub fine_number : (d n : ℕ) → n < 2 ^ 127 → Fine d (number n)
fine_number d n h = record
    { ranges = within_number n ∙ lt-ltb n (2 ^ 127) h; depth = let e = depth_number n in omega (arith, e) }

pub fine_moment : (d : ℕ) (t : TimeParts) → is_time t ≡ true → Fine d (moment t)
fine_moment d t h = record { ranges = within_moment t ∙ h; depth = let e = depth_moment t in omega (arith, e) }

pub fine_blob : (d : ℕ) (bytes : List ℕ) → bytes_within bytes ≡ true → Fine d (plain (body.Blob bytes))
fine_blob d bytes h = record { ranges = within_blob bytes ∙ h; depth = let e = depth_blob bytes in omega (arith, e) }

members_within : (d : ℕ) (vs : List Value) → AllByRecursion (Fine d) vs → all_true (map within vs) ≡ true
members_within d [] h = refl
members_within d (v ∷ vs) h = and_from (within v) _ h.0.ranges (members_within d vs h.1)

members_depth : (d : ℕ) (vs : List Value) → AllByRecursion (Fine d) vs → deepest (map depth_of vs) ≤ d
members_depth d [] h = omega arith
members_depth d (v ∷ vs) h = let here = h.0.depth in let rest = members_depth d vs h.1 in omega (arith, here, rest)

pub fine_list : (d : ℕ) (vs : List Value) → AllByRecursion (Fine d) vs → Fine (d + 1) (list vs)
fine_list d vs h = record {
  ranges = within_list vs
      ∙ members_within d vs h;
  depth = let e = depth_list vs in let m = members_depth d vs h in omega (arith, e, m);
}

fields_within : (d : ℕ) (fs : List Field) → AllByRecursion (FineField d) fs → all_true (map field_within fs) ≡ true
fields_within d [] h = refl
fields_within d (f ∷ fs) h =
    and_from (field_within f) _
    (within_field f ∙ and_from (text_within f.name) (within f.value) h.0.name h.0.value.ranges)
    (fields_within d fs h.1)

fields_depth : (d : ℕ) (fs : List Field) → AllByRecursion (FineField d) fs → deepest (map field_depth fs) ≤ d
fields_depth d [] h = omega arith
fields_depth d (f ∷ fs) h = let here = h.0.value.depth in let same = depth_field f in let rest =
    fields_depth d fs h.1 in omega (arith, here, same, rest)

pub fine_structure : (d : ℕ) (fs : List Field) → AllByRecursion (FineField d) fs → Fine (d + 1) (structure fs)
fine_structure d fs h =
    record {
      ranges = within_structure fs
          ∙ fields_within d fs h;
      depth = let e = depth_structure fs in let m =
          fields_depth d fs h in omega (arith, e, m);
    }

-- a field whose name is ASCII
pub fine_field : (d : ℕ) (name : List ℕ) (v : Value) → list_all (λ b. nat_lt b 128) name ≡ true → Fine d v
    → FineField d (field name v)
fine_field d name v h k = record { name = ascii_text name h; value = k }

pub fine_more : (d e : ℕ) (v : Value) → d ≤ e → Fine d v → Fine e v
fine_more d e v h k = record { ranges = k.ranges; depth = let l = k.depth in omega (arith, h, l) }

pub fine_each : (d : ℕ) (vs : List Value) → AllByRecursion (Shallow d) vs → list_all within vs ≡ true
    → AllByRecursion (Fine d) vs
fine_each d [] h k = tt
fine_each d (v ∷ vs) h k = let both =
    and_parts (within v) (list_all within vs) k in
    (record { ranges = both.0; depth = h.0 }, fine_each d vs h.1 both.1)

-- ---- values that don't nest too deep

-- a struct of one field
shallow_field : (d : ℕ) (name : List ℕ) (v : Value) → Shallow d v → Shallow (d + 1) (structure (field name v ∷ []))
shallow_field d name v h = let e = depth_structure (field name v ∷ []) in let f =
    depth_field (field name v) in omega (arith, e, f, h)

pub shallow_id : (name : List ℕ) (raw : ℕ) → Shallow 130 (named_id name raw)
shallow_id name raw =
    let text : Shallow 0 (id_value raw) = (let e = depth_string (id_text raw) in omega (arith, e)) in
    let one : Shallow 1 (named_id name raw) = shallow_field 0 name (id_value raw) text in
    omega (arith, one)

-- ---- what is told of members

fields_of : (fs : List Field) → all_true (map field_within fs) ≡ true → AllByRecursion (λ f. within f.value ≡ true) fs
fields_of [] h = tt
fields_of (f ∷ fs) h =
    let both = and_parts (field_within f) (all_true (map field_within fs)) h in
    ((and_parts (text_within f.name) (within f.value) (sym (within_field f) ∙ both.0)).1, fields_of fs both.1)

structure_of : (fs : List Field) → within (structure fs) ≡ true → AllByRecursion (λ f. within f.value ≡ true) fs
structure_of fs h = fields_of fs (sym (within_structure fs) ∙ h)

-- ---- what is told of a whole block

-- the content is within its range and nests at most 64 deep; a transaction leaves none that is redacted
abbrev pub FineContent : Content → Type 0
FineContent Deleted = Unit {0}
FineContent (Kept v) = Fine 64 v
FineContent (Redacted hash) = ⊥

-- the same of its depth alone
abbrev pub ShallowContent : Content → Type 0
ShallowContent Deleted = Unit {0}
ShallowContent (Kept v) = Shallow 64 v
ShallowContent (Redacted hash) = Unit {0}

pub fine_content : (c : Content) → ShallowContent c → content_within c ≡ true → is_redacted c ≡ false → FineContent c
fine_content Deleted h k u = tt
fine_content (Kept v) h k u = record { ranges = k; depth = h }
fine_content (Redacted hash) h k u = cc

shallow_content : (c : Content) → whole.is_shallow c ≡ true → ShallowContent c
shallow_content Deleted h = tt
shallow_content (Kept v) h = leb-true (depth_of v) 64 h
shallow_content (Redacted hash) h = tt

pub record Parts (b : Block) : Type 0 where
  pub time : is_time b.header.time ≡ true
  pub hash : bytes_within b.hash.bytes ≡ true
  pub revisions : AllByRecursion (λ r. ShallowContent r.content) b.revisions

pub parts_of : (b : Block) → IsWhole b → Parts b
parts_of b w =
    let fields = structure_of _ w.ranges in
    record {
      time = sym (within_moment b.header.time) ∙ fields.1.1.0;
      hash = sym (within_blob b.hash.bytes) ∙ fields.1.1.1.0;
      revisions = all_like (λ r. whole.is_shallow r.content ≡ true) (λ r. ShallowContent r.content)
          (λ r h. shallow_content r.content h) b.revisions
          (passing (λ r. whole.is_shallow r.content) b.revisions w.documents);
    }
