-- The value of a block is within its ranges with what stands for its revisions, if that of its summary is.
use Rattle.std.proofs.Common.{◌≡◌, ◌∙◌, ◌&&◌, ◌^◌, ℕ, pos, true, List, [], ◌∷◌, ◌++◌, map, refl, sym, codes, rules, nat_lt, arith}
use Rattle.std.specs.Prelude.{Bool, ℤ, ◌+ℤ◌, ◌-ℤ◌, ◌*ℤ◌, int_le, int_lt}
use Rattle.std.specs.Cmp.Derive.{both_true}
use Rattle.std.specs.List.{list_all}
use Rattle.std.proofs.lemmas.Bool.{eq-eqb, ltb-true}
use Rattle.std.proofs.lemmas.List.Sums.{AllPass-from_list_all}
use Rattle.std.proofs.lemmas.Str.{IsUtf8-from_ascii, utf8_valid_len-IsUtf8}
use Rattle.std.proofs.lemmas.Str.Ascii.{IsAscii-from_all}
use Rattle.ion_values.specs.Within.{within, field_within, all_true, text_within}
use Rattle.jiff_core.specs.Calendar.{days_from_civil}
use Rattle.jiff_core.proofs.SignedLemmas.{signed_arith}
use Rattle.ion_values.specs.Time.{is_time, is_date, is_clock, is_offset, is_fraction, ends_at, is_in_years, utc_minutes}
use Rattle.ion_values.proofs.Years.{first_day, day_after_last}
use Rattle.ion_values.specs.declared.time.TimeParts.{TimeParts}
use Rattle.ion_values.specs.declared.value.Value.{Value}
use Rattle.ion_values.specs.declared.value.Field.{Field}
use Rattle.ion_values.specs.declared.value.Body.TheFolds.{the_lemmas}
use Rattle.ql_types.specs.Ids.{id_text}
use Rattle.ql_types.proofs.Digits.{id_text-ascii}
use Rattle.ql_types.specs.declared.BlockAddress.{BlockAddress}
use Rattle.ledger_model.specs.declared.block.Metadata.{Metadata}
use Rattle.ledger_model.specs.declared.block.Revision.{Revision}
use Rattle.ledger_model.specs.Values.{field}
use Rattle.ledger_model.specs.Journal.{structure, list, string, number, moment, id_value, hash_value, address_value, metadata_value, revision_value}
use Rattle.value_codec.proofs.Inverse.{left, right}
use Rattle.stream_out.specs.declared.record.RevisionSummary.{RevisionSummary}
use Rattle.stream_out.specs.Records.{epoch, stand_in, listed_value}
use Rattle.stream_out.specs.ReadRecords.{stood_value}

-- ---- values by how they are made

pub within_structure : (fs : List Field) → within (structure fs) ≡ all_true (map field_within fs)
within_structure fs = search (rules, the_lemmas)

pub within_list : (vs : List Value) → within (list vs) ≡ all_true (map within vs)
within_list vs = search (rules, the_lemmas)

pub within_field : (f : Field) → field_within f ≡ (text_within f.name && within f.value)
within_field f = search (rules, the_lemmas)

within_string : (text : List ℕ) → within (string text) ≡ text_within text
within_string text = search (rules, the_lemmas)

within_number : (n : ℕ) → within (number n) ≡ nat_lt n (2 ^ 127)
within_number n = search (rules, the_lemmas)

within_moment : (t : TimeParts) → within (moment t) ≡ is_time t
within_moment t = search (rules, the_lemmas)

ascii_within : (text : List ℕ) → list_all (λ b. nat_lt b 128) text ≡ true → text_within text ≡ true
ascii_within text h =
    let low = AllPass-from_list_all (λ b. nat_lt b 128) text h in
    eq-eqb _ _ (utf8_valid_len-IsUtf8 text
    (IsUtf8-from_ascii text (IsAscii-from_all text (λ k d here. ltb-true _ 128 (low k d here)))))

within_id : (raw : ℕ) → within (id_value raw) ≡ true
within_id raw =
    within_string (id_text raw)
    ∙ eq-eqb _ _ (utf8_valid_len-IsUtf8 (id_text raw)
    (IsUtf8-from_ascii (id_text raw) (IsAscii-from_all (id_text raw) (id_text-ascii raw))))

-- the field of a name in ASCII
named_within : (name : List ℕ) (v : Value) → list_all (λ b. nat_lt b 128) name ≡ true → within v ≡ true → field_within (field name v) ≡ true
named_within name v low h = within_field (field name v) ∙ both_true (ascii_within name low) h

-- some fields
fields_within : (fs : List Field) → all_true (map field_within fs) ≡ true → within (structure fs) ≡ true
fields_within fs h = within_structure fs ∙ h

more_within : (f : Field) (fs : List Field) → field_within f ≡ true → all_true (map field_within fs) ≡ true → all_true (map field_within (f ∷ fs)) ≡ true
more_within f fs h k = both_true h k

-- ---- what stands for a revision

epoch_day : days_from_civil (pos 1970) 1 1 ≡ pos 0
unfolding days_from_civil
epoch_day = omega (arith, signed_arith)

-- whether the beginning of a day is within the years that begin on these days
abbrev begins_in : ℤ → ℤ → ℤ → Bool
begins_in day first last =
    int_le (first *ℤ pos 1440) ((day *ℤ pos 1440 +ℤ pos 0) -ℤ pos 0)
    && int_lt ((day *ℤ pos 1440 +ℤ pos 0) -ℤ pos 0) (last *ℤ pos 1440)

epoch_in_years : is_in_years (utc_minutes epoch) ≡ true
epoch_in_years = λ i. begins_in (epoch_day i) (first_day i) (day_after_last i)

pub epoch_is_time : is_time epoch ≡ true
unfolding is_time
epoch_is_time =
    let front : (is_date 1970 1 1 && is_clock epoch && is_offset epoch.offset && is_fraction 0 0 && ends_at epoch.precision epoch) ≡ true = refl in
    both_true front epoch_in_years

zero_within : within (number 0) ≡ true
zero_within = within_number 0 ∙ refl

two_within : (f g : Field) → field_within f ≡ true → field_within g ≡ true → within (structure (f ∷ g ∷ [])) ≡ true
two_within f g hf hg = fields_within (f ∷ g ∷ []) (more_within f (g ∷ []) hf (more_within g [] hg refl))

three_within : (f g h : Field) → field_within f ≡ true → field_within g ≡ true → field_within h ≡ true
    → within (structure (f ∷ g ∷ h ∷ [])) ≡ true
three_within f g h hf hg hh =
    fields_within (f ∷ g ∷ h ∷ []) (more_within f (g ∷ h ∷ []) hf (more_within g (h ∷ []) hg (more_within h [] hh refl)))

four_within : (f g h i : Field) → field_within f ≡ true → field_within g ≡ true → field_within h ≡ true → field_within i ≡ true
    → within (structure (f ∷ g ∷ h ∷ i ∷ [])) ≡ true
four_within f g h i hf hg hh hi =
    fields_within (f ∷ g ∷ h ∷ i ∷ [])
    (more_within f (g ∷ h ∷ i ∷ []) hf (more_within g (h ∷ i ∷ []) hg (more_within h (i ∷ []) hh (more_within i [] hi refl))))

address_within : (a : BlockAddress) → within (number a.sequence) ≡ true → within (address_value a) ≡ true
address_within a small =
    two_within (field (codes "strandId") (id_value a.strand.raw)) (field (codes "sequenceNo") (number a.sequence))
    (named_within (codes "strandId") (id_value a.strand.raw) refl (within_id a.strand.raw))
    (named_within (codes "sequenceNo") (number a.sequence) refl small)

metadata_within : (m : Metadata) → within (number m.version) ≡ true → within (moment m.time) ≡ true → within (metadata_value m) ≡ true
metadata_within m small time =
    four_within (field (codes "id") (id_value m.id.raw)) (field (codes "version") (number m.version))
    (field (codes "txTime") (moment m.time)) (field (codes "txId") (id_value m.tx.raw))
    (named_within (codes "id") (id_value m.id.raw) refl (within_id m.id.raw))
    (named_within (codes "version") (number m.version) refl small)
    (named_within (codes "txTime") (moment m.time) refl time)
    (named_within (codes "txId") (id_value m.tx.raw) refl (within_id m.tx.raw))

pub stand_in_within : (l : RevisionSummary) → within (hash_value l.hash) ≡ true → within (revision_value (stand_in l)) ≡ true
stand_in_within l hash =
    let r : Revision = stand_in l in
    three_within (field (codes "blockAddress") (address_value r.address)) (field (codes "hash") (hash_value l.hash))
    (field (codes "metadata") (metadata_value r.metadata))
    (named_within (codes "blockAddress") (address_value r.address) refl (address_within r.address zero_within))
    (named_within (codes "hash") (hash_value l.hash) refl hash)
    (named_within (codes "metadata") (metadata_value r.metadata) refl
    (metadata_within r.metadata zero_within (within_moment epoch ∙ epoch_is_time)))

-- the hash of what is listed
listed_hash : (l : RevisionSummary) → within (listed_value l) ≡ true → within (hash_value l.hash) ≡ true
listed_hash l h =
    let f : Field = field (codes "hash") (hash_value l.hash) in
    let g : Field = field (codes "documentId") (id_value l.document.raw) in
    let all : (field_within f && (field_within g && true)) ≡ true = sym (within_structure (f ∷ g ∷ [])) ∙ h in
    right (text_within (codes "hash")) (within (hash_value l.hash))
    (sym (within_field f) ∙ left (field_within f) (field_within g && true) all)

stand_ins_within : (listed : List RevisionSummary) → all_true (map within (map listed_value listed)) ≡ true
    → all_true (map within (map revision_value (map stand_in listed))) ≡ true
stand_ins_within [] h = refl
stand_ins_within (l ∷ ls) h =
    both_true (stand_in_within l (listed_hash l (left (within (listed_value l)) _ h)))
    (stand_ins_within ls (right (within (listed_value l)) _ h))

-- ---- another last field

other_last : (fs : List Field) (f g : Field) → all_true (map field_within (fs ++ f ∷ [])) ≡ true
    → (field_within f ≡ true → field_within g ≡ true) → all_true (map field_within (fs ++ g ∷ [])) ≡ true
other_last [] f g h more = both_true (more (left (field_within f) true h)) refl
other_last (e ∷ fs) f g h more =
    both_true (left (field_within e) _ h) (other_last fs f g (right (field_within e) _ h) more)

pub stood_within : (fs : List Field) (listed : List RevisionSummary)
    → within (structure (fs ++ field (codes "revisionSummaries") (list (map listed_value listed)) ∷ [])) ≡ true
    → within (stood_value fs listed) ≡ true
stood_within fs listed h =
    let f = field (codes "revisionSummaries") (list (map listed_value listed)) in
    let revisions = list (map revision_value (map stand_in listed)) in
    fields_within (fs ++ field (codes "revisions") revisions ∷ [])
    (other_last fs f (field (codes "revisions") revisions) (sym (within_structure (fs ++ f ∷ [])) ∙ h)
    (λ own.
    let inside : within (list (map listed_value listed)) ≡ true = right (text_within (codes "revisionSummaries")) _ (sym (within_field f) ∙ own) in
    named_within (codes "revisions") revisions refl
    (within_list (map revision_value (map stand_in listed))
    ∙ stand_ins_within listed (sym (within_list (map listed_value listed)) ∙ inside))))
