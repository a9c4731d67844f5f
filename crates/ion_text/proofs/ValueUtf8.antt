-- What is written of a value is UTF-8, by induction over values.
use Rattle.std.proofs.Common.{◌≡◌, ℕ, Bool, true, false, List, [], ◌∷◌, ◌++◌, map, refl, sym, ◌∙◌, arith}
use Rattle.std.specs.Prelude.{codes}
use Rattle.std.specs.Char.{is_ascii}
use Rattle.std.specs.Fmt.{signed_decimal}
use Rattle.std.specs.List.{AllByRecursion, flat_map, list_all}
use Rattle.std.specs.Str.{IsUtf8, is_utf8}
use Rattle.std.proofs.lemmas.Bool.{and_parts}
use Rattle.std.proofs.lemmas.Bool.Decides.{nat_tests}
use Rattle.std.proofs.lemmas.Str.{IsUtf8-append, IsUtf8-nil, is_utf8-from_IsUtf8}
use Rattle.ion_values.specs.Within as within
use Rattle.ion_values.specs.Within.{all_true, field_within, text_within}
use Rattle.ion_values.specs.declared.value.Kind.{Kind}
use Rattle.ion_values.specs.declared.value.Value.{Value}
use Rattle.ion_values.specs.declared.value.Field.{Field}
use Rattle.ion_values.specs.declared.value.Body.{Body, roll-Body}
use Rattle.ion_values.specs.declared.value.Body.TheOpen.{Body-F}
use Rattle.ion_values.proofs.Induction.{EachMember, by_members}
use Rattle.ion_model.specs.Timestamp.{timestamp_text}
use Rattle.ion_model.specs.Write.{value_text, field_text, symbol_text, annotation_text, joined, parted, null_text, bool_text, decimal_text}
use Rattle.ion_text.proofs.WrittenRuns.{is_written}
use Rattle.ion_text.proofs.WrittenNumbers.{int_written, decimal_written}
use Rattle.ion_text.proofs.WrittenTimes.{time_written}
use Rattle.ion_text.proofs.WrittenUtf8.{ascii_utf8, string_utf8, symbol_utf8, clob_utf8, blob_utf8}
use Rattle.ion_text.proofs.ReadBack.{body_within, level, level_within, text_of_body, text_of_field, text_of_value, within_of_body, within_of_field, within_of_value}

-- ---- scalars

written_ascii : (b : ℕ) → is_written b ≡ true → is_ascii b ≡ true
written_ascii b h = grind (arith, nat_tests)

all_ascii : (text : List ℕ) → list_all is_written text ≡ true → list_all is_ascii text ≡ true
all_ascii [] h = refl
all_ascii (b ∷ text) h =
    let both = and_parts (is_written b) (list_all is_written text) h in
    rw (written_ascii b both.0, all_ascii text both.1) refl

written_utf8 : (text : List ℕ) → list_all is_written text ≡ true → IsUtf8 text
written_utf8 text h = ascii_utf8 text (all_ascii text h)

null_utf8 : (kind : Kind) → IsUtf8 (null_text kind)
null_utf8 Kind.Null = ascii_utf8 _ refl
null_utf8 Kind.Bool = ascii_utf8 _ refl
null_utf8 Kind.Int = ascii_utf8 _ refl
null_utf8 Kind.Decimal = ascii_utf8 _ refl
null_utf8 Kind.Timestamp = ascii_utf8 _ refl
null_utf8 Kind.Symbol = ascii_utf8 _ refl
null_utf8 Kind.String = ascii_utf8 _ refl
null_utf8 Kind.Clob = ascii_utf8 _ refl
null_utf8 Kind.Blob = ascii_utf8 _ refl
null_utf8 Kind.List = ascii_utf8 _ refl
null_utf8 Kind.Sexp = ascii_utf8 _ refl
null_utf8 Kind.Struct = ascii_utf8 _ refl

bool_utf8 : (truth : Bool) → IsUtf8 (bool_text truth)
bool_utf8 true = ascii_utf8 _ refl
bool_utf8 false = ascii_utf8 _ refl

-- ---- texts that are put together

mark_before : (mark : ℕ) (text : List ℕ) → is_ascii mark ≡ true → IsUtf8 text → IsUtf8 (mark ∷ text)
mark_before mark text h utf8 = IsUtf8-append (mark ∷ []) text (ascii_utf8 (mark ∷ []) (rw h refl)) utf8

between : (before after : ℕ) (text : List ℕ) → is_ascii before ≡ true → is_ascii after ≡ true → IsUtf8 text → IsUtf8 ((before ∷ text) ++ after ∷ [])
between before after text h k utf8 = mark_before before (text ++ after ∷ []) h (IsUtf8-append text (after ∷ []) utf8 (ascii_utf8 (after ∷ []) (rw k refl)))

behind_utf8 : (separator : ℕ) (pieces : List (List ℕ)) → is_ascii separator ≡ true → AllByRecursion IsUtf8 pieces → IsUtf8 (flat_map (λ next. separator ∷ next) pieces)
behind_utf8 separator [] h each = IsUtf8-nil
behind_utf8 separator (piece ∷ pieces) h each = IsUtf8-append (separator ∷ piece) _ (mark_before separator piece h each.0) (behind_utf8 separator pieces h each.1)

parted_utf8 : (separator : ℕ) (pieces : List (List ℕ)) → is_ascii separator ≡ true → AllByRecursion IsUtf8 pieces → IsUtf8 (parted separator pieces)
parted_utf8 separator [] h each = IsUtf8-nil
parted_utf8 separator (piece ∷ pieces) h each = IsUtf8-append piece _ each.0 (behind_utf8 separator pieces h each.1)

-- ---- values

abbrev Utf8 : Value → Type 0
Utf8 v = within.within v ≡ true → IsUtf8 (value_text v)

values_utf8 : (vs : List Value) → AllByRecursion Utf8 vs → all_true (map within.within vs) ≡ true → AllByRecursion IsUtf8 (map value_text vs)
values_utf8 [] each h = tt
values_utf8 (v ∷ vs) each h =
    let both = and_parts (within.within v) (all_true (map within.within vs)) h in
    (each.0 both.0, values_utf8 vs each.1 both.1)

field_utf8 : (x : Field) → Utf8 x.value → field_within x ≡ true → IsUtf8 (field_text x)
field_utf8 x utf8 h =
    let both = and_parts (text_within x.name) (within.within x.value) (sym (within_of_field x) ∙ h) in
    rw (text_of_field x)
    (IsUtf8-append (symbol_text x.name ++ codes ":") (value_text x.value) (IsUtf8-append (symbol_text x.name) (codes ":") (symbol_utf8 x.name both.0) (ascii_utf8 (codes ":") refl)) (utf8 both.1))

fields_utf8 : (xs : List Field) → AllByRecursion (λ f. Utf8 f.value) xs → all_true (map field_within xs) ≡ true → AllByRecursion IsUtf8 (map field_text xs)
fields_utf8 [] each h = tt
fields_utf8 (x ∷ xs) each h =
    let both = and_parts (field_within x) (all_true (map field_within xs)) h in
    (field_utf8 x each.0 both.0, fields_utf8 xs each.1 both.1)

names_utf8 : (names : List (List ℕ)) → list_all text_within names ≡ true → IsUtf8 (flat_map annotation_text names)
names_utf8 [] h = IsUtf8-nil
names_utf8 (name ∷ names) h =
    let both = and_parts (text_within name) (list_all text_within names) h in
    IsUtf8-append (annotation_text name) _ (IsUtf8-append (symbol_text name) (codes "::") (symbol_utf8 name both.0) (ascii_utf8 (codes "::") refl)) (names_utf8 names both.1)

level_utf8 : (b : Body-F Body Field Value) → EachMember Utf8 b → level_within b ≡ true → IsUtf8 (level b)
level_utf8 (Body-F.Null kind) each h = null_utf8 kind
level_utf8 (Body-F.Bool truth) each h = bool_utf8 truth
level_utf8 (Body-F.Int n) each h = written_utf8 (signed_decimal n) (int_written n h)
level_utf8 (Body-F.Decimal d) each h = written_utf8 (decimal_text d) (decimal_written d h)
level_utf8 (Body-F.Timestamp t) each h = written_utf8 (timestamp_text t) (time_written t h)
level_utf8 (Body-F.Symbol text) each h = symbol_utf8 text h
level_utf8 (Body-F.String text) each h = string_utf8 text h
level_utf8 (Body-F.Clob bytes) each h = clob_utf8 bytes h
level_utf8 (Body-F.Blob bytes) each h = blob_utf8 bytes
level_utf8 (Body-F.List vs) each h = between 91 93 (joined (map value_text vs)) refl refl (parted_utf8 44 _ refl (values_utf8 vs each h))
level_utf8 (Body-F.Sexp vs) each h = between 40 41 (parted 32 (map value_text vs)) refl refl (parted_utf8 32 _ refl (values_utf8 vs each h))
level_utf8 (Body-F.Struct xs) each h = between 123 125 (joined (map field_text xs)) refl refl (parted_utf8 44 _ refl (fields_utf8 xs each h))

value_utf8 : (names : List (List ℕ)) (b : Body-F Body Field Value) → EachMember Utf8 b → Utf8 (record { annotations = names; body = roll-Body b })
value_utf8 names b each h =
    let both = and_parts (list_all text_within names) (body_within (roll-Body b)) (sym (within_of_value (record { annotations = names; body = roll-Body b })) ∙ h) in
    rw (text_of_value (record { annotations = names; body = roll-Body b }), text_of_body b)
    (IsUtf8-append (flat_map annotation_text names) (level b) (names_utf8 names both.0) (level_utf8 b each (sym (within_of_body b) ∙ both.1)))

pub written_is_utf8 : (v : Value) → within.within v ≡ true → is_utf8 (value_text v) ≡ true
written_is_utf8 v h = is_utf8-from_IsUtf8 (value_text v) (by_members Utf8 value_utf8 v h)
