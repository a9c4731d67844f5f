-- What the bytes of one level of a value are, with those of each value inside, and which texts are in it.
use Rattle.std.proofs.Common.{◌≡◌, ◌∙◌, ℕ, Bool, true, ◌&&◌, if◌then◌else◌, List, [], ◌∷◌, ◌++◌, map, refl, sym, ap, rules}
use Rattle.std.specs.Prelude.{unsigned_abs}
use Rattle.std.specs.List.{flat_map, list_all}
use Rattle.ion_values.specs.declared.value.Value.{Value}
use Rattle.ion_values.specs.declared.value.Field.{Field}
use Rattle.ion_values.specs.declared.value.Body.{Body, roll-Body, out-Body, roll-out-Body}
use Rattle.ion_values.specs.declared.value.Body.TheOpen.{Body-F}
use Rattle.ion_values.specs.declared.value.Body.TheFolds.{the_lemmas}
use Rattle.ion_values.specs.declared.value.Body.TheVariants as body
use Rattle.ion_values.specs.Time.{is_time}
use Rattle.ion_values.specs.Within.{all_true, bytes_within, decimal_within, field_within, int_within, text_within, within}
use Rattle.hash_model.specs.Numbers.{is_below_zero, magnitude, var_uint}
use Rattle.hash_model.specs.Serialize.{decimal_bytes, joined, null_qualifier}
use Rattle.hash_model.specs.Timestamps.{timestamp_bytes}
use Rattle.ion_binary_out.specs.BinaryText.{Text, annotated, field_bytes, symbol_id, texts_in, texts_in_body, texts_in_field, typed, value_bytes}

abbrev pub Level : Type 0
Level = Body-F Body Field Value

-- a value of its annotations and its level
abbrev pub value_of : List Text → Level → Value
value_of annotations b = record { annotations = annotations; body = roll-Body b }

pub as_level : (v : Value) → value_of v.annotations (out-Body v.body) ≡ v
as_level v = ap (λ b. record { annotations = v.annotations; body = b }) (roll-out-Body v.body)

-- ---- bytes

abbrev pub level_bytes : List Text → Level → List ℕ
level_bytes symbols (Body-F.Null kind) = null_qualifier kind ∷ []
level_bytes symbols (Body-F.Bool truth) = (if truth then 0x11 else 0x10) ∷ []
level_bytes symbols (Body-F.Int n) = typed (if is_below_zero n then 3 else 2) (magnitude (unsigned_abs n))
level_bytes symbols (Body-F.Decimal d) = typed 5 (decimal_bytes d)
level_bytes symbols (Body-F.Timestamp t) = typed 6 (timestamp_bytes t)
level_bytes symbols (Body-F.Symbol text) = typed 7 (magnitude (symbol_id symbols text))
level_bytes symbols (Body-F.String text) = typed 8 text
level_bytes symbols (Body-F.Clob bytes) = typed 9 bytes
level_bytes symbols (Body-F.Blob bytes) = typed 10 bytes
level_bytes symbols (Body-F.List values) = typed 11 (joined (map (value_bytes symbols) values))
level_bytes symbols (Body-F.Sexp values) = typed 12 (joined (map (value_bytes symbols) values))
level_bytes symbols (Body-F.Struct fields) = typed 13 (joined (map (field_bytes symbols) fields))

pub bytes_at : (symbols annotations : List Text) (b : Level) → value_bytes symbols (value_of annotations b) ≡ annotated symbols annotations (level_bytes symbols b)
bytes_at symbols annotations b = search (rules, the_lemmas)

pub bytes_at_field : (symbols : List Text) (f : Field) → field_bytes symbols f ≡ var_uint (symbol_id symbols f.name) ++ value_bytes symbols f.value
bytes_at_field symbols f = search (rules, the_lemmas)

-- ---- texts

abbrev pub level_texts : Level → List Text
level_texts (Body-F.Symbol text) = text ∷ []
level_texts (Body-F.List values) = flat_map (λ texts. texts) (map texts_in values)
level_texts (Body-F.Sexp values) = flat_map (λ texts. texts) (map texts_in values)
level_texts (Body-F.Struct fields) = flat_map (λ texts. texts) (map texts_in_field fields)
level_texts _ = []

pub texts_at : (annotations : List Text) (b : Level) → texts_in (value_of annotations b) ≡ annotations ++ level_texts b
texts_at annotations b = search (rules, the_lemmas)

pub flat_texts : {A : Type 0} (f : A → List Text) (xs : List A) → flat_map (λ texts. texts) (map f xs) ≡ flat_map f xs
flat_texts f [] = refl
flat_texts f (x ∷ xs) = ap (λ rest. f x ++ rest) (flat_texts f xs)

-- the texts in a list, a sexp and a struct are those of the members
pub texts_in_list : (values : List Value) → flat_map texts_in values ≡ texts_in_body (body.List values)
texts_in_list values = let own : texts_in_body (body.List values) ≡ flat_map (λ texts. texts) (map texts_in values) = search (rules, the_lemmas) in sym (own ∙ flat_texts texts_in values)

pub texts_in_sexp : (values : List Value) → flat_map texts_in values ≡ texts_in_body (body.Sexp values)
texts_in_sexp values = let own : texts_in_body (body.Sexp values) ≡ flat_map (λ texts. texts) (map texts_in values) = search (rules, the_lemmas) in sym (own ∙ flat_texts texts_in values)

pub texts_in_struct : (fields : List Field) → flat_map texts_in_field fields ≡ texts_in_body (body.Struct fields)
texts_in_struct fields = let own : texts_in_body (body.Struct fields) ≡ flat_map (λ texts. texts) (map texts_in_field fields) = search (rules, the_lemmas) in sym (own ∙ flat_texts texts_in_field fields)

pub texts_at_field : (f : Field) → texts_in_field f ≡ f.name ∷ texts_in f.value
texts_at_field f = search (rules, the_lemmas)

-- ---- ranges

abbrev pub level_within : Level → Bool
level_within (Body-F.Int n) = int_within n
level_within (Body-F.Decimal d) = decimal_within d
level_within (Body-F.Timestamp t) = is_time t
level_within (Body-F.Symbol text) = text_within text
level_within (Body-F.String text) = text_within text
level_within (Body-F.Clob bytes) = bytes_within bytes
level_within (Body-F.Blob bytes) = bytes_within bytes
level_within (Body-F.List values) = all_true (map within values)
level_within (Body-F.Sexp values) = all_true (map within values)
level_within (Body-F.Struct fields) = all_true (map field_within fields)
level_within _ = true

pub within_at : (annotations : List Text) (b : Level) → within (value_of annotations b) ≡ (list_all text_within annotations && level_within b)
within_at annotations b = search (rules, the_lemmas)

pub within_at_field : (f : Field) → field_within f ≡ (text_within f.name && within f.value)
within_at_field f = search (rules, the_lemmas)
