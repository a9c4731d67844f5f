-- What bytes denote (Amazon Ion 1.0 specification, "Ion Binary Encoding", and "Ion Symbols" for symbol ids and tables).
-- Of the encodings of one value the shortest alone is used, as each definition says.
use Rattle.std.specs.Prelude.{ℕ, ◌+◌, ◌*◌, ◌≡◌, ◌==◌, ◌&&◌, not, nat_lt, Bool, true, false, List, [], ◌∷◌, ◌++◌, map, fold, drop, length, codes, unsigned_abs, Option, Some, None, IsTrue, if◌then◌else◌}
use Rattle.std.specs.List.{All, Contains, flat_map, list_all, list_any, position_or_len}
use Rattle.std.specs.Str.{bytes_eq}
use Rattle.ion_values.specs.declared.value.Value.{Value}
use Rattle.ion_values.specs.declared.value.Body.{Body, out-Body}
use Rattle.ion_values.specs.declared.value.Field.{Field}
use Rattle.ion_values.specs.declared.value.Body.TheOpen.{Body-F, Field-F, Value-F}
use Rattle.ion_values.specs.declared.value.Body.TheFolds.{fold-Value, fold-Field, fold-Body}
use Rattle.ion_values.specs.Within.{all_true, within}
use Rattle.hash_model.specs.Numbers.{is_below_zero, magnitude, var_uint}
use Rattle.hash_model.specs.Serialize.{decimal_bytes, joined, null_qualifier}
use Rattle.hash_model.specs.Timestamps.{timestamp_bytes}

-- ---- symbols

abbrev pub Text : Type 0
Text = List ℕ

-- the texts of the symbols 1 to 9 ("System Symbols")
abbrev pub system_symbols : List Text
system_symbols =
    codes "$ion" ∷ codes "$ion_1_0" ∷ codes "$ion_symbol_table" ∷ codes "name" ∷ codes "version" ∷ codes "imports"
    ∷ codes "symbols" ∷ codes "max_id" ∷ codes "$ion_shared_symbol_table" ∷ []

-- the id of a text: its place among the symbols, counted from 1
abbrev pub symbol_id : List Text → Text → ℕ
symbol_id symbols text = position_or_len (bytes_eq text) symbols + 1

-- ---- values

-- the type descriptor ("Typed Value Formats"): the type in the upper half, and in the lower half the length if it is
-- below 14, or else 14, with the length as a VarUInt after it
abbrev pub descriptor : ℕ → ℕ → List ℕ
descriptor type len =
    if nat_lt len 14 then (16 * type + len) ∷ [] else (16 * type + 14) ∷ var_uint len

-- a representation after the descriptor of its type and length
unfoldable pub typed : ℕ → List ℕ → List ℕ
typed type representation = descriptor type (length representation) ++ representation

-- one level, with each value inside already encoded: a null's lower half is 15, a bool's is its value
abbrev pub body_step : List Text → Body-F (List ℕ) (List ℕ) (List ℕ) → List ℕ
body_step symbols (Body-F.Null kind) = null_qualifier kind ∷ []
body_step symbols (Body-F.Bool truth) = (if truth then 0x11 else 0x10) ∷ []
body_step symbols (Body-F.Int n) = typed (if is_below_zero n then 3 else 2) (magnitude (unsigned_abs n))
body_step symbols (Body-F.Decimal d) = typed 5 (decimal_bytes d)
body_step symbols (Body-F.Timestamp t) = typed 6 (timestamp_bytes t)
body_step symbols (Body-F.Symbol text) = typed 7 (magnitude (symbol_id symbols text))
body_step symbols (Body-F.String text) = typed 8 text
body_step symbols (Body-F.Clob bytes) = typed 9 bytes
body_step symbols (Body-F.Blob bytes) = typed 10 bytes
body_step symbols (Body-F.List values) = typed 11 (joined values)
body_step symbols (Body-F.Sexp values) = typed 12 (joined values)
body_step symbols (Body-F.Struct fields) = typed 13 (joined fields)

-- the name's id and the value
abbrev pub field_step : List Text → Field-F (List ℕ) (List ℕ) (List ℕ) → List ℕ
field_step symbols f = var_uint (symbol_id symbols f.name) ++ f.value

abbrev pub ids_of : List Text → List Text → List ℕ
ids_of symbols names = flat_map (λ name. var_uint (symbol_id symbols name)) names

-- the length of the ids, the ids and the value, wrapped; a value without annotations stands alone
abbrev pub annotated : List Text → List Text → List ℕ → List ℕ
annotated symbols [] value = value
annotated symbols (name ∷ more) value =
    typed 14 (var_uint (length (ids_of symbols (name ∷ more))) ++ ids_of symbols (name ∷ more) ++ value)

abbrev pub value_step : List Text → Value-F (List ℕ) (List ℕ) (List ℕ) → List ℕ
value_step symbols v = annotated symbols v.annotations v.body

-- the bytes of a value, by the symbols
abbrev pub value_bytes : List Text → Value → List ℕ
value_bytes symbols =
    fold-Value (List ℕ) (List ℕ) (List ℕ) (body_step symbols) (field_step symbols) (value_step symbols)

-- those of a value without its annotations, and of a field
abbrev pub body_bytes : List Text → Body → List ℕ
body_bytes symbols =
    fold-Body (List ℕ) (List ℕ) (List ℕ) (body_step symbols) (field_step symbols) (value_step symbols)

abbrev pub field_bytes : List Text → Field → List ℕ
field_bytes symbols =
    fold-Field (List ℕ) (List ℕ) (List ℕ) (body_step symbols) (field_step symbols) (value_step symbols)

-- ---- streams

-- the binary version marker of Ion 1.0 ("Value Streams")
abbrev pub version_marker : List ℕ
version_marker = 0xE0 ∷ 0x01 ∷ 0x00 ∷ 0xEA ∷ []

-- a local symbol table ("Local Symbol Tables"): a struct annotated with $ion_symbol_table, 3, whose one field symbols,
-- 7, is the list of the texts
abbrev pub table_bytes : List Text → List ℕ
table_bytes texts = typed 14 (var_uint 1 ++ var_uint 3 ++ typed 13 (var_uint 7 ++ typed 11 (flat_map (typed 8) texts)))

-- the symbols after a table: the system's and then the table's
abbrev pub symbols_after : Option (List Text) → List Text
symbols_after None = system_symbols
symbols_after (Some texts) = system_symbols ++ texts

abbrev pub table_or_nothing : Option (List Text) → List ℕ
table_or_nothing None = []
table_or_nothing (Some texts) = table_bytes texts

-- the bytes of a stream of values with the table, if there is one
abbrev pub stream_bytes : Option (List Text) → List Value → List ℕ
stream_bytes table values =
    version_marker ++ (table_or_nothing table ++ joined (map (value_bytes (symbols_after table)) values))

-- ---- which texts are in a value

-- one level: the texts of symbols, with those of each value inside already listed
abbrev pub body_texts : Body-F (List Text) (List Text) (List Text) → List Text
body_texts (Body-F.Symbol text) = text ∷ []
body_texts (Body-F.List values) = flat_map (λ texts. texts) values
body_texts (Body-F.Sexp values) = flat_map (λ texts. texts) values
body_texts (Body-F.Struct fields) = flat_map (λ texts. texts) fields
body_texts _ = []

-- a field's name before its value
abbrev pub field_texts : Field-F (List Text) (List Text) (List Text) → List Text
field_texts f = f.name ∷ f.value

-- annotations before their value
abbrev pub value_texts : Value-F (List Text) (List Text) (List Text) → List Text
value_texts v = v.annotations ++ v.body

-- the texts of the annotations, field names and symbols in a value, in their order
abbrev pub texts_in : Value → List Text
texts_in = fold-Value (List Text) (List Text) (List Text) body_texts field_texts value_texts

abbrev pub texts_in_body : Body → List Text
texts_in_body = fold-Body (List Text) (List Text) (List Text) body_texts field_texts value_texts

abbrev pub texts_in_field : Field → List Text
texts_in_field = fold-Field (List Text) (List Text) (List Text) body_texts field_texts value_texts

-- ---- what bytes denote

abbrev pub is_symbol : Body-F Body Field Value → Bool
is_symbol (Body-F.Symbol text) = true
is_symbol _ = false

-- a value that may stand at the top: without annotations of its own, and no symbol
abbrev pub is_top : Value → Bool
is_top v = (length v.annotations == 0) && not (is_symbol (out-Body v.body))

-- no text stands twice among them
abbrev pub are_distinct : List Text → Bool
are_distinct [] = true
are_distinct (text ∷ more) = not (list_any (bytes_eq text) more) && are_distinct more

-- the bytes are a stream of these values, by a table whose texts differ from each other and from the system's, and by
-- which each text in the values has an id
pub record Denotes (bytes : List ℕ) (values : List Value) : Type 0 where
  pub table : Option (List Text)
  pub distinct : IsTrue (are_distinct (symbols_after table))
  pub known : All (Contains (symbols_after table)) (flat_map texts_in values)
  pub top : IsTrue (list_all is_top values)
  pub within : IsTrue (all_true (map within values))
  pub stream : bytes ≡ stream_bytes table values

-- ---- what is written

-- the symbols with a text, which stands after them where it isn't one of them
abbrev pub with_symbol : List Text → Text → List Text
with_symbol symbols text = if list_any (bytes_eq text) symbols then symbols else symbols ++ text ∷ []

-- the system's symbols, and then each other text in the values at its first occurrence
abbrev pub symbols_of : List Value → List Text
symbols_of values = fold with_symbol system_symbols (flat_map texts_in values)

-- no table where there are no such texts
abbrev pub table_of : List Text → Option (List Text)
table_of [] = None
table_of (text ∷ more) = Some (text ∷ more)

-- the bytes that are written: the table lists these texts in the order of their first occurrence
unfoldable pub binary_text : List Value → List ℕ
binary_text values = stream_bytes (table_of (drop 9 (symbols_of values))) values

-- ---- the law

-- bytes denote at most one list of values
abbrev pub DenotedValuesAreUnique : Type 0
DenotedValuesAreUnique = (bytes : List ℕ) (vs ws : List Value) → Denotes bytes vs → Denotes bytes ws → vs ≡ ws
