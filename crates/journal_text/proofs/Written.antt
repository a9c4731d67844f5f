-- What is written of a value stands on one line, by induction over values.
use Rattle.std.proofs.Common.{◌≡◌, ℕ, List, ◌++◌, map, codes, refl, subst, rules}
use Rattle.std.specs.List.{flat_map}
use Rattle.ion_values.specs.declared.value.Value.{Value, roll-Value}
use Rattle.ion_values.specs.declared.value.Field.{Field, roll-Field}
use Rattle.ion_values.specs.declared.value.Body.{Body, roll-Body}
use Rattle.ion_values.specs.declared.value.Body.TheOpen.{Body-F, Field-F, Value-F}
use Rattle.ion_values.specs.declared.value.Body.TheFolds.{ind-Value, map-Body, the_lemmas}
use Rattle.ion_model.specs.Write.{value_text, body_text, field_text, body_step, symbol_text, annotation_text, joined, parted}
use Rattle.journal_text.specs.OneLine.{WrittenOnOneLine}
use Rattle.journal_text.proofs.Pieces.{OneLine, append_one_line, flat_map_one_line, parted_one_line, each_one_line}
use Rattle.journal_text.proofs.Scalars.{null_one_line, bool_one_line, int_one_line, decimal_one_line, timestamp_one_line, symbol_one_line, string_one_line, clob_one_line, blob_one_line, annotation_one_line}

-- one level of a body, with the texts of its members
abbrev level : Body-F Body Field Value → List ℕ
level b = body_step (map-Body _ _ _ _ _ _ body_text field_text value_text b)

at_body : (b : Body-F Body Field Value) → body_text (roll-Body b) ≡ level b
at_body b = search (rules, the_lemmas)

at_field : (f : Field) → field_text f ≡ symbol_text f.name ++ codes ":" ++ value_text f.value
at_field f = search (rules, the_lemmas)

at_value : (v : Value) → value_text v ≡ flat_map annotation_text v.annotations ++ body_text v.body
at_value v = search (rules, the_lemmas)

abbrev OfBody : Body → Type 0
OfBody b = OneLine (body_text b)

abbrev OfField : Field → Type 0
OfField f = OneLine (field_text f)

abbrev OfValue : Value → Type 0
OfValue v = OneLine (value_text v)

-- a level stands on one line where its members do
level_one_line :
    (y : Body-F ((b : Body) × OfBody b) ((f : Field) × OfField f) ((v : Value) × OfValue v)) →
    OneLine (level (map-Body _ _ _ _ _ _ (λ e. e.0) (λ e. e.0) (λ e. e.0) y))
level_one_line (Body-F.Null kind) = null_one_line kind
level_one_line (Body-F.Bool truth) = bool_one_line truth
level_one_line (Body-F.Int n) = int_one_line n
level_one_line (Body-F.Decimal d) = decimal_one_line d
level_one_line (Body-F.Timestamp t) = timestamp_one_line t
level_one_line (Body-F.Symbol text) = symbol_one_line text
level_one_line (Body-F.String text) = string_one_line text
level_one_line (Body-F.Clob bytes) = clob_one_line bytes
level_one_line (Body-F.Blob bytes) = blob_one_line bytes
level_one_line (Body-F.List es) =
    append_one_line (joined (map value_text (map (λ e. e.0) es))) (codes "]") (parted_one_line 44 _ refl (each_one_line value_text es)) refl
level_one_line (Body-F.Sexp es) =
    append_one_line (parted 32 (map value_text (map (λ e. e.0) es))) (codes ")") (parted_one_line 32 _ refl (each_one_line value_text es)) refl
level_one_line (Body-F.Struct es) =
    append_one_line (joined (map field_text (map (λ e. e.0) es))) (codes "}") (parted_one_line 44 _ refl (each_one_line field_text es)) refl

-- and so does the body, the field or the value that is made of the level
body_one_line :
    (b : Body-F Body Field Value) (y : Body-F ((b : Body) × OfBody b) ((f : Field) × OfField f) ((v : Value) × OfValue v)) →
    map-Body _ _ _ _ _ _ (λ e. e.0) (λ e. e.0) (λ e. e.0) y ≡ b → OfBody (roll-Body b)
body_one_line b y is = rw (at_body b) (subst (λ z. OneLine (level z)) is (level_one_line y))

field_one_line : (f : Field) → OfValue f.value → OfField f
field_one_line f h =
    rw (at_field f) (append_one_line (symbol_text f.name ++ codes ":") (value_text f.value) (append_one_line (symbol_text f.name) (codes ":") (symbol_one_line f.name) refl) h)

value_one_line : (v : Value) → OfBody v.body → OfValue v
value_one_line v h =
    rw (at_value v) (append_one_line (flat_map annotation_text v.annotations) (body_text v.body) (flat_map_one_line annotation_text annotation_one_line v.annotations) h)

pub written : WrittenOnOneLine
written = ind-Value OfBody OfField OfValue body_one_line
    (λ f y is. field_one_line (roll-Field f) (subst (λ (z : Field-F Body Field Value). OfValue z.value) is y.value.1))
    (λ v y is. value_one_line (roll-Value v) (subst (λ (z : Value-F Body Field Value). OfBody z.body) is y.body.1))
