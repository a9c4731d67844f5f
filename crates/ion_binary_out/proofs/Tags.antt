-- The first byte of a level determines its kind.
use Rattle.std.proofs.Common.{◌≡◌, ◌∙◌, ℕ, suc, ◌+◌, ◌*◌, ◌/◌, ◌%◌, ◌<◌, ◌==◌, Bool, true, false, if◌then◌else◌, ℤ, pos, negsuc, List, ◌++◌, map, refl, ap, arith}
use Rattle.std.specs.Prelude.{unsigned_abs}
use Rattle.std.proofs.lemmas.Bool.Decides.{nat_tests}
use Rattle.ion_values.specs.declared.value.Kind.{Kind}
use Rattle.ion_values.specs.declared.value.Value.{Value}
use Rattle.ion_values.specs.declared.value.Field.{Field}
use Rattle.ion_values.specs.declared.time.TimeParts.{TimeParts}
use Rattle.ion_values.specs.Decimal.{DecimalParts}
use Rattle.ion_values.specs.declared.value.Body.TheOpen.{Body-F}
use Rattle.hash_model.specs.Numbers.{is_below_zero, magnitude}
use Rattle.hash_model.specs.Serialize.{decimal_bytes, joined, null_qualifier}
use Rattle.hash_model.specs.Timestamps.{timestamp_bytes}
use Rattle.ion_binary_out.specs.BinaryText.{Text, field_bytes, symbol_id, typed, value_bytes}
use Rattle.ion_binary_out.proofs.Levels.{Level, level_bytes}
use Rattle.ion_binary_out.proofs.Typed.{first, typed_opens}

-- the kind of a level: 0 for nulls, 2 for all ints, else the type
unfoldable pub tag : Level → ℕ
tag (Body-F.Null kind) = 0
tag (Body-F.Bool truth) = 1
tag (Body-F.Int n) = 2
tag (Body-F.Decimal d) = 5
tag (Body-F.Timestamp t) = 6
tag (Body-F.Symbol text) = 7
tag (Body-F.String text) = 8
tag (Body-F.Clob bytes) = 9
tag (Body-F.Blob bytes) = 10
tag (Body-F.List values) = 11
tag (Body-F.Sexp values) = 12
tag (Body-F.Struct fields) = 13

pub is_level : (b : Level) → tag b < 14
unfolding tag
is_level (Body-F.Null kind) = omega arith
is_level (Body-F.Bool truth) = omega arith
is_level (Body-F.Int n) = omega arith
is_level (Body-F.Decimal d) = omega arith
is_level (Body-F.Timestamp t) = omega arith
is_level (Body-F.Symbol text) = omega arith
is_level (Body-F.String text) = omega arith
is_level (Body-F.Clob bytes) = omega arith
is_level (Body-F.Blob bytes) = omega arith
is_level (Body-F.List values) = omega arith
is_level (Body-F.Sexp values) = omega arith
is_level (Body-F.Struct fields) = omega arith

-- the tag by a byte's halves
by_halves : ℕ → ℕ → ℕ
by_halves high low = if low == 15 then 0 else (if high == 3 then 2 else high)

pub tag_at : ℕ → ℕ
tag_at byte = by_halves (byte / 16) (byte % 16)

high_half : (type low : ℕ) → low < 16 → (16 * type + low) / 16 ≡ type
high_half type low h = omega arith

low_half : (type low : ℕ) → low < 16 → (16 * type + low) % 16 ≡ low
low_half type low h = omega arith

not_null : (high low : ℕ) → low < 15 → by_halves high low ≡ (if high == 3 then 2 else high)
unfolding by_halves
not_null high low h =
    let no : (low == 15) ≡ false = grind (arith, nat_tests) in
    ap (λ b. if b then 0 else (if high == 3 then 2 else high)) no

pub tag_typed : (type : ℕ) (bytes rest : List ℕ) → tag_at (first (typed type bytes ++ rest)) ≡ (if type == 3 then 2 else type)
unfolding tag_at first
tag_typed type bytes rest =
    let o = typed_opens type bytes rest in
    ap (λ all. tag_at (first all)) o.opens
    ∙ (λ i. by_halves (high_half type o.low (omega (arith, o.small)) i) (low_half type o.low (omega (arith, o.small)) i))
    ∙ not_null type o.low o.small

null_tag : (kind : Kind) → tag_at (null_qualifier kind) ≡ 0
unfolding tag_at by_halves
null_tag Kind.Null = refl
null_tag Kind.Bool = refl
null_tag Kind.Int = refl
null_tag Kind.Decimal = refl
null_tag Kind.Timestamp = refl
null_tag Kind.Symbol = refl
null_tag Kind.String = refl
null_tag Kind.Clob = refl
null_tag Kind.Blob = refl
null_tag Kind.List = refl
null_tag Kind.Sexp = refl
null_tag Kind.Struct = refl

bool_tag : (truth : Bool) → tag_at (if truth then 0x11 else 0x10) ≡ 1
unfolding tag_at by_halves
bool_tag true = refl
bool_tag false = refl

int_tag : (n : ℤ) (rest : List ℕ) → tag_at (first (typed (if is_below_zero n then 3 else 2) (magnitude (unsigned_abs n)) ++ rest)) ≡ 2
int_tag (pos n) rest = tag_typed 2 (magnitude n) rest
int_tag (negsuc n) rest = tag_typed 3 (magnitude (suc n)) rest

pub level_tag : (symbols : List Text) (b : Level) (rest : List ℕ) → tag_at (first (level_bytes symbols b ++ rest)) ≡ tag b
unfolding tag first
level_tag symbols (Body-F.Null kind) rest = null_tag kind
level_tag symbols (Body-F.Bool truth) rest = bool_tag truth
level_tag symbols (Body-F.Int n) rest = int_tag n rest
level_tag symbols (Body-F.Decimal d) rest = tag_typed 5 (decimal_bytes d) rest
level_tag symbols (Body-F.Timestamp t) rest = tag_typed 6 (timestamp_bytes t) rest
level_tag symbols (Body-F.Symbol text) rest = tag_typed 7 (magnitude (symbol_id symbols text)) rest
level_tag symbols (Body-F.String text) rest = tag_typed 8 text rest
level_tag symbols (Body-F.Clob bytes) rest = tag_typed 9 bytes rest
level_tag symbols (Body-F.Blob bytes) rest = tag_typed 10 bytes rest
level_tag symbols (Body-F.List values) rest = tag_typed 11 (joined (map (value_bytes symbols) values)) rest
level_tag symbols (Body-F.Sexp values) rest = tag_typed 12 (joined (map (value_bytes symbols) values)) rest
level_tag symbols (Body-F.Struct fields) rest = tag_typed 13 (joined (map (field_bytes symbols) fields)) rest

-- ---- a level of one tag is of one kind

pub is_null : (b : Level) → tag b ≡ 0 → (kind : Kind) × (b ≡ Body-F.Null kind)
unfolding tag
is_null (Body-F.Null kind) e = (kind, refl)
is_null _ e = absurd (omega arith)

pub is_bool : (b : Level) → tag b ≡ 1 → (truth : Bool) × (b ≡ Body-F.Bool truth)
unfolding tag
is_bool (Body-F.Bool truth) e = (truth, refl)
is_bool _ e = absurd (omega arith)

pub is_int : (b : Level) → tag b ≡ 2 → (n : ℤ) × (b ≡ Body-F.Int n)
unfolding tag
is_int (Body-F.Int n) e = (n, refl)
is_int _ e = absurd (omega arith)

pub is_decimal : (b : Level) → tag b ≡ 5 → (d : DecimalParts) × (b ≡ Body-F.Decimal d)
unfolding tag
is_decimal (Body-F.Decimal d) e = (d, refl)
is_decimal _ e = absurd (omega arith)

pub is_timestamp : (b : Level) → tag b ≡ 6 → (t : TimeParts) × (b ≡ Body-F.Timestamp t)
unfolding tag
is_timestamp (Body-F.Timestamp t) e = (t, refl)
is_timestamp _ e = absurd (omega arith)

pub is_symbol_level : (b : Level) → tag b ≡ 7 → (text : Text) × (b ≡ Body-F.Symbol text)
unfolding tag
is_symbol_level (Body-F.Symbol text) e = (text, refl)
is_symbol_level _ e = absurd (omega arith)

pub is_string : (b : Level) → tag b ≡ 8 → (text : Text) × (b ≡ Body-F.String text)
unfolding tag
is_string (Body-F.String text) e = (text, refl)
is_string _ e = absurd (omega arith)

pub is_clob : (b : Level) → tag b ≡ 9 → (bytes : List ℕ) × (b ≡ Body-F.Clob bytes)
unfolding tag
is_clob (Body-F.Clob bytes) e = (bytes, refl)
is_clob _ e = absurd (omega arith)

pub is_blob : (b : Level) → tag b ≡ 10 → (bytes : List ℕ) × (b ≡ Body-F.Blob bytes)
unfolding tag
is_blob (Body-F.Blob bytes) e = (bytes, refl)
is_blob _ e = absurd (omega arith)

pub is_list : (b : Level) → tag b ≡ 11 → (values : List Value) × (b ≡ Body-F.List values)
unfolding tag
is_list (Body-F.List values) e = (values, refl)
is_list _ e = absurd (omega arith)

pub is_sexp : (b : Level) → tag b ≡ 12 → (values : List Value) × (b ≡ Body-F.Sexp values)
unfolding tag
is_sexp (Body-F.Sexp values) e = (values, refl)
is_sexp _ e = absurd (omega arith)

pub is_struct : (b : Level) → tag b ≡ 13 → (fields : List Field) × (b ≡ Body-F.Struct fields)
unfolding tag
is_struct (Body-F.Struct fields) e = (fields, refl)
is_struct _ e = absurd (omega arith)
