-- Where a frame ends shows in its own bytes.
use Rattle.std.proofs.Common.{◌≡◌, ◌∙◌, ℕ, ℤ, pos, negsuc, zero, suc, ◌==◌, ◌||◌, Bool, true, false, if◌then◌else◌, List, [], ◌∷◌, ◌++◌, map, refl, sym, ap, subst, rules}
use Rattle.std.proofs.lemmas.List.{append_assoc, append_cancel_right}
use Rattle.std.proofs.lemmas.List.Concat.{flat_map-cons}
use Rattle.std.specs.List.{AllByRecursion, flat_map}
use Rattle.ion_values.specs.declared.value.Kind.{Kind}
use Rattle.ion_values.specs.declared.value.Value.{Value}
use Rattle.ion_values.specs.declared.value.Field.{Field}
use Rattle.ion_values.specs.declared.value.Body.{Body, roll-Body}
use Rattle.ion_values.specs.declared.value.Body.TheOpen.{Body-F}
use Rattle.ion_values.specs.declared.value.Body.TheFolds.{the_lemmas}
use Rattle.ion_values.proofs.Induction.{EachMember, by_members}
use Rattle.hash_model.specs.Numbers.{magnitude}
use Rattle.std.specs.Prelude.{unsigned_abs}
use Rattle.hash_model.specs.Timestamps.{timestamp_bytes}
use Rattle.hash_model.specs.Serialize.{annotated, decimal_bytes, escape, escaped, field_hash, framed, int_qualifier, is_control, joined, null_qualifier, serialize, struct_bytes, symbol_bytes}
use Rattle.hash_model.specs.Serialize as serial
use Rattle.ion_extract.specs.Laws.{EscapeIsInjective, SerializeIsPrefixFree, FrameIsInjective, JoinedIsInjective}

-- the end of a frame: what follows the outermost, or else what follows the one around it
abbrev closed : List ℕ → ℕ → (ℕ → List ℕ) → List ℕ
closed rest zero outer = rest
closed rest (suc depth) outer = outer depth

-- what follows the outermost open frame, with `depth` more open in it; an escape hides the byte after it
pub behind : Bool → ℕ → List ℕ → List ℕ
behind hidden depth [] = []
behind true depth (byte ∷ rest) = behind false depth rest
behind false depth (byte ∷ rest) =
    if byte == 0x0B then behind false (suc depth) rest
    else if byte == 0x0C then behind true depth rest
    else if byte == 0x0E then closed rest depth (λ outer. behind false outer rest)
    else behind false depth rest

-- bytes that open no frame without closing it, and end none that was open before
abbrev pub Passes : List ℕ → Type 0
Passes bytes = (depth : ℕ) (rest : List ℕ) → behind false depth (bytes ++ rest) ≡ behind false depth rest

step : (p q e : Bool) (a b c d : List ℕ) → (p || q || e) ≡ false → (if p then a else if q then b else if e then c else d) ≡ d
step false false false a b c d h = refl
step true q e a b c d h = absurd (cc)
step false true e a b c d h = absurd (cc)
step false false true a b c d h = absurd (cc)

-- a byte that is no control byte passes
plain : (depth byte : ℕ) (rest : List ℕ) → is_control byte ≡ false → behind false depth (byte ∷ rest) ≡ behind false depth rest
unfolding behind
plain depth byte rest h = step (byte == 0x0B) (byte == 0x0C) (byte == 0x0E) _ _ _ _ h

passes_escaped : (byte : ℕ) → Passes (escaped byte)
unfolding behind
passes_escaped byte depth rest =
    elim (is_control byte) as (λ c. is_control byte ≡ c → behind false depth ((if c then 0x0C ∷ byte ∷ [] else byte ∷ []) ++ rest) ≡ behind false depth rest) [
      | true ↦ λ e. refl
      | false ↦ λ e. plain depth byte rest e
    ] refl

passes_append : (xs ys : List ℕ) → Passes xs → Passes ys → Passes (xs ++ ys)
passes_append xs ys p q depth rest = ap (behind false depth) (append_assoc xs ys rest) ∙ p depth (ys ++ rest) ∙ q depth rest

pub passes_escape : (xs : List ℕ) → Passes (escape xs)
passes_escape [] depth rest = refl
passes_escape (x ∷ xs) depth rest =
    ap (λ bytes. behind false depth (bytes ++ rest)) (flat_map-cons escaped x xs)
    ∙ passes_append (escaped x) (escape xs) (passes_escaped x) (passes_escape xs) depth rest

-- what follows the frame that the bytes begin with
abbrev pub left : List ℕ → List ℕ
left [] = []
left (first ∷ rest) = behind false 0 rest

pub record IsFrame (bytes : List ℕ) : Type 0 where
  pub passes : Passes bytes
  pub ends : (rest : List ℕ) → left (bytes ++ rest) ≡ rest
  pub inner : List ℕ
  pub opens : bytes ≡ 0x0B ∷ inner

within_frame : (qualifier : ℕ) (content rest : List ℕ) (depth : ℕ) → is_control qualifier ≡ false → Passes content
    → behind false depth (qualifier ∷ (content ++ 0x0E ∷ []) ++ rest) ≡ behind false depth (0x0E ∷ rest)
within_frame qualifier content rest depth h p =
    plain depth qualifier ((content ++ 0x0E ∷ []) ++ rest) h
    ∙ ap (behind false depth) (append_assoc content (0x0E ∷ []) rest)
    ∙ p depth (0x0E ∷ rest)

passes_framed : (qualifier : ℕ) (content : List ℕ) → is_control qualifier ≡ false → Passes content → Passes (framed qualifier content)
unfolding behind
passes_framed qualifier content h p depth rest = within_frame qualifier content rest (suc depth) h p

ends_framed : (qualifier : ℕ) (content : List ℕ) → is_control qualifier ≡ false → Passes content
    → (rest : List ℕ) → left (framed qualifier content ++ rest) ≡ rest
unfolding behind
ends_framed qualifier content h p rest = within_frame qualifier content rest 0 h p

pub frame : (qualifier : ℕ) (content : List ℕ) → is_control qualifier ≡ false → Passes content → IsFrame (framed qualifier content)
frame qualifier content h p = record {
  passes = passes_framed qualifier content h p;
  ends = ends_framed qualifier content h p;
  inner = qualifier ∷ content ++ 0x0E ∷ [];
  opens = refl;
}

pub frame_of : (qualifier : ℕ) (bytes : List ℕ) → is_control qualifier ≡ false → IsFrame (framed qualifier (escape bytes))
frame_of qualifier bytes h = frame qualifier (escape bytes) h (passes_escape bytes)

passes_nothing : Passes []
passes_nothing depth rest = refl

null_plain : (kind : Kind) → is_control (null_qualifier kind) ≡ false
null_plain Kind.Null = refl
null_plain Kind.Bool = refl
null_plain Kind.Int = refl
null_plain Kind.Decimal = refl
null_plain Kind.Timestamp = refl
null_plain Kind.Symbol = refl
null_plain Kind.String = refl
null_plain Kind.Clob = refl
null_plain Kind.Blob = refl
null_plain Kind.List = refl
null_plain Kind.Sexp = refl
null_plain Kind.Struct = refl

int_plain : (n : ℤ) → is_control (int_qualifier n) ≡ false
int_plain (pos n) = refl
int_plain (negsuc n) = refl

bool_plain : (b : Bool) → is_control (if b then 0x11 else 0x10) ≡ false
bool_plain true = refl
bool_plain false = refl

-- one level, with the members serialized
abbrev pub level_bytes : Body-F Body Field Value → List ℕ
level_bytes (Body-F.Null kind) = framed (null_qualifier kind) []
level_bytes (Body-F.Bool truth) = framed (if truth then 0x11 else 0x10) []
level_bytes (Body-F.Int n) = serial.body_step (Body-F.Int n)
level_bytes (Body-F.Decimal d) = serial.body_step (Body-F.Decimal d)
level_bytes (Body-F.Timestamp t) = serial.body_step (Body-F.Timestamp t)
level_bytes (Body-F.Symbol text) = symbol_bytes text
level_bytes (Body-F.String text) = serial.body_step (Body-F.String text)
level_bytes (Body-F.Clob bytes) = serial.body_step (Body-F.Clob bytes)
level_bytes (Body-F.Blob bytes) = serial.body_step (Body-F.Blob bytes)
level_bytes (Body-F.List values) = framed 0xB0 (joined (map serialize values))
level_bytes (Body-F.Sexp values) = framed 0xC0 (joined (map serialize values))
level_bytes (Body-F.Struct fields) = struct_bytes (map field_hash fields)

pub at_roll : (annotations : List (List ℕ)) (b : Body-F Body Field Value)
    → serialize (record { annotations = annotations; body = roll-Body b }) ≡ annotated annotations (level_bytes b)
at_roll annotations b = search (rules, the_lemmas)

passes_joined : (vs : List Value) → AllByRecursion (λ v. IsFrame (serialize v)) vs → Passes (joined (map serialize vs))
passes_joined [] all depth rest = refl
passes_joined (v ∷ vs) all depth rest =
    ap (λ bytes. behind false depth (bytes ++ rest)) (flat_map-cons (λ piece. piece) (serialize v) (map serialize vs))
    ∙ passes_append (serialize v) (joined (map serialize vs)) (IsFrame.passes all.0) (passes_joined vs all.1) depth rest

pub level_frame : (b : Body-F Body Field Value) → EachMember (λ v. IsFrame (serialize v)) b → IsFrame (level_bytes b)
level_frame (Body-F.Null kind) all = frame (null_qualifier kind) [] (null_plain kind) passes_nothing
level_frame (Body-F.Bool truth) all = frame (if truth then 0x11 else 0x10) [] (bool_plain truth) passes_nothing
level_frame (Body-F.Int n) all = frame_of (int_qualifier n) (magnitude (unsigned_abs n)) (int_plain n)
level_frame (Body-F.Decimal d) all = frame_of 0x50 (decimal_bytes d) refl
level_frame (Body-F.Timestamp t) all = frame_of 0x60 (timestamp_bytes t) refl
level_frame (Body-F.Symbol text) all = frame_of 0x70 text refl
level_frame (Body-F.String text) all = frame_of 0x80 text refl
level_frame (Body-F.Clob bytes) all = frame_of 0x90 bytes refl
level_frame (Body-F.Blob bytes) all = frame_of 0xA0 bytes refl
level_frame (Body-F.List values) all = frame 0xB0 (joined (map serialize values)) refl (passes_joined values all)
level_frame (Body-F.Sexp values) all = frame 0xC0 (joined (map serialize values)) refl (passes_joined values all)
level_frame (Body-F.Struct fields) all = frame_of 0xD0 (joined (serial.in_order (map field_hash fields))) refl

passes_names : (names : List (List ℕ)) → Passes (flat_map symbol_bytes names)
passes_names [] depth rest = refl
passes_names (name ∷ names) depth rest =
    ap (λ bytes. behind false depth (bytes ++ rest)) (flat_map-cons symbol_bytes name names)
    ∙ passes_append (symbol_bytes name) (flat_map symbol_bytes names) (IsFrame.passes (frame_of 0x70 name refl)) (passes_names names) depth rest

annotated_frame : (annotations : List (List ℕ)) (bytes : List ℕ) → IsFrame bytes → IsFrame (annotated annotations bytes)
annotated_frame [] bytes f = f
annotated_frame (name ∷ more) bytes f =
    frame 0xE0 (flat_map symbol_bytes (name ∷ more) ++ bytes) refl
    (passes_append (flat_map symbol_bytes (name ∷ more)) bytes (passes_names (name ∷ more)) f.passes)

pub value_frame : (v : Value) → IsFrame (serialize v)
value_frame =
    by_members (λ v. IsFrame (serialize v))
    (λ annotations b all. subst IsFrame (sym (at_roll annotations b)) (annotated_frame annotations (level_bytes b) (level_frame b all)))

-- ---- the laws

pub serialize_is_prefix_free : SerializeIsPrefixFree
serialize_is_prefix_free v w r s e =
    let f = value_frame v in
    let g = value_frame w in
    let rests : r ≡ s = sym (f.ends r) ∙ ap left e ∙ g.ends s in
    (append_cancel_right (serialize v) (serialize w) r (e ∙ ap (λ rest. serialize w ++ rest) (sym rests)), rests)

-- ---- escapes

-- the bytes before they were escaped
unescaped : Bool → List ℕ → List ℕ
unescaped hidden [] = []
unescaped true (byte ∷ rest) = byte ∷ unescaped false rest
unescaped false (byte ∷ rest) = if byte == 0x0C then unescaped true rest else byte ∷ unescaped false rest

no_escape : (p q e : Bool) (a b : List ℕ) → (p || q || e) ≡ false → (if q then a else b) ≡ b
no_escape false false false a b h = refl
no_escape true q e a b h = absurd (cc)
no_escape false true e a b h = absurd (cc)
no_escape false false true a b h = absurd (cc)

first_unescaped : (byte : ℕ) (rest : List ℕ) → unescaped false (escaped byte ++ rest) ≡ byte ∷ unescaped false rest
unfolding unescaped
first_unescaped byte rest =
    elim (is_control byte) as (λ c. is_control byte ≡ c → unescaped false ((if c then 0x0C ∷ byte ∷ [] else byte ∷ []) ++ rest) ≡ byte ∷ unescaped false rest) [
      | true ↦ λ e. refl
      | false ↦ λ e. no_escape (byte == 0x0B) (byte == 0x0C) (byte == 0x0E) _ _ e
    ] refl

unescaped-escape : (xs : List ℕ) → unescaped false (escape xs) ≡ xs
unfolding unescaped
unescaped-escape [] = refl
unescaped-escape (x ∷ xs) =
    ap (unescaped false) (flat_map-cons escaped x xs) ∙ first_unescaped x (escape xs) ∙ ap (λ rest. x ∷ rest) (unescaped-escape xs)

pub escape_is_injective : EscapeIsInjective
escape_is_injective xs ys e = sym (unescaped-escape xs) ∙ ap (unescaped false) e ∙ unescaped-escape ys

second : List ℕ → ℕ
second [] = 0
second (x ∷ []) = 0
second (x ∷ y ∷ rest) = y

third_on : List ℕ → List ℕ
third_on [] = []
third_on (x ∷ []) = []
third_on (x ∷ y ∷ rest) = rest

pub frame_is_injective : FrameIsInjective
unfolding second third_on
frame_is_injective p q xs ys e = (ap second e, append_cancel_right xs ys (0x0E ∷ []) (ap third_on e))

-- ---- members

no_member : (v : Value) (rest : List ℕ) → [] ≡ serialize v ++ rest → ⊥
no_member v rest e =
    let f = value_frame v in
    let bad : [] ≡ 0x0B ∷ (f.inner ++ rest) = e ∙ ap (λ bytes. bytes ++ rest) f.opens in
    cc

pub joined-cons : (v : Value) (vs : List Value) → joined (map serialize (v ∷ vs)) ≡ serialize v ++ joined (map serialize vs)
joined-cons v vs = flat_map-cons (λ piece. piece) (serialize v) (map serialize vs)

pub joined_is_injective : JoinedIsInjective
joined_is_injective [] [] e = refl
joined_is_injective [] (w ∷ ws) e = absurd (no_member w _ (e ∙ joined-cons w ws))
joined_is_injective (v ∷ vs) [] e = absurd (no_member v _ (sym e ∙ joined-cons v vs))
joined_is_injective (v ∷ vs) (w ∷ ws) e =
    let both = serialize_is_prefix_free v w _ _ (sym (joined-cons v vs) ∙ e ∙ joined-cons w ws) in
    let rest = joined_is_injective vs ws both.1 in
    λ i. both.0 i ∷ rest i
