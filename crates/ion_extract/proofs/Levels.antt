-- A value's serialization is a frame around what its members make of it, and determines annotations and bodies.
use Rattle.std.proofs.Common.{◌≡◌, ◌∙◌, ℕ, ℤ, pos, negsuc, ◌==◌, ◌%◌, ◌/◌, ◌&&◌, Bool, true, false, if◌then◌else◌, List, [], ◌∷◌, ◌++◌, map, refl, sym, ap, subst, arith, rules, suc}
use Rattle.std.specs.Prelude.{unsigned_abs, IsTrue}
use Rattle.std.specs.List.{AllByRecursion, flat_map, list_all}
use Rattle.std.specs.Str.{bytes_eq}
use Rattle.std.proofs.lemmas.List.{append-nil, append_assoc, append_cancel_right}
use Rattle.std.proofs.lemmas.List.Concat.{flat_map-cons}
use Rattle.ion_values.specs.declared.value.Kind.{Kind}
use Rattle.ion_values.specs.declared.value.Value.{Value}
use Rattle.ion_values.specs.declared.value.Field.{Field}
use Rattle.ion_values.specs.declared.value.Body.{Body, roll-Body, out-Body, roll-out-Body}
use Rattle.ion_values.specs.declared.value.Body.TheOpen.{Body-F}
use Rattle.ion_values.specs.declared.value.Body.TheFolds.{the_lemmas}
use Rattle.ion_values.specs.Decimal.{DecimalParts}
use Rattle.ion_values.specs.declared.time.TimeParts.{TimeParts}
use Rattle.ion_values.specs.Equivalent.{is_equivalent, is_equivalent_body, same_bool, same_decimal, same_kind, same_names, same_time}
use Rattle.std.specs.Ordering.{int_eq}
use Rattle.ion_values.specs.Time.{IsTime, is_time}
use Rattle.ion_values.specs.Within.{body_within, decimal_within, text_within, within}
use Rattle.ion_values.proofs.Induction.{EachMember}
use Rattle.ion_values.proofs.Matching.{second}
use Rattle.ion_values.proofs.Relation.{kind_own, bool_own, int_own, bytes_own, decimal_own, names_own, time_own, same_level}
use Rattle.hash_model.specs.Numbers.{magnitude}
use Rattle.hash_model.specs.Serialize.{annotated, decimal_bytes, escape, field_hash, framed, in_order, int_qualifier, joined, null_qualifier, serialize, serialize_body, symbol_bytes}
use Rattle.hash_model.specs.Timestamps.{timestamp_bytes}
use Rattle.laws_serialization.proofs.Decimals.{decimal_is_injective}
use Rattle.laws_serialization.proofs.Timestamps.{timestamp_is_injective}
use Rattle.laws_serialization.proofs.Numbers.{magnitude_is_injective}
use Rattle.laws_serialization.proofs.Qualifiers.{same_null, same_truth}
use Rattle.ion_extract.specs.Laws.{AnnotatedIsInjective, BodiesAgree, BytesDetermineBodies, FieldFormIsInjective, IntIsInjective, NullQualifierIsInjective}
use Rattle.ion_extract.proofs.Frames.{IsFrame, at_roll, escape_is_injective, frame_of, frame_is_injective, left, level_bytes, level_frame, joined_is_injective, value_frame}
use Rattle.ion_extract.proofs.Hashes.{hashes_told}

-- ---- one frame and then another

frames_first : (a b r s : List ℕ) → IsFrame a → IsFrame b → a ++ r ≡ b ++ s → (a ≡ b) × (r ≡ s)
frames_first a b r s f g e =
    let rests : r ≡ s = sym (f.ends r) ∙ ap left e ∙ g.ends s in
    (append_cancel_right a b r (e ∙ ap (λ rest. b ++ rest) (sym rests)), rests)

symbol_frame : (text : List ℕ) → IsFrame (symbol_bytes text)
symbol_frame text = frame_of 0x70 text refl

symbols_tell : (x y : List ℕ) → symbol_bytes x ≡ symbol_bytes y → x ≡ y
symbols_tell x y e = escape_is_injective x y (frame_is_injective 0x70 0x70 (escape x) (escape y) e).1

pub field_form_is_injective : FieldFormIsInjective
field_form_is_injective f g e =
    let both = frames_first (symbol_bytes f.name) (symbol_bytes g.name) (serialize f.value) (serialize g.value) (symbol_frame f.name) (symbol_frame g.name) e in
    (symbols_tell f.name g.name both.0, both.1)

-- ---- bodies

each_frame : (vs : List Value) → AllByRecursion (λ v. IsFrame (serialize v)) vs
each_frame [] = tt
each_frame (v ∷ vs) = (value_frame v, each_frame vs)

each_field_frame : (fs : List Field) → AllByRecursion (λ f. IsFrame (serialize f.value)) fs
each_field_frame [] = tt
each_field_frame (f ∷ fs) = (value_frame f.value, each_field_frame fs)

members_frame : (b : Body-F Body Field Value) → EachMember (λ v. IsFrame (serialize v)) b
members_frame (Body-F.List vs) = each_frame vs
members_frame (Body-F.Sexp vs) = each_frame vs
members_frame (Body-F.Struct fs) = each_field_frame fs
members_frame (Body-F.Null x) = tt
members_frame (Body-F.Bool x) = tt
members_frame (Body-F.Int x) = tt
members_frame (Body-F.Decimal x) = tt
members_frame (Body-F.Timestamp x) = tt
members_frame (Body-F.Symbol x) = tt
members_frame (Body-F.String x) = tt
members_frame (Body-F.Clob x) = tt
members_frame (Body-F.Blob x) = tt

at_body : (b : Body-F Body Field Value) → serialize_body (roll-Body b) ≡ level_bytes b
at_body b = search (rules, the_lemmas)

pub body_is : (b : Body) → serialize_body b ≡ level_bytes (out-Body b)
body_is b = ap serialize_body (sym (roll-out-Body b)) ∙ at_body (out-Body b)

body_frame : (b : Body) → IsFrame (serialize_body b)
body_frame b = subst IsFrame (sym (body_is b)) (level_frame (out-Body b) (members_frame (out-Body b)))

-- ---- type qualifiers

qualifier : Body-F Body Field Value → ℕ
qualifier (Body-F.Null kind) = null_qualifier kind
qualifier (Body-F.Bool truth) = if truth then 0x11 else 0x10
qualifier (Body-F.Int n) = int_qualifier n
qualifier (Body-F.Decimal d) = 0x50
qualifier (Body-F.Timestamp t) = 0x60
qualifier (Body-F.Symbol text) = 0x70
qualifier (Body-F.String text) = 0x80
qualifier (Body-F.Clob bytes) = 0x90
qualifier (Body-F.Blob bytes) = 0xA0
qualifier (Body-F.List vs) = 0xB0
qualifier (Body-F.Sexp vs) = 0xC0
qualifier (Body-F.Struct fs) = 0xD0

content : Body-F Body Field Value → List ℕ
content (Body-F.Null kind) = []
content (Body-F.Bool truth) = []
content (Body-F.Int n) = escape (magnitude (unsigned_abs n))
content (Body-F.Decimal d) = escape (decimal_bytes d)
content (Body-F.Timestamp t) = escape (timestamp_bytes t)
content (Body-F.Symbol text) = escape text
content (Body-F.String text) = escape text
content (Body-F.Clob bytes) = escape bytes
content (Body-F.Blob bytes) = escape bytes
content (Body-F.List vs) = joined (map serialize vs)
content (Body-F.Sexp vs) = joined (map serialize vs)
content (Body-F.Struct fs) = escape (joined (in_order (map field_hash fs)))

level_is : (b : Body-F Body Field Value) → level_bytes b ≡ framed (qualifier b) (content b)
unfolding qualifier content
level_is (Body-F.Null kind) = refl
level_is (Body-F.Bool truth) = refl
level_is (Body-F.Int n) = refl
level_is (Body-F.Decimal d) = refl
level_is (Body-F.Timestamp t) = refl
level_is (Body-F.Symbol text) = refl
level_is (Body-F.String text) = refl
level_is (Body-F.Clob bytes) = refl
level_is (Body-F.Blob bytes) = refl
level_is (Body-F.List vs) = refl
level_is (Body-F.Sexp vs) = refl
level_is (Body-F.Struct fs) = refl

parts_told : (a b : Body-F Body Field Value) → level_bytes a ≡ level_bytes b → (qualifier a ≡ qualifier b) × (content a ≡ content b)
parts_told a b e = frame_is_injective (qualifier a) (qualifier b) (content a) (content b) (sym (level_is a) ∙ e ∙ level_is b)

-- which of the twelve it is
rank : Body-F Body Field Value → ℕ
rank (Body-F.Null kind) = 0
rank (Body-F.Bool truth) = 1
rank (Body-F.Int n) = 2
rank (Body-F.Decimal d) = 5
rank (Body-F.Timestamp t) = 6
rank (Body-F.Symbol text) = 7
rank (Body-F.String text) = 8
rank (Body-F.Clob bytes) = 9
rank (Body-F.Blob bytes) = 10
rank (Body-F.List vs) = 11
rank (Body-F.Sexp vs) = 12
rank (Body-F.Struct fs) = 13

-- a type qualifier determines it
rank_at : ℕ → ℕ
rank_at q = if q % 16 == 15 then 0 else if q == 0x30 then 2 else q / 16

null_rank : (kind : Kind) → rank_at (null_qualifier kind) ≡ 0
unfolding rank_at
null_rank Kind.Null = refl
null_rank Kind.Bool = refl
null_rank Kind.Int = refl
null_rank Kind.Decimal = refl
null_rank Kind.Timestamp = refl
null_rank Kind.Symbol = refl
null_rank Kind.String = refl
null_rank Kind.Clob = refl
null_rank Kind.Blob = refl
null_rank Kind.List = refl
null_rank Kind.Sexp = refl
null_rank Kind.Struct = refl

bool_rank : (truth : Bool) → rank_at (if truth then 0x11 else 0x10) ≡ 1
unfolding rank_at
bool_rank true = refl
bool_rank false = refl

int_rank : (n : ℤ) → rank_at (int_qualifier n) ≡ 2
unfolding rank_at
int_rank (pos n) = refl
int_rank (negsuc n) = refl

rank_told : (b : Body-F Body Field Value) → rank_at (qualifier b) ≡ rank b
unfolding rank rank_at qualifier
rank_told (Body-F.Null kind) = null_rank kind
rank_told (Body-F.Bool truth) = bool_rank truth
rank_told (Body-F.Int n) = int_rank n
rank_told (Body-F.Decimal d) = refl
rank_told (Body-F.Timestamp t) = refl
rank_told (Body-F.Symbol text) = refl
rank_told (Body-F.String text) = refl
rank_told (Body-F.Clob bytes) = refl
rank_told (Body-F.Blob bytes) = refl
rank_told (Body-F.List vs) = refl
rank_told (Body-F.Sexp vs) = refl
rank_told (Body-F.Struct fs) = refl

last_rank : (b : Body-F Body Field Value) → rank b ≡ 14 → ⊥
unfolding rank
last_rank (Body-F.Null kind) e = omega arith
last_rank (Body-F.Bool truth) e = omega arith
last_rank (Body-F.Int n) e = omega arith
last_rank (Body-F.Decimal d) e = omega arith
last_rank (Body-F.Timestamp t) e = omega arith
last_rank (Body-F.Symbol text) e = omega arith
last_rank (Body-F.String text) e = omega arith
last_rank (Body-F.Clob bytes) e = omega arith
last_rank (Body-F.Blob bytes) e = omega arith
last_rank (Body-F.List vs) e = omega arith
last_rank (Body-F.Sexp vs) e = omega arith
last_rank (Body-F.Struct fs) e = omega arith

-- ---- annotations

-- no body has the type qualifier of annotations
no_annotation : (b : Body) (inside : List ℕ) → serialize_body b ≡ framed 0xE0 inside → ⊥
unfolding rank_at
no_annotation b inside e =
    let told = frame_is_injective (qualifier (out-Body b)) 0xE0 (content (out-Body b)) inside (sym (level_is (out-Body b)) ∙ sym (body_is b) ∙ e) in
    last_rank (out-Body b) (sym (rank_told (out-Body b)) ∙ ap rank_at told.0)

no_frame_left : (names : List (List ℕ)) (b : List ℕ) → IsFrame b → [] ≡ flat_map symbol_bytes names ++ b → ⊥
no_frame_left [] b f e = let bad : [] ≡ 0x0B ∷ f.inner = e ∙ f.opens in cc
no_frame_left (name ∷ names) b f e =
    let g = symbol_frame name in
    let bad : [] ≡ 0x0B ∷ ((g.inner ++ flat_map symbol_bytes names) ++ b) = e ∙ ap (λ l. l ++ b) (flat_map-cons symbol_bytes name names) ∙ ap (λ first. (first ++ flat_map symbol_bytes names) ++ b) g.opens in
    cc

opened : (name : List ℕ) (names : List (List ℕ)) (b : List ℕ)
    → flat_map symbol_bytes (name ∷ names) ++ b ≡ symbol_bytes name ++ (flat_map symbol_bytes names ++ b)
opened name names b = ap (λ l. l ++ b) (flat_map-cons symbol_bytes name names) ∙ append_assoc (symbol_bytes name) (flat_map symbol_bytes names) b

names_told : (xs ys : List (List ℕ)) (a b : List ℕ) → IsFrame a → IsFrame b
    → flat_map symbol_bytes xs ++ a ≡ flat_map symbol_bytes ys ++ b → (xs ≡ ys) × (a ≡ b)
names_told [] [] a b f g e = (refl, e)
names_told [] (y ∷ ys) a b f g e =
    let both = frames_first a (symbol_bytes y) [] (flat_map symbol_bytes ys ++ b) f (symbol_frame y) (append-nil a ∙ e ∙ opened y ys b) in
    absurd (no_frame_left ys b g both.1)
names_told (x ∷ xs) [] a b f g e =
    let both = frames_first b (symbol_bytes x) [] (flat_map symbol_bytes xs ++ a) g (symbol_frame x) (append-nil b ∙ sym e ∙ opened x xs a) in
    absurd (no_frame_left xs a f both.1)
names_told (x ∷ xs) (y ∷ ys) a b f g e =
    let both = frames_first (symbol_bytes x) (symbol_bytes y) (flat_map symbol_bytes xs ++ a) (flat_map symbol_bytes ys ++ b) (symbol_frame x) (symbol_frame y) (sym (opened x xs a) ∙ e ∙ opened y ys b) in
    let name = symbols_tell x y both.0 in
    let rest = names_told xs ys a b f g both.1 in
    ((λ i. name i ∷ rest.0 i), rest.1)

pub annotated_is_injective : AnnotatedIsInjective
annotated_is_injective [] [] a b e = (refl, e)
annotated_is_injective [] (y ∷ ys) a b e = absurd (no_annotation a (flat_map symbol_bytes (y ∷ ys) ++ serialize_body b) e)
annotated_is_injective (x ∷ xs) [] a b e = absurd (no_annotation b (flat_map symbol_bytes (x ∷ xs) ++ serialize_body a) (sym e))
annotated_is_injective (x ∷ xs) (y ∷ ys) a b e =
    names_told (x ∷ xs) (y ∷ ys) (serialize_body a) (serialize_body b) (body_frame a) (body_frame b)
    (frame_is_injective 0xE0 0xE0 (flat_map symbol_bytes (x ∷ xs) ++ serialize_body a) (flat_map symbol_bytes (y ∷ ys) ++ serialize_body b) e).1

-- ---- scalars

pub null_qualifier_is_injective : NullQualifierIsInjective
null_qualifier_is_injective = same_null

pub int_is_injective : IntIsInjective
int_is_injective (pos m) (pos n) q e = ap pos (magnitude_is_injective m n e)
int_is_injective (negsuc m) (negsuc n) q e =
    let h : suc m ≡ suc n = magnitude_is_injective (suc m) (suc n) e in let same : m ≡ n = omega arith in ap negsuc same
int_is_injective (pos m) (negsuc n) q e = absurd (omega arith)
int_is_injective (negsuc m) (pos n) q e = absurd (omega arith)

-- ---- bodies of one serialization

-- what a level's own number or moment is within
abbrev Within : Body-F Body Field Value → Type 0
Within (Body-F.Decimal d) = IsTrue (decimal_within d)
Within (Body-F.Timestamp t) = IsTime t
Within _ = Unit {0}

decimal_level : (d : DecimalParts) → body_within (roll-Body (Body-F.Decimal d)) ≡ decimal_within d
decimal_level d = search (rules, the_lemmas)

time_level : (t : TimeParts) → body_within (roll-Body (Body-F.Timestamp t)) ≡ is_time t
time_level t = search (rules, the_lemmas)

within_level : (b : Body-F Body Field Value) → IsTrue (body_within (roll-Body b)) → Within b
within_level (Body-F.Decimal d) h = subst IsTrue (decimal_level d) h
within_level (Body-F.Timestamp t) h = subst IsTrue (time_level t) h
within_level _ h = tt

own : {A : Type 0} (same : A → A → Bool) (a b : A) → ((x : A) → same x x ≡ true) → a ≡ b → same a b ≡ true
own same a b itself e = sym (ap (same a) e) ∙ itself a

texts_told : (x y : List ℕ) → escape x ≡ escape y → bytes_eq x y ≡ true
texts_told x y e = own bytes_eq x y bytes_own (escape_is_injective x y e)

level_told : (a b : Body-F Body Field Value) → Within a → Within b → qualifier a ≡ qualifier b → content a ≡ content b → rank a ≡ rank b
    → BodiesAgree a b (same_level a b ≡ true)
unfolding qualifier content rank
level_told (Body-F.Null a) (Body-F.Null b) p q e c r = own same_kind a b kind_own (null_qualifier_is_injective a b e)
level_told (Body-F.Bool a) (Body-F.Bool b) p q e c r = own same_bool a b bool_own (same_truth a b e)
level_told (Body-F.Int a) (Body-F.Int b) p q e c r = own int_eq a b int_own (int_is_injective a b e (escape_is_injective (magnitude (unsigned_abs a)) (magnitude (unsigned_abs b)) c))
level_told (Body-F.Decimal a) (Body-F.Decimal b) p q e c r = own same_decimal a b decimal_own (decimal_is_injective a b p q (escape_is_injective (decimal_bytes a) (decimal_bytes b) c))
level_told (Body-F.Timestamp a) (Body-F.Timestamp b) p q e c r = own same_time a b time_own (timestamp_is_injective a b p q (escape_is_injective (timestamp_bytes a) (timestamp_bytes b) c))
level_told (Body-F.Symbol a) (Body-F.Symbol b) p q e c r = texts_told a b c
level_told (Body-F.String a) (Body-F.String b) p q e c r = texts_told a b c
level_told (Body-F.Clob a) (Body-F.Clob b) p q e c r = texts_told a b c
level_told (Body-F.Blob a) (Body-F.Blob b) p q e c r = texts_told a b c
level_told (Body-F.List vs) (Body-F.List ws) p q e c r = joined_is_injective vs ws c
level_told (Body-F.Sexp vs) (Body-F.Sexp ws) p q e c r = joined_is_injective vs ws c
level_told (Body-F.Struct fs) (Body-F.Struct gs) p q e c r = hashes_told fs gs (escape_is_injective (joined (in_order (map field_hash fs))) (joined (in_order (map field_hash gs))) c)
level_told _ _ p q e c r = absurd (omega arith)

at_bodies : (a b : Body-F Body Field Value) → is_equivalent_body (roll-Body a) (roll-Body b) ≡ same_level a b
at_bodies a b = search (rules, the_lemmas)

bodies_are : (a b : Body) → is_equivalent_body a b ≡ same_level (out-Body a) (out-Body b)
bodies_are a b = (λ i. is_equivalent_body (sym (roll-out-Body a) i) (sym (roll-out-Body b) i)) ∙ at_bodies (out-Body a) (out-Body b)

pub bytes_determine_bodies : BytesDetermineBodies
bytes_determine_bodies a b p q e =
    let told = parts_told (out-Body a) (out-Body b) (sym (body_is a) ∙ e ∙ body_is b) in
    let ranks = sym (rank_told (out-Body a)) ∙ ap rank_at told.0 ∙ rank_told (out-Body b) in
    let inside : (c : Body) → IsTrue (body_within c) → Within (out-Body c) = λ c h. within_level (out-Body c) (subst (λ d. IsTrue (body_within d)) (sym (roll-out-Body c)) h) in
    let agree : Bool → Type 0 = λ same. BodiesAgree (out-Body a) (out-Body b) (same ≡ true) in
    subst agree (sym (bodies_are a b)) (level_told (out-Body a) (out-Body b) (inside a p) (inside b q) told.0 told.1 ranks)

-- ---- whole values

value_is : (v : Value) → serialize v ≡ annotated v.annotations (serialize_body v.body)
value_is v = search (rules, the_lemmas)

pub body_told : (v w : Value) → serialize v ≡ serialize w → (v.annotations ≡ w.annotations) × (serialize_body v.body ≡ serialize_body w.body)
body_told v w e = annotated_is_injective v.annotations w.annotations v.body w.body (sym (value_is v) ∙ e ∙ value_is w)

values_are : (v w : Value) → is_equivalent v w ≡ (same_names v.annotations w.annotations && is_equivalent_body v.body w.body)
values_are v w = search (rules, the_lemmas)

pub value_told : (v w : Value) → serialize v ≡ serialize w → is_equivalent_body v.body w.body ≡ true → is_equivalent v w ≡ true
value_told v w e same =
    let names = own same_names v.annotations w.annotations names_own (body_told v w e).0 in
    values_are v w ∙ (λ i. names i && same i)

within_is : (v : Value) → within v ≡ (list_all text_within v.annotations && body_within v.body)
within_is v = search (rules, the_lemmas)

pub inside : (v : Value) → IsTrue (within v) → IsTrue (body_within v.body)
inside v h = second (list_all text_within v.annotations) (body_within v.body) (sym (within_is v) ∙ h)

pub symbol_is : (text : List ℕ) → serialize (record { annotations = []; body = roll-Body (Body-F.Symbol text) }) ≡ symbol_bytes text
symbol_is text = at_roll [] (Body-F.Symbol text)
