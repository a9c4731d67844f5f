-- Fields as multisets, and their hashes in order.
use Rattle.std.proofs.Common.{◌≡◌, ◌∙◌, ℕ, Bool, true, false, ◌&&◌, cond, if◌then◌else◌, List, [], ◌∷◌, ◌++◌, map, refl, sym, ap, subst, true≢false}
use Rattle.std.specs.List.{All, AllByRecursion, filter}
use Rattle.std.specs.Option.{option_map, option_map_or}
use Rattle.std.specs.Str.{bytes_eq}
use Rattle.std.specs.declared.option.Option.{Option}
use Rattle.std.specs.declared.option.Option.TheVariants.{None, Some}
use Rattle.std.proofs.lemmas.List.{map-append}
use Rattle.std.proofs.lemmas.List.Elements.{recursion_from_All}
use Rattle.std.specs.Cmp.Lexicographic.{bytes_decides}
use Rattle.ion_values.specs.declared.value.Value.{Value}
use Rattle.ion_values.specs.declared.value.Field.{Field}
use Rattle.ion_values.specs.declared.value.Body.{Body, out-Body, roll-out-Body}
use Rattle.ion_values.specs.declared.value.Body.TheOpen.{Body-F}
use Rattle.ion_values.specs.Equivalent as matching
use Rattle.ion_values.specs.Equivalent.{in_any_order, is_equivalent, is_equivalent_field, same_names, without}
use Rattle.ion_values.proofs.Induction.{EachMember, by_members}
use Rattle.ion_values.proofs.Matching.{first, map_all, second, taken}
use Rattle.ion_values.proofs.Relation.{at_field, at_roll as equivalent_at, bool_is, decimal_is, int_is, kind_is, names_are, same_level, time_is}
use Rattle.hash_model.specs.Serialize.{annotated, escape, field_hash, framed, in_order, joined, serialize, struct_bytes, symbol_bytes}
use Rattle.sha2.specs.Sha256.{sha256}
use Rattle.ion_hash.proofs.Order.{Hashes, Same, alike, alike_is, ascending_same, found, in_order-ascends, in_order-same}
use Rattle.ion_extract.specs.Laws.{AreOne, EquivalentSerializeAlike, HashesDetermineFields}
use Rattle.ion_extract.proofs.Frames.{at_roll, joined-cons, level_bytes}
use Rattle.ion_extract.proofs.Hashes.{field_is}

-- ---- multisets of hashes

-- the order determines the multiset, and the multiset the order
pub from_order : (xs ys : Hashes) → in_order xs ≡ in_order ys → Same xs ys
from_order xs ys e z = sym (in_order-same xs z) ∙ ap (filter (alike z)) e ∙ in_order-same ys z

pub into_order : (xs ys : Hashes) → Same xs ys → in_order xs ≡ in_order ys
into_order xs ys same =
    ascending_same (in_order xs) (in_order ys) (in_order-ascends xs) (in_order-ascends ys)
    (λ z. in_order-same xs z ∙ same z ∙ sym (in_order-same ys z))

exchange : (b c : Bool) (z x h : List ℕ) (rest : Hashes) → (b ≡ true → z ≡ x) → (c ≡ true → z ≡ h)
    → cond b (x ∷ cond c (h ∷ rest) rest) (cond c (h ∷ rest) rest) ≡ cond c (h ∷ cond b (x ∷ rest) rest) (cond b (x ∷ rest) rest)
exchange true true z x h rest p q = let e = p refl in let d = q refl in cc
exchange true false z x h rest p q = refl
exchange false true z x h rest p q = refl
exchange false false z x h rest p q = refl

-- a hash among others is as well the first
moved : (h : List ℕ) (before after : Hashes) → Same (before ++ h ∷ after) (h ∷ before ++ after)
moved h [] after z = refl
moved h (x ∷ before) after z =
    ap (λ rest. cond (alike z x) (x ∷ rest) rest) (moved h before after z)
    ∙ exchange (alike z x) (alike z h) z x h (filter (alike z) (before ++ after)) (alike_is z x) (alike_is z h)

under : (b : Bool) (x : List ℕ) (xs ys : Hashes) → cond b (x ∷ xs) xs ≡ cond b (x ∷ ys) ys → xs ≡ ys
under true x xs ys h = cc
under false x xs ys h = h

without_first : (x : List ℕ) (xs ys : Hashes) → Same (x ∷ xs) (x ∷ ys) → Same xs ys
without_first x xs ys same z = under (alike z x) x (filter (alike z) xs) (filter (alike z) ys) (same z)

with_first : (x : List ℕ) (xs ys : Hashes) → Same xs ys → Same (x ∷ xs) (x ∷ ys)
with_first x xs ys same z = ap (λ rest. cond (alike z x) (x ∷ rest) rest) (same z)

-- ---- a field that is taken out

record Hashed (f : Field) (gs zs : List Field) : Type 0 where
  before : Hashes
  after : Hashes
  whole : map field_hash gs ≡ before ++ field_hash f ∷ after
  rest : map field_hash zs ≡ before ++ after

-- where equivalent fields have one hash
abbrev pub HashTold : Field → Type 0
HashTold f = (g : Field) → is_equivalent_field f g ≡ true → field_hash f ≡ field_hash g

hashed : (f : Field) (gs zs : List Field) → HashTold f → without (is_equivalent_field f) gs ≡ Some zs → Hashed f gs zs
hashed f gs zs told e =
    let t = taken (is_equivalent_field f) gs zs e in
    let one = told t.item t.passes in
    record {
      before = map field_hash t.before;
      after = map field_hash t.after;
      whole = ap (map field_hash) t.whole ∙ map-append field_hash t.before (t.item ∷ t.after) ∙ ap (λ h. map field_hash t.before ++ h ∷ map field_hash t.after) (sym one);
      rest = ap (map field_hash) t.rest ∙ map-append field_hash t.before t.after;
    }

-- the field's hash in front of the others' is the multiset that there was
taken_same : (f : Field) (gs zs : List Field) → Hashed f gs zs → Same (map field_hash gs) (field_hash f ∷ map field_hash zs)
taken_same f gs zs h z =
    ap (filter (alike z)) h.whole
    ∙ moved (field_hash f) h.before h.after z
    ∙ ap (λ l. filter (alike z) (field_hash f ∷ l)) (sym h.rest)

-- ---- equivalent structs have one list of hashes

none_left : (gs : List Field) → in_any_order [] gs ≡ true → gs ≡ []
none_left [] h = refl
none_left (g ∷ gs) h = absurd (true≢false (sym h))

fields_at : (f : Field) (fs gs : List Field) → HashTold f
    → ((zs : List Field) → in_any_order (map is_equivalent_field fs) zs ≡ true → Same (map field_hash fs) (map field_hash zs))
    → (w : Option (List Field)) → without (is_equivalent_field f) gs ≡ w
    → option_map_or (in_any_order (map is_equivalent_field fs)) w false ≡ true
    → Same (map field_hash (f ∷ fs)) (map field_hash gs)
fields_at f fs gs told later None e h = absurd (true≢false (sym h))
fields_at f fs gs told later (Some zs) e h =
    λ z. with_first (field_hash f) (map field_hash fs) (map field_hash zs) (later zs h) z ∙ sym (taken_same f gs zs (hashed f gs zs told e) z)

fields_same : (fs gs : List Field) → AllByRecursion HashTold fs → in_any_order (map is_equivalent_field fs) gs ≡ true
    → Same (map field_hash fs) (map field_hash gs)
fields_same [] gs told h = λ z. ap (λ l. filter (alike z) (map field_hash l)) (sym (none_left gs h))
fields_same (f ∷ fs) gs told h =
    fields_at f fs gs told.0 (λ zs. fields_same fs zs told.1) (without (is_equivalent_field f) gs) refl h

-- ---- equivalent values have one serialization

abbrev Told : Value → Type 0
Told v = (w : Value) → is_equivalent v w ≡ true → serialize v ≡ serialize w

field_told : (f : Field) → Told f.value → HashTold f
field_told f told g h =
    let both : (bytes_eq f.name g.name && is_equivalent f.value g.value) ≡ true = sym (at_field f g) ∙ h in
    let name : f.name ≡ g.name = (bytes_decides f.name g.name).0 (first _ _ both) in
    let value = told g.value (second _ _ both) in
    field_is f ∙ (λ i. sha256 (symbol_bytes (name i) ++ value i)) ∙ sym (field_is g)

members_told : (vs ws : List Value) → AllByRecursion Told vs → matching.in_order (map is_equivalent vs) ws ≡ true
    → joined (map serialize vs) ≡ joined (map serialize ws)
members_told [] [] told h = refl
members_told [] (w ∷ ws) told h = absurd (true≢false (sym h))
members_told (v ∷ vs) [] told h = absurd (true≢false (sym h))
members_told (v ∷ vs) (w ∷ ws) told h =
    let here = told.0 w (first (is_equivalent v w) (matching.in_order (map is_equivalent vs) ws) h) in
    let rest = members_told vs ws told.1 (second (is_equivalent v w) (matching.in_order (map is_equivalent vs) ws) h) in
    joined-cons v vs ∙ (λ i. here i ++ rest i) ∙ sym (joined-cons w ws)

structs_told : (fs gs : List Field) → AllByRecursion (λ f. Told f.value) fs → in_any_order (map is_equivalent_field fs) gs ≡ true
    → struct_bytes (map field_hash fs) ≡ struct_bytes (map field_hash gs)
structs_told fs gs told h =
    ap (λ hashes. framed 0xD0 (escape (joined hashes)))
    (into_order (map field_hash fs) (map field_hash gs) (fields_same fs gs (map_all (λ f t. field_told f t) fs told) h))

level_one : (b c : Body-F Body Field Value) → EachMember Told b → same_level b c ≡ true → level_bytes b ≡ level_bytes c
level_one (Body-F.Null a) (Body-F.Null c) told h = ap (λ x. level_bytes (Body-F.Null x)) (kind_is a c h)
level_one (Body-F.Bool a) (Body-F.Bool c) told h = ap (λ x. level_bytes (Body-F.Bool x)) (bool_is a c h)
level_one (Body-F.Int a) (Body-F.Int c) told h = ap (λ x. level_bytes (Body-F.Int x)) (int_is a c h)
level_one (Body-F.Decimal a) (Body-F.Decimal c) told h = ap (λ x. level_bytes (Body-F.Decimal x)) (decimal_is a c h)
level_one (Body-F.Timestamp a) (Body-F.Timestamp c) told h = ap (λ x. level_bytes (Body-F.Timestamp x)) (time_is a c h)
level_one (Body-F.Symbol a) (Body-F.Symbol c) told h = ap (λ x. level_bytes (Body-F.Symbol x)) ((bytes_decides a c).0 h)
level_one (Body-F.String a) (Body-F.String c) told h = ap (λ x. level_bytes (Body-F.String x)) ((bytes_decides a c).0 h)
level_one (Body-F.Clob a) (Body-F.Clob c) told h = ap (λ x. level_bytes (Body-F.Clob x)) ((bytes_decides a c).0 h)
level_one (Body-F.Blob a) (Body-F.Blob c) told h = ap (λ x. level_bytes (Body-F.Blob x)) ((bytes_decides a c).0 h)
level_one (Body-F.List vs) (Body-F.List ws) told h = ap (framed 0xB0) (members_told vs ws told h)
level_one (Body-F.Sexp vs) (Body-F.Sexp ws) told h = ap (framed 0xC0) (members_told vs ws told h)
level_one (Body-F.Struct fs) (Body-F.Struct gs) told h = structs_told fs gs told h
level_one _ _ told h = absurd (true≢false (sym h))

at_value : (w : Value) → serialize w ≡ annotated w.annotations (level_bytes (out-Body w.body))
at_value w =
    (λ i. serialize (record { annotations = w.annotations; body = sym (roll-out-Body w.body) i })) ∙ at_roll w.annotations (out-Body w.body)

pub equivalent_serialize_alike : EquivalentSerializeAlike
equivalent_serialize_alike =
    by_members Told
    (λ annotations b told w h.
    let both : (same_names annotations w.annotations && same_level b (out-Body w.body)) ≡ true = sym (equivalent_at annotations b w) ∙ h in
    let names = names_are annotations w.annotations (first _ _ both) in
    let level = level_one b (out-Body w.body) told (second _ _ both) in
    at_roll annotations b ∙ (λ i. annotated (names i) (level i)) ∙ sym (at_value w))

pub equivalent_field_is_one : (f : Field) → HashTold f
equivalent_field_is_one f = field_told f (equivalent_serialize_alike f.value)

-- ---- one list of hashes determines the fields

-- a field whose hash stands among the others' is equivalent to one of them
skipped : (f g : Field) (rest : Hashes) → AreOne f g → is_equivalent_field f g ≡ false → rest ≡ [] → (b : Bool)
    → alike (field_hash f) (field_hash g) ≡ b → cond b (field_hash g ∷ rest) rest ≡ []
skipped f g rest one other none true h = absurd (true≢false (sym (one (alike_is (field_hash f) (field_hash g) h)) ∙ other))
skipped f g rest one other none false h = none

alike_at : (f g : Field) (gs : List Field) → AreOne f g
    → (without (is_equivalent_field f) gs ≡ None → filter (alike (field_hash f)) (map field_hash gs) ≡ [])
    → (b : Bool) → is_equivalent_field f g ≡ b → (w : Option (List Field)) → without (is_equivalent_field f) gs ≡ w
    → (if b then Some gs else option_map (λ zs. g ∷ zs) w) ≡ None → filter (alike (field_hash f)) (map field_hash (g ∷ gs)) ≡ []
alike_at f g gs one later true here w is h = let bad : ⊥ = cc in absurd bad
alike_at f g gs one later false here (Some zs) is h = let bad : ⊥ = cc in absurd bad
alike_at f g gs one later false here None is h =
    skipped f g (filter (alike (field_hash f)) (map field_hash gs)) one here (later is) (alike (field_hash f) (field_hash g)) refl

none_alike : (f : Field) (gs : List Field) → AllByRecursion (AreOne f) gs → without (is_equivalent_field f) gs ≡ None
    → filter (alike (field_hash f)) (map field_hash gs) ≡ []
none_alike f [] one e = refl
none_alike f (g ∷ gs) one e =
    alike_at f g gs one.0 (none_alike f gs one.1) (is_equivalent_field f g) refl (without (is_equivalent_field f) gs) refl e

less : (P : Field → Type 0) (before : List Field) (item : Field) (after : List Field) → AllByRecursion P (before ++ item ∷ after) → AllByRecursion P (before ++ after)
less P [] item after all = all.1
less P (x ∷ before) item after all = (all.0, less P before item after all.1)

rest_of : (P : Field → Type 0) (like : Field → Bool) (gs zs : List Field) → without like gs ≡ Some zs → AllByRecursion P gs → AllByRecursion P zs
rest_of P like gs zs e all =
    let t = taken like gs zs e in
    subst (AllByRecursion P) (sym t.rest) (less P t.before t.item t.after (subst (AllByRecursion P) t.whole all))

abbrev Ones : List Field → List Field → Type 0
Ones fs gs = AllByRecursion (λ f. AllByRecursion (AreOne f) gs) fs

told_at : (f : Field) (fs gs : List Field) → AllByRecursion (AreOne f) gs → Ones fs gs → Same (field_hash f ∷ map field_hash fs) (map field_hash gs)
    → ((zs : List Field) → Ones fs zs → Same (map field_hash fs) (map field_hash zs) → in_any_order (map is_equivalent_field fs) zs ≡ true)
    → (w : Option (List Field)) → without (is_equivalent_field f) gs ≡ w
    → option_map_or (in_any_order (map is_equivalent_field fs)) w false ≡ true
told_at f fs gs one ones same later None e =
    let here = found (field_hash f) (map field_hash fs) in
    let gone = none_alike f gs one e in
    let both = same (field_hash f) in
    let bad : ⊥ = cc in absurd bad
told_at f fs gs one ones same later (Some zs) e =
    later zs (map_all (λ g all. rest_of (AreOne g) (is_equivalent_field f) gs zs e all) fs ones)
    (without_first (field_hash f) (map field_hash fs) (map field_hash zs)
    (λ z. same z ∙ taken_same f gs zs (hashed f gs zs (equivalent_field_is_one f) e) z))

fields_told : (fs gs : List Field) → Ones fs gs → Same (map field_hash fs) (map field_hash gs) → in_any_order (map is_equivalent_field fs) gs ≡ true
fields_told [] [] ones same = refl
fields_told [] (g ∷ gs) ones same =
    let here = found (field_hash g) (map field_hash gs) in
    let both = same (field_hash g) in
    let bad : ⊥ = cc in absurd bad
fields_told (f ∷ fs) gs ones same =
    told_at f fs gs ones.0 ones.1 same (λ zs. fields_told fs zs) (without (is_equivalent_field f) gs) refl

pub hashes_determine_fields : HashesDetermineFields
hashes_determine_fields fs gs e all =
    fields_told fs gs
    (map_all (λ f ones. recursion_from_All (AreOne f) gs ones) fs (recursion_from_All (λ f. All (AreOne f) gs) fs all))
    (from_order (map field_hash fs) (map field_hash gs) e)
