-- Bytes denote at most one list of values.
use Rattle.std.proofs.Common.{◌≡◌, ◌∙◌, ℕ, zero, suc, ◌+◌, ◌*◌, ◌<◌, ◌==◌, Bool, true, false, ◌&&◌, not, cond, if◌then◌else◌, ℤ, pos, negsuc, List, [], ◌∷◌, ◌++◌, map, length, refl, sym, ap, subst, arith, append_assoc, true≢false, Option, Some, None}
use Rattle.std.specs.Prelude.{unsigned_abs, IsTrue, slice_index_or}
use Rattle.std.specs.List.{All, AllByRecursion, Contains, flat_map, list_all, position_or_len}
use Rattle.std.specs.Str.{bytes_eq}
use Rattle.std.specs.Cmp.Lexicographic.{bytes_decides}
use Rattle.std.proofs.lemmas.List.{append-nil, append_cancel_left, nil_from_length}
use Rattle.std.proofs.lemmas.Bool.Decides.{Decides-eqb}
use Rattle.std.proofs.lemmas.List.Elements.{recursion_from_All}
use Rattle.ion_values.specs.declared.value.Value.{Value}
use Rattle.ion_values.specs.declared.value.Field.{Field}
use Rattle.ion_values.specs.declared.value.Body.{out-Body}
use Rattle.ion_values.specs.declared.value.Body.TheOpen.{Body-F}
use Rattle.ion_values.specs.Time.{is_time}
use Rattle.ion_values.specs.Within.{all_true, decimal_within, field_within, text_within, within}
use Rattle.ion_values.proofs.Induction.{EachMember, by_members}
use Rattle.laws_serialization.proofs.Qualifiers.{same_null, same_truth}
use Rattle.laws_serialization.specs.Numbers.{DecimalIsInjective, MagnitudeIsInjective, TimestampIsInjective, VarUIntIsPrefixFree}
use Rattle.hash_model.specs.Numbers.{is_below_zero, magnitude, var_uint}
use Rattle.hash_model.specs.Serialize.{decimal_bytes, joined, null_qualifier}
use Rattle.hash_model.specs.Timestamps.{timestamp_bytes}
use Rattle.ion_binary_out.specs.BinaryText.{DenotedValuesAreUnique, Text, annotated, field_bytes, ids_of, is_symbol, is_top, symbol_id, symbols_after, system_symbols, table_bytes, table_or_nothing, texts_in, texts_in_field, typed, value_bytes, version_marker}
use Rattle.ion_binary_out.proofs.Levels.{Level, as_level, bytes_at, bytes_at_field, flat_texts, level_bytes, level_texts, level_within, texts_at, texts_at_field, value_of, within_at, within_at_field}
use Rattle.ion_binary_out.proofs.Tags.{is_blob, is_bool, is_clob, is_decimal, is_int, is_level, is_list, is_null, is_sexp, is_string, is_struct, is_symbol_level, is_timestamp, level_tag, tag, tag_at, tag_typed}
use Rattle.ion_binary_out.proofs.Typed.{first, head_same, same_front, typed_opens, typed_unique}

both_true : (p q : Bool) → IsTrue (p && q) → IsTrue p × IsTrue q
both_true true true h = (refl, refl)
both_true true false h = absurd (true≢false (sym h))
both_true false q h = absurd (true≢false (sym h))

fronts_all : {A : Type 0} (P : A → Type 0) (xs ys : List A) → AllByRecursion P (xs ++ ys) → AllByRecursion P xs × AllByRecursion P ys
fronts_all P [] ys all = (tt, all)
fronts_all P (x ∷ xs) ys all = let rest = fronts_all P xs ys all.1 in ((all.0, rest.0), rest.1)

-- ---- ids

one_more : (n : ℕ) → 1 + n ≡ suc n
one_more n = omega arith

first_place : (text x : Text) (xs : List Text) (b : Bool) → b ≡ true → text ≡ x
    → slice_index_or (x ∷ xs) (cond (not b) (1 + position_or_len (bytes_eq text) xs) 0) [] ≡ text
first_place text x xs true is e = sym e
first_place text x xs false is e = absurd (true≢false (sym is))

-- the place of a text among texts that hold it
place_of : (text : Text) (texts : List Text) (k : ℕ) → k < length texts → slice_index_or texts k text ≡ text
    → slice_index_or texts (position_or_len (bytes_eq text) texts) [] ≡ text
place_of text [] k h e = absurd (omega arith)
place_of text (x ∷ xs) zero h e = first_place text x xs (bytes_eq text x) ((bytes_decides text x).1 (sym e)) (sym e)
place_of text (x ∷ xs) (suc k) h e =
    elim (bytes_eq text x) as (λ b. bytes_eq text x ≡ b → slice_index_or (x ∷ xs) (cond (not b) (1 + position_or_len (bytes_eq text) xs) 0) [] ≡ text) [
      | true ↦ λ is. sym ((bytes_decides text x).0 is)
      | false ↦ λ is.
          ap (λ n. slice_index_or (x ∷ xs) n []) (one_more (position_or_len (bytes_eq text) xs))
          ∙ place_of text xs k (omega arith) e
    ] refl

ids_unique : (symbols : List Text) (a b : Text) → Contains symbols a → Contains symbols b → symbol_id symbols a ≡ symbol_id symbols b → a ≡ b
ids_unique symbols a b p q e =
    let places : position_or_len (bytes_eq a) symbols ≡ position_or_len (bytes_eq b) symbols = omega arith in
    sym (place_of a symbols p.0 p.1 p.2) ∙ ap (λ k. slice_index_or symbols k []) places ∙ place_of b symbols q.0 q.1 q.2

-- ---- scalars

-- an int is members by its type and its magnitude
same_int : MagnitudeIsInjective → (a b : ℤ) → ◌≡◌ {A = ℕ} (if is_below_zero a then 3 else 2) (if is_below_zero b then 3 else 2)
    → magnitude (unsigned_abs a) ≡ magnitude (unsigned_abs b) → a ≡ b
same_int magnitudes (pos m) (pos n) q e = ap pos (magnitudes m n e)
same_int magnitudes (negsuc m) (negsuc n) q e =
    let h : suc m ≡ suc n = magnitudes (suc m) (suc n) e in let same : m ≡ n = omega arith in ap negsuc same
same_int magnitudes (pos m) (negsuc n) q e = absurd (omega arith)
same_int magnitudes (negsuc m) (pos n) q e = absurd (omega arith)

-- the laws of numbers, decimals and timestamps
pub record Laws : Type 0 where
  pub magnitudes : MagnitudeIsInjective
  pub var_uints : VarUIntIsPrefixFree
  pub decimals : DecimalIsInjective
  pub timestamps : TimestampIsInjective

module _ (laws : Laws) where
  -- texts of one type, one after the other
  texts_unique : (xs ys : List Text) → flat_map (typed 8) xs ≡ flat_map (typed 8) ys → xs ≡ ys
  texts_unique [] [] e = refl
  texts_unique [] (y ∷ ys) e = absurd (no_text y ys e)
    where
      no_text : (y : Text) (ys : List Text) → [] ≡ flat_map (typed 8) (y ∷ ys) → ⊥
      no_text y ys e = let o = typed_opens 8 y (flat_map (typed 8) ys) in let bad = e ∙ o.opens in cc
  texts_unique (x ∷ xs) [] e = absurd (no_text x xs e)
    where
      no_text : (x : Text) (xs : List Text) → flat_map (typed 8) (x ∷ xs) ≡ [] → ⊥
      no_text x xs e = let o = typed_opens 8 x (flat_map (typed 8) xs) in let bad = sym e ∙ o.opens in cc
  texts_unique (x ∷ xs) (y ∷ ys) e =
      let here = typed_unique laws.var_uints 8 8 x y (flat_map (typed 8) xs) (flat_map (typed 8) ys) e in
      let rest = texts_unique xs ys here.rest in
      λ i. here.bytes i ∷ rest i

  module _ (symbols : List Text) where
    abbrev Known : Text → Type 0
    Known = Contains symbols

    -- a value within its types, each text in which has an id
    record Good (v : Value) : Type 0 where
      ranges : IsTrue (within v)
      known : AllByRecursion Known (texts_in v)

    -- ---- names

    no_number : (n : ℕ) (rest : List ℕ) → [] ≡ var_uint n ++ rest → ⊥
    no_number n rest e =
        let none : var_uint n ≡ [] = nothing (var_uint n) rest (sym e) in
        let both = laws.var_uints n (suc n) (var_uint (suc n)) [] (ap (λ bytes. bytes ++ var_uint (suc n)) none ∙ sym (append-nil (var_uint (suc n)))) in
        let same = both.0 in
        absurd (omega arith)
      where
        nothing : (xs ys : List ℕ) → xs ++ ys ≡ [] → xs ≡ []
        nothing [] ys e = refl
        nothing (x ∷ xs) ys e = absurd (cc)

    no_id : (name : Text) (rest : List ℕ) → [] ≡ var_uint (symbol_id symbols name) ++ rest → ⊥
    no_id name rest e = no_number (symbol_id symbols name) rest e

    names_unique : (xs ys : List Text) → AllByRecursion Known xs → AllByRecursion Known ys → ids_of symbols xs ≡ ids_of symbols ys → xs ≡ ys
    names_unique [] [] p q e = refl
    names_unique [] (y ∷ ys) p q e = absurd (no_id y _ e)
    names_unique (x ∷ xs) [] p q e = absurd (no_id x _ (sym e))
    names_unique (x ∷ xs) (y ∷ ys) p q e =
        let here = laws.var_uints (symbol_id symbols x) (symbol_id symbols y) (ids_of symbols xs) (ids_of symbols ys) e in
        let name = ids_unique symbols x y p.0 q.0 here.0 in
        let rest = names_unique xs ys p.1 q.1 here.1 in
        λ i. name i ∷ rest i

    -- ---- what a good value holds

    abbrev GoodField : Field → Type 0
    GoodField f = Known f.name × Good f.value

    abbrev GoodLevel : Level → Type 0
    GoodLevel (Body-F.Decimal d) = IsTrue (decimal_within d)
    GoodLevel (Body-F.Timestamp t) = IsTrue (is_time t)
    GoodLevel (Body-F.Symbol text) = Known text
    GoodLevel (Body-F.List values) = AllByRecursion Good values
    GoodLevel (Body-F.Sexp values) = AllByRecursion Good values
    GoodLevel (Body-F.Struct fields) = AllByRecursion GoodField fields
    GoodLevel _ = Unit {0}

    good_values : (vs : List Value) → IsTrue (all_true (map within vs)) → AllByRecursion Known (flat_map texts_in vs) → AllByRecursion Good vs
    good_values [] h k = tt
    good_values (v ∷ vs) h k =
        let ranges = both_true (within v) (all_true (map within vs)) h in
        let known = fronts_all Known (texts_in v) (flat_map texts_in vs) k in
        (record { ranges = ranges.0; known = known.0 }, good_values vs ranges.1 known.1)

    good_fields : (fs : List Field) → IsTrue (all_true (map field_within fs)) → AllByRecursion Known (flat_map texts_in_field fs) → AllByRecursion GoodField fs
    good_fields [] h k = tt
    good_fields (f ∷ fs) h k =
        let ranges = both_true (field_within f) (all_true (map field_within fs)) h in
        let own = both_true (text_within f.name) (within f.value) (subst IsTrue (within_at_field f) ranges.0) in
        let known = fronts_all Known (texts_in_field f) (flat_map texts_in_field fs) k in
        let texts = subst (AllByRecursion Known) (texts_at_field f) known.0 in
        ((texts.0, record { ranges = own.1; known = texts.1 }), good_fields fs ranges.1 known.1)

    good_level : (b : Level) → IsTrue (level_within b) → AllByRecursion Known (level_texts b) → GoodLevel b
    good_level (Body-F.Null kind) h k = tt
    good_level (Body-F.Bool truth) h k = tt
    good_level (Body-F.Int n) h k = tt
    good_level (Body-F.Decimal d) h k = h
    good_level (Body-F.Timestamp t) h k = h
    good_level (Body-F.Symbol text) h k = k.0
    good_level (Body-F.String text) h k = tt
    good_level (Body-F.Clob bytes) h k = tt
    good_level (Body-F.Blob bytes) h k = tt
    good_level (Body-F.List values) h k = good_values values h (subst (AllByRecursion Known) (flat_texts texts_in values) k)
    good_level (Body-F.Sexp values) h k = good_values values h (subst (AllByRecursion Known) (flat_texts texts_in values) k)
    good_level (Body-F.Struct fields) h k = good_fields fields h (subst (AllByRecursion Known) (flat_texts texts_in_field fields) k)

    record GoodParts (annotations : List Text) (b : Level) : Type 0 where
      names : AllByRecursion Known annotations
      level : GoodLevel b

    good_parts : (annotations : List Text) (b : Level) → Good (value_of annotations b) → GoodParts annotations b
    good_parts annotations b good =
        let ranges = both_true (list_all text_within annotations) (level_within b) (subst IsTrue (within_at annotations b) good.ranges) in
        let texts = fronts_all Known annotations (level_texts b) (subst (AllByRecursion Known) (texts_at annotations b) good.known) in
        record { names = texts.0; level = good_level b ranges.1 texts.1 }

    -- ---- a value's bytes determine it, and where they end

    abbrev IsUnique : Value → Type 0
    IsUnique v = (w : Value) → Good v → Good w → (r s : List ℕ) → value_bytes symbols v ++ r ≡ value_bytes symbols w ++ s → (v ≡ w) × (r ≡ s)

    -- a byte comes first
    record Begins (bytes : List ℕ) : Type 0 where
      byte : ℕ
      more : List ℕ
      is : bytes ≡ byte ∷ more

    typed_begins : (type : ℕ) (bytes rest : List ℕ) → Begins (typed type bytes ++ rest)
    typed_begins type bytes rest = let o = typed_opens type bytes rest in record { byte = 16 * type + o.low; more = o.after; is = o.opens }

    level_begins : (b : Level) (rest : List ℕ) → Begins (level_bytes symbols b ++ rest)
    level_begins (Body-F.Null kind) rest = record { byte = null_qualifier kind; more = rest; is = refl }
    level_begins (Body-F.Bool truth) rest = record { byte = if truth then 0x11 else 0x10; more = rest; is = refl }
    level_begins (Body-F.Int n) rest = typed_begins (if is_below_zero n then 3 else 2) (magnitude (unsigned_abs n)) rest
    level_begins (Body-F.Decimal d) rest = typed_begins 5 (decimal_bytes d) rest
    level_begins (Body-F.Timestamp t) rest = typed_begins 6 (timestamp_bytes t) rest
    level_begins (Body-F.Symbol text) rest = typed_begins 7 (magnitude (symbol_id symbols text)) rest
    level_begins (Body-F.String text) rest = typed_begins 8 text rest
    level_begins (Body-F.Clob bytes) rest = typed_begins 9 bytes rest
    level_begins (Body-F.Blob bytes) rest = typed_begins 10 bytes rest
    level_begins (Body-F.List values) rest = typed_begins 11 (joined (map (value_bytes symbols) values)) rest
    level_begins (Body-F.Sexp values) rest = typed_begins 12 (joined (map (value_bytes symbols) values)) rest
    level_begins (Body-F.Struct fields) rest = typed_begins 13 (joined (map (field_bytes symbols) fields)) rest

    annotated_begins : (annotations : List Text) (b : Level) (rest : List ℕ) → Begins (annotated symbols annotations (level_bytes symbols b) ++ rest)
    annotated_begins [] b rest = level_begins b rest
    annotated_begins (name ∷ more) b rest =
        typed_begins 14 (var_uint (length (ids_of symbols (name ∷ more))) ++ ids_of symbols (name ∷ more) ++ level_bytes symbols b) rest

    value_begins : (v : Value) (rest : List ℕ) → Begins (value_bytes symbols v ++ rest)
    value_begins v rest =
        subst (λ w. Begins (value_bytes symbols w ++ rest)) (as_level v)
        (subst (λ bytes. Begins (bytes ++ rest)) (sym (bytes_at symbols v.annotations (out-Body v.body))) (annotated_begins v.annotations (out-Body v.body) rest))

    no_value : (v : Value) (rest : List ℕ) → [] ≡ value_bytes symbols v ++ rest → ⊥
    no_value v rest e = let b = value_begins v rest in let bad = e ∙ b.is in cc

    -- ---- members

    list_unique : (vs ws : List Value) → AllByRecursion IsUnique vs → AllByRecursion Good vs → AllByRecursion Good ws
        → joined (map (value_bytes symbols) vs) ≡ joined (map (value_bytes symbols) ws) → vs ≡ ws
    list_unique [] [] members p q e = refl
    list_unique [] (w ∷ ws) members p q e = absurd (no_value w (joined (map (value_bytes symbols) ws)) e)
    list_unique (v ∷ vs) [] members p q e = absurd (no_value v (joined (map (value_bytes symbols) vs)) (sym e))
    list_unique (v ∷ vs) (w ∷ ws) members p q e =
        let here = members.0 w p.0 q.0 (joined (map (value_bytes symbols) vs)) (joined (map (value_bytes symbols) ws)) e in
        let rest = list_unique vs ws members.1 p.1 q.1 here.1 in
        λ i. here.0 i ∷ rest i

    field_split : (f : Field) (rest : List ℕ) → field_bytes symbols f ++ rest ≡ var_uint (symbol_id symbols f.name) ++ (value_bytes symbols f.value ++ rest)
    field_split f rest =
        ap (λ bytes. bytes ++ rest) (bytes_at_field symbols f)
        ∙ append_assoc (var_uint (symbol_id symbols f.name)) (value_bytes symbols f.value) rest

    same_field : (f g : Field) → f.name ≡ g.name → f.value ≡ g.value → f ≡ g
    same_field f g n v = λ i. record { name = n i; value = v i }

    fields_unique : (fs gs : List Field) → AllByRecursion (λ f. IsUnique f.value) fs → AllByRecursion GoodField fs → AllByRecursion GoodField gs
        → joined (map (field_bytes symbols) fs) ≡ joined (map (field_bytes symbols) gs) → fs ≡ gs
    fields_unique [] [] members p q e = refl
    fields_unique [] (g ∷ gs) members p q e = absurd (no_id g.name _ (e ∙ field_split g (joined (map (field_bytes symbols) gs))))
    fields_unique (f ∷ fs) [] members p q e = absurd (no_id f.name _ (sym e ∙ field_split f (joined (map (field_bytes symbols) fs))))
    fields_unique (f ∷ fs) (g ∷ gs) members p q e =
        let left = joined (map (field_bytes symbols) fs) in
        let right = joined (map (field_bytes symbols) gs) in
        let ids = laws.var_uints (symbol_id symbols f.name) (symbol_id symbols g.name) (value_bytes symbols f.value ++ left) (value_bytes symbols g.value ++ right) (sym (field_split f left) ∙ e ∙ field_split g right) in
        let name = ids_unique symbols f.name g.name p.0.0 q.0.0 ids.0 in
        let value = members.0 g.value p.0.1 q.0.1 left right ids.1 in
        let rest = fields_unique fs gs members.1 p.1 q.1 value.1 in
        λ i. same_field f g name value.0 i ∷ rest i

    -- ---- levels

    same_tag : (b c : Level) (r s : List ℕ) → level_bytes symbols b ++ r ≡ level_bytes symbols c ++ s → tag c ≡ tag b
    same_tag b c r s e = sym (level_tag symbols c s) ∙ sym (ap (λ bytes. tag_at (first bytes)) e) ∙ level_tag symbols b r

    level_unique : (b c : Level) → EachMember IsUnique b → GoodLevel b → GoodLevel c → (r s : List ℕ)
        → level_bytes symbols b ++ r ≡ level_bytes symbols c ++ s → (b ≡ c) × (r ≡ s)
    unfolding tag
    level_unique (Body-F.Null kind) c members p q r s e =
        let k = is_null c (same_tag (Body-F.Null kind) c r s e) in
        let parts = head_same _ _ _ _ (subst (λ z. level_bytes symbols (Body-F.Null kind) ++ r ≡ level_bytes symbols z ++ s) k.1 e) in
        (ap (λ z. Body-F.Null z) (same_null kind k.0 parts.0) ∙ sym k.1, parts.1)
    level_unique (Body-F.Bool truth) c members p q r s e =
        let k = is_bool c (same_tag (Body-F.Bool truth) c r s e) in
        let parts = head_same _ _ _ _ (subst (λ z. level_bytes symbols (Body-F.Bool truth) ++ r ≡ level_bytes symbols z ++ s) k.1 e) in
        (ap (λ z. Body-F.Bool z) (same_truth truth k.0 parts.0) ∙ sym k.1, parts.1)
    level_unique (Body-F.Int n) c members p q r s e =
        let k = is_int c (same_tag (Body-F.Int n) c r s e) in
        let parts = typed_unique laws.var_uints _ _ _ _ r s (subst (λ z. level_bytes symbols (Body-F.Int n) ++ r ≡ level_bytes symbols z ++ s) k.1 e) in
        (ap (λ z. Body-F.Int z) (same_int laws.magnitudes n k.0 parts.type parts.bytes) ∙ sym k.1, parts.rest)
    level_unique (Body-F.Decimal d) c members p q r s e =
        let k = is_decimal c (same_tag (Body-F.Decimal d) c r s e) in
        let parts = typed_unique laws.var_uints _ _ _ _ r s (subst (λ z. level_bytes symbols (Body-F.Decimal d) ++ r ≡ level_bytes symbols z ++ s) k.1 e) in
        (ap (λ z. Body-F.Decimal z) (laws.decimals d k.0 p (subst GoodLevel k.1 q) parts.bytes) ∙ sym k.1, parts.rest)
    level_unique (Body-F.Timestamp t) c members p q r s e =
        let k = is_timestamp c (same_tag (Body-F.Timestamp t) c r s e) in
        let parts = typed_unique laws.var_uints _ _ _ _ r s (subst (λ z. level_bytes symbols (Body-F.Timestamp t) ++ r ≡ level_bytes symbols z ++ s) k.1 e) in
        (ap (λ z. Body-F.Timestamp z) (laws.timestamps t k.0 p (subst GoodLevel k.1 q) parts.bytes) ∙ sym k.1, parts.rest)
    level_unique (Body-F.Symbol text) c members p q r s e =
        let k = is_symbol_level c (same_tag (Body-F.Symbol text) c r s e) in
        let parts = typed_unique laws.var_uints _ _ _ _ r s (subst (λ z. level_bytes symbols (Body-F.Symbol text) ++ r ≡ level_bytes symbols z ++ s) k.1 e) in
        let ids = laws.magnitudes (symbol_id symbols text) (symbol_id symbols k.0) parts.bytes in
        (ap (λ z. Body-F.Symbol z) (ids_unique symbols text k.0 p (subst GoodLevel k.1 q) ids) ∙ sym k.1, parts.rest)
    level_unique (Body-F.String text) c members p q r s e =
        let k = is_string c (same_tag (Body-F.String text) c r s e) in
        let parts = typed_unique laws.var_uints _ _ _ _ r s (subst (λ z. level_bytes symbols (Body-F.String text) ++ r ≡ level_bytes symbols z ++ s) k.1 e) in
        (ap (λ z. Body-F.String z) parts.bytes ∙ sym k.1, parts.rest)
    level_unique (Body-F.Clob bytes) c members p q r s e =
        let k = is_clob c (same_tag (Body-F.Clob bytes) c r s e) in
        let parts = typed_unique laws.var_uints _ _ _ _ r s (subst (λ z. level_bytes symbols (Body-F.Clob bytes) ++ r ≡ level_bytes symbols z ++ s) k.1 e) in
        (ap (λ z. Body-F.Clob z) parts.bytes ∙ sym k.1, parts.rest)
    level_unique (Body-F.Blob bytes) c members p q r s e =
        let k = is_blob c (same_tag (Body-F.Blob bytes) c r s e) in
        let parts = typed_unique laws.var_uints _ _ _ _ r s (subst (λ z. level_bytes symbols (Body-F.Blob bytes) ++ r ≡ level_bytes symbols z ++ s) k.1 e) in
        (ap (λ z. Body-F.Blob z) parts.bytes ∙ sym k.1, parts.rest)
    level_unique (Body-F.List values) c members p q r s e =
        let k = is_list c (same_tag (Body-F.List values) c r s e) in
        let parts = typed_unique laws.var_uints _ _ _ _ r s (subst (λ z. level_bytes symbols (Body-F.List values) ++ r ≡ level_bytes symbols z ++ s) k.1 e) in
        (ap (λ z. Body-F.List z) (list_unique values k.0 members p (subst GoodLevel k.1 q) parts.bytes) ∙ sym k.1, parts.rest)
    level_unique (Body-F.Sexp values) c members p q r s e =
        let k = is_sexp c (same_tag (Body-F.Sexp values) c r s e) in
        let parts = typed_unique laws.var_uints _ _ _ _ r s (subst (λ z. level_bytes symbols (Body-F.Sexp values) ++ r ≡ level_bytes symbols z ++ s) k.1 e) in
        (ap (λ z. Body-F.Sexp z) (list_unique values k.0 members p (subst GoodLevel k.1 q) parts.bytes) ∙ sym k.1, parts.rest)
    level_unique (Body-F.Struct fields) c members p q r s e =
        let k = is_struct c (same_tag (Body-F.Struct fields) c r s e) in
        let parts = typed_unique laws.var_uints _ _ _ _ r s (subst (λ z. level_bytes symbols (Body-F.Struct fields) ++ r ≡ level_bytes symbols z ++ s) k.1 e) in
        (ap (λ z. Body-F.Struct z) (fields_unique fields k.0 members p (subst GoodLevel k.1 q) parts.bytes) ∙ sym k.1, parts.rest)

    -- ---- annotations

    -- no level is a wrapper
    no_wrapper : (b : Level) (bytes r s : List ℕ) → level_bytes symbols b ++ r ≡ typed 14 bytes ++ s → ⊥
    no_wrapper b bytes r s e =
        let same : tag b ≡ 14 = sym (level_tag symbols b r) ∙ ap (λ all. tag_at (first all)) e ∙ tag_typed 14 bytes s in
        let low = is_level b in
        absurd (omega arith)

    wrapped_split : (names : List Text) (value : List ℕ)
        → var_uint (length (ids_of symbols names)) ++ ids_of symbols names ++ value ≡ var_uint (length (ids_of symbols names)) ++ (ids_of symbols names ++ value)
    wrapped_split names value = append_assoc (var_uint (length (ids_of symbols names))) (ids_of symbols names) value

    same_value : (xs ys : List Text) (b c : Level) → xs ≡ ys → b ≡ c → value_of xs b ≡ value_of ys c
    same_value xs ys b c n l = λ i. value_of (n i) (l i)

    annotated_unique : (xs ys : List Text) (b c : Level) → EachMember IsUnique b → GoodParts xs b → GoodParts ys c → (r s : List ℕ)
        → annotated symbols xs (level_bytes symbols b) ++ r ≡ annotated symbols ys (level_bytes symbols c) ++ s → (value_of xs b ≡ value_of ys c) × (r ≡ s)
    annotated_unique [] [] b c members p q r s e =
        let parts = level_unique b c members p.level q.level r s e in
        (same_value [] [] b c refl parts.0, parts.1)
    annotated_unique [] (y ∷ ys) b c members p q r s e =
        absurd (no_wrapper b (var_uint (length (ids_of symbols (y ∷ ys))) ++ ids_of symbols (y ∷ ys) ++ level_bytes symbols c) r s e)
    annotated_unique (x ∷ xs) [] b c members p q r s e =
        absurd (no_wrapper c (var_uint (length (ids_of symbols (x ∷ xs))) ++ ids_of symbols (x ∷ xs) ++ level_bytes symbols b) s r (sym e))
    annotated_unique (x ∷ xs) (y ∷ ys) b c members p q r s e =
        let outer = typed_unique laws.var_uints 14 14 _ _ r s e in
        let lens = laws.var_uints (length (ids_of symbols (x ∷ xs))) (length (ids_of symbols (y ∷ ys))) (ids_of symbols (x ∷ xs) ++ level_bytes symbols b) (ids_of symbols (y ∷ ys) ++ level_bytes symbols c) (sym (wrapped_split (x ∷ xs) (level_bytes symbols b)) ∙ outer.bytes ∙ wrapped_split (y ∷ ys) (level_bytes symbols c)) in
        let parts = same_front (ids_of symbols (x ∷ xs)) (ids_of symbols (y ∷ ys)) (level_bytes symbols b) (level_bytes symbols c) lens.0 lens.1 in
        let names = names_unique (x ∷ xs) (y ∷ ys) p.names q.names parts.0 in
        let levels = level_unique b c members p.level q.level [] [] (append-nil (level_bytes symbols b) ∙ parts.1 ∙ sym (append-nil (level_bytes symbols c))) in
        (same_value (x ∷ xs) (y ∷ ys) b c names levels.0, outer.rest)

    unique_at : (annotations : List Text) (b : Level) → EachMember IsUnique b → IsUnique (value_of annotations b)
    unique_at annotations b members w p q r s e =
        let level = out-Body w.body in
        let q' = subst Good (sym (as_level w)) q in
        let right : value_bytes symbols w ≡ annotated symbols w.annotations (level_bytes symbols level) =
        ap (value_bytes symbols) (sym (as_level w)) ∙ bytes_at symbols w.annotations level in
        let bytes : annotated symbols annotations (level_bytes symbols b) ++ r ≡ annotated symbols w.annotations (level_bytes symbols level) ++ s =
        ap (λ z. z ++ r) (sym (bytes_at symbols annotations b)) ∙ e ∙ ap (λ z. z ++ s) right in
        let parts = annotated_unique annotations w.annotations b level members (good_parts annotations b p) (good_parts w.annotations level q') r s bytes in
        (parts.0 ∙ as_level w, parts.1)

    value_unique : (v : Value) → IsUnique v
    value_unique = by_members IsUnique unique_at

    all_unique : (vs : List Value) → AllByRecursion IsUnique vs
    all_unique [] = tt
    all_unique (v ∷ vs) = (value_unique v, all_unique vs)

    values_unique : (vs ws : List Value) → AllByRecursion Good vs → AllByRecursion Good ws
        → joined (map (value_bytes symbols) vs) ≡ joined (map (value_bytes symbols) ws) → vs ≡ ws
    values_unique vs ws p q e = list_unique vs ws (all_unique vs) p q e

    -- ---- streams

    -- no value without annotations begins as a table does
    no_table : (v : Value) (bytes r s : List ℕ) → v.annotations ≡ [] → value_bytes symbols v ++ r ≡ typed 14 bytes ++ s → ⊥
    no_table v bytes r s bare e =
        let own : value_bytes symbols v ≡ annotated symbols v.annotations (level_bytes symbols (out-Body v.body)) =
        ap (value_bytes symbols) (sym (as_level v)) ∙ bytes_at symbols v.annotations (out-Body v.body) in
        let alone : annotated symbols v.annotations (level_bytes symbols (out-Body v.body)) ≡ level_bytes symbols (out-Body v.body) =
        ap (λ names. annotated symbols names (level_bytes symbols (out-Body v.body))) bare in
        no_wrapper (out-Body v.body) bytes r s (sym (ap (λ z. z ++ r) (own ∙ alone)) ∙ e)

    is_bare : (v : Value) → IsTrue (is_top v) → v.annotations ≡ []
    is_bare v h = nil_from_length v.annotations ((Decides-eqb (length v.annotations) 0).0 (both_true (length v.annotations == 0) (not (is_symbol (out-Body v.body))) h).0)

    no_values : (vs : List Value) (bytes s : List ℕ) → IsTrue (list_all is_top vs) → joined (map (value_bytes symbols) vs) ≡ typed 14 bytes ++ s → ⊥
    no_values [] bytes s top e = let o = typed_opens 14 bytes s in let bad = e ∙ o.opens in cc
    no_values (v ∷ vs) bytes s top e =
        no_table v bytes (joined (map (value_bytes symbols) vs)) s (is_bare v (both_true (is_top v) (list_all is_top vs) top).0) e

  -- ---- tables

  table_unique : (xs ys : List Text) (r s : List ℕ) → table_bytes xs ++ r ≡ table_bytes ys ++ s → (xs ≡ ys) × (r ≡ s)
  table_unique xs ys r s e =
      let outer = typed_unique laws.var_uints 14 14 _ _ r s e in
      let structs = append_cancel_left (var_uint 1 ++ var_uint 3) (typed 13 (var_uint 7 ++ typed 11 (flat_map (typed 8) xs))) (typed 13 (var_uint 7 ++ typed 11 (flat_map (typed 8) ys))) outer.bytes in
      let fields = typed_unique laws.var_uints 13 13 (var_uint 7 ++ typed 11 (flat_map (typed 8) xs)) (var_uint 7 ++ typed 11 (flat_map (typed 8) ys)) [] [] (ap (λ z. z ++ []) structs) in
      let lists = append_cancel_left (var_uint 7) (typed 11 (flat_map (typed 8) xs)) (typed 11 (flat_map (typed 8) ys)) fields.bytes in
      let members = typed_unique laws.var_uints 11 11 (flat_map (typed 8) xs) (flat_map (typed 8) ys) [] [] (ap (λ z. z ++ []) lists) in
      (texts_unique xs ys members.bytes, outer.rest)

  record Stream (table : Option (List Text)) (vs : List Value) : Type 0 where
    known : All (Contains (symbols_after table)) (flat_map texts_in vs)
    top : IsTrue (list_all is_top vs)
    ranges : IsTrue (all_true (map within vs))

  good_stream : (table : Option (List Text)) (vs : List Value) → Stream table vs → AllByRecursion (Good (symbols_after table)) vs
  good_stream table vs d =
      good_values (symbols_after table) vs d.ranges (recursion_from_All (Contains (symbols_after table)) (flat_map texts_in vs) d.known)

  after_marker : (t u : Option (List Text)) (vs ws : List Value) → Stream t vs → Stream u ws
      → table_or_nothing t ++ joined (map (value_bytes (symbols_after t)) vs) ≡ table_or_nothing u ++ joined (map (value_bytes (symbols_after u)) ws) → vs ≡ ws
  after_marker None None vs ws p q e = values_unique system_symbols vs ws (good_stream None vs p) (good_stream None ws q) e
  after_marker None (Some ys) vs ws p q e = absurd (no_values system_symbols vs _ _ p.top e)
  after_marker (Some xs) None vs ws p q e = absurd (no_values system_symbols ws _ _ q.top (sym e))
  after_marker (Some xs) (Some ys) vs ws p q e =
      let parts = table_unique xs ys _ _ e in
      let q' = subst (λ texts. Stream (Some texts) ws) (sym parts.0) q in
      let same = parts.1 ∙ ap (λ texts. joined (map (value_bytes (system_symbols ++ texts)) ws)) (sym parts.0) in
      values_unique (system_symbols ++ xs) vs ws (good_stream (Some xs) vs p) (good_stream (Some xs) ws q') same

  pub denoted_values_are_unique : DenotedValuesAreUnique
  denoted_values_are_unique bytes vs ws d e =
      after_marker d.table e.table vs ws
      (record { known = d.known; top = d.top; ranges = d.within })
      (record { known = e.known; top = e.top; ranges = e.within })
      (append_cancel_left version_marker _ _ (sym d.stream ∙ e.stream))
