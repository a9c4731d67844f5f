-- `is_equivalent` is an equivalence relation on values, and on fields.
use Rattle.std.proofs.Common.{◌≡◌, ℕ, ℤ, ◌==◌, Bool, true, false, ◌&&◌, List, map, refl, sym, ap, ◌∙◌, true≢false, rules}
use Rattle.std.specs.Str.{bytes_eq}
use Rattle.ion_values.specs.declared.value.Value.{Value}
use Rattle.ion_values.specs.declared.value.Field.{Field}
use Rattle.ion_values.specs.declared.value.Body.{Body, roll-Body, out-Body, out-roll-Body}
use Rattle.ion_values.specs.declared.value.Body.TheOpen.{Body-F}
use Rattle.ion_values.specs.declared.value.Body.TheFolds.{the_lemmas}
use Rattle.ion_values.specs.declared.value.Kind.{Kind}
use Rattle.ion_values.specs.declared.time.Precision.{Precision}
use Rattle.ion_values.specs.declared.time.TimeParts.{TimeParts}
use Rattle.ion_values.specs.contracts.value.Kind.{the_type as kinds}
use Rattle.ion_values.specs.contracts.time.Precision.{the_type as precisions}
use Rattle.ion_values.specs.Decimal.{DecimalParts}
use Rattle.ion_values.specs.Equivalent.{is_equivalent, is_equivalent_field, same_names, same_kind, same_precision, same_bool, same_decimal, same_offset, same_time, in_order, in_any_order}
use Rattle.ion_values.proofs.Induction.{EachMember, by_members}
use Rattle.ion_values.proofs.Matching.{first, second, map_all, Good, in_order_own, in_any_order_own, in_order_good, in_any_order_good}
use Rattle.std.specs.Ordering.{int_eq}
use Rattle.std.specs.List.{AllByRecursion}
use Rattle.std.specs.declared.option.Option.{Option}
use Rattle.std.specs.declared.option.Option.TheVariants.{None, Some}
use Rattle.std.specs.Cmp.Lexicographic.{pointwise_decides, bytes_decides}
use Rattle.std.proofs.lemmas.Bool.Decides.{Decides-eqb, Decides-int_eq}
use denote.Enum.Bare.{same_true}

-- one level, with the members compared
abbrev pub same_level : Body-F Body Field Value → Body-F Body Field Value → Bool
same_level (Body-F.List xs) (Body-F.List ys) = in_order (map is_equivalent xs) ys
same_level (Body-F.Sexp xs) (Body-F.Sexp ys) = in_order (map is_equivalent xs) ys
same_level (Body-F.Struct xs) (Body-F.Struct ys) = in_any_order (map is_equivalent_field xs) ys
same_level (Body-F.Null a) (Body-F.Null b) = same_kind a b
same_level (Body-F.Bool a) (Body-F.Bool b) = same_bool a b
same_level (Body-F.Int a) (Body-F.Int b) = int_eq a b
same_level (Body-F.Decimal a) (Body-F.Decimal b) = same_decimal a b
same_level (Body-F.Timestamp a) (Body-F.Timestamp b) = same_time a b
same_level (Body-F.Symbol a) (Body-F.Symbol b) = bytes_eq a b
same_level (Body-F.String a) (Body-F.String b) = bytes_eq a b
same_level (Body-F.Clob a) (Body-F.Clob b) = bytes_eq a b
same_level (Body-F.Blob a) (Body-F.Blob b) = bytes_eq a b
same_level _ _ = false

pub at_field : (f g : Field) → is_equivalent_field f g ≡ (bytes_eq f.name g.name && is_equivalent f.value g.value)
at_field f g = search (rules, the_lemmas)

pub at_roll : (annotations : List (List ℕ)) (b : Body-F Body Field Value) (w : Value) → is_equivalent (record { annotations = annotations; body = roll-Body b }) w ≡ (same_names annotations w.annotations && same_level b (out-Body w.body))
at_roll annotations b w = search (rules, the_lemmas)

pub at_value : (v w : Value) → is_equivalent v w ≡ (same_names v.annotations w.annotations && same_level (out-Body v.body) (out-Body w.body))
at_value v w = search (rules, the_lemmas)

-- what is the same is equal, and what is equal is the same
pub kind_is : (a b : Kind) → same_kind a b ≡ true → a ≡ b
kind_is a b h = same_true kinds (search rules) a b h

pub precision_is : (a b : Precision) → same_precision a b ≡ true → a ≡ b
precision_is a b h = same_true precisions (search rules) a b h

pub bool_is : (a b : Bool) → same_bool a b ≡ true → a ≡ b
bool_is true b h = sym h
bool_is false true h = h
bool_is false false h = refl

pub int_is : (a b : ℤ) → int_eq a b ≡ true → a ≡ b
int_is a b h = (Decides-int_eq a b).0 h

pub nat_is : (a b : ℕ) → (a == b) ≡ true → a ≡ b
nat_is a b h = (Decides-eqb a b).0 h

pub names_are : (a b : List (List ℕ)) → same_names a b ≡ true → a ≡ b
names_are a b h = (pointwise_decides bytes_decides a b).0 h

pub offset_is : (a b : Option ℤ) → same_offset a b ≡ true → a ≡ b
offset_is None None h = refl
offset_is (Some a) (Some b) h = ap Some (int_is a b h)
offset_is None (Some b) h = absurd (true≢false (sym h))
offset_is (Some a) None h = absurd (true≢false (sym h))

pub decimal_is : (a b : DecimalParts) → same_decimal a b ≡ true → a ≡ b
decimal_is a b h =
    let h1 = first _ _ h in
    let coefficient : a.coefficient ≡ b.coefficient = int_is _ _ (first _ _ h1) in
    let exponent : a.exponent ≡ b.exponent = int_is _ _ (second _ _ h1) in
    let negative_zero : a.negative_zero ≡ b.negative_zero = bool_is _ _ (second _ _ h) in
    λ i. record { coefficient = coefficient i; exponent = exponent i; negative_zero = negative_zero i }

pub time_is : (a b : TimeParts) → same_time a b ≡ true → a ≡ b
time_is a b h =
    let h8 = first _ _ h in
    let h7 = first _ _ h8 in
    let h6 = first _ _ h7 in
    let h5 = first _ _ h6 in
    let h4 = first _ _ h5 in
    let h3 = first _ _ h4 in
    let h2 = first _ _ h3 in
    let h1 = first _ _ h2 in
    let precision : a.precision ≡ b.precision = precision_is _ _ (first _ _ h1) in
    let year : a.year ≡ b.year = nat_is _ _ (second _ _ h1) in
    let month : a.month ≡ b.month = nat_is _ _ (second _ _ h2) in
    let day : a.day ≡ b.day = nat_is _ _ (second _ _ h3) in
    let hour : a.hour ≡ b.hour = nat_is _ _ (second _ _ h4) in
    let minute : a.minute ≡ b.minute = nat_is _ _ (second _ _ h5) in
    let second' : a.second ≡ b.second = nat_is _ _ (second _ _ h6) in
    let digits : a.digits ≡ b.digits = nat_is _ _ (second _ _ h7) in
    let nanos : a.nanos ≡ b.nanos = nat_is _ _ (second _ _ h8) in
    let offset : a.offset ≡ b.offset = offset_is _ _ (second _ _ h) in
    λ i. record { precision = precision i; year = year i; month = month i; day = day i; hour = hour i; minute = minute i; second = second' i; digits = digits i; nanos = nanos i; offset = offset i }

-- each is the same as itself
pub kind_own : (a : Kind) → same_kind a a ≡ true
kind_own a = (Decides-eqb _ _).1 refl

precision_own : (a : Precision) → same_precision a a ≡ true
precision_own a = (Decides-eqb _ _).1 refl

pub bool_own : (a : Bool) → same_bool a a ≡ true
bool_own true = refl
bool_own false = refl

pub int_own : (a : ℤ) → int_eq a a ≡ true
int_own a = (Decides-int_eq a a).1 refl

nat_own : (a : ℕ) → (a == a) ≡ true
nat_own a = (Decides-eqb a a).1 refl

pub bytes_own : (a : List ℕ) → bytes_eq a a ≡ true
bytes_own a = (bytes_decides a a).1 refl

offset_own : (a : Option ℤ) → same_offset a a ≡ true
offset_own None = refl
offset_own (Some a) = int_own a

pub decimal_own : (a : DecimalParts) → same_decimal a a ≡ true
decimal_own a = simp (int_own, bool_own)

pub time_own : (a : TimeParts) → same_time a a ≡ true
time_own a = rw (precision_own a.precision) (simp (nat_own, offset_own))

pub names_own : (a : List (List ℕ)) → same_names a a ≡ true
names_own a = (pointwise_decides bytes_decides a a).1 refl

own_at_field : (f : Field) → is_equivalent f.value f.value ≡ true → is_equivalent_field f f ≡ true
own_at_field f h = at_field f f ∙ (λ i. bytes_own f.name i && h i)

level_own : (b : Body-F Body Field Value) → EachMember (λ v. is_equivalent v v ≡ true) b → same_level b b ≡ true
level_own (Body-F.Null a) h = kind_own a
level_own (Body-F.Bool a) h = bool_own a
level_own (Body-F.Int a) h = int_own a
level_own (Body-F.Decimal a) h = decimal_own a
level_own (Body-F.Timestamp a) h = time_own a
level_own (Body-F.Symbol a) h = bytes_own a
level_own (Body-F.String a) h = bytes_own a
level_own (Body-F.Clob a) h = bytes_own a
level_own (Body-F.Blob a) h = bytes_own a
level_own (Body-F.List xs) h = in_order_own is_equivalent xs h
level_own (Body-F.Sexp xs) h = in_order_own is_equivalent xs h
level_own (Body-F.Struct fs) h = in_any_order_own is_equivalent_field fs (map_all (λ f k. own_at_field f k) fs h)

-- a value is equivalent to itself
pub own_value : (v : Value) → is_equivalent v v ≡ true
own_value =
    by_members (λ v. is_equivalent v v ≡ true)
    (λ annotations b h. at_roll annotations b _ ∙ ap (λ c. same_names annotations annotations && same_level b c) (out-roll-Body b) ∙ (λ i. names_own annotations i && level_own b h i))

pub own_field : (f : Field) → is_equivalent_field f f ≡ true
own_field f = own_at_field f (own_value f.value)

pub good_field : (f : Field) → Good is_equivalent f.value → Good is_equivalent_field f
good_field f good g u h =
    let h' : (bytes_eq f.name g.name && is_equivalent f.value g.value) ≡ true = sym (at_field f g) ∙ h in
    let name : f.name ≡ g.name = (bytes_decides _ _).0 (first _ _ h') in
    let value : is_equivalent f.value u.value ≡ is_equivalent g.value u.value = good g.value u.value (second _ _ h') in
    at_field f u ∙ (λ i. bytes_eq (name i) u.name && value i) ∙ sym (at_field g u)

list_good : (xs ys : List Value) (d : Body-F Body Field Value) → AllByRecursion (Good is_equivalent) xs → in_order (map is_equivalent xs) ys ≡ true → same_level (Body-F.List xs) d ≡ same_level (Body-F.List ys) d
list_good xs ys (Body-F.List zs) g h = in_order_good is_equivalent xs ys zs g h
list_good xs ys _ g h = refl

sexp_good : (xs ys : List Value) (d : Body-F Body Field Value) → AllByRecursion (Good is_equivalent) xs → in_order (map is_equivalent xs) ys ≡ true → same_level (Body-F.Sexp xs) d ≡ same_level (Body-F.Sexp ys) d
sexp_good xs ys (Body-F.Sexp zs) g h = in_order_good is_equivalent xs ys zs g h
sexp_good xs ys _ g h = refl

struct_good : (xs ys : List Field) (d : Body-F Body Field Value) → AllByRecursion (Good is_equivalent_field) xs → in_any_order (map is_equivalent_field xs) ys ≡ true → same_level (Body-F.Struct xs) d ≡ same_level (Body-F.Struct ys) d
struct_good xs ys (Body-F.Struct zs) g h = in_any_order_good is_equivalent_field own_field xs ys zs g h
struct_good xs ys _ g h = refl

level_good : (b c d : Body-F Body Field Value) → EachMember (Good is_equivalent) b → same_level b c ≡ true → same_level b d ≡ same_level c d
level_good (Body-F.Null a) (Body-F.Null c) d g h = ap (λ x. same_level (Body-F.Null x) d) (kind_is a c h)
level_good (Body-F.Bool a) (Body-F.Bool c) d g h = ap (λ x. same_level (Body-F.Bool x) d) (bool_is a c h)
level_good (Body-F.Int a) (Body-F.Int c) d g h = ap (λ x. same_level (Body-F.Int x) d) (int_is a c h)
level_good (Body-F.Decimal a) (Body-F.Decimal c) d g h = ap (λ x. same_level (Body-F.Decimal x) d) (decimal_is a c h)
level_good (Body-F.Timestamp a) (Body-F.Timestamp c) d g h = ap (λ x. same_level (Body-F.Timestamp x) d) (time_is a c h)
level_good (Body-F.Symbol a) (Body-F.Symbol c) d g h = ap (λ x. same_level (Body-F.Symbol x) d) ((bytes_decides a c).0 h)
level_good (Body-F.String a) (Body-F.String c) d g h = ap (λ x. same_level (Body-F.String x) d) ((bytes_decides a c).0 h)
level_good (Body-F.Clob a) (Body-F.Clob c) d g h = ap (λ x. same_level (Body-F.Clob x) d) ((bytes_decides a c).0 h)
level_good (Body-F.Blob a) (Body-F.Blob c) d g h = ap (λ x. same_level (Body-F.Blob x) d) ((bytes_decides a c).0 h)
level_good (Body-F.List xs) (Body-F.List ys) d g h = list_good xs ys d g h
level_good (Body-F.Sexp xs) (Body-F.Sexp ys) d g h = sexp_good xs ys d g h
level_good (Body-F.Struct xs) (Body-F.Struct ys) d g h = struct_good xs ys d (map_all (λ f k. good_field f k) xs g) h
level_good _ _ d g h = absurd (true≢false (sym h))

-- values that are equivalent are equivalent to the same values
pub good_value : (v : Value) → Good is_equivalent v
good_value =
    by_members (Good is_equivalent)
    (λ annotations b good w u h.
    let h' : (same_names annotations w.annotations && same_level b (out-Body w.body)) ≡ true = sym (at_roll annotations b w) ∙ h in
    let names : annotations ≡ w.annotations = names_are _ _ (first _ _ h') in
    let level : same_level b (out-Body u.body) ≡ same_level (out-Body w.body) (out-Body u.body) = level_good b (out-Body w.body) (out-Body u.body) good (second _ _ h') in
    at_roll annotations b u ∙ (λ i. same_names (names i) u.annotations && level i) ∙ sym (at_value w u))

pub symmetric : (v w : Value) → is_equivalent v w ≡ true → is_equivalent w v ≡ true
symmetric v w h = sym (good_value v w v h) ∙ own_value v

pub transitive : (v w u : Value) → is_equivalent v w ≡ true → is_equivalent w u ≡ true → is_equivalent v u ≡ true
transitive v w u h k = good_value v w u h ∙ k
