-- Values are the same exactly if they are equal.
use Rattle.std.proofs.Common.{◌≡◌, ◌∙◌, ◌↔◌, ℕ, ℤ, ◌==◌, Bool, true, false, ◌&&◌, List, [], ◌∷◌, map, refl, sym, ap, true≢false, rules}
use Rattle.std.specs.Str.{bytes_eq}
use Rattle.std.specs.Ordering.{int_eq}
use Rattle.std.specs.List.{AllByRecursion}
use Rattle.std.specs.declared.option.Option.{Option}
use Rattle.std.specs.declared.option.Option.TheVariants.{None, Some}
use Rattle.std.specs.Cmp.Lexicographic.{pointwise_decides, bytes_decides}
use Rattle.std.proofs.lemmas.Bool.Decides.{Decides-eqb, Decides-int_eq}
use Rattle.ion_values.specs.declared.value.Value.{Value}
use Rattle.ion_values.specs.declared.value.Field.{Field}
use Rattle.ion_values.specs.declared.value.Body.{Body, roll-Body, out-Body, out-roll-Body, roll-out-Body}
use Rattle.ion_values.specs.declared.value.Body.TheOpen.{Body-F}
use Rattle.ion_values.specs.declared.value.Body.TheFolds.{the_lemmas}
use Rattle.ion_values.specs.declared.value.Kind.{Kind}
use Rattle.ion_values.specs.declared.time.Precision.{Precision}
use Rattle.ion_values.specs.declared.time.TimeParts.{TimeParts}
use Rattle.ion_values.specs.contracts.value.Kind.{the_type as kinds}
use Rattle.ion_values.specs.contracts.time.Precision.{the_type as precisions}
use Rattle.ion_values.specs.Decimal.{DecimalParts}
use Rattle.ion_values.specs.Equivalent.{is_equivalent, same_names, same_kind, same_precision, same_bool, same_decimal, same_offset, same_time, in_order}
use Rattle.ion_values.proofs.Induction.{EachMember, by_members}
use Rattle.ion_values.proofs.Matching.{map_all}
use Rattle.ion_same.specs.Same.{is_same, is_same_field, SameValuesAreEqual, SameListsAreEqual}
use Rattle.std.proofs.lemmas.Bool.{and_parts}
use denote.Enum.Bare.{same_true}

left : (a b : Bool) → (a && b) ≡ true → a ≡ true
left a b h = (and_parts a b h).0

right : (a b : Bool) → (a && b) ≡ true → b ≡ true
right a b h = (and_parts a b h).1

cons : {A : Type 0} → {x y : A} {xs ys : List A} → x ≡ y → xs ≡ ys → x ∷ xs ≡ y ∷ ys
cons {A} {x} {y} {xs} {ys} e f = ap (λ z. z ∷ xs) e ∙ ap (λ zs. y ∷ zs) f

-- one level, with the members compared
abbrev same_level : Body-F Body Field Value → Body-F Body Field Value → Bool
same_level (Body-F.List xs) (Body-F.List ys) = in_order (map is_same xs) ys
same_level (Body-F.Sexp xs) (Body-F.Sexp ys) = in_order (map is_same xs) ys
same_level (Body-F.Struct xs) (Body-F.Struct ys) = in_order (map is_same_field xs) ys
same_level (Body-F.Null a) (Body-F.Null b) = same_kind a b
same_level (Body-F.Bool a) (Body-F.Bool b) = same_bool a b
same_level (Body-F.Int a) (Body-F.Int b) = int_eq a b
same_level (Body-F.Decimal a) (Body-F.Decimal b) = same_decimal a b
same_level (Body-F.Timestamp a) (Body-F.Timestamp b) = same_time a b
same_level (Body-F.Symbol a) (Body-F.Symbol b) = bytes_eq a b
same_level (Body-F.String a) (Body-F.String b) = bytes_eq a b
same_level (Body-F.Clob a) (Body-F.Clob b) = bytes_eq a b
same_level (Body-F.Blob a) (Body-F.Blob b) = bytes_eq a b
same_level _ _ = false

at_field : (f g : Field) → is_same_field f g ≡ (bytes_eq f.name g.name && is_same f.value g.value)
at_field f g = search (rules, the_lemmas)

at_roll : (annotations : List (List ℕ)) (b : Body-F Body Field Value) (w : Value) → is_same (record { annotations = annotations; body = roll-Body b }) w ≡ (same_names annotations w.annotations && same_level b (out-Body w.body))
at_roll annotations b w = search (rules, the_lemmas)

-- ---- what is the same is equal

bool_is : (a b : Bool) → same_bool a b ≡ true → a ≡ b
bool_is true b h = sym h
bool_is false true h = h
bool_is false false h = refl

int_is : (a b : ℤ) → int_eq a b ≡ true → a ≡ b
int_is a b h = (Decides-int_eq a b).0 h

nat_is : (a b : ℕ) → (a == b) ≡ true → a ≡ b
nat_is a b h = (Decides-eqb a b).0 h

offset_is : (a b : Option ℤ) → same_offset a b ≡ true → a ≡ b
offset_is None None h = refl
offset_is (Some a) (Some b) h = ap Some (int_is a b h)
offset_is None (Some b) h = absurd (true≢false (sym h))
offset_is (Some a) None h = absurd (true≢false (sym h))

decimal_is : (a b : DecimalParts) → same_decimal a b ≡ true → a ≡ b
decimal_is a b h =
    let two = left (int_eq a.coefficient b.coefficient && int_eq a.exponent b.exponent) _ h in
    let coefficient : a.coefficient ≡ b.coefficient = int_is _ _ (left _ _ two) in
    let exponent : a.exponent ≡ b.exponent = int_is _ _ (right (int_eq a.coefficient b.coefficient) _ two) in
    let negative_zero : a.negative_zero ≡ b.negative_zero = bool_is _ _ (right (int_eq a.coefficient b.coefficient && int_eq a.exponent b.exponent) _ h) in
    λ i. record { coefficient = coefficient i; exponent = exponent i; negative_zero = negative_zero i }

pub time_is : (a b : TimeParts) → same_time a b ≡ true → a ≡ b
time_is a b h =
    let h8 = left _ _ h in
    let h7 = left _ _ h8 in
    let h6 = left _ _ h7 in
    let h5 = left _ _ h6 in
    let h4 = left _ _ h5 in
    let h3 = left _ _ h4 in
    let h2 = left _ _ h3 in
    let h1 = left _ _ h2 in
    let precision : a.precision ≡ b.precision = same_true precisions (search rules) _ _ (left _ _ h1) in
    let year : a.year ≡ b.year = nat_is _ _ (right _ _ h1) in
    let month : a.month ≡ b.month = nat_is _ _ (right _ _ h2) in
    let day : a.day ≡ b.day = nat_is _ _ (right _ _ h3) in
    let hour : a.hour ≡ b.hour = nat_is _ _ (right _ _ h4) in
    let minute : a.minute ≡ b.minute = nat_is _ _ (right _ _ h5) in
    let second : a.second ≡ b.second = nat_is _ _ (right _ _ h6) in
    let digits : a.digits ≡ b.digits = nat_is _ _ (right _ _ h7) in
    let nanos : a.nanos ≡ b.nanos = nat_is _ _ (right _ _ h8) in
    let offset : a.offset ≡ b.offset = offset_is _ _ (right _ _ h) in
    λ i. record { precision = precision i; year = year i; month = month i; day = day i; hour = hour i; minute = minute i; second = second i; digits = digits i; nanos = nanos i; offset = offset i }

-- what is the same as a value equals it
abbrev Tells : Value → Type 0
Tells v = (w : Value) → is_same v w ≡ true → v ≡ w

in_order_is : {A : Type 0} (test : A → A → Bool) (xs ys : List A) → AllByRecursion (λ x. (y : A) → test x y ≡ true → x ≡ y) xs → in_order (map test xs) ys ≡ true → xs ≡ ys
in_order_is {A} test [] [] all h = refl
in_order_is {A} test [] (y ∷ ys) all h = absurd (true≢false (sym h))
in_order_is {A} test (x ∷ xs) [] all h = absurd (true≢false (sym h))
in_order_is {A} test (x ∷ xs) (y ∷ ys) all h = cons (all.0 y (left (test x y) _ h)) (in_order_is test xs ys all.1 (right (test x y) _ h))

field_is : (f : Field) → Tells f.value → (g : Field) → is_same_field f g ≡ true → f ≡ g
field_is f tells g h =
    let both : (bytes_eq f.name g.name && is_same f.value g.value) ≡ true = sym (at_field f g) ∙ h in
    let name : f.name ≡ g.name = (bytes_decides _ _).0 (left _ _ both) in
    let value : f.value ≡ g.value = tells g.value (right (bytes_eq f.name g.name) _ both) in
    λ i. record { name = name i; value = value i }

level_is : (b d : Body-F Body Field Value) → EachMember Tells b → same_level b d ≡ true → b ≡ d
level_is (Body-F.Null a) (Body-F.Null c) all h = ap (λ x. Body-F.Null x) (same_true kinds (search rules) a c h)
level_is (Body-F.Bool a) (Body-F.Bool c) all h = ap (λ x. Body-F.Bool x) (bool_is a c h)
level_is (Body-F.Int a) (Body-F.Int c) all h = ap (λ x. Body-F.Int x) (int_is a c h)
level_is (Body-F.Decimal a) (Body-F.Decimal c) all h = ap (λ x. Body-F.Decimal x) (decimal_is a c h)
level_is (Body-F.Timestamp a) (Body-F.Timestamp c) all h = ap (λ x. Body-F.Timestamp x) (time_is a c h)
level_is (Body-F.Symbol a) (Body-F.Symbol c) all h = ap (λ x. Body-F.Symbol x) ((bytes_decides a c).0 h)
level_is (Body-F.String a) (Body-F.String c) all h = ap (λ x. Body-F.String x) ((bytes_decides a c).0 h)
level_is (Body-F.Clob a) (Body-F.Clob c) all h = ap (λ x. Body-F.Clob x) ((bytes_decides a c).0 h)
level_is (Body-F.Blob a) (Body-F.Blob c) all h = ap (λ x. Body-F.Blob x) ((bytes_decides a c).0 h)
level_is (Body-F.List xs) (Body-F.List ys) all h = ap (λ x. Body-F.List x) (in_order_is is_same xs ys all h)
level_is (Body-F.Sexp xs) (Body-F.Sexp ys) all h = ap (λ x. Body-F.Sexp x) (in_order_is is_same xs ys all h)
level_is (Body-F.Struct xs) (Body-F.Struct ys) all h = ap (λ x. Body-F.Struct x) (in_order_is is_same_field xs ys (map_all field_is xs all) h)
level_is _ _ all h = absurd (true≢false (sym h))

value_is : (v : Value) → Tells v
value_is =
    by_members Tells
    (λ annotations b all w h.
    let both : (same_names annotations w.annotations && same_level b (out-Body w.body)) ≡ true = sym (at_roll annotations b w) ∙ h in
    let names : annotations ≡ w.annotations = (pointwise_decides bytes_decides _ _).0 (left _ _ both) in
    let level : b ≡ out-Body w.body = level_is b (out-Body w.body) all (right (same_names annotations w.annotations) _ both) in
    let body : roll-Body b ≡ w.body = ap roll-Body level ∙ roll-out-Body w.body in
    λ i. record { annotations = names i; body = body i })

-- ---- what is equal is the same

bool_own : (a : Bool) → same_bool a a ≡ true
bool_own true = refl
bool_own false = refl

int_own : (a : ℤ) → int_eq a a ≡ true
int_own a = (Decides-int_eq a a).1 refl

nat_own : (a : ℕ) → (a == a) ≡ true
nat_own a = (Decides-eqb a a).1 refl

bytes_own : (a : List ℕ) → bytes_eq a a ≡ true
bytes_own a = (bytes_decides a a).1 refl

offset_own : (a : Option ℤ) → same_offset a a ≡ true
offset_own None = refl
offset_own (Some a) = int_own a

precision_own : (a : Precision) → same_precision a a ≡ true
precision_own a = (Decides-eqb _ _).1 refl

decimal_own : (a : DecimalParts) → same_decimal a a ≡ true
decimal_own a = simp (int_own, bool_own)

pub time_own : (a : TimeParts) → same_time a a ≡ true
time_own a = rw (precision_own a.precision) (simp (nat_own, offset_own))

abbrev IsOwn : Value → Type 0
IsOwn v = is_same v v ≡ true

in_order_own : {A : Type 0} (test : A → A → Bool) (xs : List A) → AllByRecursion (λ x. test x x ≡ true) xs → in_order (map test xs) xs ≡ true
in_order_own {A} test [] all = refl
in_order_own {A} test (x ∷ xs) all = rw (all.0) (in_order_own test xs all.1)

field_own : (f : Field) → IsOwn f.value → is_same_field f f ≡ true
field_own f h = at_field f f ∙ (λ i. bytes_own f.name i && h i)

level_own : (b : Body-F Body Field Value) → EachMember IsOwn b → same_level b b ≡ true
level_own (Body-F.Null a) all = (Decides-eqb _ _).1 refl
level_own (Body-F.Bool a) all = bool_own a
level_own (Body-F.Int a) all = int_own a
level_own (Body-F.Decimal a) all = decimal_own a
level_own (Body-F.Timestamp a) all = time_own a
level_own (Body-F.Symbol a) all = bytes_own a
level_own (Body-F.String a) all = bytes_own a
level_own (Body-F.Clob a) all = bytes_own a
level_own (Body-F.Blob a) all = bytes_own a
level_own (Body-F.List xs) all = in_order_own is_same xs all
level_own (Body-F.Sexp xs) all = in_order_own is_same xs all
level_own (Body-F.Struct xs) all = in_order_own is_same_field xs (map_all field_own xs all)

names_own : (a : List (List ℕ)) → same_names a a ≡ true
names_own a = (pointwise_decides bytes_decides a a).1 refl

value_own : (v : Value) → IsOwn v
value_own =
    by_members IsOwn
    (λ annotations b all. at_roll annotations b _ ∙ ap (λ c. same_names annotations annotations && same_level b c) (out-roll-Body b) ∙ (λ i. names_own annotations i && level_own b all i))

-- ---- values are the same exactly if they are equal

pub values-decide : SameValuesAreEqual
values-decide a b = (value_is a b, λ e. ap (is_same a) (sym e) ∙ value_own a)

all_tell : (vs : List Value) → AllByRecursion Tells vs
all_tell [] = tt
all_tell (v ∷ vs) = (value_is v, all_tell vs)

all_own : (vs : List Value) → AllByRecursion IsOwn vs
all_own [] = tt
all_own (v ∷ vs) = (value_own v, all_own vs)

pub lists-decide : SameListsAreEqual
lists-decide a b = (in_order_is is_same a b (all_tell a), λ e. ap (in_order (map is_same a)) (sym e) ∙ in_order_own is_same a (all_own a))
