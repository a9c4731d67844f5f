-- What equivalent structs agree in.
use Rattle.std.proofs.Common.{◌≡◌, ◌∙◌, ◌⊎◌, inl, inr, ℕ, pos, Bool, true, false, ◌&&◌, List, [], ◌∷◌, ◌++◌, map, codes, refl, sym, subst, true≢false, rules}
use Rattle.std.specs.declared.option.Option.{Option}
use Rattle.std.specs.declared.option.Option.TheVariants.{None, Some}
use Rattle.std.specs.Option.{option_map_or}
use Rattle.std.specs.List.{AllByRecursion}
use Rattle.std.specs.Ordering.{int_eq}
use Rattle.std.specs.Str.{bytes_eq}
use Rattle.ion_values.specs.declared.value.Field.{Field}
use Rattle.ion_values.specs.declared.value.Body.TheFolds.{the_lemmas}
use Rattle.ion_values.specs.Equivalent.{in_any_order, is_equivalent, is_equivalent_field, without}
use Rattle.ion_values.proofs.Matching.{Taken, first, map_all, second, taken}
use Rattle.ion_values.proofs.Relation.{at_field, int_is}
use Rattle.ql_types.specs.declared.BlockAddress.{BlockAddress}
use Rattle.ledger_model.specs.declared.block.Header.{Header}
use Rattle.ledger_model.specs.Journal.{address_value, id_value, moment, number, structure}
use Rattle.ledger_model.specs.Values.{field}
use Rattle.laws_descent.specs.Laws.{HeadersAgree}

-- ---- one multiset

-- an item passes
abbrev Has : {A : Type 0} → (A → Bool) → List A → Type 0
Has like [] = ⊥
Has like (y ∷ ys) = (like y ≡ true) ⊎ Has like ys

has_in : {A : Type 0} (like : A → Bool) (before : List A) (item : A) (after : List A) → like item ≡ true → Has like (before ++ item ∷ after)
has_in like [] item after p = inl p
has_in like (b ∷ bs) item after p = inr (has_in like bs item after p)

has_more : {A : Type 0} (like : A → Bool) (before : List A) (item : A) (after : List A) → Has like (before ++ after) → Has like (before ++ item ∷ after)
has_more like [] item after h = inr h
has_more like (b ∷ bs) item after (inl p) = inl p
has_more like (b ∷ bs) item after (inr h) = inr (has_more like bs item after h)

has_item : {A : Type 0} (like : A → Bool) (ys zs : List A) → Taken like ys zs → Has like ys
has_item like ys zs t = subst (Has like) (sym t.whole) (has_in like t.before t.item t.after t.passes)

has_rest : {A : Type 0} (like : A → Bool) (ys zs : List A) → Taken like ys zs → (other : A → Bool) → Has other zs → Has other ys
has_rest like ys zs t other h =
    subst (Has other) (sym t.whole) (has_more other t.before t.item t.after (subst (Has other) t.rest h))

opened : {A : Type 0} (like : A → Bool) (likes : List (A → Bool)) (ys : List A) (o : Option (List A)) → without like ys ≡ o
    → option_map_or (in_any_order likes) o false ≡ true → (zs : List A) × (Taken like ys zs × (in_any_order likes zs ≡ true))
opened like likes ys None is e = absurd (true≢false (sym e))
opened like likes ys (Some zs) is e = (zs, (taken like ys zs is, e))

all_have : {A : Type 0} (likes : List (A → Bool)) (ys : List A) → in_any_order likes ys ≡ true → AllByRecursion (λ like. Has like ys) likes
all_have [] ys e = tt
all_have (like ∷ likes) ys e =
    let o = opened like likes ys (without like ys) refl e in
    (has_item like ys o.0 o.1.0, map_all (λ other h. has_rest like ys o.0 o.1.0 other h) likes (all_have likes o.0 o.1.1))

-- ---- structs

struct_level : (fs gs : List Field) → is_equivalent (structure fs) (structure gs) ≡ (true && in_any_order (map is_equivalent_field fs) gs)
struct_level fs gs = search (rules, the_lemmas)

struct_has : (fs gs : List Field) → is_equivalent (structure fs) (structure gs) ≡ true → AllByRecursion (λ like. Has like gs) (map is_equivalent_field fs)
struct_has fs gs e = all_have (map is_equivalent_field fs) gs (second true (in_any_order (map is_equivalent_field fs) gs) (sym (struct_level fs gs) ∙ e))

differ : (f g : Field) → bytes_eq f.name g.name ≡ false → is_equivalent_field f g ≡ true → ⊥
differ f g n e = true≢false (sym (first (bytes_eq f.name g.name) (is_equivalent f.value g.value) (sym (at_field f g) ∙ e)) ∙ n)

values_agree : (f g : Field) → is_equivalent_field f g ≡ true → is_equivalent f.value g.value ≡ true
values_agree f g e = second (bytes_eq f.name g.name) (is_equivalent f.value g.value) (sym (at_field f g) ∙ e)

numbers_level : (x y : ℕ) → is_equivalent (number x) (number y) ≡ (true && int_eq (pos x) (pos y))
numbers_level x y = search (rules, the_lemmas)

numbers_agree : (x y : ℕ) → is_equivalent (number x) (number y) ≡ true → x ≡ y
numbers_agree x y e =
    let same = int_is (pos x) (pos y) (second true (int_eq (pos x) (pos y)) (sym (numbers_level x y) ∙ e)) in cc

-- ---- headers

last_of_two : (f g h : Field) → bytes_eq f.name g.name ≡ false → Has (is_equivalent_field f) (g ∷ h ∷ []) → is_equivalent f.value h.value ≡ true
last_of_two f g h n (inl e) = absurd (differ f g n e)
last_of_two f g h n (inr (inl e)) = values_agree f h e
last_of_two f g h n (inr (inr none)) = absurd none

first_of_four : (f g h i j : Field) → bytes_eq f.name h.name ≡ false → bytes_eq f.name i.name ≡ false → bytes_eq f.name j.name ≡ false
    → Has (is_equivalent_field f) (g ∷ h ∷ i ∷ j ∷ []) → is_equivalent f.value g.value ≡ true
first_of_four f g h i j a b c (inl e) = values_agree f g e
first_of_four f g h i j a b c (inr (inl e)) = absurd (differ f h a e)
first_of_four f g h i j a b c (inr (inr (inl e))) = absurd (differ f i b e)
first_of_four f g h i j a b c (inr (inr (inr (inl e)))) = absurd (differ f j c e)
first_of_four f g h i j a b c (inr (inr (inr (inr none)))) = absurd none

last_of_four : (f g h i j : Field) → bytes_eq f.name g.name ≡ false → bytes_eq f.name h.name ≡ false → bytes_eq f.name i.name ≡ false
    → Has (is_equivalent_field f) (g ∷ h ∷ i ∷ j ∷ []) → is_equivalent f.value j.value ≡ true
last_of_four f g h i j a b c (inl e) = absurd (differ f g a e)
last_of_four f g h i j a b c (inr (inl e)) = absurd (differ f h b e)
last_of_four f g h i j a b c (inr (inr (inl e))) = absurd (differ f i c e)
last_of_four f g h i j a b c (inr (inr (inr (inl e)))) = values_agree f j e
last_of_four f g h i j a b c (inr (inr (inr (inr none)))) = absurd none

strand_field : BlockAddress → Field
strand_field a = field (codes "strandId") (id_value a.strand.raw)

sequence_field : BlockAddress → Field
sequence_field a = field (codes "sequenceNo") (number a.sequence)

sequences_agree : (a b : BlockAddress) → is_equivalent (address_value a) (address_value b) ≡ true → a.sequence ≡ b.sequence
unfolding strand_field sequence_field
sequences_agree a b e =
    let has = struct_has (strand_field a ∷ sequence_field a ∷ []) (strand_field b ∷ sequence_field b ∷ []) e in
    numbers_agree a.sequence b.sequence (last_of_two (sequence_field a) (strand_field b) (sequence_field b) refl has.1.0)

address_field : Header → Field
address_field h = field (codes "blockAddress") (address_value h.address)

tx_field : Header → Field
tx_field h = field (codes "transactionId") (id_value h.tx.raw)

time_field : Header → Field
time_field h = field (codes "blockTimestamp") (moment h.time)

count_field : Header → Field
count_field h = field (codes "revisionCount") (number h.revisions)

pub headers_agree : HeadersAgree
unfolding address_field tx_field time_field count_field
headers_agree a b e =
    let has = struct_has (address_field a ∷ tx_field a ∷ time_field a ∷ count_field a ∷ []) (address_field b ∷ tx_field b ∷ time_field b ∷ count_field b ∷ []) e in
    let address = first_of_four (address_field a) (address_field b) (tx_field b) (time_field b) (count_field b) refl refl refl has.0 in
    let count = last_of_four (count_field a) (address_field b) (tx_field b) (time_field b) (count_field b) refl refl refl has.1.1.1.0 in
    (sequences_agree a.address b.address address, numbers_agree a.revisions b.revisions count)
