-- Taking equivalent members out one by one, and counting them: where the relation is an equivalence, both tell the same.
use Rattle.std.proofs.Common.{◌≡◌, ℕ, suc, ◌+◌, Bool, true, false, cond, if◌then◌else◌, ◌&&◌, List, [], ◌∷◌, ◌++◌, map, length, refl, sym, ap, ◌∙◌, subst, arith, true≢false, length-append}
use Rattle.std.specs.declared.option.Option.{Option}
use Rattle.std.specs.declared.option.Option.TheVariants.{None, Some}
use Rattle.std.specs.Option.{option_map, option_map_or}
use Rattle.std.specs.List.{AllByRecursion, count_by}
use Rattle.std.proofs.lemmas.List.Sums.{sum_by-cons, sum_by-append}
use Rattle.ion_values.specs.Equivalent.{in_order, without, in_any_order}

-- the item is the first that passes, and zs are the others
pub record Taken {A : Type 0} (like : A → Bool) (ys zs : List A) : Type 0 where
  pub before : List A
  pub item : A
  pub after : List A
  pub passes : like item ≡ true
  pub whole : ys ≡ before ++ item ∷ after
  pub rest : zs ≡ before ++ after

taken_at : {A : Type 0} (like : A → Bool) (y : A) (ys zs : List A) → ((ws : List A) → without like ys ≡ Some ws → Taken like ys ws) → (b : Bool) → like y ≡ b → (w : Option (List A)) → without like ys ≡ w → (if b then Some ys else option_map (λ zs. y ∷ zs) w) ≡ Some zs → Taken like (y ∷ ys) zs
taken_at like y ys zs later true e w is h =
    record { before = []; item = y; after = ys; passes = e; whole = refl; rest = cc }
taken_at like y ys zs later false e None is h = let bad : ⊥ = cc in absurd bad
taken_at like y ys zs later false e (Some ws) is h =
    let t : Taken like ys ws = later ws is in
    record { before = y ∷ t.before; item = t.item; after = t.after; passes = t.passes; whole = ap (λ l. y ∷ l) t.whole; rest = cc }

pub taken : {A : Type 0} (like : A → Bool) (ys zs : List A) → without like ys ≡ Some zs → Taken like ys zs
taken like [] zs h = let bad : ⊥ = cc in absurd bad
taken like (y ∷ ys) zs h = taken_at like y ys zs (λ ws. taken like ys ws) (like y) refl (without like ys) refl h

pub count-cons : {A : Type 0} (p : A → Bool) (x : A) (xs : List A) → count_by p (x ∷ xs) ≡ cond (p x) 1 0 + count_by p xs
count-cons p x xs = sum_by-cons (λ y. cond (p y) 1 0) x xs

pub count-append : {A : Type 0} (p : A → Bool) (xs ys : List A) → count_by p (xs ++ ys) ≡ count_by p xs + count_by p ys
count-append p xs ys = sum_by-append (λ y. cond (p y) 1 0) xs ys

none_at : {A : Type 0} (like : A → Bool) (y : A) (ys : List A) → (without like ys ≡ None → count_by like ys ≡ 0) → (b : Bool) → like y ≡ b → (w : Option (List A)) → without like ys ≡ w → (if b then Some ys else option_map (λ zs. y ∷ zs) w) ≡ None → cond b 1 0 + count_by like ys ≡ 0
none_at like y ys later true e w is h = let bad : ⊥ = cc in absurd bad
none_at like y ys later false e None is h = omega (arith, later is)
none_at like y ys later false e (Some ws) is h = let bad : ⊥ = cc in absurd bad

pub none_passes : {A : Type 0} (like : A → Bool) (ys : List A) → without like ys ≡ None → count_by like ys ≡ 0
none_passes like [] h = refl
none_passes like (y ∷ ys) h = count-cons like y ys ∙ none_at like y ys (none_passes like ys) (like y) refl (without like ys) refl h

-- counts and lengths, with the item and without it
pub taken-count : {A : Type 0} (like : A → Bool) (ys zs : List A) → (t : Taken like ys zs) → (p : A → Bool) → count_by p ys ≡ cond (p t.item) 1 0 + count_by p zs
taken-count like ys zs t p =
    let a : count_by p ys ≡ count_by p t.before + (cond (p t.item) 1 0 + count_by p t.after) = ap (count_by p) t.whole ∙ count-append p t.before (t.item ∷ t.after) ∙ ap (λ n. count_by p t.before + n) (count-cons p t.item t.after) in
    let b : count_by p zs ≡ count_by p t.before + count_by p t.after = ap (count_by p) t.rest ∙ count-append p t.before t.after in
    omega arith

pub taken-length : {A : Type 0} (like : A → Bool) (ys zs : List A) → Taken like ys zs → length ys ≡ suc (length zs)
taken-length like ys zs t =
    omega (arith, ap length t.whole, ap length t.rest, length-append t.before (t.item ∷ t.after), length-append t.before t.after)

put_in : {A : Type 0} (P : A → Type 0) (bs cs : List A) (y : A) → P y → AllByRecursion P (bs ++ cs) → AllByRecursion P (bs ++ y ∷ cs)
put_in P [] cs y p h = (p, h)
put_in P (b ∷ bs) cs y p h = (h.0, put_in P bs cs y p h.1)

pub map_all : {A : Type 0} {P Q : A → Type 0} → ((x : A) → P x → Q x) → (xs : List A) → AllByRecursion P xs → AllByRecursion Q xs
map_all f [] h = tt
map_all f (x ∷ xs) h = (f x h.0, map_all f xs h.1)

pub map_both : {A : Type 0} {G P Q : A → Type 0} → ((x : A) → G x → P x → Q x) → (xs : List A) → AllByRecursion G xs → AllByRecursion P xs → AllByRecursion Q xs
map_both f [] g h = tt
map_both f (x ∷ xs) g h = (f x g.0 h.0, map_both f xs g.1 h.1)

pub first : (a b : Bool) → (a && b) ≡ true → a ≡ true
first true b h = refl
first false b h = h

pub second : (a b : Bool) → (a && b) ≡ true → b ≡ true
second true b h = h
second false b h = absurd (true≢false (sym h))

module _ {A : Type 0} (r : A → A → Bool) where
  -- what is equivalent to x is equivalent to the same as x is
  abbrev pub Good : A → Type 0
  Good x = (y z : A) → r x y ≡ true → r x z ≡ r y z

  abbrev pub matches : List A → List A → Bool
  matches xs ys = in_any_order (map r xs) ys

  -- what a match at the first member comes to
  matches_at : (x : A) (xs ys : List A) → matches (x ∷ xs) ys ≡ true → (zs : List A) × (without (r x) ys ≡ Some zs) × (matches xs zs ≡ true)
  matches_at x xs ys h = at_rest (without (r x) ys) refl h
    where
      at_rest : (w : Option (List A)) → without (r x) ys ≡ w → option_map_or (in_any_order (map r xs)) w false ≡ true → (zs : List A) × (without (r x) ys ≡ Some zs) × (matches xs zs ≡ true)
      at_rest None is h = absurd (true≢false (sym h))
      at_rest (Some zs) is h = (zs, is, h)

  pub matches_first : (x y : A) (xs ys : List A) → r x y ≡ true → matches (x ∷ xs) (y ∷ ys) ≡ matches xs ys
  matches_first x y xs ys e = rw e refl

  pub in_order_own : (xs : List A) → AllByRecursion (λ x. r x x ≡ true) xs → in_order (map r xs) xs ≡ true
  in_order_own [] h = refl
  in_order_own (x ∷ xs) h = λ i. h.0 i && in_order_own xs h.1 i

  pub in_any_order_own : (xs : List A) → AllByRecursion (λ x. r x x ≡ true) xs → matches xs xs ≡ true
  in_any_order_own [] h = refl
  in_any_order_own (x ∷ xs) h = matches_first x x xs xs h.0 ∙ in_any_order_own xs h.1

  pub matches-length : (xs ys : List A) → matches xs ys ≡ true → length xs ≡ length ys
  matches-length [] [] h = refl
  matches-length [] (y ∷ ys) h = absurd (true≢false (sym h))
  matches-length (x ∷ xs) ys h =
      let m = matches_at x xs ys h in
      ap suc (matches-length xs m.0 m.2) ∙ sym (taken-length (r x) ys m.0 (taken (r x) ys m.0 m.1))

  pub in_order_good : (xs ys zs : List A) → AllByRecursion Good xs → in_order (map r xs) ys ≡ true → in_order (map r xs) zs ≡ in_order (map r ys) zs
  in_order_good [] [] zs g h = refl
  in_order_good [] (y ∷ ys) zs g h = absurd (true≢false (sym h))
  in_order_good (x ∷ xs) [] zs g h = absurd (true≢false (sym h))
  in_order_good (x ∷ xs) (y ∷ ys) [] g h = refl
  in_order_good (x ∷ xs) (y ∷ ys) (z ∷ zs) g h =
      let here : r x y ≡ true = first (r x y) (in_order (map r xs) ys) h in
      let there : in_order (map r xs) ys ≡ true = second (r x y) (in_order (map r xs) ys) h in
      let e : r x z ≡ r y z = g.0 y z here in
      let es : in_order (map r xs) zs ≡ in_order (map r ys) zs = in_order_good xs ys zs g.1 there in
      cc

  module _ (own : (x : A) → r x x ≡ true) where
    pub good_next : (x y : A) → Good x → r x y ≡ true → Good y
    good_next x y g h z u k =
        let a : r x z ≡ r y z = g y z h in
        let b : r x z ≡ true = a ∙ k in
        sym (g y u h) ∙ g z u b

    pub same_test : (x y f : A) → Good x → Good f → r x y ≡ true → r f x ≡ r f y
    same_test x y f gx gf h = both (r f x) (r f y) refl refl
      where
        both : (a b : Bool) → r f x ≡ a → r f y ≡ b → a ≡ b
        both true true ea eb = refl
        both false false ea eb = refl
        both true false ea eb = sym h ∙ sym (gf x y ea) ∙ eb
        both false true ea eb = sym ea ∙ gf y x eb ∙ sym (gx y x h) ∙ own x

    pub good_right : (xs ys : List A) → AllByRecursion Good xs → matches xs ys ≡ true → AllByRecursion Good ys
    good_right [] [] g h = tt
    good_right [] (y ∷ ys) g h = absurd (true≢false (sym h))
    good_right (x ∷ xs) ys g h =
        let m = matches_at x xs ys h in
        let t : Taken (r x) ys m.0 = taken (r x) ys m.0 m.1 in
        subst (AllByRecursion Good) (sym t.whole) (put_in Good t.before t.after t.item (good_next x t.item g.0 t.passes) (subst (AllByRecursion Good) t.rest (good_right xs m.0 g.1 m.2)))

    pub counted : (xs ys : List A) → AllByRecursion Good xs → matches xs ys ≡ true → (f : A) → Good f → count_by (r f) xs ≡ count_by (r f) ys
    counted [] [] g h f gf = refl
    counted [] (y ∷ ys) g h f gf = absurd (true≢false (sym h))
    counted (x ∷ xs) ys g h f gf =
        let m = matches_at x xs ys h in
        let t : Taken (r x) ys m.0 = taken (r x) ys m.0 m.1 in
        let e : r f x ≡ r f t.item = same_test x t.item f g.0 gf t.passes in
        count-cons (r f) x xs ∙ ap (λ b. cond b 1 0 + count_by (r f) xs) e ∙ ap (λ n. cond (r f t.item) 1 0 + n) (counted xs m.0 g.1 m.2 f gf) ∙ sym (taken-count (r x) ys m.0 t (r f))

    -- as many of either, and of each on the left as many as on the right
    pub from_counts : (xs ys : List A) → AllByRecursion Good xs → length xs ≡ length ys → AllByRecursion (λ f. count_by (r f) xs ≡ count_by (r f) ys) xs → matches xs ys ≡ true
    from_counts [] [] g l h = refl
    from_counts [] (y ∷ ys) g l h = let bad : ⊥ = cc in absurd bad
    from_counts (x ∷ xs) ys g l h = at_rest (λ zs. from_counts xs zs g.1) (without (r x) ys) refl
      where
        at_rest : ((zs : List A) → length xs ≡ length zs → AllByRecursion (λ f. count_by (r f) xs ≡ count_by (r f) zs) xs → matches xs zs ≡ true) → (w : Option (List A)) → without (r x) ys ≡ w → option_map_or (in_any_order (map r xs)) w false ≡ true
        at_rest later None is =
            let a : count_by (r x) (x ∷ xs) ≡ cond (r x x) 1 0 + count_by (r x) xs = count-cons (r x) x xs in
            let one : cond {A = ℕ} (r x x) 1 0 ≡ 1 = ap (λ b. cond b 1 0) (own x) in
            absurd (omega (arith, h.0, none_passes (r x) ys is))
        at_rest later (Some zs) is =
            let t : Taken (r x) ys zs = taken (r x) ys zs is in
            later zs (omega (arith, l, taken-length (r x) ys zs t))
            (map_both (λ f gf k.
            let e : cond {A = ℕ} (r f x) 1 0 ≡ cond {A = ℕ} (r f t.item) 1 0 = ap (λ b. cond b 1 0) (same_test x t.item f g.0 gf t.passes) in
            let a : count_by (r f) (x ∷ xs) ≡ cond (r f x) 1 0 + count_by (r f) xs = count-cons (r f) x xs in
            omega (arith, taken-count (r x) ys zs t (r f), k)) xs g.1 h.1)

    pub in_any_order_good : (xs ys zs : List A) → AllByRecursion Good xs → matches xs ys ≡ true → matches xs zs ≡ matches ys zs
    in_any_order_good xs ys zs g h = both (matches xs zs) (matches ys zs) refl refl
      where
        gs : AllByRecursion Good ys
        gs = good_right xs ys g h

        both : (a b : Bool) → matches xs zs ≡ a → matches ys zs ≡ b → a ≡ b
        both true true ea eb = refl
        both false false ea eb = refl
        both true false ea eb =
            sym (from_counts ys zs gs (sym (matches-length xs ys h) ∙ matches-length xs zs ea) (map_all (λ f gf. sym (counted xs ys g h f gf) ∙ counted xs zs g ea f gf) ys gs)) ∙ eb
        both false true ea eb =
            sym ea ∙ from_counts xs zs g (matches-length xs ys h ∙ matches-length ys zs eb) (map_all (λ f gf. counted xs ys g h f gf ∙ counted ys zs gs eb f gf) xs g)
