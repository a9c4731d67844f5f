-- Places that are filed, after a member is changed or added.
use Rattle.std.proofs.Common.{◌≡◌, ℕ, zero, suc, ◌+◌, ◌<◌, Bool, true, false, cond, List, [], ◌∷◌, ◌++◌, length, length-append, set, Option, None, Some, arith, refl, sym, ap, ◌∙◌}
use Rattle.std.specs.Prelude.{slice_get, if◌then◌else◌}
use Rattle.std.specs.List.{filter, filter_map}
use Rattle.std.specs.declared.cmp.Ordering.{Ordering}
use Rattle.std.specs.declared.cmp.Ordering.TheVariants.{Less, Equal, Greater}
use Rattle.std.specs.Ordering.{is_eq, nat_cmp}
use Rattle.std.proofs.lemmas.Cmp.{nat_cmp_total, ranked, tied_itself}
use Rattle.std.proofs.lemmas.List.{append_assoc}
use Rattle.index_post.specs.Positions.{positions_by, put_at, taken_at, with_position, without_position, IsChangedBy}
use Rattle.versions.specs.Filing.{places_from, is_filed, AreFiled}

-- ---- orders of places

less_by : (n m : ℕ) (o : Ordering) → nat_cmp n m ≡ o → n < m → o ≡ Less
less_by n m Less e h = refl
less_by n m Equal e h = let same : n ≡ m = ranked n m Equal (sym e) in absurd (omega (arith, same, h))
less_by n m Greater e h = let other : m < n = ranked n m Greater (sym e) in absurd (omega (arith, other, h))

less : (n m : ℕ) → n < m → nat_cmp n m ≡ Less
less n m h = less_by n m (nat_cmp n m) refl h

greater_by : (n m : ℕ) (o : Ordering) → nat_cmp n m ≡ o → m < n → o ≡ Greater
greater_by n m Greater e h = refl
greater_by n m Equal e h = let same : n ≡ m = ranked n m Equal (sym e) in absurd (omega (arith, same, h))
greater_by n m Less e h = let other : n < m = ranked n m Less (sym e) in absurd (omega (arith, other, h))

greater : (n m : ℕ) → m < n → nat_cmp n m ≡ Greater
greater n m h = greater_by n m (nat_cmp n m) refl h

itself : (n : ℕ) → is_eq (nat_cmp n n) ≡ true
itself n = ap is_eq (tied_itself nat_cmp_total n)

-- ---- a place that is put or taken

-- the place is taken where the first test holds, and put where the second one does
abbrev step : Bool → Bool → ℕ → List ℕ → List ℕ
step was is n places = cond is (with_position n (cond was (without_position n places) places)) (cond was (without_position n places) places)

past_taken : (b : Bool) (n m : ℕ) (places : List ℕ) → m < n → cond b (without_position n (m ∷ places)) (m ∷ places) ≡ m ∷ cond b (without_position n places) places
past_taken true n m places h = rw (greater n m h) refl
past_taken false n m places h = refl

pub past_put : (b : Bool) (n m : ℕ) (places : List ℕ) → m < n → cond b (with_position n (m ∷ places)) (m ∷ places) ≡ m ∷ cond b (with_position n places) places
past_put true n m places h = rw (greater n m h) refl
past_put false n m places h = refl

-- a lesser place stays in front
past : (was is : Bool) (n m : ℕ) (places : List ℕ) → m < n → step was is n (m ∷ places) ≡ m ∷ step was is n places
past was is n m places h =
    ap (λ (rest : List ℕ). cond is (with_position n rest) rest) (past_taken was n m places h)
    ∙ past_put is n m (cond was (without_position n places) places) h

past_if : (b was is : Bool) (n m : ℕ) (places : List ℕ) → m < n
    → step was is n (if b then m ∷ places else places) ≡ (if b then m ∷ step was is n places else step was is n places)
past_if true was is n m places h = past was is n m places h
past_if false was is n m places h = refl

last_by : (m n : ℕ) (b : Bool) → m ≡ n → (if b then m ∷ [] else []) ≡ step false b n []
last_by m n true e = ap (λ (k : ℕ). k ∷ []) e
last_by m n false e = refl

module _ {X : Type 0} (test : X → Bool) where
  ahead_by : (b : Bool) (n m : ℕ) (places : List ℕ) → n < m → with_position n places ≡ n ∷ places
      → with_position n (if b then m ∷ places else places) ≡ n ∷ (if b then m ∷ places else places)
  ahead_by true n m places h ih = rw (less n m h) refl
  ahead_by false n m places h ih = ih

  -- a lesser place comes in front
  pub ahead : (xs : List X) (n m : ℕ) → n < m → with_position n (places_from test m xs) ≡ n ∷ places_from test m xs
  ahead [] n m h = refl
  ahead (x ∷ xs) n m h = ahead_by (test x) n m (places_from test (suc m) xs) h (ahead xs n (suc m) (omega (arith, h)))

  here_taken : (b : Bool) (n : ℕ) (places : List ℕ) → cond b (without_position n (if b then n ∷ places else places)) (if b then n ∷ places else places) ≡ places
  here_taken true n places = rw (itself n) refl
  here_taken false n places = refl

  here_put : (b : Bool) (n : ℕ) (places : List ℕ) → with_position n places ≡ n ∷ places → cond b (with_position n places) places ≡ (if b then n ∷ places else places)
  here_put true n places h = h
  here_put false n places h = refl

  here : (was is : Bool) (n : ℕ) (places : List ℕ) → with_position n places ≡ n ∷ places
      → (if is then n ∷ places else places) ≡ step was is n (if was then n ∷ places else places)
  here was is n places h =
      sym (ap (λ (rest : List ℕ). cond is (with_position n rest) rest) (here_taken was n places) ∙ here_put is n places h)

  -- another member at a place
  pub places_set : (xs : List X) (m k : ℕ) (x y : X) → slice_get xs k ≡ Some x
      → places_from test m (set xs k y) ≡ step (test x) (test y) (m + k) (places_from test m xs)
  places_set [] m k x y e = cc
  places_set (a ∷ xs) m zero x y e =
      let same : a ≡ x = cc in
      let at : m ≡ m + 0 = omega arith in
      here (test x) (test y) m (places_from test (suc m) xs) (ahead xs m (suc m) (omega arith))
      ∙ ap (λ (b : Bool). step (test x) (test y) m (if b then m ∷ places_from test (suc m) xs else places_from test (suc m) xs)) (ap test (sym same))
      ∙ ap (λ (n : ℕ). step (test x) (test y) n (places_from test m (a ∷ xs))) at
  places_set (a ∷ xs) m (suc k) x y e =
      let at : suc m + k ≡ m + suc k = omega arith in
      let rest : places_from test (suc m) (set xs k y) ≡ step (test x) (test y) (m + suc k) (places_from test (suc m) xs) =
      places_set xs (suc m) k x y e ∙ ap (λ (n : ℕ). step (test x) (test y) n (places_from test (suc m) xs)) at in
      ap (λ (places : List ℕ). if test a then m ∷ places else places) rest
      ∙ sym (past_if (test a) (test x) (test y) (m + suc k) m (places_from test (suc m) xs) (omega arith))

  -- a member more at the end
  pub places_more : (xs : List X) (m : ℕ) (y : X)
      → places_from test m (xs ++ y ∷ []) ≡ step false (test y) (m + length xs) (places_from test m xs)
  places_more [] m y = let at : m ≡ m + 0 = omega arith in last_by m (m + 0) (test y) at
  places_more (x ∷ xs) m y =
      let at : suc m + length xs ≡ m + suc (length xs) = omega arith in
      let rest : places_from test (suc m) (xs ++ y ∷ []) ≡ step false (test y) (m + suc (length xs)) (places_from test (suc m) xs) =
      places_more xs (suc m) y ∙ ap (λ (n : ℕ). step false (test y) n (places_from test (suc m) xs)) at in
      ap (λ (places : List ℕ). if test x then m ∷ places else places) rest
      ∙ sym (past_if (test x) false (test y) (m + suc (length xs)) m (places_from test (suc m) xs) (omega arith))

  -- another member with the same answer
  pub places_same : (xs : List X) (m k : ℕ) (x y : X) → slice_get xs k ≡ Some x → test x ≡ test y → places_from test m (set xs k y) ≡ places_from test m xs
  places_same [] m k x y e h = cc
  places_same (a ∷ xs) m zero x y e h =
      let same : a ≡ x = cc in
      ap (λ (b : Bool). if b then m ∷ places_from test (suc m) xs else places_from test (suc m) xs) (sym h ∙ ap test (sym same))
  places_same (a ∷ xs) m (suc k) x y e h = ap (λ (places : List ℕ). if test a then m ∷ places else places) (places_same xs (suc m) k x y e h)

  -- the members at the places
  middle : (front xs : List X) (x : X) → slice_get (front ++ x ∷ xs) (length front) ≡ Some x
  middle [] xs x = refl
  middle (y ∷ front) xs x = middle front xs x

  taken_by : (b : Bool) (all : List X) (n : ℕ) (x : X) (places : List ℕ) (rest : List X) → slice_get all n ≡ Some x
      → filter_map (λ at. slice_get all at) places ≡ rest
      → filter_map (λ at. slice_get all at) (if b then n ∷ places else places) ≡ (if b then x ∷ rest else rest)
  taken_by true all n x places rest e ih = rw (e, ih) refl
  taken_by false all n x places rest e ih = ih

  members_from : (front xs all : List X) (n : ℕ) → all ≡ front ++ xs → n ≡ length front
      → filter_map (λ at. slice_get all at) (places_from test n xs) ≡ filter test xs
  members_from front [] all n is count = refl
  members_from front (x ∷ xs) all n is count =
      let there : slice_get all n ≡ Some x = ap (λ (ys : List X). slice_get ys n) is ∙ ap (slice_get (front ++ x ∷ xs)) count ∙ middle front xs x in
      let next : all ≡ (front ++ x ∷ []) ++ xs = is ∙ sym (append_assoc front (x ∷ []) xs) in
      let long : suc n ≡ length (front ++ x ∷ []) = omega (arith, count, length-append front (x ∷ [])) in
      taken_by (test x) all n x (places_from test (suc n) xs) (filter test xs) there (members_from (front ++ x ∷ []) xs all (suc n) next long)

  pub members_at : (xs : List X) → filter_map (λ at. slice_get xs at) (places_from test 0 xs) ≡ filter test xs
  members_at xs = members_from [] xs xs 0 refl refl

-- ---- what is filed

module _ {K X : Type 0} (order : K → K → Ordering) (key_of : X → Option K) where
  put_is : (n : ℕ) (new : Option K) (key : K) (places : List ℕ) → put_at order n new key places ≡ cond (is_filed order key new) (with_position n places) places
  put_is n None key places = refl
  put_is n (Some new) key places = refl

  taken_is : (n : ℕ) (old : Option K) (key : K) (places : List ℕ) → taken_at order n old key places ≡ cond (is_filed order key old) (without_position n places) places
  taken_is n None key places = refl
  taken_is n (Some old) key places = refl

  step_is : (n : ℕ) (old new : Option K) (key : K) (places : List ℕ)
      → put_at order n new key (taken_at order n old key places) ≡ step (is_filed order key old) (is_filed order key new) n places
  step_is n old new key places =
      put_is n new key (taken_at order n old key places)
      ∙ ap (λ (rest : List ℕ). cond (is_filed order key new) (with_position n rest) rest) (taken_is n old key places)

  pub filed_set : (before after : List (K × List ℕ)) (xs : List X) (n : ℕ) (x y : X) → slice_get xs n ≡ Some x
      → IsChangedBy order n (key_of x) (key_of y) before after → AreFiled order key_of before xs → AreFiled order key_of after (set xs n y)
  filed_set before after xs n x y e change filed = λ key.
      let at : n ≡ 0 + n = omega arith in
      let test : X → Bool = λ z. is_filed order key (key_of z) in
      change key ∙ step_is n (key_of x) (key_of y) key (positions_by order before key)
      ∙ ap (step (test x) (test y) n) (filed key)
      ∙ ap (λ (k : ℕ). step (test x) (test y) k (places_from test 0 xs)) at
      ∙ sym (places_set test xs 0 n x y e)

  pub filed_more : (before after : List (K × List ℕ)) (xs : List X) (n : ℕ) (y : X) → n ≡ length xs
      → IsChangedBy order n None (key_of y) before after → AreFiled order key_of before xs → AreFiled order key_of after (xs ++ y ∷ [])
  filed_more before after xs n y count change filed = λ key.
      let at : n ≡ 0 + length xs = omega (arith, count) in
      let test : X → Bool = λ z. is_filed order key (key_of z) in
      change key ∙ step_is n None (key_of y) key (positions_by order before key)
      ∙ ap (step false (test y) n) (filed key)
      ∙ ap (λ (k : ℕ). step false (test y) k (places_from test 0 xs)) at
      ∙ sym (places_more test xs 0 y)

  pub filed_same : (filed : List (K × List ℕ)) (xs : List X) (n : ℕ) (x y : X) → slice_get xs n ≡ Some x → key_of x ≡ key_of y
      → AreFiled order key_of filed xs → AreFiled order key_of filed (set xs n y)
  filed_same filed xs n x y e same were = λ key.
      let test : X → Bool = λ z. is_filed order key (key_of z) in
      were key ∙ sym (places_same test xs 0 n x y e (ap (is_filed order key) same))

  -- a member more without a key
  pub filed_none : (filed : List (K × List ℕ)) (xs : List X) (y : X) → key_of y ≡ None → AreFiled order key_of filed xs → AreFiled order key_of filed (xs ++ y ∷ [])
  filed_none filed xs y none were = λ key.
      let test : X → Bool = λ z. is_filed order key (key_of z) in
      let no : test y ≡ false = ap (is_filed order key) none in
      were key ∙ sym (places_more test xs 0 y ∙ ap (λ (b : Bool). step false b (0 + length xs) (places_from test 0 xs)) no)
