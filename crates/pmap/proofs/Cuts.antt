-- Pairs parted at a key, under a total order of keys.
use Rattle.std.proofs.Common.{◌≡◌, ℕ, ◌+◌, ◌<◌, Bool, true, false, cond, List, [], ◌∷◌, ◌++◌, length, Option, None, Some, refl, sym, ap, ◌∙◌, subst, arith, append_assoc, length-append}
use Rattle.std.specs.declared.cmp.Ordering.{Ordering}
use Rattle.std.specs.declared.cmp.Ordering.TheVariants.{Less, Equal, Greater}
use Rattle.std.specs.Ordering.{ordering_reverse}
use Rattle.std.specs.Option.{is_some, option_map}
use Rattle.std.specs.Prelude.{suc, ◌-◌, ◌/◌, ◌^◌, ◌≤◌, zero, drop, take, slice_get}
use Rattle.std.proofs.Math.Nat.{pow-suc}
use Rattle.std.specs.Cmp.{IsTotalOrder}
use Rattle.std.specs.Map.{lookup, remove_entry}
use Rattle.std.specs.BTreeMap.{insert_entry, is_at}
use Rattle.std.proofs.lemmas.Cmp.{tied_itself}
use Rattle.std.proofs.lemmas.List.{append-nil, drop_at, take_at}
use Rattle.pmap.specs.Pairs.{IsBelow, IsAbove, Ascends, GoesOnAbove, IsPlace, IsPut, IsRowFor, cut_at, with_put}

get_middle : {Y : Type 0} (xs : List Y) (y : Y) (ys : List Y) → slice_get (xs ++ y ∷ ys) (length xs) ≡ Some y
get_middle [] y ys = refl
get_middle (x ∷ xs) y ys = get_middle xs y ys

drop_middle : {Y : Type 0} (xs : List Y) (y : Y) (ys : List Y) → drop (suc (length xs)) (xs ++ y ∷ ys) ≡ ys
drop_middle [] y ys = refl
drop_middle (x ∷ xs) y ys = drop_middle xs y ys

last_of : {Y : Type 0} (x : Y) (xs : List Y) → (front : List Y) × (last : Y) × (x ∷ xs ≡ front ++ last ∷ [])
last_of x [] = ([], x, refl)
last_of x (y ∷ xs) = let rest = last_of y xs in (x ∷ rest.0, rest.1, ap (λ tail. x ∷ tail) rest.2)

module _ {K : Type 0} (order : K → K → Ordering) (total : IsTotalOrder order) where
  pub turned : (a b : K) → order a b ≡ Greater → order b a ≡ Less
  turned a b e = total.antisymm b a ∙ ap ordering_reverse e

  greater_by : (key p e : K) (o : Ordering) → order key p ≡ o → order p e ≡ Less → (order key e ≡ Less → ⊥) → order key p ≡ Greater
  greater_by key p e Less q h n = absurd (n (total.trans key p e q h))
  greater_by key p e Equal q h n = absurd (n (total.congr key p e q ∙ h))
  greater_by key p e Greater q h n = q

  pub greater_through : (key p e : K) → order p e ≡ Less → (order key e ≡ Less → ⊥) → order key p ≡ Greater
  greater_through key p e = greater_by key p e (order key p) refl

  pub equal_not_less : (a b : K) → order a b ≡ Equal → order a b ≡ Less → ⊥
  equal_not_less a b e h = cc

  pub greater_not_less : (a b : K) → order a b ≡ Greater → order a b ≡ Less → ⊥
  greater_not_less a b e h = cc

module _ {K X : Type 0} (order : K → K → Ordering) (total : IsTotalOrder order) (same : (a b : K) → order a b ≡ Equal → a ≡ b) where
  pub goes_on : (key : K) (pairs : List (K × X)) → IsBelow order key pairs → GoesOnAbove order key pairs
  goes_on key [] h = tt
  goes_on key (pair ∷ pairs) h = h.0

  -- the pair of the key, where it has a value
  abbrev pub pair_of : K → Option X → List (K × X)
  pair_of key None = []
  pair_of key (Some x) = (key, x) ∷ []

  pub below_through : (a b : K) (pairs : List (K × X)) → order a b ≡ Less → IsBelow order b pairs → IsBelow order a pairs
  below_through a b [] e h = tt
  below_through a b (pair ∷ pairs) e h = (total.trans a b pair.0 e h.0, below_through a b pairs e h.1)

  pub below_equal : (a b : K) (pairs : List (K × X)) → order a b ≡ Equal → IsBelow order b pairs → IsBelow order a pairs
  below_equal a b [] e h = tt
  below_equal a b (pair ∷ pairs) e h = (total.congr a b pair.0 e ∙ h.0, below_equal a b pairs e h.1)

  -- behind lesser keys
  pub behind : (key : K) (xs ys : List (K × X)) → IsAbove order key xs
      → cut_at order key (xs ++ ys) ≡ (xs ++ (cut_at order key ys).0, (cut_at order key ys).1, (cut_at order key ys).2)
  behind key [] ys h = refl
  behind key (pair ∷ xs) ys h = rw h.0 (ap (λ (c : List (K × X) × Option X × List (K × X)). (pair ∷ c.0, c.1, c.2)) (behind key xs ys h.1))

  ahead_by : (key : K) (pair : K × X) (xs ys : List (K × X)) (o : Ordering) → order key pair.0 ≡ o
      → cut_at order key (xs ++ ys) ≡ ((cut_at order key xs).0, (cut_at order key xs).1, (cut_at order key xs).2 ++ ys)
      → cut_at order key (pair ∷ (xs ++ ys)) ≡ ((cut_at order key (pair ∷ xs)).0, (cut_at order key (pair ∷ xs)).1, (cut_at order key (pair ∷ xs)).2 ++ ys)
  ahead_by key pair xs ys Less e ih = rw e refl
  ahead_by key pair xs ys Equal e ih = rw e refl
  ahead_by key pair xs ys Greater e ih = rw e (ap (λ (c : List (K × X) × Option X × List (K × X)). (pair ∷ c.0, c.1, c.2)) ih)

  -- before greater keys
  pub ahead : (key : K) (xs ys : List (K × X)) → GoesOnAbove order key ys
      → cut_at order key (xs ++ ys) ≡ ((cut_at order key xs).0, (cut_at order key xs).1, (cut_at order key xs).2 ++ ys)
  ahead key [] [] h = refl
  ahead key [] (pair ∷ ys) h = rw h refl
  ahead key (pair ∷ xs) ys h = ahead_by key pair xs ys (order key pair.0) refl (ahead key xs ys h)

  above_by : (key : K) (pair : K × X) (pairs : List (K × X)) (o : Ordering) → order key pair.0 ≡ o → IsAbove order key (cut_at order key pairs).0
      → IsAbove order key (cut_at order key (pair ∷ pairs)).0
  above_by key pair pairs Less e ih = rw e tt
  above_by key pair pairs Equal e ih = rw e tt
  above_by key pair pairs Greater e ih = rw e (e, ih)

  pub above_front : (key : K) (pairs : List (K × X)) → IsAbove order key (cut_at order key pairs).0
  above_front key [] = tt
  above_front key (pair ∷ pairs) = above_by key pair pairs (order key pair.0) refl (above_front key pairs)

  below_by : (key : K) (pair : K × X) (pairs : List (K × X)) (o : Ordering) → order key pair.0 ≡ o → IsBelow order pair.0 pairs
      → IsBelow order key (cut_at order key pairs).2 → IsBelow order key (cut_at order key (pair ∷ pairs)).2
  below_by key pair pairs Less e h ih = rw e (e, below_through key pair.0 pairs e h)
  below_by key pair pairs Equal e h ih = rw e (below_equal key pair.0 pairs e h)
  below_by key pair pairs Greater e h ih = rw e ih

  pub below_back : (key : K) (pairs : List (K × X)) → Ascends order pairs → IsBelow order key (cut_at order key pairs).2
  below_back key [] h = tt
  below_back key (pair ∷ pairs) h = below_by key pair pairs (order key pair.0) refl h.0 (below_back key pairs h.1)

  whole_by : (key : K) (pair : K × X) (pairs : List (K × X)) (o : Ordering) → order key pair.0 ≡ o
      → pairs ≡ ((cut_at order key pairs).0 ++ pair_of key (cut_at order key pairs).1) ++ (cut_at order key pairs).2
      → pair ∷ pairs ≡ ((cut_at order key (pair ∷ pairs)).0 ++ pair_of key (cut_at order key (pair ∷ pairs)).1) ++ (cut_at order key (pair ∷ pairs)).2
  whole_by key pair pairs Less e ih = rw e refl
  whole_by key pair pairs Equal e ih = rw e (ap (λ k. (k, pair.1) ∷ pairs) (sym (same key pair.0 e)))
  whole_by key pair pairs Greater e ih = rw e (ap (λ (rest : List (K × X)). pair ∷ rest) ih)

  pub whole : (key : K) (pairs : List (K × X))
      → pairs ≡ ((cut_at order key pairs).0 ++ pair_of key (cut_at order key pairs).1) ++ (cut_at order key pairs).2
  whole key [] = refl
  whole key (pair ∷ pairs) = whole_by key pair pairs (order key pair.0) refl (whole key pairs)

  pub below_append : (key : K) (xs ys : List (K × X)) → IsBelow order key xs → IsBelow order key ys → IsBelow order key (xs ++ ys)
  below_append key [] ys h k = k
  below_append key (x ∷ xs) ys h k = (h.0, below_append key xs ys h.1 k)

  pub below_right : (key : K) (xs ys : List (K × X)) → IsBelow order key (xs ++ ys) → IsBelow order key ys
  below_right key [] ys h = h
  below_right key (x ∷ xs) ys h = below_right key xs ys h.1

  pub below_left : (key : K) (xs ys : List (K × X)) → IsBelow order key (xs ++ ys) → IsBelow order key xs
  below_left key [] ys h = tt
  below_left key (x ∷ xs) ys h = (h.0, below_left key xs ys h.1)

  pub ascends_right : (xs ys : List (K × X)) → Ascends order (xs ++ ys) → Ascends order ys
  ascends_right [] ys h = h
  ascends_right (x ∷ xs) ys h = ascends_right xs ys h.1

  pub ascends_left : (xs ys : List (K × X)) → Ascends order (xs ++ ys) → Ascends order xs
  ascends_left [] ys h = tt
  ascends_left (x ∷ xs) ys h = (below_left x.0 xs ys h.0, ascends_left xs ys h.1)

  -- a key that is not less than a later one is greater than all before that
  pub above_before : (key : K) (xs : List (K × X)) (pair : K × X) (ys : List (K × X)) → Ascends order (xs ++ pair ∷ ys)
      → (order key pair.0 ≡ Less → ⊥) → IsAbove order key xs
  above_before key [] pair ys h n = tt
  above_before key (x ∷ xs) pair ys h n =
      (greater_through order total key x.0 pair.0 (below_right x.0 xs (pair ∷ ys) h.0).0 n, above_before key xs pair ys h.1 n)

  put_below : (key : K) (k : K) (put : List (K × X)) → IsPut key put → order k key ≡ Less → IsBelow order k put
  put_below key k [] p e = tt
  put_below key k (pair ∷ []) p e = (ap (order k) p.0 ∙ e, tt)
  put_below key k (pair ∷ (next ∷ put)) p e = absurd (cc p.1)

  put_before : (key : K) (put ys : List (K × X)) → IsPut key put → IsBelow order key ys → Ascends order ys → Ascends order (put ++ ys)
  put_before key [] ys p h a = a
  put_before key (pair ∷ []) ys p h a = (subst (λ k. IsBelow order k ys) (sym p.0) h, a)
  put_before key (pair ∷ (next ∷ put)) ys p h a = absurd (cc p.1)

  below_put_by : (key k : K) (put : List (K × X)) (pair : K × X) (pairs : List (K × X)) (o : Ordering) → order key pair.0 ≡ o
      → IsBelow order k put → IsBelow order k (pair ∷ pairs) → IsBelow order k (with_put order key put pairs)
      → IsBelow order k (with_put order key put (pair ∷ pairs))
  below_put_by key k put pair pairs Less e p h ih = rw e (below_append k put (pair ∷ pairs) p h)
  below_put_by key k put pair pairs Equal e p h ih = rw e (below_append k put pairs p h.1)
  below_put_by key k put pair pairs Greater e p h ih = rw e (h.0, ih)

  below_put : (key k : K) (put pairs : List (K × X)) → IsBelow order k put → IsBelow order k pairs → IsBelow order k (with_put order key put pairs)
  below_put key k put [] p h = below_append k put [] p tt
  below_put key k put (pair ∷ pairs) p h = below_put_by key k put pair pairs (order key pair.0) refl p h (below_put key k put pairs p h.1)

  ascends_by : (key : K) (put : List (K × X)) (pair : K × X) (pairs : List (K × X)) (o : Ordering) → order key pair.0 ≡ o → IsPut key put
      → Ascends order (pair ∷ pairs) → Ascends order (with_put order key put pairs) → Ascends order (with_put order key put (pair ∷ pairs))
  ascends_by key put pair pairs Less e p h ih =
      rw e (put_before key put (pair ∷ pairs) p (e, below_through key pair.0 pairs e h.0) h)
  ascends_by key put pair pairs Equal e p h ih = rw e (put_before key put pairs p (below_equal key pair.0 pairs e h.0) h.1)
  ascends_by key put pair pairs Greater e p h ih =
      rw e (below_put key pair.0 put pairs (put_below key pair.0 put p (turned order total key pair.0 e)) h.0, ih)

  pub ascends_with_put : (key : K) (put pairs : List (K × X)) → IsPut key put → Ascends order pairs → Ascends order (with_put order key put pairs)
  ascends_with_put key put [] p h = put_before key put [] p tt tt
  ascends_with_put key put (pair ∷ pairs) p h = ascends_by key put pair pairs (order key pair.0) refl p h (ascends_with_put key put pairs p h.1)

  -- the words of std for maps
  nothing_found : (key : K) (pairs : List (K × X)) → IsBelow order key pairs → lookup (is_at (order key)) pairs ≡ None
  nothing_found key [] h = refl
  nothing_found key (pair ∷ pairs) h = rw h.0 (nothing_found key pairs h.1)

  nothing_removed : (key : K) (pairs : List (K × X)) → IsBelow order key pairs → remove_entry (is_at (order key)) pairs ≡ pairs
  nothing_removed key [] h = refl
  nothing_removed key (pair ∷ pairs) h = rw h.0 (ap (λ (rest : List (K × X)). pair ∷ rest) (nothing_removed key pairs h.1))

  found_by : (key : K) (pair : K × X) (pairs : List (K × X)) (o : Ordering) → order key pair.0 ≡ o → IsBelow order pair.0 pairs
      → lookup (is_at (order key)) pairs ≡ (cut_at order key pairs).1 → lookup (is_at (order key)) (pair ∷ pairs) ≡ (cut_at order key (pair ∷ pairs)).1
  found_by key pair pairs Less e h ih = rw e (nothing_found key pairs (below_through key pair.0 pairs e h))
  found_by key pair pairs Equal e h ih = rw e refl
  found_by key pair pairs Greater e h ih = rw e ih

  pub found : (key : K) (pairs : List (K × X)) → Ascends order pairs → lookup (is_at (order key)) pairs ≡ (cut_at order key pairs).1
  found key [] h = refl
  found key (pair ∷ pairs) h = found_by key pair pairs (order key pair.0) refl h.0 (found key pairs h.1)

  removed_by : (key : K) (pair : K × X) (pairs : List (K × X)) (o : Ordering) → order key pair.0 ≡ o → IsBelow order pair.0 pairs
      → remove_entry (is_at (order key)) pairs ≡ with_put order key [] pairs → remove_entry (is_at (order key)) (pair ∷ pairs) ≡ with_put order key [] (pair ∷ pairs)
  removed_by key pair pairs Less e h ih = rw e (ap (λ (rest : List (K × X)). pair ∷ rest) (nothing_removed key pairs (below_through key pair.0 pairs e h)))
  removed_by key pair pairs Equal e h ih = rw e refl
  removed_by key pair pairs Greater e h ih = rw e (ap (λ (rest : List (K × X)). pair ∷ rest) ih)

  pub removed : (key : K) (pairs : List (K × X)) → Ascends order pairs → remove_entry (is_at (order key)) pairs ≡ with_put order key [] pairs
  removed key [] h = refl
  removed key (pair ∷ pairs) h = removed_by key pair pairs (order key pair.0) refl h.0 (removed key pairs h.1)

  inserted_by : (key : K) (x : X) (pair : K × X) (pairs : List (K × X)) (o : Ordering) → order key pair.0 ≡ o
      → insert_entry order pairs key x ≡ with_put order key ((key, x) ∷ []) pairs
      → insert_entry order (pair ∷ pairs) key x ≡ with_put order key ((key, x) ∷ []) (pair ∷ pairs)
  inserted_by key x pair pairs Less e ih = rw e refl
  inserted_by key x pair pairs Equal e ih = rw e (ap (λ k. (k, x) ∷ pairs) (sym (same key pair.0 e)))
  inserted_by key x pair pairs Greater e ih = rw e (ap (λ (rest : List (K × X)). pair ∷ rest) ih)

  pub inserted : (key : K) (x : X) (pairs : List (K × X)) → insert_entry order pairs key x ≡ with_put order key ((key, x) ∷ []) pairs
  inserted key x [] = refl
  inserted key x (pair ∷ pairs) = inserted_by key x pair pairs (order key pair.0) refl (inserted key x pairs)

  -- how many pairs there are
  one_of : (key : K) (here : Option X) → length (pair_of key here) ≡ cond (is_some here) 1 0
  one_of key None = refl
  one_of key (Some x) = refl

  pub length_parts : (key : K) (pairs : List (K × X)) → length pairs
      ≡ (length (cut_at order key pairs).0 + cond (is_some (cut_at order key pairs).1) 1 0) + length (cut_at order key pairs).2
  length_parts key pairs =
      let cut = cut_at order key pairs in
      ap length (whole key pairs) ∙ length-append (cut.0 ++ pair_of key cut.1) cut.2
      ∙ ap (λ n. n + length cut.2) (length-append cut.0 (pair_of key cut.1) ∙ ap (λ n. length cut.0 + n) (one_of key cut.1))

  pub length_put : (key : K) (put pairs : List (K × X))
      → length (with_put order key put pairs) + cond (is_some (cut_at order key pairs).1) 1 0 ≡ length pairs + length put
  length_put key put pairs =
      let cut = cut_at order key pairs in
      omega (arith, length_parts key pairs, length-append (cut.0 ++ put) cut.2, length-append cut.0 put)

  -- a row halved at a pair
  pub place_before : (key : K) (row xs rest : List (K × X)) (pair : K × X) (ys : List (K × X)) (at : ℕ) (there : Bool) → row ≡ xs ++ rest
      → rest ≡ pair ∷ ys → order key pair.0 ≡ Less → IsPlace order key xs at there → IsPlace order key row at there
  place_before key row xs rest pair ys at there e f h p =
      let cut = ap (cut_at order key) (e ∙ ap (λ tail. xs ++ tail) f) ∙ ahead key xs (pair ∷ ys) h in
      record {
        lesser = p.lesser ∙ sym (ap (λ (c : List (K × X) × Option X × List (K × X)). length c.0) cut);
        here = p.here ∙ sym (ap (λ (c : List (K × X) × Option X × List (K × X)). is_some c.1) cut);
      }

  behind_pair : (key : K) (pair : K × X) (ys : List (K × X)) → order key pair.0 ≡ Equal → cut_at order key (pair ∷ ys) ≡ ([], Some pair.1, ys)
  behind_pair key pair ys h = rw h refl

  pub place_at : (key : K) (row xs rest : List (K × X)) (pair : K × X) (ys : List (K × X)) (at : ℕ) → row ≡ xs ++ rest → rest ≡ pair ∷ ys
      → order key pair.0 ≡ Equal → Ascends order row → at ≡ length xs → IsPlace order key row at true
  place_at key row xs rest pair ys at e f h a n =
      let is : row ≡ xs ++ pair ∷ ys = e ∙ ap (λ tail. xs ++ tail) f in
      let above : IsAbove order key xs = above_before key xs pair ys (subst (Ascends order) is a) (equal_not_less order total key pair.0 h) in
      let cut = ap (cut_at order key) is ∙ behind key xs (pair ∷ ys) above
      ∙ ap (λ (c : List (K × X) × Option X × List (K × X)). (xs ++ c.0, c.1, c.2)) (behind_pair key pair ys h) in
      record {
        lesser = n ∙ sym (ap length (append-nil xs)) ∙ sym (ap (λ (c : List (K × X) × Option X × List (K × X)). length c.0) cut);
        here = sym (ap (λ (c : List (K × X) × Option X × List (K × X)). is_some c.1) cut);
      }

  pub place_behind : (key : K) (row xs rest : List (K × X)) (pair : K × X) (ys : List (K × X)) (low at : ℕ) (there : Bool) → row ≡ xs ++ rest
      → rest ≡ pair ∷ ys → order key pair.0 ≡ Greater → Ascends order row → IsPlace order key ys low there → at ≡ length xs + 1 + low
      → IsPlace order key row at there
  place_behind key row xs rest pair ys low at there e f h a p n =
      let is : row ≡ xs ++ pair ∷ ys = e ∙ ap (λ tail. xs ++ tail) f in
      let above : IsAbove order key xs = above_before key xs pair ys (subst (Ascends order) is a) (greater_not_less order total key pair.0 h) in
      let one : IsAbove order key (pair ∷ []) = (h, tt) in
      let cut = ap (cut_at order key) is ∙ behind key xs (pair ∷ ys) above
      ∙ ap (λ (c : List (K × X) × Option X × List (K × X)). (xs ++ c.0, c.1, c.2)) (behind key (pair ∷ []) ys one) in
      record {
        lesser = omega (arith, n, p.lesser, length-append xs (pair ∷ (cut_at order key ys).0), ap (λ (c : List (K × X) × Option X × List (K × X)). length c.0) cut);
        here = p.here ∙ sym (ap (λ (c : List (K × X) × Option X × List (K × X)). is_some c.1) cut);
      }

  pub ascends_front : (row xs rest : List (K × X)) → row ≡ xs ++ rest → Ascends order row → Ascends order xs
  ascends_front row xs rest e a = ascends_left xs rest (subst (Ascends order) e a)

  pub ascends_back : (row xs rest : List (K × X)) (pair : K × X) (ys : List (K × X)) → row ≡ xs ++ rest → rest ≡ pair ∷ ys → Ascends order row → Ascends order ys
  ascends_back row xs rest pair ys e f a = (ascends_right xs (pair ∷ ys) (subst (Ascends order) (e ∙ ap (λ tail. xs ++ tail) f) a)).1

  -- the row of a key
  row_at : (key : K) (rows xs : List (K × X)) (pair : K × X) (ys : List (K × X)) → rows ≡ xs ++ pair ∷ ys → (order key pair.0 ≡ Less → ⊥)
      → GoesOnAbove order key ys → IsRowFor order key rows (length xs)
  row_at key rows xs pair ys e n h =
      record {
        within = omega (arith, ap length e, length-append xs (pair ∷ ys));
        begins = λ row f some. let same : pair ≡ row = cc (get_middle xs pair ys) in subst (λ p. order key p.0 ≡ Less → ⊥) same n;
        next = subst (GoesOnAbove order key) (sym (ap (drop (suc (length xs))) e ∙ drop_middle xs pair ys)) h;
      }

  above_last : (key : K) (front : List (K × X)) (last : K × X) → IsAbove order key (front ++ last ∷ []) → order key last.0 ≡ Greater
  above_last key [] last h = h.0
  above_last key (x ∷ front) last h = above_last key front last h.1

  value_of : (here : Option X) → is_some here ≡ true → (x : X) × (here ≡ Some x)
  value_of None h = absurd (cc)
  value_of (Some x) h = (x, refl)

  none_of : (here : Option X) → is_some here ≡ false → here ≡ None
  none_of None h = refl
  none_of (Some x) h = absurd (cc)

  row_for_by : (key : K) (rows front back : List (K × X)) (here : Option X) → rows ≡ (front ++ pair_of key here) ++ back → IsAbove order key front
      → IsBelow order key back → 0 < length rows → IsRowFor order key rows (cond (is_some here) (length front) (length front - 1))
  row_for_by key rows front back (Some x) e above below some =
      row_at key rows front (key, x) back (e ∙ append_assoc front ((key, x) ∷ []) back)
      (equal_not_less order total key key (tied_itself total key)) (goes_on key back below)
  row_for_by key rows [] [] None e above below some = absurd (omega (arith, ap length e))
  row_for_by key rows [] (pair ∷ back) None e above below some =
      record {
        within = some;
        begins = λ row f positive. absurd (omega arith);
        next = subst (GoesOnAbove order key) (sym (ap (drop 1) e)) (goes_on key back below.1);
      }
  row_for_by key rows (x ∷ xs) back None e above below some =
      let end = last_of x xs in
      let is : rows ≡ end.0 ++ end.1 ∷ back =
      e ∙ ap (λ (front : List (K × X)). front ++ back) (append-nil (x ∷ xs) ∙ end.2) ∙ append_assoc end.0 (end.1 ∷ []) back in
      let greater = above_last key end.0 end.1 (subst (IsAbove order key) end.2 above) in
      let place : length end.0 ≡ length (x ∷ xs) - 1 = omega (arith, ap length end.2, length-append end.0 (end.1 ∷ [])) in
      subst (IsRowFor order key rows) place (row_at key rows end.0 end.1 back is (greater_not_less order total key end.1.0 greater) (goes_on key back below))

  pub row_for_place : (key : K) (rows : List (K × X)) (at : ℕ) (there : Bool) → Ascends order rows → 0 < length rows → IsPlace order key rows at there
      → IsRowFor order key rows (cond there at (at - 1))
  row_for_place key rows at there a some p =
      let cut = cut_at order key rows in
      let row = row_for_by key rows cut.0 cut.2 cut.1 (whole key rows) (above_front key rows) (below_back key rows a) some in
      subst (IsRowFor order key rows) (λ i. cond (sym p.here i) (sym p.lesser i) (sym p.lesser i - 1)) row

  -- the members around a place
  module _ (key : K) (row : List (K × X)) (at end : ℕ) (there : Bool) (p : IsPlace order key row at there) (e : end ≡ at + cond there 1 0) where
    around : end ≡ length (cut_at order key row).0 + cond (is_some (cut_at order key row).1) 1 0
    around = e ∙ (λ i. p.lesser i + cond (p.here i) 1 0)

    pub end_within : end ≤ length row
    end_within = omega (arith, around, length_parts key row)

    pub start_within : at ≤ end
    start_within = omega (arith, e)

    pub spliced_place : (put : List (K × X)) → (take at row ++ put) ++ drop end row ≡ with_put order key put row
    spliced_place put =
        let cut = cut_at order key row in
        let all = whole key row in
        let front : take at row ≡ cut.0 =
        ap (take at) (all ∙ append_assoc cut.0 (pair_of key cut.1) cut.2) ∙ take_at cut.0 (pair_of key cut.1 ++ cut.2) at (sym p.lesser) in
        let long : length (cut.0 ++ pair_of key cut.1) ≡ end =
        length-append cut.0 (pair_of key cut.1) ∙ ap (λ n. length cut.0 + n) (one_of key cut.1) ∙ sym around in
        let back : drop end row ≡ cut.2 = ap (drop end) all ∙ drop_at (cut.0 ++ pair_of key cut.1) cut.2 end long in
        (λ i. (front i ++ put) ++ back i)

    pub here_is : there ≡ true → (x : X) × ((cut_at order key row).1 ≡ Some x) × (slice_get row at ≡ Some (key, x))
    here_is h =
        let cut = cut_at order key row in
        let some : is_some cut.1 ≡ true = sym p.here ∙ h in
        let x = value_of cut.1 some in
        let is : row ≡ cut.0 ++ (key, x.0) ∷ cut.2 =
        whole key row ∙ ap (λ here. (cut.0 ++ pair_of key here) ++ cut.2) x.1 ∙ append_assoc cut.0 ((key, x.0) ∷ []) cut.2 in
        (x.0, x.1, (λ i. slice_get (is i) (p.lesser i)) ∙ get_middle cut.0 (key, x.0) cut.2)

    pub not_here : there ≡ false → (cut_at order key row).1 ≡ None
    not_here h = none_of (cut_at order key row).1 (sym p.here ∙ h)

    by_there : (b : Bool) → there ≡ b → cond there (option_map (λ (pair : K × X). pair.1) (slice_get row at)) None ≡ (cut_at order key row).1
    by_there true h =
        let x = here_is h in
        rw h (ap (option_map (λ (pair : K × X). pair.1)) x.2 ∙ sym x.1)
    by_there false h = rw h (sym (not_here h))

    pub value_of_place : cond there (option_map (λ (pair : K × X). pair.1) (slice_get row at)) None ≡ (cut_at order key row).1
    value_of_place = by_there there refl

-- one comparison more where what is left is half as much
halved : (d n half : ℕ) → 0 < n → n < 2 ^ d → half ≤ n / 2 → (e : ℕ) × (d ≡ suc e) × (half < 2 ^ e)
halved zero n half some few h = absurd (omega arith)
halved (suc e) n half some few h = (e, refl, omega (arith, pow-suc 2 e))

pub counted_more : (old one new n half d : ℕ) → one ≤ old + 1 → ((e : ℕ) → half < 2 ^ e → new ≤ one + e) → 0 < n → half ≤ n / 2 → n < 2 ^ d → new ≤ old + d
counted_more old one new n half d a ih some h few =
    let e = halved d n half some few h in
    omega (arith, ih e.0 e.2, e.1)
