-- Comparing lists of `i8` gives the order of hashes.
use Rattle.std.proofs.Common.{◌≡◌, ◌≢◌, ◌∙◌, ℕ, suc, ◌-◌, ◌<◌, List, [], ◌∷◌, length, get_or, drop, map, reverse, w8, inl, inr, arith, refl, ap}
use Rattle.std.proofs.lemmas.List.{get_or-reverse, get_or_past, length-reverse}
use Rattle.std.proofs.lemmas.Bool.Decides.{eqb_tells, leb_tells, nat_tests}
use Rattle.std.proofs.lemmas.Int.{ints}
use Rattle.std.specs.Int.{cast_signed}
use Rattle.std.specs.Ordering.{int_cmp, is_lt, ordering_then}
use Rattle.std.specs.Cmp.Lexicographic.{slice_cmp}
use Rattle.std.specs.declared.cmp.Ordering.{Ordering}
use Rattle.hash_model.specs.PairHash.{comes_before, signed_cmp, hash_cmp}
use Rattle.pair_hash.specs.Signed.{signed_bytes}

-- for two bytes
one_byte : (x y : ℕ) → x < 256 → y < 256 → int_cmp (cast_signed w8 x) (cast_signed w8 y) ≡ signed_cmp x y
one_byte x y h g = grind (arith, ints, nat_tests)

-- for two lists of bytes
each_byte : (xs ys : List ℕ) → ((k : ℕ) → get_or xs k 0 < 256) → ((k : ℕ) → get_or ys k 0 < 256)
    → slice_cmp int_cmp (map (cast_signed w8) xs) (map (cast_signed w8) ys) ≡ slice_cmp signed_cmp xs ys
each_byte [] [] h g = refl
each_byte [] (y ∷ ys) h g = refl
each_byte (x ∷ xs) [] h g = refl
each_byte (x ∷ xs) (y ∷ ys) h g =
    let rest = slice_cmp int_cmp (map (cast_signed w8) xs) (map (cast_signed w8) ys) in
    ap (λ first. ordering_then first rest) (one_byte x y (h 0) (g 0))
    ∙ ap (λ others. ordering_then (signed_cmp x y) others) (each_byte xs ys (λ k. h (suc k)) (λ k. g (suc k)))

-- the numbers of a list, read from its end, are bytes too
pub reverse-below : (xs : List ℕ) → ((k : ℕ) → get_or xs k 0 < 256) → (k : ℕ) → get_or (reverse xs) k 0 < 256
reverse-below xs h k =
    elim (leb_tells (suc k) (length xs)) [
      | inl within ↦
          let e = get_or-reverse xs k 0 within.1 in
          let b = h (length xs - 1 - k) in
          omega (arith, e, b)
      | inr past ↦
          let long = length-reverse xs in
          let e = get_or_past (reverse xs) k 0 (omega (arith, past.1, long)) in
          omega (arith, e)
    ]

-- for two hashes
pub signed_bytes-slice_cmp : (a b : List ℕ) → ((k : ℕ) → get_or (reverse a) k 0 < 256) → ((k : ℕ) → get_or (reverse b) k 0 < 256)
    → slice_cmp int_cmp (signed_bytes a) (signed_bytes b) ≡ hash_cmp a b
signed_bytes-slice_cmp a b h g = each_byte (reverse a) (reverse b) h g

-- ---- by the last bytes

first_of : (xs ys : List ℕ) → 0 < length xs → 0 < length ys
    → slice_cmp signed_cmp xs ys ≡ ordering_then (signed_cmp (get_or xs 0 0) (get_or ys 0 0)) (slice_cmp signed_cmp (drop 1 xs) (drop 1 ys))
first_of [] ys h g = absurd (omega (arith, h))
first_of (x ∷ xs) [] h g = absurd (omega (arith, g))
first_of (x ∷ xs) (y ∷ ys) h g = refl

-- bytes that differ tell the order before any others
tells : (x y : ℕ) (rest : Ordering) → x ≢ y → is_lt (ordering_then (signed_cmp x y) rest) ≡ is_lt (signed_cmp x y)
tells x y rest other =
    elim (eqb_tells x y) [
      | inl same ↦ absurd (other same.1)
      | inr differ ↦ grind (arith, nat_tests, differ)
    ]

last_first : (a : List ℕ) → length a ≡ 32 → get_or (reverse a) 0 0 ≡ get_or a 31 0
last_first a long = get_or-reverse a 0 0 (omega (arith, long)) ∙ ap (λ n. get_or a (n - 1 - 0) 0) long

-- the last bytes, where they differ, tell the order
pub by_last : (a b : List ℕ) → length a ≡ 32 → length b ≡ 32 → get_or a 31 0 ≢ get_or b 31 0
    → comes_before a b ≡ is_lt (signed_cmp (get_or a 31 0) (get_or b 31 0))
by_last a b long_a long_b differ =
    let some_a = length-reverse a in
    let some_b = length-reverse b in
    let rest = slice_cmp signed_cmp (drop 1 (reverse a)) (drop 1 (reverse b)) in
    ap is_lt (first_of (reverse a) (reverse b) (omega (arith, long_a, some_a)) (omega (arith, long_b, some_b)))
    ∙ (λ i. is_lt (ordering_then (signed_cmp (last_first a long_a i) (last_first b long_b i)) rest))
    ∙ tells (get_or a 31 0) (get_or b 31 0) rest differ
