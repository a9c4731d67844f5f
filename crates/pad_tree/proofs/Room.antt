-- The height of a tree is the least with room for its leaves.
use Rattle.std.proofs.Common.{◌≡◌, ℕ, zero, suc, ◌+◌, ◌/◌, ◌^◌, ◌≤◌, ◌<◌, arith, inl, inr}
use Rattle.std.proofs.Math.Pow.{pow_mono}
use Rattle.std.proofs.lemmas.Bool.Decides.{leb_tells}
use Rattle.hash_model.specs.Tree.{height_from, height_of}

-- a number is less than its power of two
below_pow : (n : ℕ) → n < 2 ^ n
below_pow zero = omega arith
below_pow (suc n) = let h = below_pow n in omega (arith, h)

-- the greater power of two has the greater exponent
pub exponent-lt : (a b : ℕ) → 2 ^ a < 2 ^ b → a < b
exponent-lt a b h =
    elim (leb_tells b a) [ inl t ↦ let p = pow_mono t.1 in omega (arith, p) | inr f ↦ f.1 ]

height_from-room : (tries low n last : ℕ) → last ≡ low + tries → n ≤ 2 ^ last → n ≤ 2 ^ height_from tries low n
unfolding height_from
height_from-room zero low n last e h = let same : last ≡ low = omega arith in rw same at h
height_from-room (suc tries) low n last e h =
    elim (leb_tells n (2 ^ low)) [
      | inl t ↦ rw t.0 t.1
      | inr f ↦ rw f.0 (height_from-room tries (suc low) n last (omega arith) h)
    ]

height_from-least : (tries low n h : ℕ) → low ≤ h → n ≤ 2 ^ h → height_from tries low n ≤ h
unfolding height_from
height_from-least zero low n h above room = above
height_from-least (suc tries) low n h above room =
    elim (leb_tells n (2 ^ low)) [
      | inl t ↦ rw t.0 above
      | inr f ↦ rw f.0 (height_from-least tries (suc low) n h (exponent-lt low h (omega (arith, f.1))) room)
    ]

-- the height has room
pub height_of-room : (n : ℕ) → n ≤ 2 ^ height_of n
height_of-room n = let h = below_pow n in height_from-room n 0 n n (omega arith) (omega (arith, h))

-- no less height has room
pub height_of-least : (n h : ℕ) → n ≤ 2 ^ h → height_of n ≤ h
height_of-least n h room = height_from-least n 0 n h (omega arith) room

-- so it is the only such number
pub height_of-only : (n k : ℕ) → n ≤ 2 ^ k → ((h : ℕ) → n ≤ 2 ^ h → k ≤ h) → k ≡ height_of n
height_of-only n k room least =
    omega (arith, height_of-least n k room, least (height_of n) (height_of-room n))

-- half the leaves, rounded up, make a tree that is lower by one
pub height_of-half : (n m : ℕ) → 2 ≤ n → m ≡ (n + 1) / 2 → suc (height_of m) ≡ height_of n
height_of-half n m two e =
    let room = height_of-room m in height_of-only n (suc (height_of m)) (omega (arith, room)) least
  where
    least : (h : ℕ) → n ≤ 2 ^ h → suc (height_of m) ≤ h
    least zero p = absurd (omega arith)
    least (suc h) p = let q = height_of-least m h (omega arith) in omega (arith, q)
