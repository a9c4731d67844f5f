-- Line feeds in bytes: the first one splits them in one way.
use Rattle.std.proofs.Common.{◌≡◌, ◌==◌, ℕ, true, false, not, List, [], ◌∷◌, ◌++◌, refl, sym, eq-eqb}
use Rattle.std.proofs.lemmas.Bool.{and_parts, not-true}
use Rattle.ledger_model.specs.Recovered.{has_no_line_feed}

abbrev pub NoFeed : List ℕ → Type 0
NoFeed text = has_no_line_feed text ≡ true

-- a line feed stands behind this text
pub stands_in : (text rest : List ℕ) → NoFeed (text ++ 10 ∷ rest) → ⊥
stands_in [] rest h = cc
stands_in (b ∷ text) rest h = stands_in text rest (and_parts (not (b == 10)) _ h).1

is_no_feed : (b : ℕ) (text : List ℕ) → 10 ≡ b → NoFeed (b ∷ text) → ⊥
is_no_feed b text e h =
    let no : (b == 10) ≡ false = not-true (b == 10) (and_parts (not (b == 10)) _ h).0 in
    let yes : (b == 10) ≡ true = eq-eqb b 10 (sym e) in
    cc

head : (b c : ℕ) (xs ys : List ℕ) → b ∷ xs ≡ c ∷ ys → b ≡ c
head b c xs ys e = cc

tail : (b c : ℕ) (xs ys : List ℕ) → b ∷ xs ≡ c ∷ ys → xs ≡ ys
tail b c xs ys e = cc

together : (b c : ℕ) (xs ys : List ℕ) → b ≡ c → xs ≡ ys → b ∷ xs ≡ c ∷ ys
together b c xs ys e h = cc

pub first_line : (xs ys u v : List ℕ) → NoFeed xs → NoFeed ys → xs ++ 10 ∷ u ≡ ys ++ 10 ∷ v → (xs ≡ ys) × (u ≡ v)
first_line [] [] u v h k e = (refl, tail 10 10 u v e)
first_line [] (y ∷ ys) u v h k e = absurd (is_no_feed y ys (head 10 y u (ys ++ 10 ∷ v) e) k)
first_line (x ∷ xs) [] u v h k e = absurd (is_no_feed x xs (sym (head x 10 (xs ++ 10 ∷ u) v e)) h)
first_line (x ∷ xs) (y ∷ ys) u v h k e =
    let more = first_line xs ys u v (and_parts (not (x == 10)) _ h).1 (and_parts (not (y == 10)) _ k).1 (tail x y (xs ++ 10 ∷ u) (ys ++ 10 ∷ v) e) in
    (together x y xs ys (head x y (xs ++ 10 ∷ u) (ys ++ 10 ∷ v) e) more.0, more.1)
