-- What is hashed for a pair determines the pair, but not which came first.
use Rattle.std.proofs.Common.{◌≡◌, ◌∙◌, inl, inr, ℕ, Bool, true, false, if◌then◌else◌, List, [], ◌∷◌, ◌++◌, length, length-append, refl, sym, ap, arith}
use Rattle.sha2.specs.Sha256.{sha256}
use Rattle.ql_types.specs.declared.Hash32.{Hash32}
use Rattle.hash_model.specs.PairHash.{comes_before, dot32}
use Rattle.tree_descent.specs.Pairs.{IsLong, IsOnePair, PairFormsDeterminePairs, pair_form}

head_of : List ℕ → ℕ
head_of [] = 0
head_of (x ∷ xs) = x

tail_of : List ℕ → List ℕ
tail_of [] = []
tail_of (x ∷ xs) = xs

-- beginnings of one length are determined
split : (xs ys us vs : List ℕ) → length xs ≡ length us → xs ++ ys ≡ us ++ vs → (xs ≡ us) × (ys ≡ vs)
unfolding head_of tail_of
split [] ys [] vs l e = (refl, e)
split [] ys (u ∷ us) vs l e = absurd (omega arith)
split (x ∷ xs) ys [] vs l e = absurd (omega arith)
split (x ∷ xs) ys (u ∷ us) vs l e =
    let h : x ≡ u = ap head_of e in
    let rest = split xs ys us vs (omega arith) (ap tail_of e) in
    ((λ i. h i ∷ rest.0 i), rest.1)

one_hash : (a b : Hash32) → a.bytes ≡ b.bytes → a ≡ b
one_hash a b e = λ i. record { bytes = e i }

by_order :
    (a b c d : Hash32) → IsLong a → IsLong b → IsLong c → IsLong d → (p q : Bool)
    → (if p then a.bytes ++ b.bytes else b.bytes ++ a.bytes) ≡ (if q then c.bytes ++ d.bytes else d.bytes ++ c.bytes) → IsOnePair a b c d
by_order a b c d la lb lc ld true true e =
    let both = split a.bytes b.bytes c.bytes d.bytes (la ∙ sym lc) e in inl (one_hash a c both.0, one_hash b d both.1)
by_order a b c d la lb lc ld true false e =
    let both = split a.bytes b.bytes d.bytes c.bytes (la ∙ sym ld) e in inr (one_hash a d both.0, one_hash b c both.1)
by_order a b c d la lb lc ld false true e =
    let both = split b.bytes a.bytes c.bytes d.bytes (lb ∙ sym lc) e in inr (one_hash a d both.1, one_hash b c both.0)
by_order a b c d la lb lc ld false false e =
    let both = split b.bytes a.bytes d.bytes c.bytes (lb ∙ sym ld) e in inl (one_hash a c both.1, one_hash b d both.0)

pub pair_forms_determine_pairs : PairFormsDeterminePairs
pair_forms_determine_pairs a b c d la lb lc ld e =
    by_order a b c d la lb lc ld (comes_before a.bytes b.bytes) (comes_before c.bytes d.bytes) e

-- the hash of a pair is that of its bytes
pub pair_hash-is : (a b : Hash32) → (dot32 a b).bytes ≡ sha256 (pair_form a b)
unfolding dot32
pair_hash-is a b = refl

-- pairs of one hash have bytes of one SHA-256
pub one_sum : (a b c d : Hash32) → dot32 a b ≡ dot32 c d → sha256 (pair_form a b) ≡ sha256 (pair_form c d)
one_sum a b c d e = sym (pair_hash-is a b) ∙ ap (λ (h : Hash32). h.bytes) e ∙ pair_hash-is c d

long_by : (xs ys : List ℕ) → length xs ≡ 32 → length ys ≡ 32 → (b : Bool) → length (if b then xs ++ ys else ys ++ xs) ≡ 64
long_by xs ys lx ly true = length-append xs ys ∙ omega (arith, lx, ly)
long_by xs ys lx ly false = length-append ys xs ∙ omega (arith, lx, ly)

-- the hashes of a pair are 64 bytes
pub length-pair_form : (a b : Hash32) → IsLong a → IsLong b → length (pair_form a b) ≡ 64
length-pair_form a b la lb = long_by a.bytes b.bytes la lb (comes_before a.bytes b.bytes)
