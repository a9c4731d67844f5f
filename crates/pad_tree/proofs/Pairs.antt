-- The hash of a pair forgets which of the two came first.
use Rattle.std.proofs.Common.{◌≡◌, ◌∙◌, ℕ, List, [], ◌∷◌, ◌++◌, reverse, arith, refl, sym, ap}
use Rattle.std.proofs.lemmas.List.{reverse-reverse}
use Rattle.std.proofs.lemmas.Bool.Decides.{nat_tests}
use Rattle.std.specs.Prelude.{if◌then◌else◌}
use Rattle.std.specs.Ordering.{ordering_reverse, ordering_then, is_lt}
use Rattle.std.specs.declared.cmp.Ordering.{Ordering}
use Rattle.std.specs.declared.cmp.Ordering.TheVariants.{Less, Equal, Greater}
use Rattle.std.specs.FinMap.{IsAntisymmetric, slice_cmp-IsAntisymmetric}
use Rattle.std.specs.Cmp.{then_flip}
use Rattle.std.specs.Cmp.Lexicographic.{slice_cmp}
use Rattle.sha2.specs.Sha256.{sha256}
use Rattle.ql_types.specs.declared.Hash32.{Hash32}
use Rattle.hash_model.specs.PairHash.{signed_cmp, hash_cmp, dot32}

signed_cmp-flip : (x y : ℕ) → signed_cmp x y ≡ ordering_reverse (signed_cmp y x)
signed_cmp-flip x y = grind (arith, nat_tests)

signed_cmp-Equal : IsAntisymmetric signed_cmp
signed_cmp-Equal x y e = grind (arith, nat_tests)

slice_cmp-flip : (xs ys : List ℕ) → slice_cmp signed_cmp xs ys ≡ ordering_reverse (slice_cmp signed_cmp ys xs)
slice_cmp-flip [] [] = refl
slice_cmp-flip [] (y ∷ ys) = refl
slice_cmp-flip (x ∷ xs) [] = refl
slice_cmp-flip (x ∷ xs) (y ∷ ys) =
    ap (λ o. ordering_then o (slice_cmp signed_cmp xs ys)) (signed_cmp-flip x y)
    ∙ ap (λ o. ordering_then (ordering_reverse (signed_cmp y x)) o) (slice_cmp-flip xs ys)
    ∙ then_flip (signed_cmp y x) (slice_cmp signed_cmp ys xs)

hash_cmp-Equal : (a b : List ℕ) → hash_cmp a b ≡ Equal → a ≡ b
hash_cmp-Equal a b e =
    sym (reverse-reverse a) ∙ ap reverse (slice_cmp-IsAntisymmetric signed_cmp-Equal (reverse a) (reverse b) e) ∙ reverse-reverse b

either_order : (o r : Ordering) (xs ys : List ℕ) → o ≡ ordering_reverse r → (o ≡ Equal → xs ≡ ys)
    → (if is_lt o then xs ++ ys else ys ++ xs) ≡ (if is_lt r then ys ++ xs else xs ++ ys)
either_order Less Less xs ys e same = cc
either_order Less Equal xs ys e same = cc
either_order Less Greater xs ys e same = refl
either_order Equal Less xs ys e same = cc
either_order Equal Equal xs ys e same = let q = same refl in cc
either_order Equal Greater xs ys e same = cc
either_order Greater Less xs ys e same = refl
either_order Greater Equal xs ys e same = cc
either_order Greater Greater xs ys e same = cc

pub dot32-comm : (a b : Hash32) → dot32 a b ≡ dot32 b a
unfolding dot32
dot32-comm a b =
    ap (λ (message : List ℕ). let hash : Hash32 = record { bytes = sha256 message } in hash)
    (either_order (hash_cmp a.bytes b.bytes) (hash_cmp b.bytes a.bytes) a.bytes b.bytes
    (slice_cmp-flip (reverse a.bytes) (reverse b.bytes)) (hash_cmp-Equal a.bytes b.bytes))
