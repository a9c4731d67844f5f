-- What is left of pairs when a key's is taken out, or when some are kept by a test.
use Rattle.std.proofs.Common.{◌≡◌, Bool, true, false, List, [], ◌∷◌, ◌++◌, Option, None, Some, refl, sym, ap, ◌∙◌}
use Rattle.std.specs.List.{filter}
use Rattle.std.specs.Option.{is_some}
use Rattle.std.specs.declared.cmp.Ordering.{Ordering}
use Rattle.std.specs.declared.cmp.Ordering.TheVariants.{Equal}
use Rattle.std.specs.Cmp.{IsTotalOrder}
use Rattle.std.specs.Map.{lookup, remove_entry}
use Rattle.std.specs.BTreeMap.{is_at}
use Rattle.std.proofs.lemmas.List.{append-nil}
use Rattle.pmap.specs.Pairs.{IsBelow, Ascends, cut_at, with_put}
use Rattle.pmap.proofs.Cuts.{above_front, ahead, ascends_with_put, behind, below_back, found, goes_on, pair_of, removed, whole}

nothing : {X : Type 0} (here : Option X) → is_some here ≡ false → here ≡ None
nothing None h = refl
nothing (Some x) h = absurd (cc)

module _ {K X : Type 0} (order : K → K → Ordering) (total : IsTotalOrder order) (same : (a b : K) → order a b ≡ Equal → a ≡ b) where
  pub unchanged : (key : K) (pairs : List (K × X)) → Ascends order pairs → is_some (cut_at order key pairs).1 ≡ false
      → pairs ≡ remove_entry (is_at (order key)) pairs
  unchanged key pairs a h =
      let cut = cut_at order key pairs in
      whole order total same key pairs
      ∙ ap (λ (here : Option X). (cut.0 ++ pair_of order total same key here) ++ cut.2) (nothing cut.1 h)
      ∙ sym (removed order total same key pairs a)

  pub gone : (key : K) (pairs : List (K × X)) → Ascends order pairs → lookup (is_at (order key)) (remove_entry (is_at (order key)) pairs) ≡ None
  gone key pairs a =
      let cut = cut_at order key pairs in
      let is : with_put order key [] pairs ≡ cut.0 ++ cut.2 = ap (λ (front : List (K × X)). front ++ cut.2) (append-nil cut.0) in
      ap (lookup (is_at (order key))) (removed order total same key pairs a)
      ∙ found order total same key (with_put order key [] pairs) (ascends_with_put order total same key [] pairs tt a)
      ∙ ap (λ (rest : List (K × X)). (cut_at order key rest).1) is
      ∙ ap (λ (parts : List (K × X) × Option X × List (K × X)). parts.1) (behind order total same key cut.0 cut.2 (above_front order total same key pairs))
      ∙ ap (λ (parts : List (K × X) × Option X × List (K × X)). parts.1)
      (ahead order total same key [] cut.2 (goes_on order total same key cut.2 (below_back order total same key pairs a)))

  -- a test keeps pairs in their order
  below_by : (test : K × X → Bool) (k : K) (pair : K × X) (pairs : List (K × X)) (b : Bool) → test pair ≡ b → IsBelow order k (pair ∷ pairs)
      → IsBelow order k (filter test pairs) → IsBelow order k (filter test (pair ∷ pairs))
  below_by test k pair pairs true e h ih = rw e (h.0, ih)
  below_by test k pair pairs false e h ih = rw e ih

  below_kept : (test : K × X → Bool) (k : K) (pairs : List (K × X)) → IsBelow order k pairs → IsBelow order k (filter test pairs)
  below_kept test k [] h = tt
  below_kept test k (pair ∷ pairs) h = below_by test k pair pairs (test pair) refl h (below_kept test k pairs h.1)

  ascends_by : (test : K × X → Bool) (pair : K × X) (pairs : List (K × X)) (b : Bool) → test pair ≡ b → Ascends order (pair ∷ pairs)
      → Ascends order (filter test pairs) → Ascends order (filter test (pair ∷ pairs))
  ascends_by test pair pairs true e h ih = rw e (below_kept test pair.0 pairs h.0, ih)
  ascends_by test pair pairs false e h ih = rw e ih

  pub ascends_kept : (test : K × X → Bool) (pairs : List (K × X)) → Ascends order pairs → Ascends order (filter test pairs)
  ascends_kept test [] h = tt
  ascends_kept test (pair ∷ pairs) h = ascends_by test pair pairs (test pair) refl h (ascends_kept test pairs h.1)
