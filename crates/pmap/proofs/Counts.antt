-- A map's number of pairs beside its rows, and a pair that is put into it.
use Rattle.std.proofs.Common.{◌≡◌, ℕ, ◌+◌, ◌-◌, cond, Bool, true, List, [], ◌∷◌, length, Some, refl, sym, ap, ◌∙◌, subst, arith}
use Rattle.std.specs.Option.{is_some}
use Rattle.std.specs.BTreeMap.{insert_entry}
use Rattle.std.specs.declared.cmp.Ordering.{Ordering}
use Rattle.std.specs.declared.cmp.Ordering.TheVariants.{Equal}
use Rattle.std.specs.Cmp.{IsTotalOrder}
use Rattle.pmap.specs.Pairs.{IsPut, cut_at, with_put}
use Rattle.pmap.specs.Levels.{AreRowsOf, IsCounted}
use Rattle.pmap.proofs.Cuts.{inserted, length_parts, length_put}

pub put_is : {K V : Type 0} (key k : K) (v : V) (row : List (K × V)) → row ≡ (k, v) ∷ [] → k ≡ key → IsPut key row
put_is key k v row e same = subst (IsPut key) (sym e) (same, refl)

module _ {K V : Type 0} (order : K → K → Ordering) (total : IsTotalOrder order) (same : (a b : K) → order a b ≡ Equal → a ≡ b) where
  pub counted_rows : (key : K) (put pairs : List (K × V)) (rows : List (K × List (K × List (K × V)))) (len : ℕ)
      → AreRowsOf order (with_put order key put pairs) rows
      → len + cond (is_some (cut_at order key pairs).1) 1 0 ≡ length pairs + length put → IsCounted order len (Some rows)
  counted_rows key put pairs rows len r e =
      record { counted = omega (arith, ap length r.holds, length_put order total same key put pairs, e); levels = r.levels }

  pub one_less : (key : K) (pairs : List (K × V)) (len : ℕ) → len ≡ length pairs → is_some (cut_at order key pairs).1 ≡ true
      → (len - 1) + cond (is_some (cut_at order key pairs).1) 1 0 ≡ length pairs
  one_less key pairs len e h =
      let one : cond {A = ℕ} (is_some (cut_at order key pairs).1) 1 0 ≡ 1 = ap (λ (b : Bool). cond {A = ℕ} b 1 0) h in
      omega (arith, one, length_parts order total same key pairs)

  pub inserted_put : (lent k key : K) (v value : V) (row pairs : List (K × V)) → row ≡ (k, v) ∷ [] → k ≡ lent → lent ≡ key → v ≡ value
      → with_put order lent row pairs ≡ insert_entry order pairs key value
  inserted_put lent k key v value row pairs e own is same_value =
      (λ i. with_put order (is i) (e i) pairs) ∙ (λ i. with_put order key (((own ∙ is) i, same_value i) ∷ []) pairs) ∙ sym (inserted order total same key value pairs)
