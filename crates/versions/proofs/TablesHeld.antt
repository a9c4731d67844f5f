-- The places of each table's revisions, with one more.
use Rattle.std.proofs.Common.{◌≡◌, ℕ, ◌+◌, ◌==◌, Bool, true, false, cond, List, [], ◌∷◌, ◌++◌, length, Option, Some, None, refl, sym, ◌∙◌, ap, arith, nat_cmp, is_eq, inl, inr}
use Rattle.std.specs.Prelude.{if◌then◌else◌}
use Rattle.std.specs.Option.{unwrap_or}
use Rattle.std.specs.Map.{lookup}
use Rattle.std.specs.BTreeMap.{insert_entry, is_at}
use Rattle.std.proofs.lemmas.Bool.{eqb-true}
use Rattle.std.proofs.lemmas.Bool.Decides.{eqb_tells}
use Rattle.std.proofs.lemmas.List.{append-nil}
use Rattle.ql_types.specs.declared.TableId.{TableId}
use Rattle.pmap.specs.KeyOrder as order
use Rattle.pmap.specs.KeyOrder.{tables_total}
use Rattle.pmap.proofs.Lookups.{lookup_put}
use Rattle.versions.specs.declared.recorded.Recorded.{Recorded}
use Rattle.versions.specs.Live.{is_same_table}
use Rattle.versions.specs.ByTable.{AreByTable, IsEntered, by_table, had_of}
use Rattle.versions.specs.Filing.{places_from}
use Rattle.versions.proofs.Along.{places_end}
use Rattle.versions.proofs.Places.{tied}

one_table : (a b : TableId) → a.raw ≡ b.raw → a ≡ b
one_table a b e = let make : ℕ → TableId = λ n. record { raw = n } in ap make e

-- none or the same table is one
pub same_table : (a b : Option TableId) → is_same_table a b ≡ true → a ≡ b
same_table None None h = refl
same_table None (Some b) h = cc
same_table (Some a) None h = cc
same_table (Some a) (Some b) h = ap (λ (id : TableId). Some id) (one_table a b (eqb-true a.raw b.raw h))

pulled : (b : Bool) (places : List ℕ) (o : Option (List ℕ)) → unwrap_or (cond b (Some places) o) [] ≡ cond b places (unwrap_or o [])
pulled true places o = refl
pulled false places o = refl

had_put : (m : List (TableId × List ℕ)) (t : TableId) (places : List ℕ) (q : TableId)
    → had_of (insert_entry by_table m t places) q ≡ cond (t.raw == q.raw) places (had_of m q)
had_put m t places q =
    ap (λ (o : Option (List ℕ)). unwrap_or o []) (lookup_put by_table tables_total order.same_table m t places q)
    ∙ pulled (is_eq (nat_cmp q.raw t.raw)) places (lookup (is_at (by_table q)) m)
    ∙ ap (λ (b : Bool). cond b places (had_of m q)) (tied q.raw t.raw)

pub entered : (m n : List (TableId × List ℕ)) (key table : TableId) (places : List ℕ) (place : ℕ) → n ≡ insert_entry by_table m key places
    → key ≡ table → places ≡ had_of m table ++ place ∷ [] → IsEntered m table place n
entered m n key table places place new is has = λ q.
    ap (λ (pairs : List (TableId × List ℕ)). had_of pairs q) new ∙ had_put m key places q
    ∙ ap (λ (id : TableId). cond (id.raw == q.raw) places (had_of m q)) is ∙ by q
  where
    by : (q : TableId) → cond (table.raw == q.raw) places (had_of m q) ≡ (if table.raw == q.raw then had_of m q ++ place ∷ [] else had_of m q)
    by q = elim (eqb_tells table.raw q.raw) [
      | inl t ↦ let same : table ≡ q = one_table table q t.1 in rw t.0 (has ∙ ap (λ (id : TableId). had_of m id ++ place ∷ []) same)
      | inr f ↦ rw f.0 refl
    ]

more_by : (b : Bool) (had own : List ℕ) (n : ℕ) → had ≡ own → (if b then had ++ n ∷ [] else had) ≡ own ++ (if b then n ∷ [] else [])
more_by true had own n e = ap (λ (places : List ℕ). places ++ n ∷ []) e
more_by false had own n e = e ∙ sym (append-nil own)

pub tables_more : (m n : List (TableId × List ℕ)) (rs : List Recorded) (r : Recorded) → AreByTable m rs → IsEntered m r.table (length rs) n
    → AreByTable n (rs ++ r ∷ [])
tables_more m n rs r were new = λ q.
    let test : Recorded → Bool = λ x. x.table.raw == q.raw in
    let at : length rs ≡ 0 + length rs = omega arith in
    new q ∙ more_by (test r) (had_of m q) (places_from test 0 rs) (length rs) (were q)
    ∙ ap (λ (k : ℕ). places_from test 0 rs ++ (if test r then k ∷ [] else [])) at ∙ sym (places_end test rs 0 r)
