-- The tail behind one entry more.
use Rattle.std.proofs.Common.{◌≡◌, ℕ, ◌≤◌, ◌<◌, List, [], ◌∷◌, ◌++◌, refl, sym, ap, ◌∙◌, subst, arith, length, take}
use Rattle.laws_history.specs.Standings.{Standing}
use Rattle.laws_machine.specs.Entries.{Entry, MayCome, Opening, Reach, comes, reach_at}
use Rattle.laws_machine.proofs.Entries.{run_joined}
use Rattle.laws_history.specs.Seen.{blocks_in, reach}
use Rattle.laws_history.proofs.Reaches.{comes_behind, reached_mask}
use Rattle.laws_validity.specs.Before.{IsUnused}
use Rattle.ledger_model.specs.State.{state}
use Rattle.txn_core.specs.Opened.{Opened}
use Rattle.ledger_core.specs.Committing.{IsOpenOn}
use Rattle.ledger_shared.specs.Behind.{IsBehind}
use Rattle.ledger_shared.specs.Calls.{IsOpen}
use Rattle.ledger_shared.proofs.Numbers.{opened_between, past_greatest, unmade}

-- what the entry leaves is where the tail is now
pub record Follows (r : Reach) (s : Standing) (count : ℕ) : Type 0 where
  pub mask : s.mask ≡ r.mask
  pub blocks : s.blocks ≡ r.blocks
  pub last : s.last ≡ r.last
  pub counts : r.count ≡ count

module _ (o : Opening) (opened : Standing) where
  pub behind_push : (s now : Standing) (count later : ℕ) (es : List Entry) (e : Entry) → IsBehind o opened s count es
      → MayCome (reach o es) e → Follows (comes (reach o es) e) now later → IsBehind o opened now later (es ++ e ∷ [])
  behind_push s now count later es e h may f =
      let is : reach o (es ++ e ∷ []) ≡ comes (reach o es) e = comes_behind (reach_at o) es e in
      record {
        opening = h.opening;
        of_mask = h.of_mask;
        of_blocks = h.of_blocks;
        of_last = h.of_last;
        run = run_joined (reach_at o) es (e ∷ []) h.run (may, tt);
        mask = f.mask ∙ ap (λ (r : Reach). r.mask) (sym is) ∙ reached_mask (reach_at o) (es ++ e ∷ []);
        blocks = f.blocks ∙ ap (λ (r : Reach). r.blocks) (sym is);
        last = f.last ∙ ap (λ (r : Reach). r.last) (sym is);
        counts = ap (λ (r : Reach). r.count) is ∙ f.counts;
      }

  -- nothing was added, and the tail stands where it stood
  pub behind_same : (s now : Standing) (count later : ℕ) (es : List Entry) → IsBehind o opened s count es → now ≡ s
      → later ≡ count → IsBehind o opened now later es
  behind_same s now count later es h same fine = record {
    opening = h.opening;
    of_mask = h.of_mask;
    of_blocks = h.of_blocks;
    of_last = h.of_last;
    run = h.run;
    mask = ap (λ (x : Standing). x.mask) same ∙ h.mask;
    blocks = ap (λ (x : Standing). x.blocks) same ∙ h.blocks;
    last = ap (λ (x : Standing). x.last) same ∙ h.last;
    counts = h.counts ∙ sym fine;
  }

  -- a transaction that is open behind the entries is open on the tail
  pub open_on : (s : Standing) (count : ℕ) (es : List Entry) (t : Opened) → IsBehind o opened s count es → IsOpen o es t
      → IsOpenOn s t
  open_on s count es t h k =
      let between = opened_between (reach_at o) es k.at t.begun.number _ h.run k.opened refl in
      let low : o.last < t.begun.number = between.0 in
      let high : t.begun.number ≤ (reach o es).last = between.1 in
      let greatest_low = h.opening.drawn in
      let last_is = h.of_last in
      let old : IsUnused opened.mask t.begun.number opened.blocks =
      past_greatest opened.mask t.begun.number opened.blocks (omega (arith, greatest_low, last_is, low)) in
      let here : IsUnused o.mask t.begun.number o.blocks =
      subst (λ bs. IsUnused o.mask t.begun.number bs) h.of_blocks (subst (λ m. IsUnused m t.begun.number opened.blocks) h.of_mask old) in
      let new : IsUnused o.mask t.begun.number (blocks_in o es) = unmade (reach_at o) es t.begun.number h.run k.unused here in
      record {
        mask = k.mask ∙ sym h.mask;
        first = omega (arith, low);
        drawn = let is = h.last in omega (arith, high, is);
        unused = subst (λ m. IsUnused m t.begun.number s.blocks) (sym h.mask)
            (subst (λ bs. IsUnused o.mask t.begun.number bs) (sym h.blocks) new);
        stood = let low = k.since in let is = ap length h.blocks in omega (arith, low, is);
        base = k.base ∙ ap (λ bs. state (take t.since bs)) (sym h.blocks);
        asked = k.asked;
        runs = k.runs;
      }
