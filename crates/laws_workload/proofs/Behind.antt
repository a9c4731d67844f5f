-- Entries behind others, from where those have come to.
use Rattle.std.proofs.Common.{◌≡◌, ◌∙◌, ℕ, not, ◌==◌, List, [], ◌∷◌, ◌++◌, Some, None, refl, sym, ap, subst, inl, inr}
use Rattle.std.proofs.lemmas.List.Elements.{filter-append}
use Rattle.ledger_model.specs.declared.block.Block.{Block}
use Rattle.ledger_model.specs.Damages.{Undamaged}
use Rattle.laws_machine.specs.Entries.{Entry, IsAmong, IsRunFrom, MayMake, MayUse, Opening, Reach, Unused, begun_at, comes, failed, reach_at, reached, sealed, used, wanted}
use Rattle.laws_machine.proofs.Entries.{reached_joined}
use Rattle.laws_history.specs.Seen.{IsRight, blocks_in, reach}
use Rattle.laws_history.proofs.Reaches.{reached_blocks, sealed_in}
use Rattle.laws_workload.specs.Joining.{OpensBehind}

-- ---- numbers and counts

last_same : (r s : Reach) (es : List Entry) → r.last ≡ s.last → (reached r es).last ≡ (reached s es).last
last_same r s [] e = e
last_same r s (begun_at place number since ∷ es) e =
    last_same (comes r (begun_at place number since)) (comes s (begun_at place number since)) es refl
last_same r s (sealed number block ∷ es) e = last_same (comes r (sealed number block)) (comes s (sealed number block)) es e
last_same r s (failed number count block ∷ es) e =
    last_same (comes r (failed number count block)) (comes s (failed number count block)) es e
last_same r s (wanted number block ∷ es) e = last_same (comes r (wanted number block)) (comes s (wanted number block)) es e

count_same : (r s : Reach) (es : List Entry) → r.count ≡ s.count → (reached r es).count ≡ (reached s es).count
count_same r s [] e = e
count_same r s (begun_at place number since ∷ es) e =
    count_same (comes r (begun_at place number since)) (comes s (begun_at place number since)) es e
count_same r s (sealed number block ∷ es) e = count_same (comes r (sealed number block)) (comes s (sealed number block)) es e
count_same r s (failed number count block ∷ es) e =
    count_same (comes r (failed number count block)) (comes s (failed number count block)) es refl
count_same r s (wanted number block ∷ es) e = count_same (comes r (wanted number block)) (comes s (wanted number block)) es e

-- ---- more unused numbers are in nobody's way

among_more : (u : Unused) (us more : List Unused) → IsAmong u us → IsAmong u (us ++ more)
among_more u [] more h = absurd h
among_more u (x ∷ us) more (inl e) = inl e
among_more u (x ∷ us) more (inr h) = inr (among_more u us more h)

-- with these numbers besides
abbrev with_more : Reach → List Unused → Reach
with_more r more = record r { unused = r.unused ++ more }

use_more : (r : Reach) (more : List Unused) (number : ℕ) → MayUse r number → MayUse (with_more r more) number
use_more r more number h = record { place = h.place; unused = among_more _ r.unused more h.unused }

make_more : (r : Reach) (more : List Unused) (number : ℕ) (block : Block) → MayMake r number block
    → MayMake (with_more r more) number block
make_more r more number block h = record {
  place = h.place;
  unused = among_more _ r.unused more h.unused;
  time = h.time;
  asked = h.asked;
  made = h.made;
}

used_more : (number : ℕ) (us more : List Unused) → used number us ++ used number more ≡ used number (us ++ more)
used_more number us more = sym (filter-append (λ (u : Unused). not (u.number == number)) us more)

abbrev still : (r : Reach) → List Unused → Reach
still r us = record r { unused = us }

run_more : (r : Reach) (more : List Unused) (es : List Entry) → IsRunFrom r es → IsRunFrom (with_more r more) es
run_more r more [] h = tt
run_more r more (begun_at place number since ∷ es) h = (h.0, run_more (comes r (begun_at place number since)) more es h.1)
run_more r more (sealed number block ∷ es) h = (
  make_more r more number block h.0,
  subst (λ us. IsRunFrom (still (comes r (sealed number block)) us) es) (used_more number r.unused more)
      (run_more (comes r (sealed number block)) (used number more) es h.1),
)
run_more r more (failed number count block ∷ es) h = (
  (make_more r more number block h.0.0, h.0.1),
  subst (λ us. IsRunFrom (still (comes r (failed number count block)) us) es) (used_more number r.unused more)
      (run_more (comes r (failed number count block)) (used number more) es h.1),
)
run_more r more (wanted number None ∷ es) h = (
  use_more r more number h.0,
  subst (λ us. IsRunFrom (still (comes r (wanted number None)) us) es) (used_more number r.unused more)
      (run_more (comes r (wanted number None)) (used number more) es h.1),
)
run_more r more (wanted number (Some block) ∷ es) h = (
  make_more r more number block h.0,
  subst (λ us. IsRunFrom (still (comes r (wanted number (Some block))) us) es) (used_more number r.unused more)
      (run_more (comes r (wanted number (Some block))) (used number more) es h.1),
)

run_joined : (r : Reach) (xs ys : List Entry) → IsRunFrom r xs → IsRunFrom (reached r xs) ys → IsRunFrom r (xs ++ ys)
run_joined r [] ys h k = k
run_joined r (x ∷ xs) ys h k = (h.0, run_joined (comes r x) xs ys h.1 k)

-- ---- behind the entries

module _ (o behind : Opening) (es : List Entry) (b : OpensBehind o es behind) where
  pub blocks_on : (more : List Entry) → blocks_in o (es ++ more) ≡ blocks_in behind more
  blocks_on more =
      ap (λ (r : Reach). r.blocks) (reached_joined (reach_at o) es more) ∙ reached_blocks (reach o es) more
      ∙ ap (λ (bs : List Block). bs ++ sealed_in more) (sym b.blocks) ∙ sym (reached_blocks (reach_at behind) more)

  pub last_on : (more : List Entry) → (reach o (es ++ more)).last ≡ (reach behind more).last
  last_on more =
      ap (λ (r : Reach). r.last) (reached_joined (reach_at o) es more)
      ∙ last_same (reach o es) (reach_at behind) more (sym b.last)

  pub count_on : (more : List Entry) → (reach o (es ++ more)).count ≡ (reach behind more).count
  count_on more =
      ap (λ (r : Reach). r.count) (reached_joined (reach_at o) es more)
      ∙ count_same (reach o es) (reach_at behind) more (sym b.count)

  -- but for the unused numbers it is where the entries have come to
  opens : reach_at behind ≡ still (reach o es) []
  opens = λ i. record {
    mask = (b.mask ∙ sym (masked (reach_at o) es)) i;
    blocks = b.blocks i;
    last = b.last i;
    count = b.count i;
    unused = [];
  }
    where
      masked : (r : Reach) (es : List Entry) → (reached r es).mask ≡ r.mask
      masked r [] = refl
      masked r (begun_at place number since ∷ es) = masked (comes r (begun_at place number since)) es
      masked r (sealed number block ∷ es) = masked (comes r (sealed number block)) es
      masked r (failed number count block ∷ es) = masked (comes r (failed number count block)) es
      masked r (wanted number block ∷ es) = masked (comes r (wanted number block)) es

  pub run_on : (more : List Entry) → IsRunFrom (reach_at o) es → IsRunFrom (reach_at behind) more
      → IsRunFrom (reach_at o) (es ++ more)
  run_on more h k =
      run_joined (reach_at o) es more h
      (run_more (still (reach o es) []) (reach o es).unused more (subst (λ (r : Reach). IsRunFrom r more) opens k))

  pub right_on : (more : List Entry) → IsRight o es → IsRight behind more → IsRight o (es ++ more)
  right_on more h k = record {
    run = run_on more h.run k.run;
    undamaged = subst Undamaged (sym (blocks_on more)) k.undamaged;
  }
