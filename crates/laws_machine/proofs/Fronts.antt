-- Blocks of which more stand behind: the front part is undamaged, of the same strand and without the same numbers.
-- And what the greatest number of some blocks tells.
use Rattle.std.proofs.Common.{◌≡◌, ◌≤◌, ◌<◌, ℕ, ◌+◌, ◌*◌, ◌^◌, List, [], ◌∷◌, ◌++◌, take, drop, zero, suc, sym, subst, arith}
use Rattle.std.proofs.lemmas.Bool.{ne_eqb}
use Rattle.std.proofs.lemmas.List.{take-append-drop}
use Rattle.ql_types.specs.Ids.{raw_id, transaction_in}
use Rattle.ql_types.proofs.Masks.{unmasked}
use Rattle.ledger_model.specs.declared.block.Block.{Block}
use Rattle.ledger_model.specs.Damages.{Undamaged}
use Rattle.laws_footprint.specs.Journalled as framed
use Rattle.laws_footprint.specs.Own.{StandsInNone}
use Rattle.laws_validity.specs.Before.{HasStrand, IsUnused}
use Rattle.laws_validity.proofs.Journals.{undamaged_front}
use Rattle.laws_validity.proofs.Lists.{all_front}
use Rattle.laws_machine.specs.Machine.{greatest}

-- ---- fronts

pub front_undamaged : (since : ℕ) (blocks : List Block) → Undamaged blocks → Undamaged (take since blocks)
front_undamaged since blocks u =
    undamaged_front (take since blocks) (drop since blocks) []
    (subst (λ bs. Undamaged bs) (sym (take-append-drop since blocks)) u)

pub front_strand : (mask since : ℕ) (blocks : List Block) → HasStrand mask blocks → HasStrand mask (take since blocks)
front_strand mask zero blocks h = tt
front_strand mask (suc n) [] h = tt
front_strand mask (suc n) (b ∷ bs) h = h

pub front_unused : (mask number since : ℕ) (blocks : List Block) → IsUnused mask number blocks
    → IsUnused mask number (take since blocks)
front_unused mask number since blocks h =
    all_front _ (take since blocks) (drop since blocks)
    (subst (λ bs. IsUnused mask number bs) (sym (take-append-drop since blocks)) h)

-- ---- the same in the words of the laws on what later blocks may change

pub strand_framed : (mask : ℕ) (blocks : List Block) → HasStrand mask blocks → framed.HasStrand mask blocks
strand_framed mask [] h = tt
strand_framed mask (b ∷ bs) h = h

pub stands_in_none : (mask number : ℕ) (blocks : List Block) → IsUnused mask number blocks
    → StandsInNone mask number blocks
stands_in_none mask number [] h = tt
stands_in_none mask number (b ∷ bs) h =
    (ne_eqb (transaction_in mask b.header.tx.raw) number h.0, stands_in_none mask number bs h.1)

-- ---- numbers

pub transaction_of : (mask n : ℕ) → transaction_in mask (raw_id mask n 0) ≡ n
transaction_of mask n = rw (unmasked (n * 2 ^ 24 + 0) mask) (omega arith)

pub past_greatest : (mask number : ℕ) (blocks : List Block) → greatest mask blocks < number
    → IsUnused mask number blocks
past_greatest mask number [] low = tt
past_greatest mask number (b ∷ bs) low = (
  λ e. let own : transaction_in mask b.header.tx.raw ≡ number = e in omega (arith, own, low),
  past_greatest mask number bs (omega (arith, low)),
)

pub greatest_push : (mask last : ℕ) (blocks : List Block) (b : Block) → greatest mask blocks ≤ last
    → transaction_in mask b.header.tx.raw ≤ last → greatest mask (blocks ++ b ∷ []) ≤ last
greatest_push mask last [] b h k = omega (arith, k)
greatest_push mask last (c ∷ cs) b h k =
    let rest = greatest_push mask last cs b (omega (arith, h)) k in
    omega (arith, h, rest)
