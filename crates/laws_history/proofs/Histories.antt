-- A history with one block more is a history.
use Rattle.std.proofs.Common.{◌≡◌, ℕ, List, [], ◌∷◌, ◌++◌, length, take, drop, refl, sym, subst, append_assoc, append-nil}
use Rattle.std.specs.List.{AllByRecursion}
use Rattle.ledger_model.specs.declared.block.Block.{Block}
use Rattle.ledger_model.specs.State.{State, state, state_from, after}
use Rattle.ledger_model.specs.Legal.{Means, LegalFrom, Legal}
use Rattle.laws_history.specs.Records.{mask_of, Times, HasTime, HaveTimes, Before, InSessionOrder}
use Rattle.laws_validity.proofs.Lists.{all_append}
use Rattle.laws_history.proofs.Lists.{whole, begins_on, drop_on}

-- ---- what stands behind the last block

pub state_from-end : (s : State) (bs : List Block) (b : Block) → state_from s (bs ++ b ∷ []) ≡ after (state_from s bs) b
state_from-end s [] b = refl
state_from-end s (c ∷ bs) b = state_from-end (after s c) bs b

-- the strand stays that of the mask
pub strand_more : (mask : ℕ) (bs : List Block) (b : Block) → mask_of mask bs ≡ mask → b.header.address.strand.raw ≡ mask
    → mask_of mask (bs ++ b ∷ []) ≡ mask
strand_more mask [] b is own = own
strand_more mask (c ∷ cs) b is own = is

-- ---- each block is what its transaction means

module _ (mask : ℕ) where
  -- the blocks behind these ones
  abbrev Behind : List Block → List Block → Type 0
  Behind front bs = LegalFrom mask (state front) bs

  onward : (front : List Block) (c : Block) (bs : List Block) → LegalFrom mask (after (state front) c) bs
      → Behind (front ++ c ∷ []) bs
  onward front c bs legal = subst (λ (x : State). LegalFrom mask x bs) (sym (state_from-end (state []) front c)) legal

  backward : (front : List Block) (c : Block) (bs : List Block) → Behind (front ++ c ∷ []) bs
      → LegalFrom mask (after (state front) c) bs
  backward front c bs legal = subst (λ (x : State). LegalFrom mask x bs) (state_from-end (state []) front c) legal

  legal_more : (front bs : List Block) (b : Block) → Behind front bs → Means mask (state (front ++ bs)) b
      → Behind front (bs ++ b ∷ [])
  legal_more front [] b legal means = (subst (λ (x : List Block). Means mask (state x) b) (append-nil front) means, tt)
  legal_more front (c ∷ cs) b legal means =
      let further : Means mask (state ((front ++ c ∷ []) ++ cs)) b =
      subst (λ (x : List Block). Means mask (state x) b) (sym (append_assoc front (c ∷ []) cs)) means in
      (legal.0, backward front c (cs ++ b ∷ []) (legal_more (front ++ c ∷ []) cs b (onward front c cs legal.1) further))

  -- behind the blocks that a run found
  pub Legal-more : (before bs : List Block) (b : Block) → take (length before) bs ≡ before
      → Legal mask bs (length before)
      → Means mask (state bs) b → Legal mask (bs ++ b ∷ []) (length before)
  Legal-more before bs b begins legal means =
      let new : List Block = drop (length before) bs in
      let found : Behind before new = subst (λ (x : List Block). Behind x new) begins legal in
      let next : Means mask (state (before ++ new)) b =
      subst (λ (x : List Block). Means mask (state x) b) (sym (whole before bs (b ∷ []) begins)) means in
      let all : Behind before (new ++ b ∷ []) = legal_more before new b found next in
      subst (λ (x : List Block). Behind x (drop (length before) (bs ++ b ∷ [])))
      (sym (begins_on before bs (b ∷ []) begins))
      (subst (λ (x : List Block). Behind before x) (sym (drop_on before bs (b ∷ []) begins)) all)

-- ---- times and places

pub times_more : (times : Times) (front bs : List Block) (b : Block) → HaveTimes times front bs
    → HasTime times (front ++ bs) b
    → HaveTimes times front (bs ++ b ∷ [])
times_more times front [] b have is = (subst (λ (x : List Block). HasTime times x b) (append-nil front) is, tt)
times_more times front (c ∷ cs) b have is =
    let behind : HasTime times ((front ++ c ∷ []) ++ cs) b =
    subst (λ (x : List Block). HasTime times x b) (sym (append_assoc front (c ∷ []) cs)) is in
    (have.0, times_more times (front ++ c ∷ []) cs b have.1 behind)

pub once_more : (bs : List Block) (b : Block) → InSessionOrder bs → AllByRecursion (λ c. Before c.info.place b) bs
    → InSessionOrder (bs ++ b ∷ [])
once_more [] b order before = (tt, tt)
once_more (c ∷ cs) b order before =
    (all_append (Before c.info.place) cs (b ∷ []) order.0 (before.0, tt), once_more cs b order.1 before.1)
