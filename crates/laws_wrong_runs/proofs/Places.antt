-- A block of a history is what its transaction means at its place, and a conflict is the first one of its run.
use Rattle.std.proofs.Common.{◌≡◌, ℕ, zero, suc, ◌≤◌, List, [], ◌∷◌, length, take, drop, slice_get, Some, subst, arith}
use Rattle.ledger_model.specs.declared.block.Block.{Block}
use Rattle.ledger_model.specs.Legal.{LegalFrom, Means}
use Rattle.ledger_model.specs.State.{State, after, empty, state_from}
use Rattle.laws_footprint.specs.Conflicts.{Tells}
use Rattle.laws_footprint.proofs.Conflicts.{conflict_is_first}
use Rattle.laws_wrong_runs.specs.Laws.{BlocksAreAnswered, ConflictsAreFirst}

means_at : (mask : ℕ) (s : State) (bs : List Block) (k : ℕ) (b : Block) → LegalFrom mask s bs → slice_get bs k ≡ Some b
    → Means mask (state_from s (take k bs)) b
means_at mask s [] k b legal there = let bad : ⊥ = cc there in absurd bad
means_at mask s (c ∷ bs) zero b legal there = let same : c ≡ b = cc there in subst (Means mask s) same legal.0
means_at mask s (c ∷ bs) (suc k) b legal there = means_at mask (after s c) bs k b legal.1 there

-- behind the first n blocks
means_behind : (mask : ℕ) (s : State) (bs : List Block) (n k : ℕ) (b : Block)
    → LegalFrom mask (state_from s (take n bs)) (drop n bs) → n ≤ k → slice_get bs k ≡ Some b
    → Means mask (state_from s (take k bs)) b
means_behind mask s bs zero k b legal low there = means_at mask s bs k b legal there
means_behind mask s [] (suc n) k b legal low there = let bad : ⊥ = cc there in absurd bad
means_behind mask s (c ∷ bs) (suc n) zero b legal low there = absurd (omega (arith, low))
means_behind mask s (c ∷ bs) (suc n) (suc k) b legal low there =
    means_behind mask (after s c) bs n k b legal (omega (arith, low)) there

pub blocks_are_answered : BlocksAreAnswered
blocks_are_answered t k b fits low there = means_behind t.mask empty t.after (length t.before) k b fits.serial low there

pub conflicts_are_first : ConflictsAreFirst
conflicts_are_first t p tx since named c =
    subst (Tells t.after since c.progress.footprint) c.finds (conflict_is_first t.after since c.progress.footprint)
