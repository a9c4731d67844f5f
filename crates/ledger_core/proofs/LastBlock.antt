-- The last block of a list.
use Rattle.std.proofs.Common.{◌≡◌, ℕ, zero, suc, ◌+◌, ◌-◌, List, [], ◌∷◌, length, Some, ap, arith}
use Rattle.std.specs.List.{slice_get}
use Rattle.ledger_model.specs.declared.block.Block.{Block}
use Rattle.ledger_model.specs.Damages.{last_block}
use Rattle.ledger_model.specs.Legal.{last_hash}

last-at : (bs : List Block) (i : ℕ) (x : Block) → i + 1 ≡ length bs → slice_get bs i ≡ Some x → last_block bs ≡ Some x
last-at [] i x count is = absurd (omega arith)
last-at (b ∷ []) zero x count is = is
last-at (b ∷ []) (suc i) x count is = absurd (omega arith)
last-at (b ∷ c ∷ bs) zero x count is = absurd (omega arith)
last-at (b ∷ c ∷ bs) (suc i) x count is = last-at (c ∷ bs) i x (omega arith) is

pub last_block-is : (bs : List Block) (x : Block) → slice_get bs (length bs - 1) ≡ Some x → last_block bs ≡ Some x
last_block-is [] x is = cc
last_block-is (b ∷ bs) x is = last-at (b ∷ bs) (length (b ∷ bs) - 1) x (omega arith) is

hash-at : (mask : ℕ) (bs : List Block) (x : Block) → last_block bs ≡ Some x → last_hash mask bs ≡ x.hash
hash-at mask [] x is = cc
hash-at mask (b ∷ []) x is = let e : b ≡ x = cc in ap (λ y. y.hash) e
hash-at mask (b ∷ c ∷ bs) x is = hash-at mask (c ∷ bs) x is

pub last_hash-is : (mask : ℕ) (bs : List Block) (x : Block) → slice_get bs (length bs - 1) ≡ Some x → last_hash mask bs ≡ x.hash
last_hash-is mask bs x is = hash-at mask bs x (last_block-is bs x is)
