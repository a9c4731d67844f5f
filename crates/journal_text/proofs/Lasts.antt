-- The last of a list of blocks.
use Rattle.std.proofs.Common.{◌≡◌, ℕ, zero, suc, List, [], ◌∷◌, length, get_or, Some, None, refl, sym, ap, arith}
use Rattle.ledger_model.specs.declared.block.Block.{Block}
use Rattle.ledger_model.specs.Legal.{last_hash}
use Rattle.ledger_model.specs.Seals.{strand_hash}
use Rattle.ledger_model.specs.Damages.{last_block}

pub last_block-at : (blocks : List Block) (i : ℕ) (b : Block) → suc i ≡ length blocks → b ≡ get_or blocks i b → last_block blocks ≡ Some b
last_block-at [] i b long e = absurd (omega arith)
last_block-at (c ∷ []) zero b long e = ap Some (sym e)
last_block-at (c ∷ []) (suc i) b long e = absurd (omega arith)
last_block-at (c ∷ d ∷ bs) zero b long e = absurd (omega arith)
last_block-at (c ∷ d ∷ bs) (suc i) b long e = last_block-at (d ∷ bs) i b (omega arith) e

pub last_hash-some : (strand : ℕ) (blocks : List Block) (b : Block) → last_block blocks ≡ Some b → last_hash strand blocks ≡ b.hash
last_hash-some strand [] b e = cc
last_hash-some strand (c ∷ []) b e = let same : c ≡ b = cc in ap (λ (x : Block). x.hash) same
last_hash-some strand (c ∷ d ∷ bs) b e = last_hash-some strand (d ∷ bs) b e

pub last_hash-none : (strand : ℕ) (blocks : List Block) → last_block blocks ≡ None → last_hash strand blocks ≡ strand_hash strand
last_hash-none strand [] e = refl
last_hash-none strand (c ∷ []) e = cc
last_hash-none strand (c ∷ d ∷ bs) e = last_hash-none strand (d ∷ bs) e
