-- The tip that is the last block.
use Rattle.std.proofs.Common.{◌≡◌, ℕ, ◌+◌, ◌-◌, List, [], ◌∷◌, length, None, Some, ap, arith, subst, if◌then◌else◌}
use Rattle.std.proofs.lemmas.Bool.{lt-leb}
use Rattle.ledger_model.specs.declared.block.Block.{Block}
use Rattle.proof_model.specs.declared.Digest.{Digest}
use Rattle.proof_model.specs.Issued.{IsDigest}
use Rattle.proof_issue.specs.declared.NoSuch.TheVariants as none_such
use Rattle.proof_issue.specs.Refusals.{past_end, refusal, refusal_at_end}

-- it is a block's number
pub is_there : (blocks : List Block) (tip : ℕ) → length blocks ≡ tip + 1 → past_end blocks tip ≡ None
is_there blocks tip long =
    ap (λ b. if b then Some (none_such.Block tip (length blocks)) else None) (lt-leb (length blocks) tip (omega (arith, long)))

pub last_is : (blocks : List Block) (tip : ℕ) → length blocks ≡ tip + 1 → length blocks - 1 ≡ tip
last_is blocks tip long = omega (arith, long)

pub last_refusal : (blocks : List Block) (sequence index tip : ℕ) → length blocks ≡ tip + 1
    → refusal_at_end blocks sequence index ≡ refusal blocks sequence index tip
last_refusal [] sequence index tip long = absurd (omega (arith, long))
last_refusal (b ∷ bs) sequence index tip long = let same : length bs ≡ tip = omega (arith, long) in ap (refusal (b ∷ bs) sequence index) same

pub digest_of_last : (blocks : List Block) (tip : ℕ) (d : Digest) → length blocks ≡ tip + 1 → IsDigest blocks (length blocks - 1) d → IsDigest blocks tip d
digest_of_last blocks tip d long is = subst (λ (n : ℕ). IsDigest blocks n d) (last_is blocks tip long) is
