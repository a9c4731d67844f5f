-- The numbers of transactions.
use Rattle.std.proofs.Common.{◌≡◌, ℕ, ◌+◌, ◌*◌, ◌/◌, ◌^◌, max, List, [], ◌∷◌, ◌++◌, ap, ◌∙◌, arith}
use Rattle.ql_types.specs.Ids.{raw_id, transaction_in}
use Rattle.ql_types.proofs.Masks.{unmasked}
use Rattle.ledger_model.specs.declared.block.Block.{Block}
use Rattle.laws_history.specs.Records.{greatest}

shifted : (n : ℕ) → (n * 2 ^ 24 + 0) / 2 ^ 24 ≡ n
shifted n = omega arith

pub transaction_of_id : (mask n : ℕ) → transaction_in mask (raw_id mask n 0) ≡ n
transaction_of_id mask n = ap (λ (x : ℕ). x / 2 ^ 24) (unmasked (n * 2 ^ 24 + 0) mask) ∙ shifted n

pub greatest-append : (mask : ℕ) (bs cs : List Block)
    → greatest mask (bs ++ cs) ≡ max (greatest mask bs) (greatest mask cs)
greatest-append mask [] cs = omega arith
greatest-append mask (b ∷ bs) cs = omega (arith, greatest-append mask bs cs)
