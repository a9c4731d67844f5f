-- The ids that a transaction makes.
use Rattle.std.proofs.Common.{◌≡◌, ◌∙◌, ℕ, ◌+◌, ◌*◌, ◌^◌, ◌<◌, bit_xor, sym, ap, arith}
use Rattle.std.proofs.lemmas.Nat.{xor_lt}
use Rattle.ql_types.specs.Ids.{raw_id, transaction_in, thing_in}
use Rattle.ql_types.proofs.Masks.{unmasked}

pub transaction_of : (mask n i : ℕ) → i < 2 ^ 24 → transaction_in mask (raw_id mask n i) ≡ n
transaction_of mask n i h = rw (unmasked (n * 2 ^ 24 + i) mask) (omega (arith, h))

pub thing_of : (mask n i : ℕ) → i < 2 ^ 24 → thing_in mask (raw_id mask n i) ≡ i
thing_of mask n i h = rw (unmasked (n * 2 ^ 24 + i) mask) (omega (arith, h))

-- things of one transaction with one id are one thing
pub same_thing : (mask n i j : ℕ) → raw_id mask n i ≡ raw_id mask n j → i ≡ j
same_thing mask n i j e =
    let same : n * 2 ^ 24 + i ≡ n * 2 ^ 24 + j = sym (unmasked (n * 2 ^ 24 + i) mask) ∙ ap (λ raw. bit_xor raw mask) e
    ∙ unmasked (n * 2 ^ 24 + j) mask in
    omega (arith, same)

pub raw_id_fits : (mask n i : ℕ) → mask < 2 ^ 128 → n < 2 ^ 64 → i < 2 ^ 24 → raw_id mask n i < 2 ^ 128
raw_id_fits mask n i m h k = xor_lt 128 (n * 2 ^ 24 + i) mask (omega (arith, h, k)) m
