-- An id's number and what it was made of.
use Rattle.std.proofs.Common.{◌≡◌, ◌∙◌, ℕ, ◌+◌, ◌*◌, ◌/◌, ◌%◌, ◌^◌, bit_xor, arith, ap, refl}
use Rattle.std.specs.Int.Bits.{xor_assoc, xor_self, xor_zero_r}
use Rattle.ql_types.specs.Ids.{raw_id, thing_in}

-- what is mixed with the mask twice is as before
pub unmasked : (raw mask : ℕ) → bit_xor (bit_xor raw mask) mask ≡ raw
unmasked raw mask = xor_assoc raw mask mask ∙ ap (bit_xor raw) (xor_self mask) ∙ xor_zero_r raw

-- the two parts make the number
pub made_of_parts : (raw mask n : ℕ) → n ≡ bit_xor raw mask / 2 ^ 24 → raw ≡ raw_id mask n (thing_in mask raw)
made_of_parts raw mask n e =
    let whole : n * 2 ^ 24 + bit_xor raw mask % 2 ^ 24 ≡ bit_xor raw mask = omega arith in
    rw (whole, unmasked raw mask) refl
