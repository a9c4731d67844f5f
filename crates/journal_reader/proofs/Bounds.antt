-- A journal has at most 2^32 - 1 blocks.
use Rattle.std.proofs.Common.{◌≡◌, ◌+◌, ◌-◌, ◌^◌, ◌≤◌, ◌&&◌, List, [], ◌∷◌, ◌++◌, length, arith, length-append, leb-true}
use Rattle.std.specs.Prelude.{nat_le, ◌==◌}
use Rattle.std.proofs.lemmas.Bool.{and_parts}
use Rattle.ledger_model.specs.declared.block.Block.{Block}
use Rattle.ledger_model.specs.Damages.{Undamaged, UndamagedBehind, strand_of}
use Rattle.laws_validity.proofs.Journals.{passes_all}

bound_behind : (bs before : List Block) → UndamagedBehind before bs → length before ≤ 2 ^ 32 - 1 → length before + length bs ≤ 2 ^ 32 - 1
bound_behind [] before u h = omega (arith, h)
bound_behind (b ∷ bs) before u h =
    let address = (passes_all before b u.1).address in
    let two = and_parts ((b.header.address.sequence == length before) && nat_le (length before) (2 ^ 32 - 2)) (b.header.address.strand.raw == strand_of before b) address in
    let one = and_parts (b.header.address.sequence == length before) (nat_le (length before) (2 ^ 32 - 2)) two.0 in
    let low : length before ≤ 2 ^ 32 - 2 = leb-true (length before) (2 ^ 32 - 2) one.1 in
    let long : length (before ++ b ∷ []) ≡ length before + 1 = length-append before (b ∷ []) in
    let rest = bound_behind bs (before ++ b ∷ []) u.2 (omega (arith, low, long)) in
    omega (arith, rest, long)

pub undamaged_bound : (blocks : List Block) → Undamaged blocks → length blocks ≤ 2 ^ 32 - 1
undamaged_bound blocks u = let h = bound_behind blocks [] u (omega arith) in omega (arith, h)
