-- Worked rows of the lengths of paths.
use Rattle.std.proofs.Common.{◌≡◌, ℕ, ◌+◌, refl}
use Rattle.hash_model.specs.Tree.{height_from, height_of}

-- the heights for a number of revisions and of blocks, with what the transaction did and the block before between them
length_for : ℕ → ℕ → ℕ
length_for revisions blocks = height_of revisions + 2 + height_of blocks

one_of_one : length_for 1 1 ≡ 2
unfolding length_for height_from
one_of_one = refl

one_of_three : length_for 1 3 ≡ 4
unfolding length_for height_from
one_of_three = refl

one_of_six : length_for 1 6 ≡ 5
unfolding length_for height_from
one_of_six = refl
