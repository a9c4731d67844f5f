-- Words and operators are ASCII.
use Rattle.std.proofs.Common.{◌≡◌, ◌+◌, ◌<◌, ℕ, zero, suc, Bool, true, List, [], ◌∷◌, take, drop, length, get_or, slice_index, add-one, arith}
use Rattle.std.specs.List.{prefix_len}
use Rattle.std.proofs.lemmas.List.{get_or-take, length-take}
use Rattle.std.proofs.lemmas.List.Sums.{prefix_len_passes}
use Rattle.std.proofs.lemmas.Bool.Decides.{nat_tests}
use Rattle.ion_model.specs.Words.{is_word_char, begins_word, is_operator}

pub word_char_small : (b : ℕ) → is_word_char b ≡ true → b < 128
word_char_small b h = grind (arith, nat_tests)

pub word_start_small : (b : ℕ) → begins_word b ≡ true → b < 128
word_start_small b h = grind (arith, nat_tests)

pub operator_small : (b : ℕ) → is_operator b ≡ true → b < 128
operator_small b h = grind (arith, nat_tests)

-- the characters in front that pass a test are ASCII where all that pass are
run_small :
    (p : ℕ → Bool) → ((b : ℕ) → p b ≡ true → b < 128) → (n : ℕ) (z : List ℕ) → n ≡ prefix_len p z →
    (k d : ℕ) → k < length (take n z) → get_or (take n z) k d < 128
run_small p small n z e k d h =
    let below : k < n = omega (arith, length-take n z) in
    rw (get_or-take n z k d below) (small (get_or z k d) (prefix_len_passes p z k d (omega arith)))

-- so is what begins with such a character
pub front_small :
    (first p : ℕ → Bool) → ((b : ℕ) → first b ≡ true → b < 128) → ((b : ℕ) → p b ≡ true → b < 128) →
    (n : ℕ) (bytes : List ℕ) → 0 < length bytes → n ≡ prefix_len p (drop 1 bytes) → first (slice_index bytes 0) ≡ true →
    (k d : ℕ) → k < length (take (n + 1) bytes) → get_or (take (n + 1) bytes) k d < 128
front_small first p one small n [] some e begins k d h = absurd (omega arith)
front_small first p one small n (b ∷ z) some e begins zero d h = rw add-one (one b begins)
front_small first p one small n (b ∷ z) some e begins (suc k) d h =
    let later : suc k < length (take (suc n) (b ∷ z)) = rw add-one at h in
    rw add-one (run_small p small n z e k d (omega (arith, later)))
