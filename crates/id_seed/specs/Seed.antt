-- The mask that a seed gives, by the ledger's own rule: the first four words of the key stream of ChaCha20 (RFC 8439,
-- with a counter of 64 bits) whose key begins with the seed.
use Rattle.std.specs.Prelude.{ℕ, ◌+◌, ◌*◌, ◌^◌, List, ◌++◌, replicate}
use Rattle.std.specs.Int.{w64, to_le_bytes}
use Rattle.rand_chacha.specs.ChaCha.{word_at, key_of}

-- the key of 32 bytes: the seed in 8 bytes, the lowest first, and then zeros
abbrev pub seed_key : ℕ → List ℕ
seed_key seed = to_le_bytes w64 seed ++ replicate 24 0

-- a word of stream 0 under that key; ChaCha20 has 10 double rounds
abbrev pub seed_word : ℕ → ℕ → ℕ
seed_word seed place = word_at 10 (key_of (seed_key seed)) 0 place

-- the number of 128 bits whose lowest 32 are the first word
abbrev pub mask_of : ℕ → ℕ
mask_of seed = seed_word seed 0 + seed_word seed 1 * 2 ^ 32 + seed_word seed 2 * 2 ^ 64 + seed_word seed 3 * 2 ^ 96
