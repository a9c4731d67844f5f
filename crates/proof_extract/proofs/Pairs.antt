-- Two pairs that are one, straight or crossed.
use Rattle.std.proofs.Common.{◌≡◌, ◌≢◌, ◌∙◌, ◌⊎◌, inl, inr, sym}
use Rattle.ql_types.specs.declared.Hash32.{Hash32}
use Rattle.tree_descent.specs.Pairs.{IsOnePair}

pub second_too : (a b c d : Hash32) → IsOnePair a b c d → a ≡ c → b ≡ d
second_too a b c d (inl e) same = e.1
second_too a b c d (inr e) same = e.1 ∙ sym same ∙ e.0

pub crossed : (a b c d : Hash32) → IsOnePair a b c d → a ≢ c → (a ≡ d) × (b ≡ c)
crossed a b c d (inl e) differ = absurd (differ e.0)
crossed a b c d (inr e) differ = e

pub straight : (a b c d : Hash32) → IsOnePair a b c d → a ≢ d → a ≡ c
straight a b c d (inl e) differ = e.0
straight a b c d (inr e) differ = absurd (differ e.0)

pub second_of : (h a b : Hash32) → (h ≡ a) ⊎ (h ≡ b) → h ≢ a → h ≡ b
second_of h a b (inl same) differ = absurd (differ same)
second_of h a b (inr same) differ = same

-- a hash that is in a pair
pub in_pair : (a b c d : Hash32) → IsOnePair a b c d → (b ≡ c) ⊎ (b ≡ d)
in_pair a b c d (inl e) = inr e.1
in_pair a b c d (inr e) = inl e.1
