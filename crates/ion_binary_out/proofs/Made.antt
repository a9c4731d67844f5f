-- Values that are made one after the other: what is left of them from a place on.
use Rattle.std.proofs.Common.{◌≡◌, ◌∙◌, ℕ, ◌+◌, ◌≤◌, ◌<◌, ◌&&◌, List, [], ◌∷◌, ◌++◌, map, drop, length, sym, ap, arith, append_assoc, Some}
use Rattle.std.specs.Prelude.{IsTrue, fold, slice_get}
use Rattle.std.specs.List.{flat_map}
use Rattle.std.proofs.lemmas.List.{append-nil, drop_all, drop_more}
use Rattle.std.proofs.lemmas.List.Sums.{fold-append}
use Rattle.std.proofs.lemmas.Option.{get_or_from_slice_get, slice_get_within}
use Rattle.ion_values.specs.declared.value.Value.{Value}
use Rattle.ion_values.specs.Within.{all_true, within}
use Rattle.hash_model.specs.Serialize.{joined}
use Rattle.ion_binary_out.specs.BinaryText.{Text, texts_in, value_bytes, with_symbol}

-- ---- the value at a place

module _ (vs : List Value) (at : ℕ) (v : Value) (is : slice_get vs at ≡ Some v) where
  pub next_within : at + 1 ≤ length vs
  next_within = let there : at < length vs = slice_get_within vs at v is in omega arith

  next : drop at vs ≡ v ∷ drop (at + 1) vs
  next = drop_more vs at v (slice_get_within vs at v is) ∙ ap (λ x. x ∷ drop (at + 1) vs) (get_or_from_slice_get vs at v v is)

  pub texts_on : (symbols now all : List Text) → now ≡ fold with_symbol symbols (texts_in v)
      → fold with_symbol symbols (flat_map texts_in (drop at vs)) ≡ all → fold with_symbol now (flat_map texts_in (drop (at + 1) vs)) ≡ all
  texts_on symbols now all put left =
      ap (λ s. fold with_symbol s (flat_map texts_in (drop (at + 1) vs))) put
      ∙ sym (fold-append with_symbol symbols (texts_in v) (flat_map texts_in (drop (at + 1) vs)))
      ∙ sym (ap (λ xs. fold with_symbol symbols (flat_map texts_in xs)) next)
      ∙ left

  pub bytes_on : (symbols : List Text) (out now all : List ℕ) → now ≡ out ++ value_bytes symbols v
      → out ++ joined (map (value_bytes symbols) (drop at vs)) ≡ all → now ++ joined (map (value_bytes symbols) (drop (at + 1) vs)) ≡ all
  bytes_on symbols out now all put left =
      ap (λ front. front ++ joined (map (value_bytes symbols) (drop (at + 1) vs))) put
      ∙ append_assoc out (value_bytes symbols v) (joined (map (value_bytes symbols) (drop (at + 1) vs)))
      ∙ sym (ap (λ xs. out ++ joined (map (value_bytes symbols) xs)) next)
      ∙ left

  pub ranges_on : IsTrue (within v) → all_true (map within (drop at vs)) ≡ all_true (map within vs)
      → all_true (map within (drop (at + 1) vs)) ≡ all_true (map within vs)
  ranges_on own left =
      sym (ap (λ b. b && all_true (map within (drop (at + 1) vs))) own)
      ∙ sym (ap (λ xs. all_true (map within xs)) next)
      ∙ left

-- ---- the end

module _ (vs : List Value) (at : ℕ) (end : length vs ≤ at) where
  none : drop at vs ≡ []
  none = drop_all at vs end

  pub texts_end : (symbols all : List Text) → fold with_symbol symbols (flat_map texts_in (drop at vs)) ≡ all → symbols ≡ all
  texts_end symbols all left = sym (ap (λ xs. fold with_symbol symbols (flat_map texts_in xs)) none) ∙ left

  pub bytes_end : (symbols : List Text) (out all : List ℕ) → out ++ joined (map (value_bytes symbols) (drop at vs)) ≡ all → out ≡ all
  bytes_end symbols out all left =
      sym (append-nil out) ∙ sym (ap (λ xs. out ++ joined (map (value_bytes symbols) xs)) none) ∙ left

  pub ranges_end : all_true (map within (drop at vs)) ≡ all_true (map within vs) → IsTrue (all_true (map within vs))
  ranges_end left = sym left ∙ ap (λ xs. all_true (map within xs)) none
