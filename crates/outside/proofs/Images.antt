-- Rows on what a stop of the machine may leave of a store's bytes.
use Rattle.std.proofs.Common.{◌≡◌, ℕ, zero, suc, ◌<◌, List, [], ◌∷◌, length, take, refl, sym, ap, ◌∙◌, inl, inr, arith, lit<, lit≤, take_all}
use Rattle.std.specs.Prelude.{◌≤◌, slice_index_or}
use Rattle.outside.specs.Store.{Content, IsImage, left_since, moment_of, content_of, appended, lowered, synced_whole}

-- ---- where all bytes are synced

one_held : (bytes whole : List ℕ) (k : ℕ) → k < 1 → slice_index_or (bytes ∷ []) k whole ≡ whole → whole ≡ bytes
one_held bytes whole zero less is = sym is
one_held bytes whole (suc k) less is = let bad : ⊥ = omega (arith, less) in absurd bad

-- where nothing else was held since, and all of it is synced, nothing else is left
all_left : (bytes image : List ℕ) → IsImage (record { synced = length bytes; since = bytes ∷ [] }) image → image ≡ bytes
all_left bytes image is =
    let same : is.whole ≡ bytes = one_held bytes is.whole is.was_held.0 is.was_held.1 is.was_held.2 in
    is.front ∙ ap (take (length image)) same ∙ take_all (length image) bytes is.long

-- a new store
new_leaves_all : (bytes image : List ℕ) → IsImage (moment_of (content_of bytes)) image → image ≡ bytes
new_leaves_all bytes image is = all_left bytes image is

-- a store after a sync
synced_leaves_all : (content : Content) (image : List ℕ) → IsImage (moment_of (synced_whole content)) image → image ≡ content.bytes
synced_leaves_all content image is = all_left content.bytes image is

-- ---- an append that was stopped

abbrev longer : Content
longer = appended (content_of (1 ∷ 2 ∷ [])) (3 ∷ 4 ∷ [])

-- it may leave a front part of its piece
torn : IsImage (moment_of longer) (1 ∷ 2 ∷ 3 ∷ [])
torn = record { whole = 1 ∷ 2 ∷ 3 ∷ []; was_held = (2, lit< tt, refl); front = refl; long = lit≤ tt }

-- and none of it
untouched : IsImage (moment_of longer) (1 ∷ 2 ∷ [])
untouched = record { whole = 1 ∷ 2 ∷ []; was_held = (0, lit< tt, refl); front = refl; long = lit≤ tt }

-- but what was synced stays
synced_stays : IsImage (moment_of longer) (1 ∷ []) → ⊥
synced_stays is = let long : 2 ≤ 1 = is.long in omega arith

-- ---- a cut that was asked for

-- where it failed, the bytes are held still, and each front part from its size on may be left
cut_in_part : IsImage (moment_of (lowered (content_of (1 ∷ 2 ∷ 3 ∷ [])) 1)) (1 ∷ 2 ∷ [])
cut_in_part = record { whole = 1 ∷ 2 ∷ 3 ∷ []; was_held = (0, lit< tt, refl); front = refl; long = lit≤ tt }

-- ---- moments

abbrev stored : Content
stored = synced_whole (appended (content_of (1 ∷ [])) (2 ∷ []))

-- what might have been left before the append
left_before : left_since stored 0 (1 ∷ [])
left_before = inl (record { whole = 1 ∷ []; was_held = (0, lit< tt, refl); front = refl; long = lit≤ tt })

-- and what is left from the sync on
left_behind : (image : List ℕ) → left_since stored 2 image → image ≡ 1 ∷ 2 ∷ []
left_behind image (inl is) = all_left (1 ∷ 2 ∷ []) image is
left_behind image (inr none) = absurd none
