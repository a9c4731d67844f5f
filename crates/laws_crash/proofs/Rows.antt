-- Worked rows of crash images.
use Rattle.std.proofs.Common.{◌≡◌, ℕ, List, [], ◌∷◌, length, refl, arith}
use Rattle.outside.specs.Store.{Content, IsImage, content_of, cut_to, moment_of}

-- a store that held one byte, was synced, and is cut to nothing without a sync after it
abbrev cut_away : Content
cut_away = cut_to (content_of (7 ∷ [])) 0

-- all that it holds is synced
cut_away_is_synced : cut_away.synced ≡ length cut_away.bytes
cut_away_is_synced = refl

-- and yet a stop may leave the byte
byte_may_come_back : IsImage (moment_of cut_away) (7 ∷ [])
byte_may_come_back = record { whole = 7 ∷ []; was_held = (0, omega arith, refl); front = refl; long = omega arith }
