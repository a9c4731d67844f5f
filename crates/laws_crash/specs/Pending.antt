-- When nothing of a store's content is pending, and what its images are then.
use Rattle.std.specs.Prelude.{◌≡◌, ℕ, ◌≤◌, List, [], ◌∷◌, length, IfSome}
use Rattle.std.specs.List.{AllByRecursion}
use Rattle.outside.specs.Told.{StoreTold}
use Rattle.outside.specs.Store.{Content, Moment, IsImage, moment_of}

-- All bytes are synced, and nothing else was held since. The first alone is too little: a cut lowers `synced` and
-- leaves an image of what was held before it.
pub record NothingPending (content : Content) : Type 0 where
  pub synced : content.synced ≡ length content.bytes
  pub since : content.since ≡ content.bytes ∷ []

-- so it is of the store, if it tells its content
abbrev pub IsAtRest : StoreTold → Type 0
IsAtRest told = IfSome told.content NothingPending

-- each image at this moment has the property
abbrev pub ImagesAre : (List ℕ → Type 0) → Moment → Type 0
ImagesAre P m = (image : List ℕ) → IsImage m image → P image

-- each byte list that was held has the property, and at least `least` bytes are synced
pub record AllHeld (P : List ℕ → Type 0) (least : ℕ) (m : Moment) : Type 0 where
  pub long : least ≤ m.synced
  pub each : AllByRecursion P m.since

-- if nothing is pending, each image is the bytes that are held
abbrev pub NothingPendingLeavesAll : Type 0
NothingPendingLeavesAll =
    (content : Content) → NothingPending content → ImagesAre (λ image. image ≡ content.bytes) (moment_of content)
