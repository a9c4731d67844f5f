-- What a stop of the machine leaves of the tail behind the turn, by the entries since the ledger was made. The claims
-- hold on from any blocks that may have come to the store before it was made.
use Rattle.std.specs.Prelude.{◌≡◌, ◌⊎◌, ℕ, Bool, true, false, fold, List, [], ◌∷◌, ◌++◌, Option, Some, None, IfSome, IsSomeAnd}
use Rattle.std.specs.List.{AllByRecursion}
use Rattle.ledger_model.specs.declared.block.Block.{Block}
use Rattle.ledger_model.specs.HashesAsked.{AreAsked}
use Rattle.outside.specs.Told.{StoreTold}
use Rattle.outside.specs.Store.{Content, Moment, moment, moment_of, past_after, left_since}
use Rattle.laws_machine.specs.Entries.{Entry, Opening, begun_at, failed, sealed, wanted}
use Rattle.laws_history.specs.Seen.{IsRight, blocks_in}
use Rattle.laws_history.specs.Tried.{tried_behind}
use Rattle.laws_crash.specs.Sound.{IsSafe, Recovers}
use Rattle.ledger_core.specs.Images.{IsSoundTail}
use Rattle.ledger_core.specs.Tails.{TailHeld}

-- ---- the blocks that may have come to the store

-- the blocks that may have come to the store after the last one that was sealed, if these had before the entries
abbrev pub tried_from : List Block → List Entry → List Block
tried_from first es = fold tried_behind first es

-- the block that the entry carries, if it carries one
abbrev pub carried : Entry → List Block
carried (begun_at place number since) = []
carried (sealed number block) = block ∷ []
carried (failed number count block) = block ∷ []
carried (wanted number None) = []
carried (wanted number (Some block)) = block ∷ []

-- the block that the first of the entries carries, if it carries one
abbrev pub next_tried : List Entry → List Block
next_tried [] = []
next_tried (e ∷ es) = carried e

-- ---- each moment since

-- At this moment of the call that made an entry, the entries before it had come, and its block may have come to the
-- store; or it had come too.
abbrev pub IsAround : Opening → List Block → List Entry → Entry → Moment → Type 0
IsAround o first before e m =
    IsSafe (blocks_in o before) (tried_from first before ++ carried e) m
    ⊎ IsSafe (blocks_in o (before ++ e ∷ [])) (tried_from first (before ++ e ∷ [])) m

-- The moments come in the order of these entries, after those before: first those of the first one's call, then those
-- of the others'.
abbrev pub ComeInOrder : Opening → List Block → (before es : List Entry) → List Moment → Type 0
ComeInOrder o first before [] ms = AllByRecursion (IsSafe (blocks_in o before) (tried_from first before)) ms
ComeInOrder o first before (e ∷ es) ms =
    (here : List Moment) × (later : List Moment) × (ms ≡ here ++ later)
    × AllByRecursion (IsAround o first before e) here × ComeInOrder o first (before ++ e ∷ []) es later

-- so do all moments after the first content's
pub record PassesEntries (o : Opening) (first : List Block) (es : List Entry) (before now : Content) : Type 0 where
  pub more : List Moment
  pub grows : past_after now ≡ past_after before ++ more
  pub order : ComeInOrder o first [] es more

abbrev pub PassesEntriesTold : Opening → List Block → List Entry → (before now : Option Content) → Type 0
PassesEntriesTold o first es before now =
    IfSome now (λ later. IsSomeAnd before (λ earlier. PassesEntries o first es earlier later))

-- The image recovers to the blocks of the first of the entries; or to them and one more, which is the next one's or was
-- tried before it.
pub record RecoversAmid (o : Opening) (first : List Block) (es : List Entry) (image : List ℕ) : Type 0 where
  pub front : List Entry
  pub later : List Entry
  pub es_are : es ≡ front ++ later
  pub recovers : Recovers (blocks_in o front) (tried_from first front ++ next_tried later) image

-- ---- the mark

-- whether a cut may be marked after the entry, if this says so before it
abbrev pub marked_after : Bool → Entry → Bool
marked_after before (begun_at place number since) = before
marked_after before (sealed number block) = false
marked_after before (failed number count block) = true
marked_after before (wanted number tried) = true

abbrev pub marked_from : Bool → List Entry → Bool
marked_from before es = fold marked_after before es

-- ---- all that is true of the tail's images

module _ {S C : Type 0} (told : S → StoreTold) (o : Opening) where
  pub record KeepsImages (opened tail : TailHeld S C) (es : List Entry) : Type 0 where
    -- the invariant holds on from the tail as it was when the ledger was made
    pub sound : (first : List Block) → IsSoundTail told first opened → IsSoundTail told (tried_from first es) tail
    -- the moments since came in the order of the entries
    pub passes : (first : List Block) → IsSoundTail told first opened
        → PassesEntriesTold o first es (told opened.store).content (told tail.store).content
    -- after a block that was sealed no cut is marked until a commit fails
    pub unmarked : marked_from opened.marked es ≡ false → tail.marked ≡ false

-- ---- laws

-- If the entries are right, and the hashes of the opening's blocks are asked for, what a stop left at any moment of
-- such a stretch recovers to a list of the ledger's own history.
abbrev pub ImagesRecover : Type 0
ImagesRecover =
    (o : Opening) (first : List Block) (es : List Entry) (before now : Content) → IsRight o es → AreAsked o.blocks
    → PassesEntries o first es before now → IsSafe o.blocks first (moment_of before)
    → (image : List ℕ) → left_since now (moment before) image → RecoversAmid o first es image
