-- What a journal store holds, what a stop of the machine may leave of it, and what its calls do to it.
use Rattle.std.specs.Prelude.{◌≡◌, ℕ, ◌-◌, ◌<◌, ◌≤◌, min, List, [], ◌∷◌, ◌++◌, ◌⊎◌, length, take, drop, map, Contains, Option, option_map, Result, Ok, Err}
use Rattle.outside.specs.declared.traits.OutFault.{OutFault}
use Rattle.outside.specs.declared.traits.OutFault.TheVariants.{Failed, OutOfMemory}

-- ---- the content

-- One moment of a store: the length at the last sync, lowered to the size of each cut below it that was asked for
-- since, and the byte lists that were held since that sync, those within an append or a cut included.
pub record Moment : Type 0 where
  pub synced : ℕ
  pub since : List (List ℕ)

-- the bytes that are held, the two parts of this moment, and the moments before it, the first one in front
pub record Content : Type 0 where
  pub bytes : List ℕ
  pub synced : ℕ
  pub since : List (List ℕ)
  pub past : List Moment

abbrev pub moment_of : Content → Moment
moment_of content = record { synced = content.synced; since = content.since }

-- a new store's bytes are synced
abbrev pub content_of : List ℕ → Content
content_of bytes = record { bytes = bytes; synced = length bytes; since = bytes ∷ []; past = [] }

-- ---- what a stop of the machine may leave

-- An image at a moment is a front part of a byte list that was held, at least as long as what is synced.
pub record IsImage (m : Moment) (image : List ℕ) : Type 0 where
  pub whole : List ℕ
  pub was_held : Contains m.since whole
  pub front : image ≡ take (length image) whole
  pub long : m.synced ≤ length image

-- it is an image at one of these moments
abbrev pub IsImageOfOne : List Moment → List ℕ → Type 0
IsImageOfOne [] image = ⊥
IsImageOfOne (m ∷ ms) image = IsImage m image ⊎ IsImageOfOne ms image

-- the number of this moment, which never falls
abbrev pub moment : Content → ℕ
moment content = length content.past

-- what a stop of the machine might have left at some moment from this one on, up to now
abbrev pub left_since : Content → ℕ → List ℕ → Type 0
left_since content from image = IsImageOfOne (drop from (content.past ++ moment_of content ∷ [])) image

-- ---- what the calls do

-- the front parts of a list, the shortest first
abbrev pub fronts : List ℕ → List (List ℕ)
fronts [] = [] ∷ []
fronts (x ∷ xs) = [] ∷ map (λ front. x ∷ front) (fronts xs)

-- those of at least this length
abbrev pub fronts_from : ℕ → List ℕ → List (List ℕ)
fronts_from least whole = drop least (fronts whole)

-- a moment later
abbrev pub past_after : Content → List Moment
past_after content = content.past ++ moment_of content ∷ []

-- the bytes grow by a piece, and may stop at each point within it
abbrev pub appended : Content → List ℕ → Content
appended content piece = record {
  bytes = content.bytes ++ piece;
  synced = content.synced;
  since = content.since ++ fronts_from (length content.bytes) (content.bytes ++ piece);
  past = past_after content;
}

-- the bytes are cut to a size, and may stop at each point on the way
abbrev pub cut_to : Content → ℕ → Content
cut_to content size = record {
  bytes = take size content.bytes;
  synced = min content.synced size;
  since = content.since ++ fronts_from size content.bytes;
  past = past_after content;
}

-- a cut was asked for that leaves the bytes
abbrev pub lowered : Content → ℕ → Content
lowered content size = record {
  bytes = content.bytes;
  synced = min content.synced size;
  since = content.since;
  past = past_after content;
}

-- all bytes are synced
abbrev pub synced_whole : Content → Content
synced_whole content = record {
  bytes = content.bytes;
  synced = length content.bytes;
  since = content.bytes ∷ [];
  past = past_after content;
}

-- ---- what the calls leave, by their answer

-- A read from a place gives the bytes that stand there, and at least one of them where there is one and room for it.
pub record ReadsAt (held : List ℕ) (place : ℕ) (piece : List ℕ) (count : ℕ) : Type 0 where
  pub front : take count piece ≡ take count (drop place held)
  pub within : count ≤ length held - place
  pub some : place < length held → 0 < length piece → 0 < count

-- An append adds its piece. A failed one adds a front part of it, perhaps none of it or all.
abbrev pub AppendLeaves : {T : Type 0} → Result T OutFault → Option Content → Option Content → List ℕ → Type 0
AppendLeaves (Ok x) before now piece = now ≡ option_map (λ content. appended content piece) before
AppendLeaves (Err Failed) before now piece =
    (kept : ℕ) × (now ≡ option_map (λ content. appended content (take kept piece)) before)
AppendLeaves (Err OutOfMemory) before now piece = now ≡ before

-- A cut leaves the bytes before the size, so a greater size than there is changes none. A failed one may leave all.
abbrev pub CutLeaves : {T : Type 0} → Result T OutFault → Option Content → Option Content → ℕ → Type 0
CutLeaves (Ok x) before now size = now ≡ option_map (λ content. cut_to content size) before
CutLeaves (Err Failed) before now size =
    (now ≡ option_map (λ content. lowered content size) before)
    ⊎ (now ≡ option_map (λ content. cut_to content size) before)
CutLeaves (Err OutOfMemory) before now size = now ≡ before

-- After a sync all bytes are synced. A failed one leaves what there was.
abbrev pub SyncLeaves : {T : Type 0} → Result T OutFault → Option Content → Option Content → Type 0
SyncLeaves (Ok x) before now = now ≡ option_map synced_whole before
SyncLeaves (Err fault) before now = now ≡ before
