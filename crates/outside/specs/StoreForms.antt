-- What the stores in memory hold, and what a call answers and leaves.
use Rattle.std.specs.Prelude.{◌≡◌, ℕ, ◌-◌, ◌==◌, Bool, false, min, List, [], ◌∷◌, ◌++◌, length, take, drop, Option, Some, None, is_some, Result, Ok, Err, Vec, if◌then◌else◌}
use Rattle.std.specs.declared.alloc.Global.{Global}
use Rattle.outside.specs.declared.traits.OutFault.{OutFault}
use Rattle.outside.specs.declared.traits.OutFault.TheVariants.{Failed}
use Rattle.outside.specs.declared.plan.Failing.{Failing}
use Rattle.outside.specs.declared.memory.changes.Change.{Change}
use Rattle.outside.specs.declared.memory.changes.Change.TheVariants.{Appended, Cut, Lowered, Synced}
use Rattle.outside.specs.declared.memory.changes.Changes.{Changes}
use Rattle.outside.specs.FailPlan.{FailPlan, due, after_call}
use Rattle.outside.specs.Store.{Content, content_of, appended, cut_to, lowered, synced_whole}

-- ---- the content, as the changes made it

-- what a change makes of the content
abbrev pub changed : Content → Change → Content
changed content (Appended piece) = appended content piece.items
changed content (Cut size) = cut_to content size
changed content (Lowered size) = lowered content size
changed content Synced = synced_whole content

abbrev pub content_after : Content → List Change → Content
content_after content [] = content
content_after content (change ∷ changes) = content_after (changed content change) changes

-- The bytes that a new store held: these where no change was noted, and else those that were noted then.
abbrev pub opened_with : Option (Vec ℕ Global) → List ℕ → List ℕ
opened_with None bytes = bytes
opened_with (Some opened) bytes = opened.items

-- no change was made before the bytes were noted
abbrev pub NoneBefore : Option (Vec ℕ Global) → List Change → Type 0
NoneBefore None made = made ≡ []
NoneBefore (Some opened) made = Unit {0}

-- the content of a store that holds these bytes, by what was noted
abbrev pub noted : Changes → List ℕ → Content
noted changes bytes = content_after (content_of (opened_with changes.opened bytes)) changes.made.items

-- what was noted is so of the bytes and of the synced length
pub record AreNoted (changes : Changes) (bytes : List ℕ) (synced : ℕ) : Type 0 where
  pub begun : NoneBefore changes.opened changes.made.items
  pub bytes_are : (noted changes bytes).bytes ≡ bytes
  pub synced_is : (noted changes bytes).synced ≡ synced

-- ---- what a call answers and leaves

-- how many bytes a read from a place into a piece of this length gives
abbrev pub count_at : Content → ℕ → ℕ → ℕ
count_at content place room = min room (length content.bytes - place)

-- the piece after a read from a place
abbrev pub piece_read : Content → ℕ → List ℕ → List ℕ
piece_read content place piece =
    take (count_at content place (length piece)) (drop place content.bytes)
    ++ drop (count_at content place (length piece)) piece

-- a store whose calls fail where its plan says so
pub record StoreHeld : Type 0 where
  pub content : Content
  pub last_failed : Bool
  pub plan : FailPlan

abbrev pub store_of : List ℕ → FailPlan → StoreHeld
store_of bytes plan = record { content = content_of bytes; last_failed = false; plan = plan }

-- the answer of a call, which fails where the plan says so
abbrev pub unless_due : {T : Type 0} → StoreHeld → T → Result T OutFault
unless_due store answer = if is_some (due store.plan) then Err Failed else Ok answer

-- the store after a call that leaves this content
abbrev pub called : StoreHeld → Content → StoreHeld
called store content =
    record { content = content; last_failed = is_some (due store.plan); plan = after_call store.plan }

-- the store after a call that wanted memory
abbrev pub unserved : StoreHeld → StoreHeld
unserved store = record store { last_failed = false }

abbrev pub appended_by : Option Failing → Content → List ℕ → Content
appended_by None content piece = appended content piece
appended_by (Some entry) content piece = appended content (take entry.kept piece)

abbrev pub cut_by : Option Failing → Content → ℕ → Content
cut_by None content size = cut_to content size
cut_by (Some entry) content size = if entry.kept == 0 then lowered content size else cut_to content size

abbrev pub synced_by : Option Failing → Content → Content
synced_by None content = synced_whole content
synced_by (Some entry) content = content
