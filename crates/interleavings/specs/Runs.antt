-- What a program does that reads events: it does one after another on the tail of an empty journal, and writes a line
-- for each.
use Rattle.std.specs.Prelude.{◌≡◌, ℕ, ◌+◌, List, [], ◌∷◌, ◌++◌, take, drop, slice_get, ℤ, pos, Option, Some, None, Ok, Err}
use Rattle.ion_values.specs.declared.value.Value.{Value}
use Rattle.ion_model.specs.Read.{Answer}
use Rattle.interleavings.specs.declared.events.Event.{Event}
use Rattle.interleavings.specs.Events.{clock_in, event_in}
use Rattle.interleavings.specs.Lines as line
use Rattle.interleavings.specs.declared.desk.OpenTxn.{OpenTxn}
use Rattle.interleavings.specs.declared.Ended.{Ended}
use Rattle.interleavings.specs.declared.Ended.TheVariants as ended
use Rattle.interleavings.specs.Desks.{Answers, MemoryTail}

-- ---- events, one after another

-- the value spells an event, which does this
pub record Reads (t : MemoryTail) (xs : List OpenTxn) (v : Value) (said : List ℕ) (now : MemoryTail)
    (ys : List OpenTxn) : Type 0 where
  pub event : Event
  pub read : event_in v ≡ Some event
  pub answers : Answers t xs event said now ys

-- each of the values spells one, and what they say stands one behind another
abbrev pub Runs : MemoryTail → List OpenTxn → List Value → List ℕ → MemoryTail → List OpenTxn → Type 0
Runs t xs [] said now ys = (said ≡ []) × (now ≡ t) × (ys ≡ xs)
Runs t xs (v ∷ vs) said now ys =
    (first : List ℕ) × (more : List ℕ) × (mid : MemoryTail) × (zs : List OpenTxn) × (said ≡ first ++ more)
    × Reads t xs v first mid zs × Runs mid zs vs more now ys

-- ---- an input

-- the journal is empty, the mask is 0, no number was drawn, and the clock wasn't asked
pub record IsFresh (times : List ℤ) (t : MemoryTail) : Type 0 where
  pub standing : t.standing ≡ record { mask = 0; last = 0; blocks = [] }
  pub clock : t.clock ≡ record { times = times; calls = 0 }

-- the times that the first value spells
abbrev pub first_times : List Value → Option (List ℤ)
first_times [] = None
first_times (v ∷ vs) = clock_in v

-- the beginning of 2020, where no times are told
abbrev pub times_or : Option (List ℤ) → List ℤ
times_or None = pos 1577836800000 ∷ []
times_or (Some times) = times

-- the number of the first event, and the values that spell events
abbrev pub first_of : Option (List ℤ) → ℕ
first_of None = 0
first_of (Some times) = 1

abbrev pub events_of : Option (List ℤ) → List Value → List Value
events_of None vs = vs
events_of (Some times) vs = drop 1 vs

-- all of them were done, and the last line tells of the blocks
pub record AreDone (t : MemoryTail) (vs : List Value) (said : List ℕ) : Type 0 where
  pub lines : List ℕ
  pub now : MemoryTail
  pub left : List OpenTxn
  pub runs : Runs t [] vs lines now left
  pub said_is : said ≡ lines ++ line.blocks now.standing.blocks

-- a number of events was done, and the next value spells no event
pub record StopAt (t : MemoryTail) (first : ℕ) (vs : List Value) (said : List ℕ) : Type 0 where
  pub count : ℕ
  pub lines : List ℕ
  pub now : MemoryTail
  pub left : List OpenTxn
  pub runs : Runs t [] (take count vs) lines now left
  pub value : Value
  pub value_is : slice_get vs count ≡ Some value
  pub unread : event_in value ≡ None
  pub said_is : said ≡ lines ++ line.bad_event (first + count)

abbrev pub Ends : Ended → MemoryTail → ℕ → List Value → List ℕ → Type 0
Ends ended.Done t first vs said = AreDone t vs said
Ends ended.BadEvent t first vs said = StopAt t first vs said

-- how they end on a fresh tail whose clock has these times
abbrev pub EndsFresh : Ended → List ℤ → ℕ → List Value → List ℕ → Type 0
EndsFresh end times first vs said = (t : MemoryTail) × IsFresh times t × Ends end t first vs said

-- how the values of an input are answered
abbrev pub Tells : List Value → Ended → List ℕ → Type 0
Tells vs end said =
    EndsFresh end (times_or (first_times vs)) (first_of (first_times vs)) (events_of (first_times vs) vs) said

-- How what is read of an input is answered. Where it is no Ion text, no event is done, and the first one is told as
-- the bad one.
abbrev pub IsTold : Answer → Ended → List ℕ → Type 0
IsTold (Ok vs) end said = Tells vs end said
IsTold (Err fault) ended.BadEvent said = said ≡ line.bad_event 0
IsTold (Err fault) ended.Done said = ⊥
