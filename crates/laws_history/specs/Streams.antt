-- What a run takes from its source and gives to its sink, where these tell it.
use Rattle.std.specs.Prelude.{ℕ, ◌<◌, ◌≤◌, List, length, take, ◌⊎◌}
use Rattle.std.specs.Io.KnownBytes.{Consumes, IsAtEnd, Appends}
use Rattle.outside.specs.Told.{SourceTold, SinkTold}
use Rattle.laws_history.specs.Calls.{Span}

-- ---- the source

-- the most bytes of an input that are read, the last of them only to see that the input is too long
abbrev pub most_read : ℕ
most_read = 16777217

-- these bytes were taken, and no more than may be read
pub record Taken (source : Span SourceTold) (bytes : List ℕ) : Type 0 where
  pub consumed : Consumes source.before.left source.after.left bytes
  pub few : length bytes ≤ most_read

-- at most as many bytes were taken as may be read
abbrev pub TakesFew : Span SourceTold → Type 0
TakesFew source = (bytes : List ℕ) × Taken source bytes

-- all that was left was read, and it is this
pub record WasRead (source : Span SourceTold) (input : List ℕ) : Type 0 where
  pub taken : Taken source input
  pub at_end : IsAtEnd source.after.left

-- ---- the sink

-- the text was written
abbrev pub Writes : Span SinkTold → List ℕ → Type 0
Writes sink text = Appends sink.before.written sink.after.written text

-- a front part of the text was written
abbrev pub WritesPart : Span SinkTold → List ℕ → Type 0
WritesPart sink text = (n : ℕ) × Writes sink (take n text)

-- a front part of the text was written, and not all of it
abbrev pub BreaksOff : Span SinkTold → List ℕ → Type 0
BreaksOff sink text = (n : ℕ) × (n < length text) × Writes sink (take n text)

-- the whole text was written, or where the sink failed a front part of it
abbrev pub WritesLine : Span SinkTold → List ℕ → Type 0
WritesLine sink text = Writes sink text ⊎ ((sink.before.faults < sink.after.faults) × WritesPart sink text)
