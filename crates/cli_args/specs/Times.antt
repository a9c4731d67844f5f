-- Times among the words: Ion timestamps (Ion 1.0, "Timestamps").
use Rattle.std.specs.Prelude.{ℕ, ◌==◌, List, [], ◌∷◌, length, ℤ, pos, Option, Some, None, Ok, Err, option_map, if◌then◌else◌}
use Rattle.std.specs.Int.{int_div_euclid}
use Rattle.ion_values.specs.Time.{instant_of}
use Rattle.ion_values.specs.declared.time.TimeParts.{TimeParts}
use Rattle.ion_values.specs.declared.value.Value.{Value}
use Rattle.ion_values.specs.declared.value.Field.{Field}
use Rattle.ion_values.specs.declared.value.Body.{Body, out-Body}
use Rattle.ion_values.specs.declared.value.Body.TheOpen.{Body-F}
use Rattle.ion_model.specs.Read.{Answer, read_text}

abbrev pub timestamp_of : Body-F Body Field Value → Option TimeParts
timestamp_of (Body-F.Timestamp t) = Some t
timestamp_of _ = None

-- the timestamp that a value is, without annotations
abbrev pub timestamp_in : Value → Option TimeParts
timestamp_in v = if length v.annotations == 0 then timestamp_of (out-Body v.body) else None

-- the timestamp that is the only value
abbrev pub only_timestamp : List Value → Option TimeParts
only_timestamp (v ∷ []) = timestamp_in v
only_timestamp _ = None

abbrev pub timestamp_read : Answer → Option TimeParts
timestamp_read (Ok vs) = only_timestamp vs
timestamp_read (Err e) = None

-- whole milliseconds since 1970 in UTC, rounded down
unfoldable pub milliseconds_of : TimeParts → ℤ
milliseconds_of t = int_div_euclid (instant_of t) (pos 1_000_000)

-- the time that a word names: as Ion text it is one timestamp
unfoldable pub time_of : List ℕ → Option ℤ
time_of word = option_map milliseconds_of (timestamp_read (read_text 0 word))
