-- What a run takes from its clock: the times of its blocks and the seed of its ids.
use Rattle.std.specs.Prelude.{◌≡◌, ℕ, ℤ, List, [], ◌∷◌, length, drop, Option, Some, None, IsSome}
use Rattle.std.specs.Int.{w64, cast_unsigned}
use Rattle.id_seed.specs.Seed.{mask_of}
use Rattle.ion_time.specs.Millis.{BeginsAt, nearest}
use Rattle.ion_values.specs.declared.time.TimeParts.{TimeParts}
use Rattle.cli_args.specs.declared.IdSource.{IdSource}
use Rattle.cli_args.specs.declared.IdSource.TheVariants as ids
use Rattle.laws_history.specs.Calls.{Span}
use Rattle.laws_history.specs.Records.{Times, one_time, answered, untold}

-- the answers that a clock has given, where it tells them
abbrev pub Answers : Type 0
Answers = Option (List ℤ)

-- the times that were answered from one moment to a later one, where both are told
abbrev pub times_between : Answers → Answers → Times
times_between (Some before) (Some after) = answered (drop (length before) after)
times_between _ _ = untold

-- the seed that an answer is: its 64 bits read as a number
abbrev pub seed_of : ℤ → ℕ
seed_of answer = cast_unsigned w64 answer

-- the mask of the first of these answers
abbrev pub first_mask : List ℤ → Option ℕ
first_mask [] = None
first_mask (answer ∷ answers) = Some (mask_of (seed_of answer))

-- the mask of the first answer from one moment to a later one, where both are told
abbrev pub mask_between : Answers → Answers → Option ℕ
mask_between (Some before) (Some after) = first_mask (drop (length before) after)
mask_between _ _ = None

-- The mask that the words give the ids of an empty journal: 0, that of a seed, or that of the clock's first answer in
-- this call, where the clock tells it.
abbrev pub given_by : IdSource → Span Answers → Option ℕ
given_by ids.Plain clock = Some 0
given_by (ids.Seed seed) clock = Some (mask_of seed)
given_by ids.FirstAnswer clock = mask_between clock.before clock.after

-- an answer was given from one moment to a later one, where both are told
abbrev pub HasAnswered : Answers → Answers → Type 0
HasAnswered (Some before) (Some after) = IsSome (first_mask (drop (length before) after))
HasAnswered _ _ = Unit {0}

-- where the mask is that of the clock's first answer, the clock gave one
abbrev pub GaveFirst : IdSource → Span Answers → Type 0
GaveFirst ids.Plain clock = Unit {0}
GaveFirst (ids.Seed seed) clock = Unit {0}
GaveFirst ids.FirstAnswer clock = HasAnswered clock.before clock.after

-- The times of the blocks: the timestamp that begins at the milliseconds that the words give, taken to the nearest of
-- the years 0001 to 9999, or what the clock answers in this call.
abbrev pub AreTimes : Option ℤ → Span Answers → Times → Type 0
AreTimes (Some ms) clock times = (time : TimeParts) × BeginsAt (nearest ms) time × (times ≡ one_time time)
AreTimes None clock times = times ≡ times_between clock.before clock.after
