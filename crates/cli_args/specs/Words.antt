-- What the words of the command line ask for.
use Rattle.std.specs.Prelude.{ℕ, ℤ, ◌*◌, nat_lt, Bool, true, false, List, [], ◌∷◌, Option, Some, None, option_and_then, option_map, codes, if◌then◌else◌}
use Rattle.std.specs.Option.{option_map_or}
use Rattle.std.specs.Str.{bytes_eq}
use Rattle.clap.specs.Words.{Row, Text, first_of}
use Rattle.cli_args.specs.Forms.{run_app, digest_app, prove_app, verify_app, extract_app, audit_app, compact_app, export_app, stream_app, replay_app, make_app, found_in}
use Rattle.cli_args.specs.Numbers.{count_of, number_of}
use Rattle.cli_args.specs.Times.{time_of}
use Rattle.cli_args.specs.declared.Command.{Command}
use Rattle.cli_args.specs.declared.Command.TheVariants as command
use Rattle.cli_args.specs.declared.IdSource.{IdSource}
use Rattle.cli_args.specs.declared.IdSource.TheVariants as ids
use Rattle.cli_args.specs.declared.MakeOptions.{MakeOptions}
use Rattle.cli_args.specs.declared.RunOptions.{RunOptions}

-- ---- values

-- what is read of a word that may be left out
abbrev pub at_will : {T : Type 0} → (Text → Option T) → Option Text → Option (Option T)
at_will read None = Some None
at_will read (Some word) = option_map (λ value. Some value) (read word)

-- whether the flag stands among the words
abbrev pub has_flag : Text → List Row → Bool
has_flag name rows = option_map_or (λ told. bytes_eq told (codes "true")) (first_of name rows) false

-- the ids come from a seed, are plain, or come from the clock's first answer; not both of the first two
abbrev pub id_source : Option ℕ → Bool → Option IdSource
id_source (Some seed) true = None
id_source (Some seed) false = Some (ids.Seed seed)
id_source None true = Some ids.Plain
id_source None false = Some ids.FirstAnswer

abbrev pub ids_of : List Row → Option IdSource
ids_of rows =
    option_and_then (λ seed. id_source seed (has_flag (codes "plain-ids") rows))
    (at_will (number_of 64) (first_of (codes "seed") rows))

-- how many of something an argument that has to stand says
abbrev pub count_at : ℕ → Text → List Row → Option ℕ
count_at most name rows = option_and_then (count_of most) (first_of name rows)

-- the number of workers that a word says, and 4 without one
abbrev pub workers_in : Option Text → Option ℕ
workers_in None = Some 4
workers_in (Some word) = count_of 64 word

abbrev pub workers_of : List Row → Option ℕ
workers_of rows = workers_in (first_of (codes "workers") rows)

-- ---- commands

-- with the name of the rules, if one is given
abbrev pub options_of : IdSource → Option ℤ → ℕ → List Row → RunOptions
options_of source time workers rows =
    record { ids = source; time = time; workers = workers; rules = first_of (codes "rules") rows }

abbrev pub run_of : List Row → Option Command
run_of rows =
    option_and_then (λ source. option_and_then (λ time.
    option_map (λ workers. command.Run (options_of source time workers rows)) (workers_of rows))
    (at_will time_of (first_of (codes "at") rows))) (ids_of rows)

abbrev pub tip_of : List Row → Option (Option ℕ)
tip_of rows = at_will (number_of 64) (first_of (codes "tip") rows)

abbrev pub digest_of : List Row → Option Command
digest_of rows = option_map (λ tip. command.Digest tip) (tip_of rows)

-- the number, of at most this many binary digits, that stands at a place
abbrev pub number_at : ℕ → Text → List Row → Option ℕ
number_at bits name rows = option_and_then (number_of bits) (first_of name rows)

abbrev pub prove_of : List Row → Option Command
prove_of rows =
    option_and_then (λ sequence. option_and_then (λ index.
    option_map (λ tip. command.Prove sequence index tip) (tip_of rows))
    (number_at 32 (codes "index") rows)) (number_at 64 (codes "sequence") rows)

-- the number of the first block that a word says, and 0 without one
abbrev pub from_in : Option Text → Option ℕ
from_in None = Some 0
from_in (Some word) = number_of 64 word

abbrev pub from_of : List Row → Option ℕ
from_of rows = from_in (first_of (codes "from") rows)

-- up to but without the block of a number, if one is given
abbrev pub stream_of : List Row → Option Command
stream_of rows =
    option_and_then (λ from. option_map (λ to. command.Stream from to)
    (at_will (number_of 64) (first_of (codes "to") rows))) (from_of rows)

-- the sessions have 100,000 transactions at the most
abbrev pub make_with : MakeOptions → Option Command
make_with o = if nat_lt 100000 (o.sessions * o.transactions) then None else Some (command.Make o)

abbrev pub make_of : List Row → Option Command
make_of rows =
    option_and_then (λ seed. option_and_then (λ sessions. option_and_then (λ transactions. option_and_then (λ workers.
    make_with (record { seed = seed; sessions = sessions; transactions = transactions; workers = workers }))
    (workers_of rows)) (count_at 1000 (codes "transactions") rows)) (count_at 1024 (codes "sessions") rows))
    (number_at 64 (codes "seed") rows)

-- ---- the command line

-- what the words behind a command's word ask it for
abbrev pub asked_by : Text → List Text → Option Command
asked_by word rest =
    if bytes_eq word (codes "run") then option_and_then run_of (found_in run_app rest)
    else if bytes_eq word (codes "digest") then option_and_then digest_of (found_in digest_app rest)
    else if bytes_eq word (codes "prove") then option_and_then prove_of (found_in prove_app rest)
    else if bytes_eq word (codes "verify") then option_map (λ rows. command.Verify) (found_in verify_app rest)
    else if bytes_eq word (codes "extract") then option_map (λ rows. command.Extract) (found_in extract_app rest)
    else if bytes_eq word (codes "audit") then option_map (λ rows. command.Audit) (found_in audit_app rest)
    else if bytes_eq word (codes "compact") then option_map (λ rows. command.Compact) (found_in compact_app rest)
    else if bytes_eq word (codes "export") then option_map (λ rows. command.Export) (found_in export_app rest)
    else if bytes_eq word (codes "stream") then option_and_then stream_of (found_in stream_app rest)
    else if bytes_eq word (codes "replay") then option_map (λ rows. command.Replay) (found_in replay_app rest)
    else if bytes_eq word (codes "make") then option_and_then make_of (found_in make_app rest)
    else None

-- The command that the words name, with what they say of it.
abbrev pub asked : List Text → Option Command
asked [] = None
asked (word ∷ rest) = asked_by word rest
