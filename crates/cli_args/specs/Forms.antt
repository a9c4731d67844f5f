-- Which words may stand behind the word of a command, in the terms of `clap`, which reads them.
use Rattle.std.specs.Prelude.{◌≡◌, List, true, Option, Some, None, Result, MatchResult, codes, if◌then◌else◌}
use Rattle.clap.specs.Words.{App, Row, Rule, Text, found_of, matches_of, new_app, new_rule, rows_of, with_rule}
use Rattle.clap.specs.Walk.{is_empty}
use Rattle.clap.specs.Simple.{on_top}
use Rattle.clap.specs.Faults.{fault_of}
use Rattle.clap.specs.declared.parser.matches.ArgMatches.{ArgMatches}
use Rattle.clap.specs.declared.builder.action.ArgAction.TheVariants.{Set, SetTrue}
use Rattle.cli_args.specs.declared.WordsFault.{WordsFault}
use Rattle.cli_args.specs.declared.WordsFault.TheVariants as fault

-- `--name VALUE`, at will
abbrev pub option_rule : Text → Rule
option_rule name = record (new_rule name) { long = Some name; action = Some Set }

-- `--name VALUE`, which has to stand
abbrev pub wanted_rule : Text → Rule
wanted_rule name = record (new_rule name) { long = Some name; action = Some Set; required = true }

-- `--name`, at will
abbrev pub flag_rule : Text → Rule
flag_rule name = record (new_rule name) { long = Some name; action = Some SetTrue }

-- a word that has to stand, by its place
abbrev pub place_rule : Text → Rule
place_rule name = record (new_rule name) { action = Some Set; required = true }

-- no words yet; the words are all that stand behind the command's, and there is no help and no version to ask for
abbrev pub bare_app : Text → App
bare_app name =
    on_top (λ s. record s { no_binary_name = true; disable_help_flag = true; disable_version_flag = true })
    (new_app name)

-- `run [--seed S] [--plain-ids] [--at TIME] [--workers N] [--rules NAME]`
unfoldable pub run_app : App
run_app =
    with_rule (with_rule (with_rule
    (with_rule (with_rule (bare_app (codes "run")) (option_rule (codes "seed"))) (flag_rule (codes "plain-ids")))
    (option_rule (codes "at"))) (option_rule (codes "workers"))) (option_rule (codes "rules"))

-- `digest [--tip N]`
unfoldable pub digest_app : App
digest_app = with_rule (bare_app (codes "digest")) (option_rule (codes "tip"))

-- `prove SEQ INDEX [--tip N]`
unfoldable pub prove_app : App
prove_app =
    with_rule (with_rule (with_rule (bare_app (codes "prove")) (place_rule (codes "sequence")))
    (place_rule (codes "index")))
    (option_rule (codes "tip"))

-- `verify`
unfoldable pub verify_app : App
verify_app = bare_app (codes "verify")

-- `extract`
unfoldable pub extract_app : App
extract_app = bare_app (codes "extract")

-- `audit`
unfoldable pub audit_app : App
audit_app = bare_app (codes "audit")

-- `compact`
unfoldable pub compact_app : App
compact_app = bare_app (codes "compact")

-- `export`
unfoldable pub export_app : App
export_app = bare_app (codes "export")

-- `stream [--from N] [--to M]`
unfoldable pub stream_app : App
stream_app = with_rule (with_rule (bare_app (codes "stream")) (option_rule (codes "from"))) (option_rule (codes "to"))

-- `replay`
unfoldable pub replay_app : App
replay_app = bare_app (codes "replay")

-- `make --seed S --sessions K --transactions N [--workers W]`
unfoldable pub make_app : App
make_app =
    with_rule (with_rule
    (with_rule (with_rule (bare_app (codes "make")) (wanted_rule (codes "seed"))) (wanted_rule (codes "sessions")))
    (wanted_rule (codes "transactions"))) (option_rule (codes "workers"))

-- what is found of each argument in these words, where `clap` has no cause to refuse them
unfoldable pub found_in : App → List Text → Option (List Row)
found_in app words = if is_empty (fault_of app words) then Some (matches_of app words) else None

-- what was found of each argument
unfoldable pub rows_in : ArgMatches → List Row
rows_in m = rows_of (found_of m)

-- an answer is the one that is wanted, and words are refused exactly where there is none, unless memory runs out
abbrev pub Gives : {T : Type 0} → Result T WordsFault → Option T → Type 0
Gives r wanted = MatchResult r (λ x. wanted ≡ Some x) (λ e. e ≡ fault.Refused → wanted ≡ None)

-- what is found of the words is what the app gives of them, and they are refused exactly where it gives nothing
abbrev pub Finds : Result ArgMatches WordsFault → App → List Text → Type 0
Finds r app words =
    MatchResult r (λ m. found_in app words ≡ Some (rows_in m)) (λ e. e ≡ fault.Refused → found_in app words ≡ None)
