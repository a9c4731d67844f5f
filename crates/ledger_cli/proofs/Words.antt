-- A command that the words ask for has one worker at least, where it runs sessions.
use Rattle.std.proofs.Common.{◌≡◌, ℕ, zero, suc, ◌*◌, ◌<◌, ◌==◌, Bool, true, false, List, [], ◌∷◌, Option, None, Some, refl, subst, arith, if◌then◌else◌}
use Rattle.std.specs.Prelude.{◌||◌, option_and_then, option_map, codes, nat_lt}
use Rattle.std.specs.Str.{bytes_eq}
use Rattle.std.proofs.lemmas.Bool.{eqb-false}
use Rattle.clap.specs.Words.{Row, Text, first_of}
use Rattle.cli_args.specs.Forms.{audit_app, compact_app, digest_app, export_app, extract_app, found_in, make_app, prove_app, replay_app, run_app, stream_app, verify_app}
use Rattle.cli_args.specs.Numbers.{from_one_to, number_of}
use Rattle.cli_args.specs.Times.{time_of}
use Rattle.cli_args.specs.Words.{asked, at_will, count_at, digest_of, from_of, ids_of, make_of, number_at, prove_of, run_of, stream_of, tip_of, workers_in, workers_of}
use Rattle.cli_args.specs.declared.Command.{Command}
use Rattle.cli_args.specs.declared.Command.TheVariants as command
use Rattle.ledger_cli.specs.Workers.{HasWorkers}

-- ---- the number of workers

positive : (n : ℕ) → (n ≡ 0 → ⊥) → 0 < n
positive zero h = absurd (h refl)
positive (suc n) h = omega arith

from_one : (n count : ℕ) (none past : Bool) → (n == 0) ≡ none → (if none || past then None else Some n) ≡ Some count → 0 < count
from_one n count true past is e = let bad : ⊥ = cc e in absurd bad
from_one n count false true is e = let bad : ⊥ = cc e in absurd bad
from_one n count false false is e =
    let same : n ≡ count = cc e in
    subst (λ (k : ℕ). 0 < k) same (positive n (eqb-false n 0 is))

in_word : (n : Option ℕ) (count : ℕ) → option_and_then (from_one_to 64) n ≡ Some count → 0 < count
in_word None count e = let bad : ⊥ = cc e in absurd bad
in_word (Some n) count e = from_one n count (n == 0) (nat_lt 64 n) refl e

some_workers : (word : Option Text) (count : ℕ) → workers_in word ≡ Some count → 0 < count
some_workers None count e = let is : 4 ≡ count = cc e in omega (arith, is)
some_workers (Some word) count e = in_word (number_of 32 word) count e

-- ---- where there is a command, it is so of it

abbrev IfAny : Option Command → Type 0
IfAny None = Unit {0}
IfAny (Some c) = HasWorkers c

then_any : {A : Type 0} (f : A → Option Command) (x : Option A) → ((a : A) → x ≡ Some a → IfAny (f a)) → IfAny (option_and_then f x)
then_any f None h = tt
then_any f (Some a) h = h a refl

map_any : {A : Type 0} (f : A → Command) (x : Option A) → ((a : A) → x ≡ Some a → HasWorkers (f a)) → IfAny (option_map f x)
map_any f None h = tt
map_any f (Some a) h = h a refl

if_any : (b : Bool) (x y : Option Command) → IfAny x → IfAny y → IfAny (if b then x else y)
if_any true x y h k = h
if_any false x y h k = k

run_any : (rows : List Row) → IfAny (run_of rows)
run_any rows =
    then_any _ (ids_of rows)
    (λ source _. then_any _ (at_will time_of (first_of (codes "at") rows))
    (λ time _. map_any _ (workers_of rows) (λ count is. some_workers (first_of (codes "workers") rows) count is)))

prove_any : (rows : List Row) → IfAny (prove_of rows)
prove_any rows =
    then_any _ (number_at 64 (codes "sequence") rows)
    (λ sequence _. then_any _ (number_at 32 (codes "index") rows) (λ index _. map_any _ (tip_of rows) (λ tip _. tt)))

stream_any : (rows : List Row) → IfAny (stream_of rows)
stream_any rows =
    then_any _ (from_of rows)
    (λ from _. map_any _ (at_will (number_of 64) (first_of (codes "to") rows)) (λ to _. tt))

make_any : (rows : List Row) → IfAny (make_of rows)
make_any rows =
    then_any _ (number_at 64 (codes "seed") rows)
    (λ seed _. then_any _ (count_at 1024 (codes "sessions") rows)
    (λ sessions _. then_any _ (count_at 1000 (codes "transactions") rows)
    (λ transactions _. then_any _ (workers_of rows)
    (λ count is. if_any (nat_lt 100000 (sessions * transactions)) None
    (Some (command.Make (record { seed = seed; sessions = sessions; transactions = transactions; workers = count }))) tt
    (some_workers (first_of (codes "workers") rows) count is)))))

asked_any : (words : List Text) → IfAny (asked words)
asked_any [] = tt
asked_any (word ∷ rest) =
    if_any (bytes_eq word (codes "run")) _ _ (then_any run_of (found_in run_app rest) (λ rows _. run_any rows))
    (if_any (bytes_eq word (codes "digest")) _ _
    (then_any digest_of (found_in digest_app rest) (λ rows _. map_any _ (tip_of rows) (λ tip _. tt)))
    (if_any (bytes_eq word (codes "prove")) _ _ (then_any prove_of (found_in prove_app rest) (λ rows _. prove_any rows))
    (if_any (bytes_eq word (codes "verify")) _ _ (map_any _ (found_in verify_app rest) (λ rows _. tt))
    (if_any (bytes_eq word (codes "extract")) _ _ (map_any _ (found_in extract_app rest) (λ rows _. tt))
    (if_any (bytes_eq word (codes "audit")) _ _ (map_any _ (found_in audit_app rest) (λ rows _. tt))
    (if_any (bytes_eq word (codes "compact")) _ _ (map_any _ (found_in compact_app rest) (λ rows _. tt))
    (if_any (bytes_eq word (codes "export")) _ _ (map_any _ (found_in export_app rest) (λ rows _. tt))
    (if_any (bytes_eq word (codes "stream")) _ _ (then_any stream_of (found_in stream_app rest) (λ rows _. stream_any rows))
    (if_any (bytes_eq word (codes "replay")) _ _ (map_any _ (found_in replay_app rest) (λ rows _. tt))
    (if_any (bytes_eq word (codes "make")) _ None (then_any make_of (found_in make_app rest) (λ rows _. make_any rows)) tt))))))))))

pub has_workers : (words : List Text) (c : Command) → asked words ≡ Some c → HasWorkers c
has_workers words c is = subst IfAny is (asked_any words)
