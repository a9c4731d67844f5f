-- Rows of words with the commands that they name.
use Rattle.std.proofs.Common.{◌≡◌, [], ◌∷◌, codes, refl, Some, None}
use Rattle.clap.specs.Faults.{defaults_fault, walk_fault}
use Rattle.clap.specs.Walk.{walked}
use Rattle.cli_args.specs.declared.Command.TheVariants as command
use Rattle.cli_args.specs.declared.IdSource.TheVariants as ids
use Rattle.cli_args.specs.Forms.{audit_app, compact_app, digest_app, export_app, extract_app, found_in, make_app, prove_app, replay_app, run_app, stream_app, verify_app}
use Rattle.cli_args.specs.Numbers.{number_of}
use Rattle.cli_args.specs.Words.{asked}

no_word : asked [] ≡ None
no_word = refl

no_command : asked (codes "frobnicate" ∷ []) ≡ None
no_command = refl

plain_run : asked (codes "run" ∷ codes "--plain-ids" ∷ [])
    ≡ Some (command.Run (record { ids = ids.Plain; time = None; workers = 4; rules = None }))
unfolding found_in walk_fault defaults_fault walked run_app
plain_run = refl

bare_run : asked (codes "run" ∷ []) ≡ Some (command.Run (record { ids = ids.FirstAnswer; time = None; workers = 4; rules = None }))
unfolding found_in walk_fault defaults_fault walked run_app
bare_run = refl

seeded_run : asked (codes "run" ∷ codes "--seed" ∷ codes "1" ∷ [])
    ≡ Some (command.Run (record { ids = ids.Seed 1; time = None; workers = 4; rules = None }))
unfolding found_in walk_fault defaults_fault walked run_app number_of
seeded_run = refl

-- both id options
both : asked (codes "run" ∷ codes "--seed" ∷ codes "1" ∷ codes "--plain-ids" ∷ []) ≡ None
unfolding found_in walk_fault defaults_fault walked run_app number_of
both = refl

twice : asked (codes "run" ∷ codes "--plain-ids" ∷ codes "--plain-ids" ∷ []) ≡ None
unfolding found_in walk_fault defaults_fault walked run_app
twice = refl

-- 2^64
wide_seed : asked (codes "run" ∷ codes "--seed" ∷ codes "18446744073709551616" ∷ []) ≡ None
unfolding found_in walk_fault defaults_fault walked run_app number_of
wide_seed = refl

tip : asked (codes "digest" ∷ codes "--tip" ∷ codes "70" ∷ []) ≡ Some (command.Digest (Some 70))
unfolding found_in walk_fault defaults_fault walked digest_app number_of
tip = refl

tip_of_zero : asked (codes "digest" ∷ codes "--tip" ∷ codes "0" ∷ []) ≡ Some (command.Digest (Some 0))
unfolding found_in walk_fault defaults_fault walked digest_app number_of
tip_of_zero = refl

zero_in_front : asked (codes "digest" ∷ codes "--tip" ∷ codes "07" ∷ []) ≡ None
unfolding found_in walk_fault defaults_fault walked digest_app number_of
zero_in_front = refl

signed_tip : asked (codes "digest" ∷ codes "--tip" ∷ codes "+7" ∷ []) ≡ None
unfolding found_in walk_fault defaults_fault walked digest_app number_of
signed_tip = refl

proves : asked (codes "prove" ∷ codes "2" ∷ codes "0" ∷ []) ≡ Some (command.Prove 2 0 None)
unfolding found_in walk_fault defaults_fault walked prove_app number_of
proves = refl

-- an index of 2^32
wide_index : asked (codes "prove" ∷ codes "2" ∷ codes "4294967296" ∷ []) ≡ None
unfolding found_in walk_fault defaults_fault walked prove_app number_of
wide_index = refl

no_index : asked (codes "prove" ∷ codes "2" ∷ []) ≡ None
unfolding found_in walk_fault defaults_fault walked prove_app number_of
no_index = refl

verifies : asked (codes "verify" ∷ []) ≡ Some command.Verify
unfolding found_in walk_fault defaults_fault walked verify_app
verifies = refl

audits : asked (codes "audit" ∷ []) ≡ Some command.Audit
unfolding found_in walk_fault defaults_fault walked audit_app
audits = refl

extracts : asked (codes "extract" ∷ []) ≡ Some command.Extract
unfolding found_in walk_fault defaults_fault walked extract_app
extracts = refl

extract_more : asked (codes "extract" ∷ codes "1" ∷ []) ≡ None
unfolding found_in walk_fault defaults_fault walked extract_app
extract_more = refl

compacts : asked (codes "compact" ∷ []) ≡ Some command.Compact
unfolding found_in walk_fault defaults_fault walked compact_app
compacts = refl

compact_more : asked (codes "compact" ∷ codes "1" ∷ []) ≡ None
unfolding found_in walk_fault defaults_fault walked compact_app
compact_more = refl

exports : asked (codes "export" ∷ []) ≡ Some command.Export
unfolding found_in walk_fault defaults_fault walked export_app
exports = refl

export_more : asked (codes "export" ∷ codes "1" ∷ []) ≡ None
unfolding found_in walk_fault defaults_fault walked export_app
export_more = refl

streams : asked (codes "stream" ∷ []) ≡ Some (command.Stream 0 None)
unfolding found_in walk_fault defaults_fault walked stream_app
streams = refl

streams_part : asked (codes "stream" ∷ codes "--to" ∷ codes "7" ∷ codes "--from" ∷ codes "2" ∷ []) ≡ Some (command.Stream 2 (Some 7))
unfolding found_in walk_fault defaults_fault walked stream_app number_of
streams_part = refl

signed_from : asked (codes "stream" ∷ codes "--from" ∷ codes "+2" ∷ []) ≡ None
unfolding found_in walk_fault defaults_fault walked stream_app number_of
signed_from = refl

replays : asked (codes "replay" ∷ []) ≡ Some command.Replay
unfolding found_in walk_fault defaults_fault walked replay_app
replays = refl

replay_more : asked (codes "replay" ∷ codes "1" ∷ []) ≡ None
unfolding found_in walk_fault defaults_fault walked replay_app
replay_more = refl

word_more : asked (codes "audit" ∷ codes "x" ∷ []) ≡ None
unfolding found_in walk_fault defaults_fault walked audit_app
word_more = refl

workers : asked (codes "run" ∷ codes "--plain-ids" ∷ codes "--workers" ∷ codes "64" ∷ [])
    ≡ Some (command.Run (record { ids = ids.Plain; time = None; workers = 64; rules = None }))
unfolding found_in walk_fault defaults_fault walked run_app number_of
workers = refl

under_rules : asked (codes "run" ∷ codes "--rules" ∷ codes "clerks" ∷ codes "--plain-ids" ∷ [])
    ≡ Some (command.Run (record { ids = ids.Plain; time = None; workers = 4; rules = Some (codes "clerks") }))
unfolding found_in walk_fault defaults_fault walked run_app
under_rules = refl

-- an option without its value
no_name : asked (codes "run" ∷ codes "--plain-ids" ∷ codes "--rules" ∷ []) ≡ None
unfolding found_in walk_fault defaults_fault walked run_app
no_name = refl

no_workers : asked (codes "run" ∷ codes "--workers" ∷ codes "0" ∷ []) ≡ None
unfolding found_in walk_fault defaults_fault walked run_app number_of
no_workers = refl

many_workers : asked (codes "run" ∷ codes "--workers" ∷ codes "65" ∷ []) ≡ None
unfolding found_in walk_fault defaults_fault walked run_app number_of
many_workers = refl

makes : asked (codes "make" ∷ codes "--seed" ∷ codes "1" ∷ codes "--sessions" ∷ codes "2" ∷ codes "--transactions" ∷ codes "3" ∷ [])
    ≡ Some (command.Make (record { seed = 1; sessions = 2; transactions = 3; workers = 4 }))
unfolding found_in walk_fault defaults_fault walked make_app number_of
makes = refl

no_seed : asked (codes "make" ∷ codes "--sessions" ∷ codes "2" ∷ codes "--transactions" ∷ codes "3" ∷ []) ≡ None
unfolding found_in walk_fault defaults_fault walked make_app number_of
no_seed = refl

-- 101 sessions of 1,000 transactions
many_transactions :
    asked (codes "make" ∷ codes "--seed" ∷ codes "1" ∷ codes "--sessions" ∷ codes "101" ∷ codes "--transactions" ∷ codes "1000" ∷ [])
    ≡ None
unfolding found_in walk_fault defaults_fault walked make_app number_of
many_transactions = refl
