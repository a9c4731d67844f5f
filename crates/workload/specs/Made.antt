-- A made workload, by the ledger's own rule. The transaction of session 0 makes a table with an index and runs first
-- and alone. Each transaction of the sessions from 1 on inserts a document of its session and counts the session's
-- documents. Its amount is a word of a key stream of ChaCha20 (RFC 8439, with a counter and a stream number of 64
-- bits).
use Rattle.std.specs.Prelude.{ℕ, ◌-◌, ◌%◌, false, List, [], ◌∷◌, map, codes, None}
use Rattle.std.specs.List.{range_with_len}
use Rattle.rand_chacha.specs.ChaCha.{ChaCha, word_at, key_of}
use Rattle.id_seed.specs.Seed.{seed_key}
use Rattle.ion_values.specs.declared.value.Value.{Value}
use Rattle.ledger_model.specs.declared.script.Request.{Request}
use Rattle.ledger_model.specs.declared.script.Job.{Job}
use Rattle.ledger_model.specs.Journal.{number, structure}
use Rattle.ledger_model.specs.Script.{Placed, all_placed_from, text_alone}
use Rattle.ledger_model.specs.Values.{field}

-- ---- amounts

-- the stream of a session under the key of the seed, at the word of this place, counted from 0
abbrev pub session_stream : ℕ → ℕ → ℕ → ChaCha
session_stream seed session place = record { key = key_of (seed_key seed); stream = session; word_pos = place }

-- the word at which a generator stands, modulo 1,000; ChaCha20 has 10 double rounds
abbrev pub amount_at : ChaCha → ℕ
amount_at words = word_at 10 words.key words.stream words.word_pos % 1000

-- transactions are counted from 1
abbrev pub made_amount : ℕ → ℕ → ℕ → ℕ
made_amount seed session transaction = amount_at (session_stream seed session (transaction - 1))

-- ---- transactions

-- a transaction of these statements in which a script says nothing else
abbrev pub job_of : List Request → Job
job_of statements = record { statements = statements; retries = 4; digest = None; abort = false; denied = None }

-- a statement with one parameter
abbrev pub asked_with : List ℕ → Value → Request
asked_with text param = record { text = text; params = param ∷ [] }

abbrev pub made_first : Job
made_first = job_of (text_alone (codes "CREATE TABLE made") ∷ text_alone (codes "CREATE INDEX ON made (s)") ∷ [])

abbrev pub made_document : ℕ → ℕ → ℕ → Value
made_document session transaction amount = structure (
    field (codes "s") (number session) ∷ field (codes "t") (number transaction)
    ∷ field (codes "amount") (number amount) ∷ [])

abbrev pub made_job : ℕ → ℕ → ℕ → Job
made_job session transaction amount = job_of (
    asked_with (codes "INSERT INTO made ?") (made_document session transaction amount)
    ∷ asked_with (codes "SELECT COUNT(*) FROM made AS m WHERE m.s = ?") (number session) ∷ [])

-- ---- sessions

-- the transactions of a session, as many as this
abbrev pub made_session : ℕ → ℕ → ℕ → List Job
made_session seed session transactions =
    map (λ t. made_job session t (made_amount seed session t)) (range_with_len 1 transactions)

-- the sessions from 1 on, as many as the second number, each of as many transactions as the third
abbrev pub made_sessions : ℕ → ℕ → ℕ → List (List Job)
made_sessions seed sessions transactions = map (λ s. made_session seed s transactions) (range_with_len 1 sessions)

-- all transactions with their places, with session 0 in front
abbrev pub made_placed : ℕ → ℕ → ℕ → List Placed
made_placed seed sessions transactions =
    all_placed_from 0 ((made_first ∷ []) ∷ made_sessions seed sessions transactions)
