-- One more transaction of a session, and one more session, at the end.
use Rattle.std.proofs.Common.{◌≡◌, ℕ, ◌+◌, ◌-◌, List, [], ◌∷◌, ◌++◌, ap, sym, ◌∙◌, arith}
use Rattle.std.proofs.lemmas.List.FromFn.{map-range_with_len_more}
use Rattle.rand_chacha.specs.ChaCha.{ChaCha}
use Rattle.ledger_model.specs.declared.script.Job.{Job}
use Rattle.workload.specs.Made.{amount_at, made_amount, made_job, made_session, made_sessions, session_stream}

-- the stream at the word behind
pub stream-next : (seed session at : ℕ) (words next : ChaCha) → words ≡ session_stream seed session at
    → next ≡ record words { word_pos = words.word_pos + 1 } → next ≡ session_stream seed session (at + 1)
stream-next seed session at words next is step = step ∙ ap (λ (w : ChaCha). record w { word_pos = w.word_pos + 1 }) is

-- the word of a place gives the amount of the transaction behind as many
amount-next : (seed session at : ℕ) → amount_at (session_stream seed session at) ≡ made_amount seed session (at + 1)
amount-next seed session at =
    let back : at ≡ at + 1 - 1 = omega arith in ap (λ n. amount_at (session_stream seed session n)) back

-- the transactions so far and one more
pub session-next : (seed session at : ℕ) (jobs longer : List Job) (job : Job) (amount : ℕ) (words : ChaCha)
    → jobs ≡ made_session seed session at → words ≡ session_stream seed session at → amount ≡ amount_at words
    → job ≡ made_job session (at + 1) amount → longer ≡ jobs ++ job ∷ [] → longer ≡ made_session seed session (at + 1)
session-next seed session at jobs longer job amount words so_far stands is made joins =
    let amount-is : amount ≡ made_amount seed session (at + 1) =
    is ∙ ap amount_at stands ∙ amount-next seed session at in
    let job-is : job ≡ made_job session (at + 1) (made_amount seed session (at + 1)) =
    made ∙ ap (made_job session (at + 1)) amount-is in
    joins ∙ ap (λ (xs : List Job). xs ++ job ∷ []) so_far
    ∙ ap (λ (x : Job). made_session seed session at ++ x ∷ []) job-is
    ∙ sym (map-range_with_len_more (λ t. made_job session t (made_amount seed session t)) 1 at (at + 1) (omega arith))

-- the sessions so far and one more
pub sessions-next : (seed at transactions : ℕ) (script longer : List (List Job)) (jobs : List Job)
    → script ≡ made_sessions seed at transactions → jobs ≡ made_session seed (at + 1) transactions
    → longer ≡ script ++ jobs ∷ [] → longer ≡ made_sessions seed (at + 1) transactions
sessions-next seed at transactions script longer jobs so_far made joins =
    joins ∙ ap (λ (xs : List (List Job)). xs ++ jobs ∷ []) so_far
    ∙ ap (λ (x : List Job). made_sessions seed at transactions ++ x ∷ []) made
    ∙ sym (map-range_with_len_more (λ s. made_session seed s transactions) 1 at (at + 1) (omega arith))
