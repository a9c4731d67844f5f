-- A worker's jobs, one after another.
use Rattle.std.proofs.Common.{◌≡◌, ◌∙◌, ℕ, zero, suc, ◌+◌, ◌<◌, ◌≤◌, ◌%◌, ◌==◌, Bool, true, false, cond, List, [], ◌∷◌, ◌++◌, map, append-nil, append_assoc, length, length-append, get_or, drop, refl, sym, ap, arith, inl, inr}
use Rattle.std.specs.List.{AllByRecursion}
use Rattle.std.proofs.lemmas.List.{drop_all, drop_more, map-append}
use Rattle.std.proofs.lemmas.List.Elements.{filter-append}
use Rattle.std.proofs.lemmas.Bool.Decides.{eqb_tells}
use Rattle.ledger_model.specs.declared.outcome.Outcome.{Outcome}
use Rattle.ledger_model.specs.declared.outcome.PlacedOutcome.{PlacedOutcome}
use Rattle.ledger_model.specs.declared.script.Job.{Job}
use Rattle.ledger_model.specs.Script.{Placed, all_placed_from, placed_from}
use Rattle.session_driver.specs.Retries.{Retried}
use Rattle.turn_lock.specs.declared.view.Known.{Known}
use Rattle.laws_machine.specs.Entries.{Entry, Opening}
use Rattle.laws_history.specs.Attempts.{Attempted}
use Rattle.laws_history.specs.Runs.{Served, told_of}
use Rattle.laws_history.proofs.Driving.{works_more}
use Rattle.ledger_shared.specs.Sessions.{Serves, course, dealt_jobs, job_count}

-- one job more was run, and its outcome is kept
pub serves_one : (o : Opening) (p : Placed) (x : Outcome) (before after : List PlacedOutcome) (k now : Known Entry)
    → Retried (Attempted o) p.job p.place k x now → after ≡ before ++ record { place = p.place; outcome = x } ∷ []
    → Serves o (p ∷ []) (course before k) (course after now)
serves_one o p x before after k now r kept all rest first h =
    let s : Served = record { placed = p; outcome = x } in
    let placed : Served → Placed = λ y. y.placed in
    record {
      served = h.served ++ s ∷ [];
      jobs = ap (λ l. l ++ rest) (map-append placed h.served (s ∷ [])) ∙ append_assoc (map placed h.served) (p ∷ []) rest ∙ h.jobs;
      outcomes = kept ∙ ap (λ l. l ++ told_of s ∷ []) h.outcomes ∙ append_assoc first.outcomes (map told_of h.served) (told_of s ∷ [])
          ∙ ap (λ l. first.outcomes ++ l) (sym (map-append told_of h.served (s ∷ [])));
      works = works_more o h.served s first.known k now h.works r;
    }

-- what comes next in a session
pub jobs_left : (session at : ℕ) (jobs : List Job) (job : Job) (rest : List Placed) → at < length jobs → job ≡ get_or jobs at job
    → placed_from session (1 + at) (drop at jobs) ++ rest
    ≡ record { place = record { session = session; transaction = at + 1 }; job = job } ∷ (placed_from session (1 + (at + 1)) (drop (at + 1) jobs) ++ rest)
jobs_left session at jobs job rest within is =
    let one : drop at jobs ≡ job ∷ drop (at + 1) jobs =
    drop_more jobs at job within ∙ ap (λ (x : Job). x ∷ drop (at + 1) jobs) (sym is) in
    let same : 1 + at ≡ at + 1 = omega arith in
    let next : (at + 1) + 1 ≡ 1 + (at + 1) = omega arith in
    ap (λ (x : List Job). placed_from session (1 + at) x ++ rest) one
    ∙ ap (λ n. placed_from session n (job ∷ drop (at + 1) jobs) ++ rest) same
    ∙ ap (λ n. record { place = record { session = session; transaction = at + 1 }; job = job } ∷ (placed_from session n (drop (at + 1) jobs) ++ rest)) next

pub jobs_done : (session at : ℕ) (jobs : List Job) (rest : List Placed) → length jobs ≤ at
    → placed_from session (1 + at) (drop at jobs) ++ rest ≡ rest
jobs_done session at jobs rest past = ap (λ (x : List Job). placed_from session (1 + at) x ++ rest) (drop_all at jobs past)

-- ---- the sessions that are dealt to a worker

pub is_rest : (a b : ℕ) → a ≡ b → (a == b) ≡ true
is_rest a b e = elim (eqb_tells a b) [ inl t ↦ t.0 | inr f ↦ absurd (f.1 e) ]

pub is_other : (a b : ℕ) → (a ≡ b → ⊥) → (a == b) ≡ false
is_other a b e = elim (eqb_tells a b) [ inl t ↦ absurd (e t.1) | inr f ↦ f.0 ]

pub dealt_all : (workers rest session n : ℕ) (jobs : List Job) → session % workers ≡ rest
    → dealt_jobs workers rest (placed_from session n jobs) ≡ placed_from session n jobs
dealt_all workers rest session n [] e = refl
dealt_all workers rest session n (job ∷ jobs) e =
    let p : Placed = record { place = record { session = session; transaction = n }; job = job } in
    let left = dealt_jobs workers rest (placed_from session (n + 1) jobs) in
    ap (λ (b : Bool). cond b (p ∷ left) left) (is_rest (session % workers) rest e) ∙ ap (λ (ps : List Placed). p ∷ ps) (dealt_all workers rest session (n + 1) jobs e)

pub dealt_none : (workers rest session n : ℕ) (jobs : List Job) → (session % workers ≡ rest → ⊥)
    → dealt_jobs workers rest (placed_from session n jobs) ≡ []
dealt_none workers rest session n [] e = refl
dealt_none workers rest session n (job ∷ jobs) e =
    let p : Placed = record { place = record { session = session; transaction = n }; job = job } in
    let left = dealt_jobs workers rest (placed_from session (n + 1) jobs) in
    ap (λ (b : Bool). cond b (p ∷ left) left) (is_other (session % workers) rest e) ∙ dealt_none workers rest session (n + 1) jobs e

-- so are those of the next session and of those behind it
pub sessions_left : (workers rest at : ℕ) (script : List (List Job)) (jobs : List Job) (more : List Placed) → at < length script
    → jobs ≡ get_or script at jobs
    → dealt_jobs workers rest (all_placed_from (1 + at) (drop at script)) ++ more
    ≡ dealt_jobs workers rest (placed_from (at + 1) 1 jobs)
    ++ (dealt_jobs workers rest (all_placed_from (1 + (at + 1)) (drop (at + 1) script)) ++ more)
sessions_left workers rest at script jobs more within is =
    let one : drop at script ≡ jobs ∷ drop (at + 1) script =
    drop_more script at jobs within ∙ ap (λ (x : List Job). x ∷ drop (at + 1) script) (sym is) in
    let same : 1 + at ≡ at + 1 = omega arith in
    let next : (at + 1) + 1 ≡ 1 + (at + 1) = omega arith in
    let dealt : Placed → Bool = λ p. p.place.session % workers == rest in
    let behind = all_placed_from (1 + (at + 1)) (drop (at + 1) script) in
    ap (λ (x : List (List Job)). dealt_jobs workers rest (all_placed_from (1 + at) x) ++ more) one
    ∙ ap (λ n. dealt_jobs workers rest (all_placed_from n (jobs ∷ drop (at + 1) script)) ++ more) same
    ∙ ap (λ n. dealt_jobs workers rest (placed_from (at + 1) 1 jobs ++ all_placed_from n (drop (at + 1) script)) ++ more) next
    ∙ ap (λ (ps : List Placed). ps ++ more) (filter-append dealt (placed_from (at + 1) 1 jobs) behind)
    ∙ append_assoc (dealt_jobs workers rest (placed_from (at + 1) 1 jobs)) (dealt_jobs workers rest behind) more

pub sessions_done : (workers rest at : ℕ) (script : List (List Job)) (more : List Placed) → length script ≤ at
    → dealt_jobs workers rest (all_placed_from (1 + at) (drop at script)) ++ more ≡ more
sessions_done workers rest at script more past =
    ap (λ (x : List (List Job)). dealt_jobs workers rest (all_placed_from (1 + at) x) ++ more) (drop_all at script past)

-- those that come next have room
pub room_left : (at : ℕ) (script : List (List Job)) (jobs : List Job) → at < length script → jobs ≡ get_or script at jobs
    → job_count (drop at script) ≡ length jobs + job_count (drop (at + 1) script)
room_left at script jobs within is =
    ap job_count (drop_more script at jobs within ∙ ap (λ (x : List Job). x ∷ drop (at + 1) script) (sym is))

pub all_at : {A : Type 0} (P : A → Type 0) (xs : List A) (k : ℕ) (d : A) → AllByRecursion P xs → k < length xs → P (get_or xs k d)
all_at P [] k d h within = absurd (omega (arith, within))
all_at P (x ∷ xs) zero d h within = h.0
all_at P (x ∷ xs) (suc k) d h within = all_at P xs k d h.1 (omega (arith, within))

-- ---- how many jobs are dealt

length_placed : (session n : ℕ) (jobs : List Job) → length (placed_from session n jobs) ≡ length jobs
length_placed session n [] = refl
length_placed session n (job ∷ jobs) = ap (λ k. suc k) (length_placed session (n + 1) jobs)

pub count_all : (workers rest session : ℕ) (jobs : List Job) → session % workers ≡ rest
    → length (dealt_jobs workers rest (placed_from session 1 jobs)) ≡ length jobs
count_all workers rest session jobs e = ap length (dealt_all workers rest session 1 jobs e) ∙ length_placed session 1 jobs

pub count_none : (workers rest session : ℕ) (jobs : List Job) → (session % workers ≡ rest → ⊥)
    → length (dealt_jobs workers rest (placed_from session 1 jobs)) ≡ 0
count_none workers rest session jobs e = ap length (dealt_none workers rest session 1 jobs e)

pub count_left : (workers rest at : ℕ) (script : List (List Job)) (jobs : List Job) → at < length script → jobs ≡ get_or script at jobs
    → length (dealt_jobs workers rest (all_placed_from (1 + at) (drop at script)))
    ≡ length (dealt_jobs workers rest (placed_from (at + 1) 1 jobs))
    + length (dealt_jobs workers rest (all_placed_from (1 + (at + 1)) (drop (at + 1) script)))
count_left workers rest at script jobs within is =
    let all = dealt_jobs workers rest (all_placed_from (1 + at) (drop at script)) in
    let first = dealt_jobs workers rest (placed_from (at + 1) 1 jobs) in
    let behind = dealt_jobs workers rest (all_placed_from (1 + (at + 1)) (drop (at + 1) script)) in
    sym (ap length (append-nil all)) ∙ ap length (sessions_left workers rest at script jobs [] within is)
    ∙ length-append first (behind ++ []) ∙ ap (λ l. length first + length l) (append-nil behind)

pub count_done : (workers rest at : ℕ) (script : List (List Job)) → length script ≤ at
    → length (dealt_jobs workers rest (all_placed_from (1 + at) (drop at script))) ≡ 0
count_done workers rest at script past =
    ap (λ (x : List (List Job)). length (dealt_jobs workers rest (all_placed_from (1 + at) x))) (drop_all at script past)

-- the number of jobs of the session, where it is dealt, and else 0
pub count_of : (workers rest session share : ℕ) (jobs : List Job) → (session % workers ≡ rest → share ≡ length jobs)
    → ((session % workers ≡ rest → ⊥) → share ≡ 0) → share ≡ length (dealt_jobs workers rest (placed_from session 1 jobs))
count_of workers rest session share jobs all none =
    elim (eqb_tells (session % workers) rest) [
      | inl t ↦ all t.1 ∙ sym (count_all workers rest session jobs t.1)
      | inr f ↦ none f.1 ∙ sym (count_none workers rest session jobs f.1)
    ]
