-- Wrong runs that the claim refuses: one row for each thing that a wrong program might leave or tell.
use Rattle.std.proofs.Common.{◌≡◌, ℕ, ◌+◌, ◌-◌, ◌<◌, ◌≤◌, ◌^◌, true, false, List, [], ◌∷◌, length, take, slice_get, Option, Some, None, sym, ap, subst, ◌∙◌, arith, true≢false}
use Rattle.std.specs.Prelude.{IfSome}
use Rattle.ion_values.specs.declared.time.TimeParts.{TimeParts}
use Rattle.ql_types.specs.declared.TxId.{TxId}
use Rattle.ledger_model.specs.declared.block.Block.{Block}
use Rattle.ledger_model.specs.declared.outcome.Item.{Item}
use Rattle.ledger_model.specs.declared.outcome.Outcome.TheVariants.{Committed, Conflict}
use Rattle.ledger_model.specs.declared.outcome.PlacedOutcome.{PlacedOutcome}
use Rattle.ledger_model.specs.declared.outcome.Refusal.{Refusal}
use Rattle.ledger_model.specs.declared.script.Denial.{Denial}
use Rattle.ledger_model.specs.Follows.{all_differ}
use Rattle.ledger_model.specs.Run.{Progress, ran, refused}
use Rattle.ledger_model.specs.Script.{Placed}
use Rattle.laws_history.specs.Claims.{EachHolds, Fits, IsSpent, RunsBefore}
use Rattle.ledger_model.specs.Journal.{said_in}
use Rattle.ledger_model.specs.Legal.{asked_in}
use Rattle.laws_history.specs.Records.{FitsBlocks, greatest_count, HaveTimes, InSessionOrder, IsAborted, IsCommitted, IsDenied, IsJournalFull, IsOfJob, IsRefused, IsStoreFault, RunRecord, attempts, greatest, mask_of, one_time, ran_on, told_counts, told_ids}

-- ---- outcomes

-- an outcome is left out
left_out : (t : RunRecord) (p : Placed) → t.jobs ≡ p ∷ [] → t.outcomes ≡ [] → Fits t → ⊥
left_out t p jobs none h =
    subst (λ (os : List PlacedOutcome). EachHolds t [] (p ∷ []) os) none (subst (λ (ps : List Placed). EachHolds t [] ps t.outcomes) jobs h.outcomes)

-- an outcome is told of no job
one_more : (t : RunRecord) (o : PlacedOutcome) → t.jobs ≡ [] → t.outcomes ≡ o ∷ [] → Fits t → ⊥
one_more t o none outcomes h =
    subst (λ (os : List PlacedOutcome). EachHolds t [] [] os) outcomes (subst (λ (ps : List Placed). EachHolds t [] ps t.outcomes) none h.outcomes)

-- an outcome is told at another job's place
misplaced : (t : RunRecord) (p : Placed) (o : PlacedOutcome) (done os : List PlacedOutcome) (ps : List Placed)
    → (o.place ≡ p.place → ⊥) → EachHolds t done (p ∷ ps) (o ∷ os) → ⊥
misplaced t p o done os ps other h = other h.0

-- an id is told twice
id_twice : (t : RunRecord) (id : ℕ) → told_ids t.outcomes ≡ id ∷ id ∷ [] → Fits t → ⊥
id_twice t id twice h =
    let same : all_differ (id ∷ id ∷ []) ≡ true = subst (λ (ids : List ℕ). all_differ ids ≡ true) twice h.numbers in
    grind arith

-- a failure of the store is told twice
fault_twice : (t : RunRecord) (count : ℕ) → told_counts t.outcomes ≡ count ∷ count ∷ [] → Fits t → ⊥
fault_twice t count twice h =
    let same : all_differ (count ∷ count ∷ []) ≡ true = subst (λ (counts : List ℕ). all_differ counts ≡ true) twice h.counts in
    grind arith

-- the store failed, and no outcome tells it
fault_untold : (t : RunRecord) → t.opened < t.closed → told_counts t.outcomes ≡ [] → Fits t → ⊥
fault_untold t rose none h =
    let same : t.closed ≡ t.opened = h.faults ∙ ap (λ (counts : List ℕ). greatest_count t.opened counts) none in
    omega (arith, rose, same)

-- a failure is told that the store had before the run
old_fault : (t : RunRecord) (p : Placed) (tx : TxId) (count : ℕ) → count ≤ t.opened → IsStoreFault t p tx count → ⊥
old_fault t p tx count old h = omega (arith, old, h.rose)

-- ---- one outcome

-- a block is told that stood before the run
not_new : (t : RunRecord) (p : Placed) (tx : TxId) (block : ℕ) → block < length t.before → IsCommitted t p tx block → ⊥
not_new t p tx block old h = omega (arith, old, h.is_new)

-- a block is told where none stands
not_there : (t : RunRecord) (p : Placed) (tx : TxId) (block : ℕ) → slice_get t.after block ≡ None → IsCommitted t p tx block → ⊥
not_there t p tx block none h = let bad : None ≡ Some h.sealed = sym none ∙ h.there in absurd (cc bad)

-- another job's block is told
of_another : (t : RunRecord) (p : Placed) (tx : TxId) (block : ℕ) (b : Block) → slice_get t.after block ≡ Some b
    → (b.info.place ≡ p.place → ⊥) → IsCommitted t p tx block → ⊥
of_another t p tx block b there other h =
    let same : b ≡ h.sealed = cc (sym there ∙ h.there) in
    other (ap (λ (s : Block). s.info.place) same ∙ h.place)

-- a statement is told as refused, and all of them are done
was_done : (t : RunRecord) (p : Placed) (tx : TxId) (since statement : ℕ) (cause : Refusal)
    → ((number : ℕ) → (progress : Progress) × (ran_on t p number since ≡ ran progress))
    → IsRefused t p tx since statement cause → ⊥
was_done t p tx since statement cause done h =
    let all = done h.number in
    let bad : ran all.0 ≡ refused statement cause = sym all.1 ∙ h.ends in
    absurd (cc bad)

-- a job that is to be committed is told as aborted
not_aborting : (t : RunRecord) (p : Placed) (tx : TxId) (since : ℕ) → p.job.abort ≡ false → IsAborted t p tx since → ⊥
not_aborting t p tx since commits h = true≢false (sym h.aborts ∙ commits)

-- a job that is to be aborted has a block
aborting : (b : Block) (p : Placed) → p.job.abort ≡ true → IsOfJob b p → ⊥
aborting b p aborts h = true≢false (sym aborts ∙ h.commits)

-- a job of which something is denied has a block
denied_has : (b : Block) (p : Placed) (denial : Denial) → p.job.denied ≡ Some denial → IsOfJob b p → ⊥
denied_has b p denial denied h = let bad : None ≡ Some denial = sym h.admitted ∙ denied in absurd (cc bad)

-- it is told as aborted, or a job is told as denied of which nothing is
denied_ends : (t : RunRecord) (p : Placed) (tx : TxId) (since : ℕ) (denial : Denial) → p.job.denied ≡ Some denial
    → IsAborted t p tx since → ⊥
denied_ends t p tx since denial denied h = let bad : None ≡ Some denial = sym h.admitted ∙ denied in absurd (cc bad)

not_denied : (t : RunRecord) (p : Placed) (denial : Denial) → p.job.denied ≡ None → IsDenied t p denial → ⊥
not_denied t p denial admitted h = let bad : None ≡ Some denial = sym admitted ∙ h.denied in absurd (cc bad)

-- a block has other statements than its job
other_statements : (b : Block) (p : Placed) → (asked_in (said_in b.info.said) ≡ p.job.statements → ⊥) → IsOfJob b p → ⊥
other_statements b p other h = other h.asked

-- a full journal is told of one that isn't
not_full : (t : RunRecord) (p : Placed) (tx : TxId) (blocks : ℕ) → length t.after < 2 ^ 32 - 1 → IsJournalFull t p tx blocks → ⊥
not_full t p tx blocks room h = omega (arith, room, h.full)

-- no number is told as left, and few were used
not_spent : (t : RunRecord) (p : Placed) (last : ℕ) → greatest t.mask t.before + attempts t.jobs < 2 ^ 64 → IsSpent t p last → ⊥
not_spent t p last few h = omega (arith, few, h.used)

-- ---- the order of a session

-- a later job of the same worker ran on fewer blocks than the earlier one's
on_older : (t : RunRecord) (p : Placed) (one two : TxId) (block since : ℕ) (i : Item) → since ≤ block
    → RunsBefore t (Committed one block) p (Conflict two since (record { block = 9; item = i })) → ⊥
on_older t p one two block since i old h =
    let late : block + 1 + p.job.retries ≤ since = h.blocks in omega (arith, old, late)

-- a session's blocks stand in the other order, or a job has two
backwards : (first second : Block) → first.info.place.session ≡ second.info.place.session
    → second.info.place.transaction ≤ first.info.place.transaction → InSessionOrder (first ∷ second ∷ []) → ⊥
backwards first second same late h =
    let before : first.info.place.transaction < second.info.place.transaction = h.0.0 same in omega (arith, late, before)

-- ---- the blocks

-- the blocks before are others afterwards
replaced : (t : RunRecord) → (take (length t.before) t.after ≡ t.before → ⊥) → FitsBlocks t → ⊥
replaced t other h = other h.begins

-- the ids have another mask than the one that the words give for an empty journal
other_mask : (t : RunRecord) (given : ℕ) → t.given ≡ Some given → t.before ≡ [] → (t.mask ≡ given → ⊥) → FitsBlocks t → ⊥
other_mask t given words none other h =
    let masked : t.mask ≡ mask_of given t.before = subst (λ (m : Option ℕ). IfSome m (λ m. t.mask ≡ mask_of m t.before)) words h.masked in
    other (masked ∙ ap (mask_of given) none)

-- a block has another time than the words give for an empty journal
other_time : (time : TimeParts) (b : Block) → (b.header.time ≡ time → ⊥) → HaveTimes (one_time time) [] (b ∷ []) → ⊥
other_time time b other h = other (h.0.is ∙ h.0.among)
