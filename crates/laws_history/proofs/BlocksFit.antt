-- The blocks of a run fit its jobs still where a block is appended.
use Rattle.std.proofs.Common.{◌≡◌, ℕ, ◌<◌, List, [], ◌∷◌, ◌++◌, length, drop, sym, subst, Contains}
use Rattle.std.specs.List.{AllByRecursion}
use Rattle.ion_values.specs.declared.time.TimeParts.{TimeParts}
use Rattle.ledger_model.specs.declared.block.Block.{Block}
use Rattle.ledger_model.specs.declared.outcome.PlacedOutcome.{PlacedOutcome}
use Rattle.ledger_model.specs.Script.{Placed}
use Rattle.ledger_model.specs.State.{state}
use Rattle.laws_validity.proofs.Asking.{asked_grows, means_tells}
use Rattle.laws_validity.proofs.Lists.{all_append, all_like}
use Rattle.laws_history.specs.Records.{RunRecord, made, IsBehind, IsTimeIn, HasTime, HaveTimes, Before, IsOfSomeJob, InSessionOrder, FitsBlocks}
use Rattle.laws_history.proofs.Histories.{Legal-more, strand_more, times_more, once_more}
use Rattle.laws_history.proofs.Lists.{whole, begins_on, drop_on}
use Rattle.laws_history.proofs.NextBlocks.{IsNextBlock, next-IsOfJob, next-Means, next-place, next-strand, next-time, standing}

-- the record with these blocks, outcomes and count of failures
abbrev pub grown : RunRecord → List Block → List PlacedOutcome → ℕ → RunRecord
grown t blocks outcomes closed = record t { after = blocks; outcomes = outcomes; closed = closed }

-- ---- no block more

-- the outcomes and the failures of the store don't matter
pub FitsBlocks-same : (t : RunRecord) (outcomes : List PlacedOutcome) (closed : ℕ) → FitsBlocks t
    → FitsBlocks (grown t t.after outcomes closed)
FitsBlocks-same t outcomes closed h = record {
  begins = h.begins;
  undamaged = h.undamaged;
  asked = h.asked;
  masked = h.masked;
  strand = h.strand;
  serial = h.serial;
  times = h.times;
  of_jobs = h.of_jobs;
  once = h.once;
}

-- ---- one block more

module _ (t : RunRecord) (time : TimeParts) (among : IsTimeIn t.times time) (p : Placed) (b : Block) (last : ℕ)
    (h : FitsBlocks t)
    (next : IsNextBlock (standing t last) time p b) where
  abbrev more : List Block
  more = t.after ++ b ∷ []

  made_more : drop (length t.before) more ≡ made t ++ b ∷ []
  made_more = drop_on t.before t.after (b ∷ []) h.begins

  time_on : HasTime t.times t.after b
  time_on = record { time = time; among = among; is = next-time (standing t last) time p b next }

  times_on : HaveTimes t.times t.before (drop (length t.before) more)
  times_on =
      let all : t.after ≡ t.before ++ made t = sym (whole t.before t.after (b ∷ []) h.begins) in
      subst (λ (x : List Block). HaveTimes t.times t.before x) (sym made_more)
      (times_more t.times t.before (made t) b h.times (subst (λ (x : List Block). HasTime t.times x b) all time_on))

  of_jobs_on : Contains t.jobs p → AllByRecursion (IsOfSomeJob t.jobs) (drop (length t.before) more)
  of_jobs_on among =
      subst (λ (x : List Block). AllByRecursion (IsOfSomeJob t.jobs) x) (sym made_more)
      (all_append (IsOfSomeJob t.jobs) (made t) (b ∷ []) h.of_jobs
      (record { placed = p; among = among; of_job = next-IsOfJob (standing t last) time p b next }, tt))

  once_on : AllByRecursion (λ c. IsBehind c.info.place p) (made t) → InSessionOrder (drop (length t.before) more)
  once_on behind =
      let place : p.place ≡ b.info.place = sym (next-place (standing t last) time p b next) in
      let before : AllByRecursion (λ c. Before c.info.place b) (made t) =
      all_like (λ (c : Block). IsBehind c.info.place p) (λ c. Before c.info.place b)
      (λ c is. subst (λ x. c.info.place.session ≡ x.session → c.info.place.transaction < x.transaction) place is)
      (made t) behind in
      subst (λ (x : List Block). InSessionOrder x) (sym made_more) (once_more (made t) b h.once before)

  pub FitsBlocks-more : (outcomes : List PlacedOutcome) (closed : ℕ) → Contains t.jobs p
      → AllByRecursion (λ c. IsBehind c.info.place p) (made t)
      → FitsBlocks (grown t more outcomes closed)
  FitsBlocks-more outcomes closed among behind = record {
    begins = begins_on t.before t.after (b ∷ []) h.begins;
    undamaged = next.undamaged;
    asked = λ a.
        asked_grows t.after b (h.asked a)
        (means_tells t.mask (state t.after) b (next-Means (standing t last) time p b next));
    masked = h.masked;
    strand = strand_more t.mask t.after b h.strand (next-strand (standing t last) time p b next);
    serial = Legal-more t.mask t.before t.after b h.begins h.serial (next-Means (standing t last) time p b next);
    times = times_on;
    of_jobs = of_jobs_on among;
    once = once_on behind;
  }
