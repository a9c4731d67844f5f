-- What the attempts of one job tell together, and the jobs of one worker, one after another.
use Rattle.std.proofs.Common.{◌≡◌, ℕ, zero, suc, ◌+◌, ◌-◌, ◌^◌, ◌<◌, ◌≤◌, true, false, List, [], ◌∷◌, ◌++◌, map, length, length-append, sym, refl, ap, ◌∙◌, subst, inl, inr, ⊎_elim, arith, append-nil, append_assoc}
use Rattle.std.specs.Prelude.{IfSome}
use Rattle.std.specs.List.{AllByRecursion}
use Rattle.std.proofs.lemmas.Bool.{cases_lt}
use mathlib.Core.List.{IsPrefix}
use Rattle.ql_types.specs.declared.Place.{Place}
use Rattle.ql_types.specs.declared.TxId.{TxId}
use Rattle.ledger_model.specs.declared.outcome.Named.{Named}
use Rattle.ledger_model.specs.declared.outcome.Outcome.{Outcome}
use Rattle.ledger_model.specs.declared.outcome.Outcome.TheVariants.{Committed, Conflict, Refused, DigestDiffers, StoreFault, JournalFull, IdsSpent, Aborted, Denied, OutOfMemory}
use Rattle.ledger_model.specs.declared.script.Job.{Job}
use Rattle.ledger_model.specs.Script.{Placed}
use Rattle.session_driver.specs.Retries.{Conflicted, Retried, is_conflict}
use Rattle.turn_lock.specs.declared.view.Known.{Known}
use Rattle.turn_lock.specs.declared.view.Placed as own
use Rattle.turn_lock.specs.History.{Stands}
use Rattle.turn_lock.proofs.Lists.{prefix_self, prefix_trans}
use Rattle.laws_validity.proofs.Lists.{all_like}
use Rattle.laws_history.specs.Records.{RunRecord, HasNoBlock, attempts, greatest, stood_before, told_count, told_id}
use Rattle.laws_machine.specs.Entries.{Entry, Opening, reach_at}
use Rattle.laws_history.specs.Seen.{IsRight, blocks_in, reach}
use Rattle.laws_history.specs.Alone.{is_spent}
use Rattle.laws_history.specs.Attempts.{Attempted, IsInConflict}
use Rattle.laws_history.specs.Claims.{Holds, RunsPast, retried, stood_behind}
use Rattle.laws_history.specs.Runs.{Served, Works, opening_of}
use Rattle.laws_history.proofs.Lists.{stands_front, stands_parts, stands_rest}
use Rattle.laws_history.proofs.Makes.{IsEntryOf, Makes, drawn, drawn-append, makes_both, makes_seen, makes_still, is_committed}
use Rattle.laws_history.proofs.Reaches.{fewer_blocks}
use Rattle.laws_history.proofs.Tells.{IsFailed, IsNumbered, IsTold, draws, holds, moves, runs_past, spare, told}

-- ---- what is shown

-- A job with what its worker had seen before its first attempt, before its last one and behind that, how many attempts
-- met a conflict, and the entries that they made.
pub record Link : Type 0 where
  pub served : Served
  pub from : List Entry
  pub mid : List Entry
  pub until : List Entry
  pub tries : ℕ
  pub new : List (own.Placed Entry)

-- what the job's outcome tells of the whole history
pub record IsLink (t : RunRecord) (es : List Entry) (l : Link) : Type 0 where
  pub from_mid : IsPrefix l.from l.mid
  pub mid_until : IsPrefix l.mid l.until
  pub inside : IsPrefix l.until es
  pub few : l.tries ≤ l.served.placed.job.retries
  pub moved : length (blocks_in (opening_of t) l.from) + l.tries ≤ length (blocks_in (opening_of t) l.mid)
  pub entries : AllByRecursion (IsEntryOf (opening_of t) l.served.placed l.served.outcome l.from l.until) l.new
  pub drew : length (drawn l.new) ≤ l.tries + draws l.served.outcome
  pub numbers : AllByRecursion (IsNumbered (opening_of t) l.served.placed.place l.mid l.until)
      (told_id l.served.outcome)
  pub counts : AllByRecursion (IsFailed (opening_of t) l.served.placed.place l.until) (told_count l.served.outcome)
  pub starts : IfSome (stood_before l.served.outcome) (λ n. length (blocks_in (opening_of t) l.mid) ≤ n)
  pub late : retried l.served.placed.job l.served.outcome ≤ l.tries
  pub past : RunsPast t l.served.placed l.served.outcome (length (blocks_in (opening_of t) l.mid))
  pub ends : IfSome (stood_behind l.served.outcome) (λ n. n ≤ length (blocks_in (opening_of t) l.until))
  pub spends : is_spent l.served.outcome ≡ true → (reach (opening_of t) l.until).last ≡ 2 ^ 64 - 1
  pub holds : (reach (opening_of t) es).last + spare l.served.outcome ≤ greatest t.mask t.before + attempts t.jobs
      → (is_committed l.served.outcome ≡ false → HasNoBlock t l.served.placed)
      → Holds t l.served.placed l.served.outcome

-- how many numbers a job's attempts draw at most
abbrev pub may_draw : Served → ℕ
may_draw s = s.placed.job.retries + draws s.outcome

abbrev pub all_may_draw : List Served → ℕ
all_may_draw [] = 0
all_may_draw (s ∷ ss) = may_draw s + all_may_draw ss

-- each is over when a later one begins
abbrev pub InTime : List Link → Type 0
InTime [] = Unit {0}
InTime (l ∷ ls) = AllByRecursion (λ (m : Link). IsPrefix l.until m.from) ls × InTime ls

-- the entries that their attempts made
abbrev pub all_new : List Link → List (own.Placed Entry)
all_new [] = []
all_new (l ∷ ls) = l.new ++ all_new ls

-- what a worker has done with its pass between two moments
pub record Timeline (t : RunRecord) (es : List Entry) (ss : List Served) (k now : Known Entry) : Type 0 where
  pub links : List Link
  pub served : map (λ (l : Link). l.served) links ≡ ss
  pub each : AllByRecursion (IsLink t es) links
  pub in_time : InTime links
  pub behind : AllByRecursion (λ (l : Link). IsPrefix k.seen l.from) links
  pub later : IsPrefix k.seen now.seen
  pub owns : now.own ≡ k.own ++ all_new links

-- ---- small lemmas

retried_most : (job : Job) (x : Outcome) (count : ℕ) → (count < job.retries → is_conflict x ≡ false)
    → retried job x ≤ count
retried_most job (Committed tx block) count f = omega arith
retried_most job (Conflict tx since named) count f =
    ⊎_elim (λ (less : count < job.retries). let bad : ⊥ = cc (f less) in absurd bad)
    (λ (most : job.retries ≤ count). most)
    (cases_lt count job.retries)
retried_most job (Refused tx since statement cause) count f = omega arith
retried_most job (DigestDiffers tx since mine given) count f = omega arith
retried_most job (StoreFault tx count') count f = omega arith
retried_most job (JournalFull tx blocks) count f = omega arith
retried_most job (IdsSpent last) count f = omega arith
retried_most job (Aborted tx since) count f = omega arith
retried_most job (Denied statement action table rule) count f = omega arith
retried_most job OutOfMemory count f = omega arith

retried_all : (job : Job) (x : Outcome) (count : ℕ) → (count < job.retries → is_conflict x ≡ false)
    → is_conflict x ≡ true
    → job.retries ≤ count
retried_all job x count f c =
    ⊎_elim (λ (less : count < job.retries). let bad : ⊥ = cc (f less, c) in absurd bad)
    (λ (most : job.retries ≤ count). most)
    (cases_lt count job.retries)

makes_more : (o : Opening) (p : Placed) (x : Outcome) (k now : Known Entry) (most more : ℕ) → most ≤ more
    → Makes o p x k now most → Makes o p x k now more
makes_more o p x k now most more low m = record {
  later = m.later;
  new = m.new;
  owns = m.owns;
  entries = m.entries;
  few = omega (arith, m.few, low);
}

-- an attempt that met a conflict
record Met (o : Opening) (job : Job) (place : Place) (k now : Known Entry) : Type 0 where
  tx : TxId
  since : ℕ
  named : Named
  met : IsInConflict o job place k tx since named now

one_met : (o : Opening) (job : Job) (place : Place) (k now : Known Entry) (x : Outcome) → Attempted o k job place x now
    → is_conflict x ≡ true → Met o job place k now
one_met o job place k now (Committed tx block) h c = let bad : ⊥ = cc c in absurd bad
one_met o job place k now (Conflict tx since named) h c = record { tx = tx; since = since; named = named; met = h }
one_met o job place k now (Refused tx since statement cause) h c = let bad : ⊥ = cc c in absurd bad
one_met o job place k now (DigestDiffers tx since mine given) h c = let bad : ⊥ = cc c in absurd bad
one_met o job place k now (StoreFault tx count) h c = let bad : ⊥ = cc c in absurd bad
one_met o job place k now (JournalFull tx blocks) h c = let bad : ⊥ = cc c in absurd bad
one_met o job place k now (IdsSpent last) h c = let bad : ⊥ = cc c in absurd bad
one_met o job place k now (Aborted tx since) h c = let bad : ⊥ = cc c in absurd bad
one_met o job place k now (Denied statement action table rule) h c = let bad : ⊥ = cc c in absurd bad
one_met o job place k now OutOfMemory h c = let bad : ⊥ = cc c in absurd bad

-- attempts that all met conflicts draw a number each, and the pass has come past as many blocks more
record Chain (o : Opening) (p : Placed) (x : Outcome) (k now : Known Entry) (n : ℕ) : Type 0 where
  makes : Makes o p x k now n
  moved : length (blocks_in o k.seen) + n ≤ length (blocks_in o now.seen)

module _ (t : RunRecord) (es : List Entry) (right : IsRight (opening_of t) es)
    (after : t.after ≡ blocks_in (opening_of t) es)
    (closed : t.closed ≡ (reach (opening_of t) es).count) where
  abbrev o : Opening
  o = opening_of t

  -- ---- one job

  module _ (p : Placed) (x : Outcome) where
    conflict_later : (k now : Known Entry) (m : Met o p.job p.place k now) → Makes o p x k now 1
    conflict_later k now m = makes_seen o p x p.place k now m.tx m.met.ready.begun m.met.sees

    chained : (n : ℕ) (k now : Known Entry) → IsPrefix now.seen es → Conflicted (Attempted o) p.job p.place n k now
        → Chain o p x k now n
    chained zero k now inside e =
        subst (λ (m : Known Entry). Chain o p x k m 0) e
        (record { makes = makes_still o p x k 0; moved = omega arith })
    chained (suc n) k now inside h =
        let between : Known Entry = h.0 in
        let m : Met o p.job p.place between now = one_met o p.job p.place between now h.1 h.3 h.4 in
        let one : Makes o p x between now 1 = conflict_later between now m in
        let rest : Chain o p x k between n = chained n k between
        (prefix_trans between.seen now.seen es one.later inside) h.2 in
        let further = moves t es right after closed p between m.tx m.since m.named now inside m.met in
        record {
          makes = makes_more o p x k now (n + 1) (suc n) (omega arith)
              (makes_both o p x k between now n 1 rest.makes one);
          moved = omega (arith, rest.moved, further);
        }

  -- a job between two moments of its pass
  pub record Linked (s : Served) (k now : Known Entry) : Type 0 where
    pub link : Link
    pub is : IsLink t es link
    pub served : link.served ≡ s
    pub from : link.from ≡ k.seen
    pub until : link.until ≡ now.seen
    pub owns : now.own ≡ k.own ++ link.new
    pub later : IsPrefix k.seen now.seen

  pub linked : (s : Served) (k now : Known Entry) → IsPrefix now.seen es
      → Retried (Attempted o) s.placed.job s.placed.place k s.outcome now → Linked s k now
  linked s k now inside r =
      let p : Placed = s.placed in
      let x : Outcome = s.outcome in
      let tells : IsTold o p x r.between now = told t es right after closed p r.between x now inside r.last in
      let chain : Chain o p x k r.between r.count =
      chained p x r.count k r.between (prefix_trans (r.between).seen now.seen es tells.makes.later inside) r.earlier in
      let both : Makes o p x k now (r.count + draws x) =
      makes_both o p x k r.between now r.count (draws x) chain.makes tells.makes in
      let old : length t.before ≤ length (blocks_in o k.seen) =
      fewer_blocks (reach_at o) [] k.seen (k.seen, refl) in
      record {
        link = record {
          served = s;
          from = k.seen;
          mid = (r.between).seen;
          until = now.seen;
          tries = r.count;
          new = both.new;
        };
        is = record {
          from_mid = chain.makes.later;
          mid_until = tells.makes.later;
          inside = inside;
          few = r.at_most;
          moved = chain.moved;
          entries = both.entries;
          drew = both.few;
          numbers = tells.numbers;
          counts = tells.counts;
          starts = tells.starts;
          late = retried_most p.job x r.count r.fewer;
          past = runs_past t es right after closed p r.between x now inside r.last;
          ends = tells.ends;
          spends = tells.spends;
          holds = λ bound none. holds t es right after closed p r.between x now inside r.last bound none
              (λ c. let all = retried_all p.job x r.count r.fewer c in omega (arith, all, old, chain.moved));
        };
        served = refl;
        from = refl;
        until = refl;
        owns = both.owns;
        later = both.later;
      }

  -- ---- the jobs of a worker

  line_more : (s : Served) (ss : List Served) (k between now : Known Entry) → Linked s k between
      → Timeline t es ss between now
      → Timeline t es (s ∷ ss) k now
  line_more s ss k between now one rest =
      let l : Link = one.link in
      let ls : List Link = rest.links in
      record {
        links = l ∷ ls;
        served = λ i. one.served i ∷ rest.served i;
        each = (one.is, rest.each);
        in_time = (
          subst (λ (seen : List Entry). AllByRecursion (λ (m : Link). IsPrefix seen m.from) ls)
              (sym one.until) rest.behind,
          rest.in_time,
        );
        behind = (
          subst (λ (seen : List Entry). IsPrefix k.seen seen) (sym one.from) (prefix_self k.seen),
          all_like (λ (m : Link). IsPrefix between.seen m.from) (λ (m : Link). IsPrefix k.seen m.from)
              (λ m h. prefix_trans k.seen between.seen m.from one.later h) ls rest.behind,
        );
        later = prefix_trans k.seen between.seen now.seen one.later rest.later;
        owns = rest.owns ∙ ap (λ (xs : List (own.Placed Entry)). xs ++ all_new ls) one.owns
            ∙ append_assoc k.own l.new (all_new ls);
      }

  line_none : (k : Known Entry) → Timeline t es [] k k
  line_none k = record {
    links = [];
    served = refl;
    each = tt;
    in_time = tt;
    behind = tt;
    later = prefix_self k.seen;
    owns = sym (append-nil k.own);
  }

  pub timeline : (ss : List Served) (k now : Known Entry) → IsPrefix now.seen es → Works o ss k now
      → Timeline t es ss k now
  timeline [] k now inside e = subst (λ (m : Known Entry). Timeline t es [] k m) e (line_none k)
  timeline (s ∷ ss) k now inside h =
      let rest : Timeline t es ss h.0 now = timeline ss h.0 now inside h.2 in
      line_more s ss k h.0 now (linked s k h.0 (prefix_trans (h.0).seen now.seen es rest.later inside) h.1) rest

-- ---- the entries of some jobs

pub new_stands : (y : own.Placed Entry) (ls : List Link) → Stands y (all_new ls)
    → (l : Link) × Stands l ls × Stands y l.new
new_stands y [] h = absurd h
new_stands y (l ∷ ls) h =
    ⊎_elim (λ (one : Stands y l.new). (l, inl refl, one))
    (λ (rest : Stands y (all_new ls)). let r = new_stands y ls rest in (r.0, inr r.1, r.2))
    (stands_parts y l.new (all_new ls) h)

pub stands_new : (y : own.Placed Entry) (l : Link) (ls : List Link) → Stands l ls → Stands y l.new
    → Stands y (all_new ls)
stands_new y l [] h k = absurd h
stands_new y l (m ∷ ls) (inl e) k = stands_front y m.new (all_new ls) (subst (λ (x : Link). Stands y x.new) e k)
stands_new y l (m ∷ ls) (inr h) k = stands_rest y m.new (all_new ls) (stands_new y l ls h k)

pub in_time_rest : (front : List Link) (l : Link) (back : List Link) → InTime (front ++ l ∷ back)
    → AllByRecursion (λ (m : Link). IsPrefix l.until m.from) back
in_time_rest [] l back h = h.0
in_time_rest (k ∷ front) l back h = in_time_rest front l back h.1

-- how many numbers they drew at most, by how often each was tried
abbrev pub may_have_drawn : List Link → ℕ
may_have_drawn [] = 0
may_have_drawn (l ∷ ls) = (l.tries + draws l.served.outcome) + may_have_drawn ls

pub few_drawn : (t : RunRecord) (es : List Entry) (ls : List Link) → AllByRecursion (IsLink t es) ls
    → length (drawn (all_new ls)) ≤ may_have_drawn ls
few_drawn t es [] h = omega arith
few_drawn t es (l ∷ ls) h =
    let all : length (drawn (l.new ++ all_new ls)) ≡ length (drawn l.new) + length (drawn (all_new ls)) =
    ap length (drawn-append l.new (all_new ls)) ∙ length-append (drawn l.new) (drawn (all_new ls)) in
    let here : length (drawn l.new) ≤ l.tries + draws l.served.outcome = (h.0).drew in
    let rest = few_drawn t es ls h.1 in
    omega (arith, all, here, rest)

pub few_tries : (t : RunRecord) (es : List Entry) (ls : List Link) → AllByRecursion (IsLink t es) ls
    → may_have_drawn ls ≤ all_may_draw (map (λ (l : Link). l.served) ls)
few_tries t es [] h = omega arith
few_tries t es (l ∷ ls) h =
    let here : l.tries ≤ l.served.placed.job.retries = (h.0).few in
    let rest = few_tries t es ls h.1 in
    omega (arith, here, rest)
