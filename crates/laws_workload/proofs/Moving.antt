-- Attempts of a pass that has seen other entries: behind entries in front, and from where it had seen less.
use Rattle.std.proofs.Common.{◌≡◌, ◌∙◌, ℕ, zero, suc, ◌+◌, List, [], ◌∷◌, ◌++◌, map, length, Option, None, Some, refl, sym, ap, ap₂, subst, inl, inr, append_assoc, length-append}
use Rattle.std.proofs.lemmas.List.{map-append}
use mathlib.Core.List.{IsPrefix}
use Rattle.ql_types.specs.Ids.{raw_id}
use Rattle.ql_types.specs.declared.Place.{Place}
use Rattle.ql_types.specs.declared.TxId.{TxId}
use Rattle.ledger_model.specs.declared.block.Block.{Block}
use Rattle.ledger_model.specs.declared.outcome.Outcome.{Outcome}
use Rattle.ledger_model.specs.declared.outcome.Outcome.TheVariants.{Committed, Conflict, Refused, DigestDiffers, StoreFault, JournalFull, IdsSpent, Aborted, Denied, OutOfMemory}
use Rattle.ledger_model.specs.declared.script.Job.{Job}
use Rattle.ledger_model.specs.Making.{IsMadeOf}
use Rattle.ledger_model.specs.Run.{Begun, run}
use Rattle.ledger_model.specs.State.{state}
use Rattle.laws_footprint.specs.Touches.{conflict}
use Rattle.session_driver.specs.Retries.{Conflicted, Retried}
use Rattle.turn_lock.specs.declared.view.Known.{Known}
use Rattle.turn_lock.specs.declared.view.Placed.{Placed}
use Rattle.turn_lock.specs.History.{placed, with_entry, with_seen}
use Rattle.turn_lock.proofs.Lists.{prefix_trans}
use Rattle.laws_machine.specs.Entries.{Entry, Opening, begun_at, failed, sealed, wanted}
use Rattle.laws_history.specs.Attempts.{Adds, Attempted, Begins, Comes, Readies, Sees, Wants, WantsAt, WantsBehind, begun_as, ran_in}
use Rattle.laws_history.specs.Runs.{Served, Works}
use Rattle.laws_history.specs.Seen.{blocks_in, reach}

-- ---- an attempt

-- Where a pass is another one, and those that come of it are others too, by these steps, an attempt is an attempt.
module _ (o behind : Opening) (es : List Entry) (mask : behind.mask ≡ o.mask)
    (blocks : (front : List Entry) → blocks_in o (es ++ front) ≡ blocks_in behind front)
    (last : (front : List Entry) → (reach o (es ++ front)).last ≡ (reach behind front).last)
    (moved : Known Entry → Known Entry)
    (seen : (k : Known Entry) → (moved k).seen ≡ es ++ k.seen)
    (sees_on : (k now : Known Entry) → Sees k now → Sees (moved k) (moved now))
    (later_on : (k : Known Entry) (front : List Entry) → IsPrefix k.seen front → IsPrefix (moved k).seen (es ++ front))
    (added_on : (k : Known Entry) (front : List Entry) (e : Entry) (now : Known Entry) → now ≡ with_entry (with_seen k front) e
    → moved now ≡ with_entry (with_seen (moved k) (es ++ front)) e)
    (job : Job) (place : Place) (k start : Known Entry) (sees : (now : Known Entry) → Sees k now → Sees start (moved now))
    (later : (front : List Entry) → IsPrefix k.seen front → IsPrefix start.seen (es ++ front))
    (added : (front : List Entry) (e : Entry) (now : Known Entry) → now ≡ with_entry (with_seen k front) e
    → moved now ≡ with_entry (with_seen start (es ++ front)) e) where
  blocks_now : (now : Known Entry) → blocks_in o (moved now).seen ≡ blocks_in behind now.seen
  blocks_now now = ap (blocks_in o) (seen now) ∙ blocks now.seen

  last_now : (now : Known Entry) → (reach o (moved now).seen).last ≡ (reach behind now.seen).last
  last_now now = ap (λ (xs : List Entry). (reach o xs).last) (seen now) ∙ last now.seen

  begun_same : (number : ℕ) → begun_as o number ≡ begun_as behind number
  begun_same number = ap (λ m. let b : Begun = record { mask = m; number = number } in b) (sym mask)

  ran_same : (front : List Entry) (number : ℕ) → ran_in o (es ++ front) number job ≡ ran_in behind front number job
  ran_same front number =
      ap₂ (λ (b : Begun) (bs : List Block). run b (state bs) job.statements) (begun_same number) (blocks front)

  abbrev adds : (l : Known Entry) (e : Entry) (now : Known Entry) → Adds l e now → Adds (moved l) e (moved now)
  adds l e now a = record { front = es ++ a.front; later = later_on l a.front a.later; added = added_on l a.front e now a.added }

  abbrev begins : (tx : TxId) → Begins behind place k tx → Begins o place start tx
  begins tx b = record {
    number = b.number;
    since = b.since;
    id = b.id ∙ ap (λ m. raw_id m b.number 0) mask;
    counted = b.counted;
    now = moved b.now;
    adds = record {
      front = es ++ b.adds.front;
      later = later b.adds.front b.adds.later;
      added = added b.adds.front (begun_at place b.number b.since) b.now b.adds.added;
    };
  }

  abbrev readies : (tx : TxId) → Readies behind job place k tx → Readies o job place start tx
  readies tx r = record {
    begun = begins tx r.begun;
    progress = r.progress;
    ends = ran_same r.begun.adds.front r.begun.number ∙ r.ends;
    commits = r.commits;
    admitted = r.admitted;
  }

  made_same : (front : List Entry) (number : ℕ) (r : Begun → List Block → Type 0) → r (begun_as behind number) (blocks_in behind front)
      → r (begun_as o number) (blocks_in o (es ++ front))
  made_same front number r h =
      subst (λ (b : Begun). r b (blocks_in o (es ++ front))) (sym (begun_same number))
      (subst (λ (bs : List Block). r (begun_as behind number) bs) (sym (blocks front)) h)

  comes : (tx : TxId) (b : Begins behind place k tx) (front : List Entry) (block : Block)
      → Comes behind job place k tx b front block → Comes o job place start tx (begins tx b) (es ++ front) block
  comes tx b front block c = record {
    commits = c.commits;
    admitted = c.admitted;
    digest = c.digest;
    progress = c.progress;
    ends = ran_same b.adds.front b.number ∙ c.ends;
    untouched = ap (λ bs. conflict bs b.since c.progress.footprint) (blocks front) ∙ c.untouched;
    time = c.time;
    is_made = made_same front b.number (λ x bs. IsMadeOf x bs place c.time job.statements block) c.is_made;
  }

  wants_at : (tx : TxId) (b : Begins behind place k tx) (front : List Entry) (block : Option Block)
      → WantsAt behind job place k tx b front block → WantsAt o job place start tx (begins tx b) (es ++ front) block
  wants_at tx b front None c = tt
  wants_at tx b front (Some block) c = comes tx b front block c

  wants_behind : (tx : TxId) (b : Begins behind place k tx) (now : Known Entry) → WantsBehind behind job place k tx b now
      → WantsBehind o job place start tx (begins tx b) (moved now)
  wants_behind tx b now (inl s) = inl (sees_on b.now now s)
  wants_behind tx b now (inr a) =
      inr (a.0, adds b.now (wanted b.number a.0) now a.1, wants_at tx b a.1.front a.0 a.2)

  wants : (now : Known Entry) → Wants behind job place k now → Wants o job place start (moved now)
  wants now (inl s) = inl (sees now s)
  wants now (inr w) = inr (w.0, begins w.0 w.1, wants_behind w.0 w.1 now w.2)

  pub attempted_moved : (x : Outcome) (now : Known Entry) → Attempted behind k job place x now
      → Attempted o start job place x (moved now)
  attempted_moved (Committed tx block) now h = record {
    ready = readies tx h.ready;
    digest = h.digest;
    made = h.made;
    adds = adds h.ready.begun.now (sealed h.ready.begun.number h.made) now h.adds;
    untouched = ap (λ bs. conflict bs h.ready.begun.since h.ready.progress.footprint) (blocks h.adds.front)
        ∙ h.untouched;
    time = h.time;
    is_made = made_same h.adds.front h.ready.begun.number
        (λ b bs. IsMadeOf b bs place h.time job.statements h.made) h.is_made;
    block_is = h.block_is ∙ ap length (sym (blocks h.adds.front));
  }
  attempted_moved (Conflict tx since named) now h = record {
    ready = readies tx h.ready;
    digest = h.digest;
    since_is = h.since_is;
    sees = sees_on h.ready.begun.now now h.sees;
    finds = ap (λ bs. conflict bs since h.ready.progress.footprint) (blocks_now now) ∙ h.finds;
  }
  attempted_moved (Refused tx since statement cause) now h = record {
    begun = begins tx h.begun;
    since_is = h.since_is;
    ends = ran_same h.begun.adds.front h.begun.number ∙ h.ends;
    admitted = h.admitted;
    sees = sees_on h.begun.now now h.sees;
  }
  attempted_moved (DigestDiffers tx since mine given) now h = record {
    ready = readies tx h.ready;
    since_is = h.since_is;
    mine_is = h.mine_is;
    given_is = h.given_is;
    differ = h.differ;
    sees = sees_on h.ready.begun.now now h.sees;
  }
  attempted_moved (StoreFault tx count) now h = record {
    ready = readies tx h.ready;
    digest = h.digest;
    block = h.block;
    adds = adds h.ready.begun.now (failed h.ready.begun.number count h.block) now h.adds;
    comes = comes tx h.ready.begun h.adds.front h.block h.comes;
  }
  attempted_moved (JournalFull tx full) now h = record {
    ready = readies tx h.ready;
    digest = h.digest;
    sees = sees_on h.ready.begun.now now h.sees;
    untouched = ap (λ bs. conflict bs h.ready.begun.since h.ready.progress.footprint) (blocks_now now) ∙ h.untouched;
    full = ap length (blocks_now now) ∙ h.full;
    told = h.told;
  }
  attempted_moved (IdsSpent number) now h = record {
    sees = sees now h.sees;
    greatest_last = h.greatest_last;
    last_is = last_now now ∙ h.last_is;
    admitted = h.admitted;
  }
  attempted_moved (Aborted tx since) now h = record {
    begun = begins tx h.begun;
    since_is = h.since_is;
    progress = h.progress;
    ends = ran_same h.begun.adds.front h.begun.number ∙ h.ends;
    aborts = h.aborts;
    admitted = h.admitted;
    sees = sees_on h.begun.now now h.sees;
  }
  attempted_moved (Denied statement action table rule) now h = record { denied = h.denied; sees = sees now h.sees }
  attempted_moved OutOfMemory now h = wants now h

-- ---- behind entries in front

-- an own entry with these in front
abbrev pub further : List Entry → Placed Entry → Placed Entry
further es p = record { place = length es + p.place; entry = p.entry }

-- what the pass knows behind them, where what this one owns of them is its own too
abbrev pub lifted : List Entry → Known Entry → Known Entry → Known Entry
lifted es base k = record base { seen = es ++ k.seen; own = base.own ++ map (further es) k.own }

pub prefix_behind : (es xs ys : List Entry) → IsPrefix xs ys → IsPrefix (es ++ xs) (es ++ ys)
prefix_behind es xs ys p = (p.0, append_assoc es xs p.0 ∙ ap (λ (zs : List Entry). es ++ zs) p.1)

module _ (es : List Entry) (base : Known Entry) where
  sees_lifted : (k now : Known Entry) → Sees k now → Sees (lifted es base k) (lifted es base now)
  sees_lifted k now s = record { later = prefix_behind es k.seen now.seen s.later; same = ap (lifted es base) s.same }

  own_lifted : (k : Known Entry) (front : List Entry) (e : Entry)
      → base.own ++ map (further es) (k.own ++ placed (length front) e ∷ [])
      ≡ (base.own ++ map (further es) k.own) ++ placed (length (es ++ front)) e ∷ []
  own_lifted k front e =
      ap (λ (xs : List (Placed Entry)). base.own ++ xs) (map-append (further es) k.own (placed (length front) e ∷ []))
      ∙ sym (append_assoc base.own (map (further es) k.own) (placed (length es + length front) e ∷ []))
      ∙ ap (λ n. (base.own ++ map (further es) k.own) ++ placed n e ∷ []) (sym (length-append es front))

  added_lifted : (k : Known Entry) (front : List Entry) (e : Entry) (now : Known Entry) → now ≡ with_entry (with_seen k front) e
      → lifted es base now ≡ with_entry (with_seen (lifted es base k) (es ++ front)) e
  added_lifted k front e now is =
      ap (lifted es base) is
      ∙ (λ i. record base { seen = sym (append_assoc es front (e ∷ [])) i; own = own_lifted k front e i })

module _ (o behind : Opening) (es : List Entry) (base : Known Entry) (mask : behind.mask ≡ o.mask)
    (blocks : (front : List Entry) → blocks_in o (es ++ front) ≡ blocks_in behind front)
    (last : (front : List Entry) → (reach o (es ++ front)).last ≡ (reach behind front).last) where
  abbrev lift : Known Entry → Known Entry
  lift k = lifted es base k

  attempted_lifted : (job : Job) (place : Place) (k : Known Entry) (x : Outcome) (now : Known Entry)
      → Attempted behind k job place x now → Attempted o (lift k) job place x (lift now)
  attempted_lifted job place k =
      attempted_moved o behind es mask blocks last lift (λ l. refl) (sees_lifted es base)
      (λ l front p. prefix_behind es l.seen front p) (added_lifted es base) job place k (lift k) (sees_lifted es base k)
      (λ front p. prefix_behind es k.seen front p) (added_lifted es base k)

  conflicted_lifted : (job : Job) (place : Place) (n : ℕ) (k now : Known Entry) → Conflicted (Attempted behind) job place n k now
      → Conflicted (Attempted o) job place n (lift k) (lift now)
  conflicted_lifted job place zero k now e = ap lift e
  conflicted_lifted job place (suc n) k now h =
      (lift h.0, h.1, conflicted_lifted job place n k h.0 h.2, attempted_lifted job place h.0 h.1 now h.3, h.4)

  retried_lifted : (job : Job) (place : Place) (k : Known Entry) (x : Outcome) (now : Known Entry)
      → Retried (Attempted behind) job place k x now → Retried (Attempted o) job place (lift k) x (lift now)
  retried_lifted job place k x now r = record {
    count = r.count;
    between = lift r.between;
    earlier = conflicted_lifted job place r.count k r.between r.earlier;
    last = attempted_lifted job place r.between x now r.last;
    at_most = r.at_most;
    fewer = r.fewer;
  }

  pub works_lifted : (ss : List Served) (k now : Known Entry) → Works behind ss k now → Works o ss (lift k) (lift now)
  works_lifted [] k now e = ap lift e
  works_lifted (s ∷ ss) k now h = (
    lift h.0,
    retried_lifted s.placed.job s.placed.place k s.outcome h.0 h.1,
    works_lifted ss h.0 now h.2,
  )

-- ---- from where less was seen

module _ (o : Opening) (k : Known Entry) (longer : List Entry) (p : IsPrefix k.seen longer) where
  attempted_less : (job : Job) (place : Place) (x : Outcome) (now : Known Entry)
      → Attempted o (with_seen k longer) job place x now → Attempted o k job place x now
  attempted_less job place =
      attempted_moved o o [] refl (λ front. refl) (λ front. refl) (λ l. l) (λ l. refl) (λ l now s. s) (λ l front q. q)
      (λ l front e now is. is) job place (with_seen k longer) k
      (λ now s. record { later = prefix_trans k.seen longer now.seen p s.later; same = s.same })
      (λ front q. prefix_trans k.seen longer front p q) (λ front e now is. is)

  conflicted_less : (job : Job) (place : Place) (n : ℕ) (now : Known Entry)
      → Conflicted (Attempted o) job place (suc n) (with_seen k longer) now
      → Conflicted (Attempted o) job place (suc n) k now
  conflicted_less job place zero now h = (
    k,
    h.1,
    refl,
    attempted_less job place h.1 now
        (subst (λ (l : Known Entry). Attempted o l job place h.1 now) (sym h.2) h.3),
    h.4,
  )
  conflicted_less job place (suc n) now h = (h.0, h.1, conflicted_less job place n h.0 h.2, h.3, h.4)

  retried_by : (job : Job) (place : Place) (x : Outcome) (now : Known Entry) (n : ℕ) (between : Known Entry)
      → Conflicted (Attempted o) job place n (with_seen k longer) between → Attempted o between job place x now
      → (later : Known Entry) × Conflicted (Attempted o) job place n k later × Attempted o later job place x now
  retried_by job place x now zero between e a = (
    k,
    refl,
    attempted_less job place x now (subst (λ (l : Known Entry). Attempted o l job place x now) (sym e) a),
  )
  retried_by job place x now (suc n) between h a = (between, conflicted_less job place n between h, a)

  retried_less : (job : Job) (place : Place) (x : Outcome) (now : Known Entry)
      → Retried (Attempted o) job place (with_seen k longer) x now → Retried (Attempted o) job place k x now
  retried_less job place x now r =
      let c = retried_by job place x now r.count r.between r.earlier r.last in
      record { count = r.count; between = c.0; earlier = c.1; last = c.2; at_most = r.at_most; fewer = r.fewer }

  pub works_less : (s : Served) (ss : List Served) (now : Known Entry) → Works o (s ∷ ss) (with_seen k longer) now
      → Works o (s ∷ ss) k now
  works_less s ss now h = (h.0, retried_less s.placed.job s.placed.place s.outcome h.0 h.1, h.2)
