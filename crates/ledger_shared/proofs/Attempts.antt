-- An attempt through a pass, by its outcome.
use Rattle.std.proofs.Common.{◌≡◌, ℕ, ◌<◌, ◌^◌, Bool, true, false, List, [], ◌∷◌, length, take, refl, sym, ap, ◌∙◌, subst, inl, inr, arith, Some, None, Ok, Err, Result}
use mathlib.Core.List.{IsPrefix}
use Rattle.ql_types.specs.Ids.{raw_id}
use Rattle.ql_types.specs.declared.Place.{Place}
use Rattle.ql_types.specs.declared.TxId.{TxId}
use Rattle.laws_footprint.specs.Touches.{conflict}
use Rattle.ledger_model.specs.Making.{IsMadeOf}
use Rattle.ledger_model.specs.declared.block.Block.{Block}
use Rattle.ledger_model.specs.declared.outcome.Refusal.{Refusal}
use Rattle.ledger_model.specs.declared.script.Job.{Job}
use Rattle.ledger_model.specs.Run.{Begun, Progress, Ran, ran, refused, run}
use Rattle.ledger_model.specs.State.{state}
use Rattle.turn_lock.specs.declared.view.Known.{Known}
use Rattle.turn_lock.specs.History.{Stands, placed}
use Rattle.turn_lock.proofs.Lists.{prefix_self}
use Rattle.laws_machine.specs.Entries.{Entry, Opening, begun_at, failed, sealed, wanted}
use Rattle.laws_history.specs.Attempts.{Adds, Attempted, Begins, Comes, Commits, Fails, GivesUp, Readies, Refuses, Sees, Wants, WantsBehind, begun_as}
use Rattle.laws_history.specs.Seen.{blocks_in}
use Rattle.laws_history.specs.Steps.{knows_behind}
use Rattle.txn_core.specs.Opened.{Opened}
use Rattle.ledger_core.specs.Committing.{tx_of}
use Rattle.ledger_core.proofs.Digests.{hash_differs, own_is, sends_own}
use Rattle.ledger_core.specs.declared.appending.Receipt.{Receipt}
use Rattle.ledger_core.specs.declared.commit.CommitFault.{CommitFault}
use Rattle.ledger_core.specs.declared.commit.CommitFault.TheVariants as fault
use Rattle.ledger_shared.specs.Calls as calls
use Rattle.ledger_shared.specs.Known.{Calls, MayCommit}
use Rattle.ledger_core.specs.Outcomes.{outcome_of}
use Rattle.ledger_shared.specs.Workers.{Ends, IsDone, Starts}

-- ---- calls that add no entry, or one

pub sees : (k now : Known Entry) (Does : List Entry → List Entry → Type 0) (c : Calls k now Does) → c.added ≡ [] → Sees k now
sees k now Does c none =
    let is : now ≡ knows_behind k c.front [] = c.knows ∙ ap (knows_behind k c.front) none in
    let seen : now.seen ≡ c.front = ap (λ (x : Known Entry). x.seen) is in
    record {
      later = subst (λ es. IsPrefix k.seen es) (sym seen) c.later;
      same = is ∙ ap (λ es. knows_behind k es []) (sym seen);
    }

abbrev pub adds : (k now : Known Entry) (Does : List Entry → List Entry → Type 0) (c : Calls k now Does) (e : Entry) → c.added ≡ e ∷ [] → Adds k e now
adds k now Does c e one = record { front = c.front; later = c.later; added = c.knows ∙ ap (knows_behind k c.front) one }

pub sees_same : (k : Known Entry) → Sees k k
sees_same k = record { later = prefix_self k.seen; same = refl }

pub seen_is : (k now : Known Entry) (Does : List Entry → List Entry → Type 0) (c : Calls k now Does) → c.added ≡ [] → now.seen ≡ c.front
seen_is k now Does c none =
    ap (λ (x : Known Entry). x.seen) (c.knows ∙ ap (knows_behind k c.front) none)

module _ (o : Opening) (place : Place) (k : Known Entry) (t : Opened) (begun : Known Entry) (c : Starts o k place t begun) where
  abbrev pub since_is : t.since ≡ length (blocks_in o c.front)
  since_is = ap (λ (x : Opened). x.since) c.does.txn_is

  abbrev pub begins_by : (number : ℕ) → number ≡ t.begun.number → Begins o place k (tx_of t)
  begins_by number is = record {
    number = number;
    since = length (blocks_in o c.front);
    id = ap (λ (x : Opened). raw_id x.begun.mask t.begun.number 0) c.does.txn_is ∙ ap (λ n. raw_id o.mask n 0) (sym is);
    counted = subst (λ n. n < 2 ^ 64) (sym is) c.does.counted;
    now = begun;
    adds = record {
      front = c.front;
      later = c.later;
      added = c.knows ∙ ap (knows_behind k c.front) (c.does.adds ∙ ap (λ n. begun_at place n (length (blocks_in o c.front)) ∷ []) (sym is));
    };
  }

  -- how statements end on the transaction's base is how they end on the blocks in front
  pub ran_here : (job : Job) (end : Ran) → end ≡ run t.begun t.base job.statements
      → run (begun_as o t.begun.number) (state (blocks_in o c.front)) job.statements ≡ end
  ran_here job end is =
      ap (λ (x : Opened). run (record { mask = x.begun.mask; number = t.begun.number }) x.base job.statements) (sym c.does.txn_is) ∙ sym is

  module _ (job : Job) where
    pub refused_here : (since statement : ℕ) (cause : Refusal) → since ≡ t.since → refused statement cause ≡ run t.begun t.base job.statements
        → job.denied ≡ None → Refuses o job place k (tx_of t) since statement cause begun
    refused_here since statement cause since_same is admitted = record {
      begun = begins_by t.begun.number refl;
      since_is = since_same ∙ since_is;
      ends = ran_here job (refused statement cause) is;
      admitted = admitted;
      sees = sees_same begun;
    }

    pub given_up : (since : ℕ) (p : Progress) → since ≡ t.since → ran p ≡ run t.begun t.base job.statements → job.abort ≡ true
        → job.denied ≡ None → GivesUp o job place k (tx_of t) since begun
    given_up since p since_same is aborts admitted = record {
      begun = begins_by t.begun.number refl;
      since_is = since_same ∙ since_is;
      progress = p;
      ends = ran_here job (ran p) is;
      aborts = aborts;
      admitted = admitted;
      sees = sees_same begun;
    }

    pub wanted_here : Wants o job place k begun
    wanted_here = inr (tx_of t, begins_by t.begun.number refl, inl (sees_same begun))

    -- ---- a commit of the transaction with what its statements did

    module _ (p : Progress) (is : ran p ≡ run t.begun t.base job.statements) (commits : job.abort ≡ false) (admitted : job.denied ≡ None) where
      abbrev pub ready : Readies o job place k (tx_of t)
      ready = record { begun = begins_by t.begun.number refl; progress = p; ends = ran_here job (ran p) is; commits = commits; admitted = admitted }

      module _ (e : Bool) (now : Known Entry) where
        abbrev pub d : Opened
        d = record t { done = p; ended = e }

        runs : run d.begun d.base job.statements ≡ ran d.done
        runs = sym is

        place_is : t.place ≡ place
        place_is = ap (λ (x : Opened). x.place) c.does.txn_is

        -- what no block since the transaction's base touches, no block since it began does
        untouched_here : (front : List Entry) → conflict (blocks_in o front) t.since p.footprint ≡ None
            → conflict (blocks_in o front) (length (blocks_in o c.front)) p.footprint ≡ None
        untouched_here front free = ap (λ n. conflict (blocks_in o front) n p.footprint) (sym since_is) ∙ free

        sealed_here : (receipt : Receipt) (m : Calls begun now (λ front added. calls.Seals o front d job.digest receipt added))
            → Commits o job place k (tx_of t) receipt.block now
        sealed_here receipt m =
            let s = m.does in
            let made = subst (λ at. IsMadeOf (begun_as o t.begun.number) (blocks_in o m.front) at s.makes.time job.statements s.block) place_is
            (s.makes.made job.statements runs) in
            record {
              ready = ready;
              digest = sends_own d job runs s.makes.ready.digest_is;
              made = s.block;
              adds = adds begun now _ m (sealed t.begun.number s.block) s.adds;
              untouched = untouched_here m.front s.makes.untouched;
              time = s.makes.time;
              is_made = made;
              block_is = ap (λ (r : Receipt). r.block) s.receipt_is ∙ ap (λ (b : Block). b.header.address.sequence) made.block_is;
            }

        -- the block with which it came to its store
        comes_here : (front : List Entry) (b : Block) → calls.Makes o front d job.digest b
            → Comes o job place k (tx_of t) (begins_by t.begun.number refl) front b
        comes_here front b makes = record {
          commits = commits;
          admitted = admitted;
          digest = sends_own d job runs makes.ready.digest_is;
          progress = p;
          ends = ran_here job (ran p) is;
          untouched = untouched_here front makes.untouched;
          time = makes.time;
          is_made = subst (λ at. IsMadeOf (begun_as o t.begun.number) (blocks_in o front) at makes.time job.statements b) place_is
              (makes.made job.statements runs);
        }

        failed_here : (count : ℕ) (m : Calls begun now (λ front added. calls.Fails o front d job.digest count added))
            → Fails o job place k (tx_of t) count now
        failed_here count m = record {
          ready = ready;
          digest = sends_own d job runs m.does.makes.ready.digest_is;
          block = m.does.block;
          adds = adds begun now _ m (failed t.begun.number count m.does.block) m.does.adds;
          comes = comes_here m.front m.does.block m.does.makes;
        }

        wanted_by : (front added : List Entry) → calls.Wants o front d job.digest added → IsPrefix begun.seen front
            → now ≡ knows_behind begun front added → WantsBehind o job place k (tx_of t) (begins_by t.begun.number refl) now
        wanted_by front [] w later knows =
            inl (sees begun now (λ f a. Unit {0}) (record { front = front; added = []; later = later; does = tt; knows = knows }) refl)
        wanted_by front (wanted number None ∷ []) w later knows =
            inr (None, record { front = front; later = later; added = knows ∙ ap (λ n. knows_behind begun front (wanted n None ∷ [])) w }, tt)
        wanted_by front (wanted number (Some b) ∷ []) w later knows =
            inr (
              Some b,
              record { front = front; later = later; added = knows ∙ ap (λ n. knows_behind begun front (wanted n (Some b) ∷ [])) w.0 },
              comes_here front b w.1,
            )
        wanted_by front (begun_at at number since ∷ es) w later knows = absurd w
        wanted_by front (sealed number block ∷ es) w later knows = absurd w
        wanted_by front (failed number count block ∷ es) w later knows = absurd w
        wanted_by front (wanted number None ∷ x ∷ es) w later knows = absurd w
        wanted_by front (wanted number (Some b) ∷ x ∷ es) w later knows = absurd w

        -- the outcome that is told is that of an attempt
        pub ends_as : (result : Result Receipt CommitFault) → e ≡ false
            → Calls begun now (λ front added. calls.Commits o front d job.digest result added)
            → Attempted o k job place (outcome_of (tx_of t) t.since result) now
        ends_as (Ok receipt) goes m = sealed_here receipt m
        ends_as (Err (fault.Conflict since named)) goes m =
            let seen = seen_is begun now _ m m.does.3 in
            record {
              ready = ready;
              digest = sends_own d job runs m.does.0.digest_is;
              since_is = m.does.1 ∙ since_is;
              sees = sees begun now _ m m.does.3;
              finds = ap (λ es. conflict (blocks_in o es) since p.footprint) seen
                  ∙ ap (λ n. conflict (blocks_in o m.front) n p.footprint) m.does.1 ∙ m.does.2;
            }
        ends_as (Err (fault.DigestDiffers mine given)) goes m = record {
          ready = ready;
          since_is = since_is;
          mine_is = m.does.1 ∙ own_is d job.statements runs;
          given_is = m.does.2;
          differ = hash_differs mine given m.does.3;
          sees = sees begun now _ m m.does.4;
        }
        ends_as (Err fault.EndedTxn) goes m = let both : true ≡ false = sym m.does.0 ∙ goes in cc both
        ends_as (Err (fault.JournalFull blocks)) goes m = record {
          ready = ready;
          digest = sends_own d job runs m.does.0.digest_is;
          sees = sees begun now _ m m.does.4;
          untouched = ap (λ es. conflict (blocks_in o es) (length (blocks_in o c.front)) p.footprint)
              (seen_is begun now _ m m.does.4) ∙ untouched_here m.front m.does.1;
          full = ap (λ es. length (blocks_in o es)) (seen_is begun now _ m m.does.4) ∙ m.does.2;
          told = m.does.3;
        }
        ends_as (Err (fault.StoreFault count)) goes m = failed_here count m
        ends_as (Err fault.OutOfMemory) goes m = inr (tx_of t, begins_by t.begun.number refl, wanted_by m.front m.added m.does m.later m.knows)

-- a commit of the transaction that has come from the first one by its statements ends an attempt
pub finishes : (o : Opening) (job : Job) (place : Place) (first t : Opened) (begun now : Known Entry) (tx : TxId) (since : ℕ)
    (result : Result Receipt CommitFault) → first.begun ≡ t.begun → first.base ≡ t.base → first.since ≡ t.since → first.place ≡ t.place
    → tx.raw ≡ raw_id t.begun.mask t.begun.number 0 → since ≡ t.since → IsDone o job place t begun
    → Calls begun now (λ front added. calls.Commits o front t job.digest result added)
    → Ends o job place first begun (outcome_of tx since result) now
finishes o job place first t begun now tx since result same_begun same_base same_since same_place tx_is since_is done m k c =
    let same : t ≡ record first { done = t.done; ended = t.ended } = λ i. record {
      begun = (sym same_begun) i;
      place = (sym same_place) i;
      base = (sym same_base) i;
      since = (sym same_since) i;
      done = t.done;
      ended = t.ended;
    } in
    let runs : ran t.done ≡ run first.begun first.base job.statements = sym done.runs ∙ (λ i. run ((sym same_begun) i) ((sym same_base) i) job.statements) in
    let raw : raw_id first.begun.mask first.begun.number 0 ≡ tx.raw = ap (λ (b : Begun). raw_id b.mask b.number 0) same_begun ∙ sym tx_is in
    let stood : first.since ≡ since = same_since ∙ sym since_is in
    let told : outcome_of (tx_of first) first.since result ≡ outcome_of tx since result = λ i. outcome_of (record { raw = raw i }) (stood i) result in
    subst (λ x. Attempted o k job place x now) told
    (ends_as o place k first begun c job t.done runs done.commits done.admitted t.ended now result done.goes_on
    (subst (λ x. Calls begun now (λ front added. calls.Commits o front x job.digest result added)) same m))

-- ---- what statements leave to commit

pub done_here : (o : Opening) (job : Job) (place : Place) (t d : Opened) (known : Known Entry) → MayCommit o known t → d ≡ record t { done = d.done }
    → ran d.done ≡ run t.begun t.base job.statements → t.ended ≡ false → job.abort ≡ false → job.denied ≡ None → IsDone o job place d known
done_here o job place t d known may same runs goes commits admitted =
    let begun : d.begun ≡ t.begun = ap (λ (x : Opened). x.begun) same in
    let base : d.base ≡ t.base = ap (λ (x : Opened). x.base) same in
    let stood : d.since ≡ t.since = ap (λ (x : Opened). x.since) same in
    let place_is : d.place ≡ t.place = ap (λ (x : Opened). x.place) same in
    let ran_so : run d.begun d.base job.statements ≡ ran d.done = (λ i. run (begun i) (base i) job.statements) ∙ sym runs in
    let low = may.since in
    record {
      may = record {
        mask = ap (λ (b : Begun). b.mask) begun ∙ may.mask;
        since = omega (arith, low, stood);
        base = base ∙ may.base ∙ ap (λ n. state (take n (blocks_in o known.seen))) (sym stood);
        at = may.at;
        opened = subst (λ x. Stands (placed may.at x) known.own)
            (λ i. begun_at ((sym place_is) i) ((ap (λ (b : Begun). b.number) (sym begun)) i) ((sym stood) i)) may.opened;
        unused = λ x there used. may.unused x there (used ∙ ap (λ (b : Begun). Some b.number) begun);
        asked = job.statements;
        runs = ran_so;
      };
      runs = ran_so;
      goes_on = ap (λ (x : Opened). x.ended) same ∙ goes;
      commits = commits;
      admitted = admitted;
    }
