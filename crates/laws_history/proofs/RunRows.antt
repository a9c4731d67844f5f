-- A run of two workers. The transaction of session 2 begins and is sealed while that of session 1 is open, which then
-- meets a conflict, is tried again and is sealed behind it.
use Rattle.std.proofs.Common.{◌≡◌, ℕ, zero, suc, ◌+◌, ◌<◌, ◌≤◌, false, List, [], ◌∷◌, codes, slice_get, Some, None, refl, ap, inl, inr, arith}
use mathlib.Core.List.{IsPrefix}
use Rattle.ion_values.specs.declared.time.TimeParts.{TimeParts}
use Rattle.pql_model.specs.Expressions.{expression, free_path, layers}
use Rattle.pql_model.specs.Parse.{parsed}
use Rattle.pql_model.specs.Tokens.{lex}
use Rattle.pql_model.specs.Words.{is_reserved}
use Rattle.ql_types.specs.Ids.{raw_id}
use Rattle.ql_types.specs.declared.Place.{Place}
use Rattle.ql_types.specs.declared.TxId.{TxId}
use Rattle.ledger_model.specs.declared.block.Block.{Block}
use Rattle.ledger_model.specs.declared.block.Schema.TheVariants.{Create}
use Rattle.ledger_model.specs.declared.outcome.Item.{Item}
use Rattle.ledger_model.specs.declared.outcome.Item.TheVariants as item
use Rattle.ledger_model.specs.declared.outcome.Named.{Named}
use Rattle.ledger_model.specs.declared.outcome.Outcome.TheVariants.{Committed, Conflict, Denied}
use Rattle.ledger_model.specs.declared.script.Denial.{Denial}
use Rattle.ledger_model.specs.declared.script.Job.{Job}
use Rattle.ledger_model.specs.declared.script.Request.{Request}
use Rattle.ledger_model.specs.Damages.{Undamaged}
use Rattle.ledger_model.specs.Making.{block_of}
use Rattle.ledger_model.specs.Run.{Begun, Progress, ran, run}
use Rattle.ledger_model.specs.Script.{Placed}
use Rattle.ledger_model.specs.State.{state}
use Rattle.ledger_model.specs.Values.{named_id}
use Rattle.laws_footprint.specs.Touches.{conflict}
use Rattle.session_driver.specs.Retries.{Retried}
use Rattle.turn_lock.specs.declared.view.Known.{Known}
use Rattle.turn_lock.specs.History.{Stands, newborn, placed}
use Rattle.laws_history.specs.Records.{RunRecord, one_time}
use Rattle.laws_machine.specs.Entries.{Entry, IsRunFrom, Opening, begun_at, reach_at, sealed}
use Rattle.laws_history.specs.Attempts.{Attempted}
use Rattle.laws_history.specs.Claims.{Fits}
use Rattle.laws_history.specs.Claims as claim
use Rattle.laws_history.specs.Runs.{HasWorked, IsRunBy, Served, dealt, opening_of}
use Rattle.laws_history.proofs.Fitting.{runs_fit}

abbrev at : ℕ → Place
at n = record { session = n; transaction = 1 }

-- ---- what the two transactions do

abbrev creates : List ℕ → Request
creates text = record { text = text; params = [] }

abbrev did : ℕ → List ℕ → List ℕ → Progress
did n text name = record {
  said = record {
    text = text;
    params = [];
    answer = record { rows = named_id (codes "tableId") (raw_id 5 n 1) ∷ [] };
  } ∷ [];
  schema = Create name (record { raw = raw_id 5 n 1 }) ∷ [];
  log = [];
  made = 1;
  footprint = item.TableName name ∷ item.TableList ∷ [];
}

abbrev did_t : Progress
did_t = did 2 (codes "CREATE TABLE t") (codes "t")

abbrev did_u : ℕ → Progress
did_u n = did n (codes "CREATE TABLE u") (codes "u")

abbrev job_t : Job
job_t = record { statements = creates (codes "CREATE TABLE t") ∷ []; retries = 0; digest = None; abort = false; denied = None }

abbrev job_u : Job
job_u = record { statements = creates (codes "CREATE TABLE u") ∷ []; retries = 1; digest = None; abort = false; denied = None }

abbrev numbered : ℕ → Begun
numbered n = record { mask = 5; number = n }

abbrev tx : ℕ → TxId
tx n = record { raw = raw_id 5 n 0 }

runs_t : run (numbered 2) (state []) job_t.statements ≡ ran did_t
unfolding parsed lex is_reserved layers expression free_path
runs_t = refl

runs_u : run (numbered 1) (state []) job_u.statements ≡ ran (did_u 1)
unfolding parsed lex is_reserved layers expression free_path
runs_u = refl

module _ (time : TimeParts) where
  abbrev first : Block
  first = block_of (numbered 2) [] (at 2) time did_t

  abbrev second : Block
  second = block_of (numbered 3) (first ∷ []) (at 1) time (did_u 3)

  runs_again : run (numbered 3) (state (first ∷ [])) job_u.statements ≡ ran (did_u 3)
  unfolding parsed lex is_reserved layers expression free_path
  runs_again = refl

  -- ---- the history

  abbrev history : List Entry
  history =
      begun_at (at 1) 1 0 ∷ begun_at (at 2) 2 0 ∷ sealed 2 first ∷ begun_at (at 1) 3 1 ∷ sealed 3 second ∷ []

  abbrev told : RunRecord
  told = record {
    given = Some 5;
    mask = 5;
    times = one_time time;
    workers = 2;
    jobs = record { place = at 1; job = job_u } ∷ record { place = at 2; job = job_t } ∷ [];
    opened = 0;
    closed = 0;
    before = [];
    after = first ∷ second ∷ [];
    outcomes =
        record { place = at 1; outcome = Committed (tx 3) 1 } ∷ record {
          place = at 2;
          outcome =
              Committed (tx 2) 0;
        } ∷ [];
  }

  abbrev o : Opening
  o = opening_of told

  abbrev served_u : Served
  served_u = record { placed = record { place = at 1; job = job_u }; outcome = Committed (tx 3) 1 }

  abbrev served_t : Served
  served_t = record { placed = record { place = at 2; job = job_t }; outcome = Committed (tx 2) 0 }

  -- each worker runs the session that is dealt to it
  odd_dealt : dealt 2 1 (served_u ∷ served_t ∷ []) ≡ served_u ∷ []
  odd_dealt = refl

  even_dealt : dealt 2 0 (served_u ∷ served_t ∷ []) ≡ served_t ∷ []
  even_dealt = refl

  -- ---- what the passes know

  abbrev begun_u : Known Entry
  begun_u = record { name = []; splits = 0; seen = begun_at (at 1) 1 0 ∷ []; own = placed 0 (begun_at (at 1) 1 0) ∷ [] }

  -- behind the conflict, which made no entry
  abbrev met : Known Entry
  met = record {
    name = [];
    splits = 0;
    seen = begun_at (at 1) 1 0 ∷ begun_at (at 2) 2 0 ∷ sealed 2 first ∷ [];
    own = placed 0 (begun_at (at 1) 1 0) ∷ [];
  }

  abbrev again : Known Entry
  again = record {
    name = [];
    splits = 0;
    seen = begun_at (at 1) 1 0 ∷ begun_at (at 2) 2 0 ∷ sealed 2 first ∷ begun_at (at 1) 3 1 ∷ [];
    own = placed 0 (begun_at (at 1) 1 0) ∷ placed 3 (begun_at (at 1) 3 1) ∷ [];
  }

  abbrev done_u : Known Entry
  done_u = record {
    name = [];
    splits = 0;
    seen = history;
    own = placed 0 (begun_at (at 1) 1 0) ∷ placed 3 (begun_at (at 1) 3 1) ∷ placed 4 (sealed 3 second) ∷ [];
  }

  abbrev begun_t : Known Entry
  begun_t = record {
    name = [];
    splits = 0;
    seen = begun_at (at 1) 1 0 ∷ begun_at (at 2) 2 0 ∷ [];
    own = placed 1 (begun_at (at 2) 2 0) ∷ [];
  }

  abbrev done_t : Known Entry
  done_t = record {
    name = [];
    splits = 0;
    seen = begun_at (at 1) 1 0 ∷ begun_at (at 2) 2 0 ∷ sealed 2 first ∷ [];
    own = placed 1 (begun_at (at 2) 2 0) ∷ placed 2 (sealed 2 first) ∷ [];
  }

  -- ---- the attempts

  -- the first one meets block 0, which touched the list of tables
  abbrev found : Named
  found = record { block = 0; item = item.TableList }

  finds : conflict (first ∷ []) 0 (did_u 1).footprint ≡ Some found
  finds = refl

  met_conflict : Attempted o newborn job_u (at 1) (Conflict (tx 1) 0 found) met
  met_conflict = record {
    ready = record {
      begun = record {
        number = 1;
        since = 0;
        id = refl;
        counted = omega arith;
        now = begun_u;
        adds = record { front = []; later = ([], refl); added = refl };
      };
      progress = did_u 1;
      ends = runs_u;
      commits = refl;
      admitted = refl;
    };
    digest = tt;
    since_is = refl;
    sees = record { later = (begun_at (at 2) 2 0 ∷ sealed 2 first ∷ [], refl); same = refl };
    finds = finds;
  }

  committed_again : Attempted o met job_u (at 1) (Committed (tx 3) 1) done_u
  committed_again = record {
    ready = record {
      begun = record {
        number = 3;
        since = 1;
        id = refl;
        counted = omega arith;
        now = again;
        adds = record { front = (met).seen; later = ([], refl); added = refl };
      };
      progress = did_u 3;
      ends = runs_again;
      commits = refl;
      admitted = refl;
    };
    digest = tt;
    made = second;
    adds = record { front = (again).seen; later = ([], refl); added = refl };
    untouched = refl;
    time = time;
    is_made = record { progress = did_u 3; runs = runs_again; block_is = refl };
    block_is = refl;
  }

  retried_once : Retried (Attempted o) job_u (at 1) newborn (Committed (tx 3) 1) done_u
  retried_once = record {
    count = 1;
    between = met;
    earlier = (newborn, Conflict (tx 1) 0 found, refl, met_conflict, refl);
    last = committed_again;
    at_most = omega arith;
    fewer = λ less. refl;
  }

  committed_t : Attempted o newborn job_t (at 2) (Committed (tx 2) 0) done_t
  committed_t = record {
    ready = record {
      begun = record {
        number = 2;
        since = 0;
        id = refl;
        counted = omega arith;
        now = begun_t;
        adds = record { front = begun_at (at 1) 1 0 ∷ []; later = (begun_at (at 1) 1 0 ∷ [], refl); added = refl };
      };
      progress = did_t;
      ends = runs_t;
      commits = refl;
      admitted = refl;
    };
    digest = tt;
    made = first;
    adds = record { front = (begun_t).seen; later = ([], refl); added = refl };
    untouched = refl;
    time = time;
    is_made = record { progress = did_t; runs = runs_t; block_is = refl };
    block_is = refl;
  }

  once : Retried (Attempted o) job_t (at 2) newborn (Committed (tx 2) 0) done_t
  once = record {
    count = 0;
    between = newborn;
    earlier = refl;
    last = committed_t;
    at_most = omega arith;
    fewer = λ less. refl;
  }

  -- of a job that the rules deny, an attempt adds nothing
  abbrev denial : Denial
  denial = record { statement = 1; action = codes "PartiQLCreateTable"; table = codes "t"; rule = None }

  abbrev job_denied : Job
  job_denied = record {
    statements = creates (codes "CREATE TABLE t") ∷ [];
    retries = 0;
    digest = None;
    abort = false;
    denied = Some denial;
  }

  denied_once : Attempted o newborn job_denied (at 3) (Denied 1 (codes "PartiQLCreateTable") (codes "t") None) newborn
  denied_once = record { denied = refl; sees = record { later = ([], refl); same = refl } }

  -- ---- the run

  abbrev pass_of : ℕ → Known Entry
  pass_of zero = done_t
  pass_of (suc n) = done_u

  abbrev all_served : List Served
  all_served = served_u ∷ served_t ∷ []

  worked : (rest : ℕ) → rest < 2 → HasWorked o 2 rest all_served (pass_of rest)
  worked zero low = record { start = newborn; owns_none = refl; works = (done_t, once, refl) }
  worked (suc zero) low = record { start = newborn; owns_none = refl; works = (done_u, retried_once, refl) }
  worked (suc (suc n)) low = absurd (omega (arith, low))

  seen : (rest : ℕ) → rest < 2 → IsPrefix (pass_of rest).seen history
  seen zero low = (begun_at (at 1) 3 1 ∷ sealed 3 second ∷ [], refl)
  seen (suc n) low = ([], refl)

  -- an entry at a place is the one that stands there
  same_at : (i : ℕ) (e d : Entry) → Some d ≡ Some e → placed i e ≡ placed i d
  same_at i e d h = let same : e ≡ d = cc h in ap (placed i) same

  owned : (i : ℕ) (e : Entry) → slice_get history i ≡ Some e
      → (rest : ℕ) × (rest < 2) × Stands (placed i e) (pass_of rest).own
  owned zero e h = (1, omega arith, inl (same_at 0 e (begun_at (at 1) 1 0) h))
  owned (suc zero) e h = (0, omega arith, inl (same_at 1 e (begun_at (at 2) 2 0) h))
  owned (suc (suc zero)) e h = (0, omega arith, inr (inl (same_at 2 e (sealed 2 first) h)))
  owned (suc (suc (suc zero))) e h = (1, omega arith, inr (inl (same_at 3 e (begun_at (at 1) 3 1) h)))
  owned (suc (suc (suc (suc zero)))) e h = (1, omega arith, inr (inr (inl (same_at 4 e (sealed 3 second) h))))
  owned (suc (suc (suc (suc (suc n))))) e h = let bad : ⊥ = cc h in absurd bad

  run_of_history : IsRunFrom (reach_at o) history
  run_of_history = (
    (refl, refl),
    (
      (refl, refl),
      (
        record {
          place = at 2;
          unused = inl refl;
          time = time;
          asked = job_t.statements;
          made = record { progress = did_t; runs = runs_t; block_is = refl };
        },
        (
          (refl, refl),
          (
            record {
              place = at 1;
              unused = inl refl;
              time = time;
              asked = job_u.statements;
              made = record { progress = did_u 3; runs = runs_again; block_is = refl };
            },
            tt,
          ),
        ),
      ),
    ),
  )

  -- so it is a run of two workers, and meets the claim, where its two blocks are undamaged
  module _ (undamaged : Undamaged (first ∷ second ∷ [])) where
    interleaved : IsRunBy told all_served history pass_of
    interleaved = record {
      jobs = refl;
      outcomes = refl;
      in_order = ((λ same. let e : 1 ≡ 2 = same in absurd (omega (arith, e)), tt), (tt, tt));
      masked = refl;
      strand = refl;
      right = record { run = run_of_history; undamaged = undamaged };
      after = refl;
      times = (
        record { time = time; among = refl; is = refl },
        (record { time = time; among = refl; is = refl }, tt),
      );
      closed = refl;
      some = omega arith;
      workers = record { worked = worked; seen = seen; owned = owned };
    }

    claimed : Fits told
    claimed = runs_fit told all_served history pass_of interleaved

-- ---- what the claim refuses

-- a conflict that is told after a retry ran behind a block more than the journal's
untried : (t : RunRecord) (p : Placed) (tx : TxId) (named : Named) → p.job.retries ≡ 1
    → claim.IsInConflict t p tx 0 named → ⊥
untried t p tx named one h = omega (arith, one, h.retries)

-- and one that names a block behind which another job of the same worker has its own
named_late : (t : RunRecord) (p : Placed) (one two : TxId) (since : ℕ) (i : Item)
    → claim.RunsBefore t (Conflict one since (record { block = 7; item = i })) p (Committed two 7) → ⊥
named_late t p one two since i h = let late : 7 + 1 + 0 ≤ 7 = h.blocks in omega (arith, late)
