-- What an open transaction's statements came to is their run on the blocks at its begin, whatever happens.
use Rattle.std.proofs.Common.{◌≡◌, ◌∙◌, ◌≤◌, ℕ, ◌-◌, ◌^◌, Bool, true, false, List, [], ◌∷◌, ◌++◌, length, length-append, take, refl, ap, arith, Option, Some, None, if◌then◌else◌}
use Rattle.std.specs.Prelude.{nat_lt}
use Rattle.std.specs.List.{AllByRecursion}
use Rattle.std.proofs.lemmas.List.{take-append-le}
use Rattle.ql_types.specs.declared.Place.{Place}
use Rattle.ledger_model.specs.declared.block.Block.{Block}
use Rattle.ledger_model.specs.declared.script.Request.{Request}
use Rattle.ledger_model.specs.Run.{Progress, Ran, ran, refused, run, step}
use Rattle.ledger_model.specs.State.{state}
use Rattle.laws_machine.specs.History.{ExecuteIsRun, IsRunOnBase}
use Rattle.laws_machine.specs.Machine.{Ending, Event, Machine, Step, Transaction, abort, aborts, asked_more, base, begin, begun_as, behind, closes, commit, commits, conflicts, differs, draws, ended, ending, execute, executes, executes_on, fails, full, happens, if_open, named, new_transaction, opened, seals, spent, wants, without}
use Rattle.laws_machine.proofs.Lists.{all_replaced, all_without, found}
use Rattle.laws_machine.proofs.Replay.{run_more}

-- its base is a front part of the blocks
pub record OnBase (mask : ℕ) (blocks : List Block) (t : Transaction) : Type 0 where
  pub since_le : t.since ≤ length blocks
  pub runs : run (record { mask = mask; number = t.number }) (state (take t.since blocks)) t.asked ≡ t.done

abbrev pub AllOnBase : Machine → Type 0
AllOnBase m = AllByRecursion (OnBase m.mask m.blocks) m.underway

-- ---- more blocks

pub base_grows : (mask : ℕ) (blocks more : List Block) (t : Transaction) → OnBase mask blocks t
    → OnBase mask (blocks ++ more) t
base_grows mask blocks more t k = record {
  since_le = let l = k.since_le in omega (arith, l, length-append blocks more);
  runs = ap (λ bs. run (record { mask = mask; number = t.number }) (state bs) t.asked)
      (take-append-le t.since blocks more k.since_le)
      ∙ k.runs;
}

-- ---- each event

kept_on_base : (m : Machine) (n : ℕ) → AllOnBase m → AllByRecursion (OnBase m.mask m.blocks) (without n m.underway)
kept_on_base m n k =
    all_without (OnBase m.mask m.blocks) (OnBase m.mask m.blocks) n (λ t other o. o) m.underway k

new_on_base : (m : Machine) (place : Place) → OnBase m.mask m.blocks (new_transaction m place)
new_on_base m place = record { since_le = omega arith; runs = refl }

begun_on_base : (m : Machine) (place : Place) (b : Bool) → AllOnBase m
    → AllOnBase (if b then draws m place else record { answer = spent m.last; now = m }).now
begun_on_base m place true k = (new_on_base m place, k)
begun_on_base m place false k = k

asked_on_base : (m : Machine) (t : Transaction) (r : Request) (p : Progress) → t.done ≡ ran p
    → OnBase m.mask m.blocks t
    → OnBase m.mask m.blocks (asked_more t r (step (begun_as m t) (base m t) p r))
asked_on_base m t r p done k = record {
  since_le = k.since_le;
  runs = run_more (begun_as m t) (base m t) t.asked r p (k.runs ∙ done);
}

executed_on_base : (m : Machine) (r : Request) (t : Transaction) (x : Ran) → t.done ≡ x → OnBase m.mask m.blocks t
    → AllOnBase m
    → AllOnBase (executes_on m r t x).now
executed_on_base m r t (ran p) done o k =
    all_replaced (OnBase m.mask m.blocks) (asked_more t r (step (begun_as m t) (base m t) p r)) m.underway
    (asked_on_base m t r p done o) k
executed_on_base m r t (refused statement cause) done o k = k

closed_on_base : (m : Machine) (n : ℕ) (e : Ending) → AllOnBase m → AllOnBase (closes m n e).now
closed_on_base m n ended k = kept_on_base m n k
closed_on_base m n (differs mine given) k = kept_on_base m n k
closed_on_base m n (conflicts since found) k = kept_on_base m n k
closed_on_base m n (full blocks) k = kept_on_base m n k
closed_on_base m n (wants o) k = kept_on_base m n k
closed_on_base m n (fails count block) k = kept_on_base m n k
closed_on_base m n (seals block) k =
    all_without (OnBase m.mask m.blocks) (OnBase m.mask (m.blocks ++ block ∷ [])) n
    (λ t other o. base_grows m.mask m.blocks (block ∷ []) t o) m.underway k

if_open_on_base : (m : Machine) (n : ℕ) (f : Transaction → Step) (o : Option Transaction) → named n m.underway ≡ o
    → AllOnBase m
    → ((t : Transaction) → OnBase m.mask m.blocks t → AllOnBase (f t).now) → AllOnBase (if_open m o f).now
if_open_on_base m n f None e k h = k
if_open_on_base m n f (Some t) e k h = h t (found (OnBase m.mask m.blocks) n m.underway t k e).0

pub on_base_kept : (m : Machine) (e : Event) → AllOnBase m → AllOnBase (happens m e).now
on_base_kept m (begin place) k = begun_on_base m place (nat_lt m.last (2 ^ 64 - 1)) k
on_base_kept m (execute n r) k =
    if_open_on_base m n (executes m r) (named n m.underway) refl k (λ t o. executed_on_base m r t t.done refl o k)
on_base_kept m (commit n c) k =
    if_open_on_base m n (commits m c) (named n m.underway) refl k
    (λ t o. closed_on_base m t.number (ending m c t t.done) k)
on_base_kept m (abort n) k =
    if_open_on_base m n (aborts m) (named n m.underway) refl k (λ t o. kept_on_base m t.number k)

pub all_on_base : (es : List Event) (m : Machine) → AllOnBase m → AllOnBase (behind es m)
all_on_base [] m k = k
all_on_base (e ∷ es) m k = all_on_base es (happens m e).now (on_base_kept m e k)

runs_of : (m : Machine) (ts : List Transaction) → AllByRecursion (OnBase m.mask m.blocks) ts
    → AllByRecursion (IsRunOnBase m) ts
runs_of m [] k = tt
runs_of m (t ∷ ts) k = (k.0.runs, runs_of m ts k.1)

pub execute_is_run : ExecuteIsRun
execute_is_run mask before events =
    runs_of (behind events (opened mask before)) (behind events (opened mask before)).underway
    (all_on_base events (opened mask before) tt)
