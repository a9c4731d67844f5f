-- The job that ran first and alone was over when each of the others began.
use Rattle.std.proofs.Common.{◌≡◌, ℕ, ◌<◌, false, List, [], ◌∷◌, ◌++◌, refl, sym, subst, arith, eq-eqb}
use mathlib.Core.List.{IsPrefix}
use Rattle.turn_lock.specs.declared.view.Known.{Known}
use Rattle.turn_lock.specs.History.{Stands, newborn}
use Rattle.turn_lock.proofs.Lists.{prefix_longer, prefix_trans}
use Rattle.session_driver.specs.Retries.{Retried}
use Rattle.laws_machine.specs.Entries.{Entry, Opening}
use Rattle.laws_history.specs.Attempts.{Attempted}
use Rattle.laws_history.specs.Claims.{RunsBefore}
use Rattle.laws_history.specs.Records.{RunRecord, HasNoBlock}
use Rattle.laws_history.specs.Runs.{HasWorked, IsRunBy, Served, Works, dealt, opening_of}
use Rattle.laws_history.proofs.Dealt.{rest_of, stands_dealt}
use Rattle.laws_history.proofs.Fitting.{blockless}
use Rattle.laws_history.proofs.Links.{IsLink, Link, Linked, Timeline, linked, timeline}
use Rattle.laws_history.proofs.Lists.{all_stand, stands_all}
use Rattle.laws_history.proofs.Makes.{is_committed}
use Rattle.laws_history.proofs.Order.{IsOver, over, runs_before}
use Rattle.laws_history.proofs.Owners.{rest_low, stands_mapped}
use Rattle.laws_workload.specs.First.{FirstIsOver, RanAfterFirst}
use Rattle.laws_workload.proofs.Behind.{blocks_on, last_on}
use Rattle.laws_workload.proofs.Joining.{dealt_takes, zero_rest}
use Rattle.laws_workload.proofs.Moving.{lifted, prefix_behind, works_lifted}

module _ (t : RunRecord) (first : Served) (ss : List Served) (es more : List Entry) (pass_of : ℕ → Known Entry)
    (at : first.placed.place.session ≡ 0) (h : RanAfterFirst t first ss es more)
    (r : IsRunBy t (first ∷ ss) (es ++ more) pass_of) where
  abbrev o : Opening
  o = opening_of t

  none_of : (s : Served) → Stands s (first ∷ ss) → is_committed s.outcome ≡ false → HasNoBlock t s.placed
  none_of = blockless t (first ∷ ss) (es ++ more) pass_of r

  -- ---- the first job

  abbrev front : Known Entry
  front = h.alone.pass_of 0

  one : HasWorked o 1 0 (first ∷ []) front
  one = h.alone.are.worked 0 (omega arith)

  ran : Works o (first ∷ []) one.start front
  ran =
      subst (λ (xs : List Served). Works o xs one.start front)
      (dealt_takes 1 0 first [] (eq-eqb _ 0 (zero_rest 1 first.placed.place.session at))) one.works

  front_seen : IsPrefix front.seen es
  front_seen = h.alone.are.seen 0 (omega arith)

  alone : Linked t (es ++ more) r.right r.after r.closed first one.start front
  alone =
      linked t (es ++ more) r.right r.after r.closed first one.start front
      (prefix_longer front.seen es more front_seen)
      (subst (λ (k : Known Entry). Retried (Attempted o) first.placed.job first.placed.place one.start first.outcome k)
      ran.2 ran.1)

  -- it is over at each moment behind its entries
  over_then : (from : List Entry) → IsPrefix es from → IsPrefix from (es ++ more)
      → IsOver t (first ∷ ss) (es ++ more) pass_of r none_of from first.outcome
  over_then from p q =
      subst (λ (x : Served). IsOver t (first ∷ ss) (es ++ more) pass_of r none_of from x.outcome) alone.served
      (over t (first ∷ ss) (es ++ more) pass_of r none_of alone.link alone.is from
      (subst (λ (xs : List Entry). IsPrefix xs from) (sym alone.until) (prefix_trans front.seen es from front_seen p)) q)

  -- ---- one of the others

  module _ (s : Served) (among : Stands s ss) where
    abbrev rest : ℕ
    rest = rest_of t.workers s

    low : rest < t.workers
    low = rest_low t (first ∷ ss) (es ++ more) pass_of r s

    worked : HasWorked h.behind t.workers rest ss (h.all.pass_of rest)
    worked = h.all.are.worked rest low

    abbrev start : Known Entry
    start = lifted es newborn worked.start

    abbrev now : Known Entry
    now = lifted es newborn (h.all.pass_of rest)

    works : Works o (dealt t.workers rest ss) start now
    works =
        works_lifted o h.behind es newborn h.opens.mask (blocks_on o h.behind es h.opens)
        (last_on o h.behind es h.opens) (dealt t.workers rest ss) worked.start (h.all.pass_of rest) worked.works

    line : Timeline t (es ++ more) (dealt t.workers rest ss) start now
    line =
        timeline t (es ++ more) r.right r.after r.closed (dealt t.workers rest ss) start now
        (prefix_behind es (h.all.pass_of rest).seen more (h.all.are.seen rest low)) works

    found : (l : Link) × Stands l line.links × (l.served ≡ s)
    found =
        stands_mapped (λ (x : Link). x.served) s line.links
        (subst (λ (xs : List Served). Stands s xs) (sym line.served) (stands_dealt t.workers s ss among))

    is : IsLink t (es ++ more) found.0
    is = stands_all (IsLink t (es ++ more)) found.0 line.links line.each found.1

    late : IsPrefix es (found.0).from
    late =
        prefix_trans es (start).seen (found.0).from ((worked.start).seen, refl)
        (stands_all (λ (l : Link). IsPrefix (start).seen l.from) found.0 line.links line.behind found.1)

    inside : IsPrefix (found.0).from (es ++ more)
    inside =
        prefix_trans (found.0).from (found.0).until (es ++ more)
        (prefix_trans (found.0).from (found.0).mid (found.0).until is.from_mid is.mid_until) is.inside

    before : RunsBefore t first.outcome s.placed s.outcome
    before =
        subst (λ (x : Served). RunsBefore t first.outcome x.placed x.outcome) found.2
        (runs_before t (first ∷ ss) (es ++ more) pass_of r none_of found.0 is first.outcome
        (over_then (found.0).from late inside))

pub first_is_over : FirstIsOver
first_is_over t first ss es more pass_of at h r =
    all_stand (λ (s : Served). RunsBefore t first.outcome s.placed s.outcome) ss
    (λ s among. before t first ss es more pass_of at h r s among)
