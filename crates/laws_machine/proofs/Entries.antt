-- The entries that a machine's events leave are a run.
use Rattle.std.proofs.Common.{◌≡◌, ◌∙◌, ◌≤◌, ◌<◌, ℕ, ◌-◌, ◌^◌, ◌==◌, Bool, true, false, not, cond, List, [], ◌∷◌, ◌++◌, inl, inr, refl, sym, ap, subst, arith, Option, Some, None, if◌then◌else◌}
use Rattle.std.specs.Prelude.{nat_lt}
use Rattle.std.specs.List.{AllByRecursion}
use Rattle.std.specs.Option.{unwrap_or}
use Rattle.std.proofs.lemmas.Bool.{eqb-true}
use Rattle.ql_types.specs.declared.Place.{Place}
use Rattle.ledger_model.specs.declared.block.Block.{Block}
use Rattle.ledger_model.specs.declared.script.Request.{Request}
use Rattle.ledger_model.specs.Making.{IsMadeOf}
use Rattle.ledger_model.specs.Run.{Ran, ran, refused, step}
use Rattle.laws_validity.proofs.Lists.{all_like}
use Rattle.laws_machine.specs.Entries.{EntriesAreRun, Entry, IsAmong, IsRisen, IsRunFrom, MayMake, Reach, Rise, Unused, comes, count_in, entries, entry_of, reached, told_count, used}
use Rattle.laws_machine.specs.History.{block_in}
use Rattle.laws_machine.specs.Machine.{Commit, Ending, Event, Machine, Step, Transaction, abort, aborts, asked_more, base, begin, begun_as, behind, closes, commit, commits, conflicts, differs, draws, ended, ending, ends, execute, executes, executes_on, fails, full, happens, if_open, named, new_transaction, opened, seals, spent, unknown, wants, without}
use Rattle.laws_machine.specs.Ranges.{AllFit}
use Rattle.laws_machine.proofs.Endings.{Comes, comes as came_with, count_told}
use Rattle.laws_machine.proofs.Good.{Good, Numbered, good_kept, made_of, opened_good}
use Rattle.laws_machine.proofs.Lists.{all_replaced, all_without, found}
use Rattle.laws_machine.proofs.OnBase.{AllOnBase, OnBase, on_base_kept}

-- ---- runs of two parts

pub run_joined : (r : Reach) (xs ys : List Entry) → IsRunFrom r xs → IsRunFrom (reached r xs) ys
    → IsRunFrom r (xs ++ ys)
run_joined r [] ys h k = k
run_joined r (x ∷ xs) ys h k = (h.0, run_joined (comes r x) xs ys h.1 k)

pub reached_joined : (r : Reach) (xs ys : List Entry) → reached r (xs ++ ys) ≡ reached (reached r xs) ys
reached_joined r [] ys = refl
reached_joined r (x ∷ xs) ys = reached_joined (comes r x) xs ys

-- what the events of a machine leave, where this was reached before
record Leaves (r : Reach) (now : ℕ) (es : List Entry) (m : Machine) : Type 0 where
  run : IsRunFrom r es
  counts : (reached r es).count ≤ now
  blocks : (reached r es).blocks ≡ m.blocks
  last : (reached r es).last ≡ m.last

joined : (r s : Reach) (now : ℕ) (xs ys : List Entry) (m : Machine) → IsRunFrom r xs → reached r xs ≡ s
    → Leaves s now ys m
    → Leaves r now (xs ++ ys) m
joined r s now xs ys m run to k =
    let there : reached s ys ≡ reached r (xs ++ ys) = ap (λ (x : Reach). reached x ys) (sym to)
    ∙ sym (reached_joined r xs ys) in
    record {
      run = run_joined r xs ys run (subst (λ (x : Reach). IsRunFrom x ys) (sym to) k.run);
      counts = subst (λ (x : Reach). x.count ≤ now) there k.counts;
      blocks = subst (λ (x : Reach). x.blocks ≡ m.blocks) there k.blocks;
      last = subst (λ (x : Reach). x.last ≡ m.last) there k.last;
    }

-- ---- numbers that may still be used

abbrev unused_of : Transaction → Unused
unused_of t = record { number = t.number; place = t.place }

abbrev IsIn : List Unused → Transaction → Type 0
IsIn us t = IsAmong (unused_of t) us

first_in : (n : ℕ) (u x : Unused) (rest : List Unused) (b : Bool) → (u.number ≡ n → ⊥) → x ≡ u → (x.number == n) ≡ b
    → IsAmong u (cond (not b) (x ∷ rest) rest)
first_in n u x rest true other same e = absurd
    (other (sym (ap (λ (y : Unused). y.number) same) ∙ eqb-true x.number n e))
first_in n u x rest false other same e = inl same

later_in : (u x : Unused) (rest : List Unused) (b : Bool) → IsAmong u rest → IsAmong u (cond (not b) (x ∷ rest) rest)
later_in u x rest true h = h
later_in u x rest false h = inr h

still_in : (n : ℕ) (u : Unused) (us : List Unused) → (u.number ≡ n → ⊥) → IsAmong u us → IsAmong u (used n us)
still_in n u [] other h = h
still_in n u (x ∷ us) other (inl same) = first_in n u x (used n us) (x.number == n) other same refl
still_in n u (x ∷ us) other (inr rest) = later_in u x (used n us) (x.number == n) (still_in n u us other rest)

-- ---- counts

rise_by : (low count now : ℕ) (es : List Event) (o : Option ℕ) → low ≤ count → (Rise count now es → Rise low now es)
    → IsRisen count o → Rise (unwrap_or o count) now es → IsRisen low o × Rise (unwrap_or o low) now es
rise_by low count now es None h ih risen rest = (tt, ih rest)
rise_by low count now es (Some more) h ih risen rest = (let r : count < more = risen in omega (arith, h, r), rest)

rise_down : (low count now : ℕ) (es : List Event) → low ≤ count → Rise count now es → Rise low now es
rise_down low count now [] h k = omega (arith, h, k)
rise_down low count now (e ∷ es) h k =
    rise_by low count now es (told_count e) h (λ rest. rise_down low count now es h rest) k.0 k.1

-- ---- one event

abbrev reach_of : Machine → ℕ → List Unused → Reach
reach_of m count us = record { mask = m.mask; blocks = m.blocks; last = m.last; count = count; unused = us }

-- the event's entry may come, and leads to the machine behind it
record Leads (m : Machine) (e : Event) (s : Step) (count : ℕ) (us : List Unused) : Type 0 where
  more : ℕ
  left : List Unused
  run : IsRunFrom (reach_of m count us) (entry_of e s.answer)
  to : reached (reach_of m count us) (entry_of e s.answer) ≡ reach_of s.now more left
  among : AllByRecursion (IsIn left) s.now.underway
  rises : more ≤ unwrap_or (told_count e) count

-- without an entry
stays : (m : Machine) (e : Event) (s : Step) (count : ℕ) (us : List Unused) → entry_of e s.answer ≡ []
    → reach_of m count us ≡ reach_of s.now count us → AllByRecursion (IsIn us) s.now.underway
    → count ≤ unwrap_or (told_count e) count → Leads m e s count us
stays m e s count us none to among rises = record {
  more = count;
  left = us;
  run = subst (IsRunFrom (reach_of m count us)) (sym none) tt;
  to = ap (reached (reach_of m count us)) none ∙ to;
  among = among;
  rises = rises;
}

risen_at_least : (count : ℕ) (o : Option ℕ) → IsRisen count o → count ≤ unwrap_or o count
risen_at_least count None h = omega arith
risen_at_least count (Some more) h = let low : count < more = h in omega (arith, low)

module _ (before : List Block) (m : Machine) (g : Good before m) (on : AllOnBase m) (count : ℕ) (us : List Unused)
    (among : AllByRecursion (IsIn us) m.underway) where
  begun_leads : (place : Place) (b : Bool)
      → Leads m (begin place) (if b then draws m place else record { answer = spent m.last; now = m }) count us
  begun_leads place true = record {
    more = count;
    left = unused_of (new_transaction m place) ∷ us;
    run = ((refl, refl), tt);
    to = refl;
    among = (
      inl refl,
      all_like (IsIn us) (IsIn (unused_of (new_transaction m place) ∷ us)) (λ t k. inr k) m.underway among,
    );
    rises = omega arith;
  }
  begun_leads place false =
      stays m (begin place) (record { answer = spent m.last; now = m }) count us refl refl among (omega arith)

  executed_leads : (n : ℕ) (r : Request) (t : Transaction) (x : Ran) → IsIn us t
      → Leads m (execute n r) (executes_on m r t x) count us
  executed_leads n r t (ran p) k =
      stays m (execute n r) (executes_on m r t (ran p)) count us refl refl
      (all_replaced (IsIn us) (asked_more t r (step (begun_as m t) (base m t) p r)) m.underway k among) (omega arith)
  executed_leads n r t (refused statement cause) k =
      stays m (execute n r) (executes_on m r t (refused statement cause)) count us refl refl among (omega arith)

  others_in : (n : ℕ) → AllByRecursion (IsIn us) (without n m.underway)
  others_in n = all_without (IsIn us) (IsIn us) n (λ t other k. k) m.underway among

  -- the transaction of a commit
  module _ (n : ℕ) (c : Commit) (risen : IsRisen count (count_in c.service)) (t : Transaction) (at : t.number ≡ n)
      (mine : IsIn us t) (number : Numbered m.mask m.blocks m.last t) (o : OnBase m.mask m.blocks t) where
    at_least : count ≤ unwrap_or (count_in c.service) count
    at_least = risen_at_least count (count_in c.service) risen

    unentered : (e : Ending) → entry_of (commit n c) (ends e) ≡ []
        → reach_of m count us ≡ reach_of (closes m t.number e).now count us
        → Leads m (commit n c) (closes m t.number e) count us
    unentered e none to = stays m (commit n c) (closes m t.number e) count us none to (others_in t.number) at_least

    among_n : IsAmong (record { number = n; place = t.place }) us
    among_n = subst (λ i. IsAmong (record { number = i; place = t.place }) us) at mine

    may_make : (block : Block) → Comes m c t block → MayMake (reach_of m count us) n block
    may_make block k =
        record {
          place = t.place;
          unused = among_n;
          time = c.time;
          asked = t.asked;
          made = subst (λ i. IsMadeOf (record { mask = m.mask; number = i }) m.blocks t.place c.time t.asked block) at
              (made_of before m g t number o c block k);
        }

    left_in : AllByRecursion (IsIn (used n us)) (without t.number m.underway)
    left_in =
        all_without (IsIn us) (IsIn (used n us)) t.number
        (λ u other k. still_in n (unused_of u) us (λ e. other (e ∙ sym at)) k) m.underway among

    closed_leads : (e : Ending) → ending m c t t.done ≡ e → Leads m (commit n c) (closes m t.number e) count us
    closed_leads ended is = unentered ended refl refl
    closed_leads (differs own given) is = unentered (differs own given) refl refl
    closed_leads (conflicts since f) is = unentered (conflicts since f) refl refl
    closed_leads (full blocks) is = unentered (full blocks) refl refl
    closed_leads (wants None) is = record {
      more = count;
      left = used n us;
      run = (record { place = t.place; unused = among_n }, tt);
      to = refl;
      among = left_in;
      rises = at_least;
    }
    closed_leads (wants (Some block)) is = record {
      more = count;
      left = used n us;
      run = (may_make block (came_with m c t block (ap block_in is)), tt);
      to = refl;
      among = left_in;
      rises = at_least;
    }
    closed_leads (fails more block) is =
        let told : count_in c.service ≡ Some more = count_told m c t more block t.done is in
        let rose : count < more = subst (IsRisen count) told risen in
        let same : unwrap_or (count_in c.service) count ≡ more = ap (λ x. unwrap_or x count) told in
        record {
          more = more;
          left = used n us;
          run = ((may_make block (came_with m c t block (ap block_in is)), rose), tt);
          to = refl;
          among = left_in;
          rises = omega (arith, same);
        }
    closed_leads (seals block) is = record {
      more = count;
      left = used n us;
      run = (may_make block (came_with m c t block (ap block_in is)), tt);
      to = refl;
      among = left_in;
      rises = at_least;
    }

  open_leads : (e : Event) (n : ℕ) (f : Transaction → Step) (o : Option Transaction) → named n m.underway ≡ o
      → entry_of e unknown ≡ [] → count ≤ unwrap_or (told_count e) count
      → ((t : Transaction) → o ≡ Some t → t.number ≡ n → IsIn us t → Numbered m.mask m.blocks m.last t
      → OnBase m.mask m.blocks t
      → Leads m e (f t) count us)
      → Leads m e (if_open m o f) count us
  open_leads e n f None is none low h = stays m e (record { answer = unknown; now = m }) count us none refl among low
  open_leads e n f (Some t) is none low h =
      let mine = found (IsIn us) n m.underway t among is in
      h t refl mine.1 mine.0 (found (Numbered m.mask m.blocks m.last) n m.underway t g.numbered is).0
      (found (OnBase m.mask m.blocks) n m.underway t on is).0

  leads : (e : Event) → IsRisen count (told_count e) → Leads m e (happens m e) count us
  leads (begin place) risen = begun_leads place (nat_lt m.last (2 ^ 64 - 1))
  leads (execute n r) risen =
      open_leads (execute n r) n (executes m r) (named n m.underway) refl refl (omega arith)
      (λ t e at k x o. executed_leads n r t t.done k)
  leads (commit n c) risen =
      open_leads (commit n c) n (commits m c) (named n m.underway) refl refl
      (risen_at_least count (count_in c.service) risen)
      (λ t e at k x o. closed_leads n c risen t at k x o (ending m c t t.done) refl)
  leads (abort n) risen =
      open_leads (abort n) n (aborts m) (named n m.underway) refl refl (omega arith)
      (λ t e at k x o. stays m (abort n) (aborts m t) count us refl refl (others_in t.number) (omega arith))

-- ---- all events

all_leave : (before : List Block) (es : List Event) (m : Machine) (count now : ℕ) (us : List Unused)
    → Good before m → AllOnBase m
    → AllFit es m → Rise count now es → AllByRecursion (IsIn us) m.underway
    → Leaves (reach_of m count us) now (entries es m) (behind es m)
all_leave before [] m count now us g on fit rise among = record { run = tt; counts = rise; blocks = refl; last = refl }
all_leave before (e ∷ es) m count now us g on fit rise among =
    let s : Step = happens m e in
    let one = leads before m g on count us among e rise.0 in
    let rest = all_leave before es s.now one.more now one.left (good_kept before m g on e fit.0)
    (on_base_kept m e on) fit.1
    (rise_down one.more (unwrap_or (told_count e) count) now es one.rises rise.1) one.among in
    joined (reach_of m count us) (reach_of s.now one.more one.left) now (entry_of e s.answer) (entries es s.now)
    (behind es s.now)
    one.run one.to rest

pub entries_are_run : EntriesAreRun
entries_are_run mask count now before events o fit rise =
    let k = all_leave before events (opened mask before) count now [] (opened_good mask before o) tt fit rise tt in
    record { run = record { run = k.run; counts = k.counts }; blocks = k.blocks; last = k.last }
