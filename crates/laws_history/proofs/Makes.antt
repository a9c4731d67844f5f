-- Which entries an attempt makes, and which all attempts of a job make.
use Rattle.std.proofs.Common.{◌≡◌, ℕ, ◌+◌, ◌<◌, ◌≤◌, ◌^◌, Bool, true, false, List, [], ◌∷◌, ◌++◌, length, length-append, Some, None, sym, refl, ap, ◌∙◌, subst, arith, append-nil, append_assoc}
use Rattle.std.specs.List.{AllByRecursion}
use mathlib.Core.List.{IsPrefix}
use Rattle.ion_values.specs.declared.time.TimeParts.{TimeParts}
use Rattle.ql_types.specs.declared.Place.{Place}
use Rattle.ql_types.specs.declared.TxId.{TxId}
use Rattle.ledger_model.specs.declared.block.Block.{Block}
use Rattle.ledger_model.specs.declared.outcome.Outcome.{Outcome}
use Rattle.ledger_model.specs.declared.outcome.Outcome.TheVariants.{Committed}
use Rattle.ledger_model.specs.Making.{IsMadeOf}
use Rattle.ledger_model.specs.Script.{Placed}
use Rattle.turn_lock.specs.declared.view.Known.{Known}
use Rattle.turn_lock.specs.declared.view.Placed as own
use Rattle.turn_lock.specs.History.{placed}
use Rattle.turn_lock.proofs.Lists.{prefix_self, prefix_trans}
use Rattle.laws_validity.proofs.Lists.{all_append, all_like}
use Rattle.laws_history.specs.Records.{IsOfJob, told_count}
use Rattle.laws_machine.specs.Entries.{Entry, Opening, begun_at, failed, sealed, wanted}
use Rattle.laws_history.specs.Seen.{blocks_in}
use Rattle.laws_history.specs.Attempts.{Adds, Begins, Sees, SendsOwn}
use Rattle.laws_history.proofs.Reaches.{begun_by}

-- ---- one entry of an own list

-- the block is the job's, which was told as committed with it
pub record IsCommittedAs (o : Opening) (p : Placed) (x : Outcome) (front : List Entry) (b : Block) : Type 0 where
  pub told : x ≡ Committed b.header.tx (length (blocks_in o front))
  pub of_job : IsOfJob b p
  pub digest : SendsOwn p.job b.header.tx

abbrev pub is_committed : Outcome → Bool
is_committed (Committed tx block) = true
is_committed other = false

-- the block is that of the job's statements behind the blocks of these entries, as the transaction of a number behind the
-- last one, and it isn't told as committed
pub record IsTriedAs (o : Opening) (p : Placed) (x : Outcome) (front : List Entry) (b : Block) : Type 0 where
  pub untold : is_committed x ≡ false
  pub commits : p.job.abort ≡ false
  pub admitted : p.job.denied ≡ None
  pub digest : SendsOwn p.job b.header.tx
  pub last : ℕ
  pub counted : last + 1 < 2 ^ 64
  pub time : TimeParts
  pub made : IsMadeOf (record { mask = o.mask; number = last + 1 }) (blocks_in o front) p.place time p.job.statements b

-- what the entry says of the job's outcome
abbrev pub Says : Opening → Placed → Outcome → List Entry → Entry → Type 0
Says o p x front (begun_at place number since) = Unit {0}
Says o p x front (sealed number block) = IsCommittedAs o p x front block
Says o p x front (failed number count block) = (told_count x ≡ count ∷ []) × IsTriedAs o p x front block
Says o p x front (wanted number None) = Unit {0}
Says o p x front (wanted number (Some block)) = IsTriedAs o p x front block

-- the entry came between what had been seen before and behind
pub record IsEntryOf (o : Opening) (p : Placed) (x : Outcome) (from until : List Entry)
    (y : own.Placed Entry) : Type 0 where
  pub front : List Entry
  pub place : y.place ≡ length front
  pub behind : IsPrefix from front
  pub within : IsPrefix (front ++ y.entry ∷ []) until
  pub says : Says o p x front y.entry

pub wider : (o : Opening) (p : Placed) (x : Outcome) (from until low high : List Entry) → IsPrefix low from
    → IsPrefix until high
    → (y : own.Placed Entry) → IsEntryOf o p x from until y → IsEntryOf o p x low high y
wider o p x from until low high lower higher y h = record {
  front = h.front;
  place = h.place;
  behind = prefix_trans low from h.front lower h.behind;
  within = prefix_trans (h.front ++ y.entry ∷ []) until high h.within higher;
  says = h.says;
}

-- ---- the numbers that an own list drew

abbrev pub drawn : List (own.Placed Entry) → List ℕ
drawn [] = []
drawn (y ∷ ys) = begun_by y.entry ++ drawn ys

pub drawn-append : (xs ys : List (own.Placed Entry)) → drawn (xs ++ ys) ≡ drawn xs ++ drawn ys
drawn-append [] ys = refl
drawn-append (x ∷ xs) ys = ap (λ (zs : List ℕ). begun_by x.entry ++ zs) (drawn-append xs ys)
    ∙ sym (append_assoc (begun_by x.entry) (drawn xs) (drawn ys))

-- ---- what is made between two moments of a pass

pub record Makes (o : Opening) (p : Placed) (x : Outcome) (k now : Known Entry) (most : ℕ) : Type 0 where
  pub later : IsPrefix k.seen now.seen
  pub new : List (own.Placed Entry)
  pub owns : now.own ≡ k.own ++ new
  pub entries : AllByRecursion (IsEntryOf o p x k.seen now.seen) new
  pub few : length (drawn new) ≤ most

pub sees_own : (k now : Known Entry) → Sees k now → now.own ≡ k.own
sees_own k now s = ap (λ (x : Known Entry). x.own) s.same

pub adds_seen : (k : Known Entry) (e : Entry) (now : Known Entry) (a : Adds k e now) → now.seen ≡ a.front ++ e ∷ []
adds_seen k e now a = ap (λ (x : Known Entry). x.seen) a.added

adds_own : (k : Known Entry) (e : Entry) (now : Known Entry) (a : Adds k e now)
    → now.own ≡ k.own ++ placed (length a.front) e ∷ []
adds_own k e now a = ap (λ (x : Known Entry). x.own) a.added

pub adds_within : (k : Known Entry) (e : Entry) (now : Known Entry) (a : Adds k e now)
    → IsPrefix (a.front ++ e ∷ []) now.seen
adds_within k e now a = subst (λ (l : List Entry). IsPrefix (a.front ++ e ∷ []) l) (sym (adds_seen k e now a))
    (prefix_self (a.front ++ e ∷ []))

pub adds_later : (k : Known Entry) (e : Entry) (now : Known Entry) (a : Adds k e now) → IsPrefix k.seen now.seen
adds_later k e now a =
    prefix_trans k.seen a.front now.seen a.later
    (prefix_trans a.front (a.front ++ e ∷ []) now.seen (e ∷ [], refl) (adds_within k e now a))

module _ (o : Opening) (p : Placed) (x : Outcome) where
  pub makes_none : (k now : Known Entry) → Sees k now → Makes o p x k now 0
  makes_none k now s = record {
    later = s.later;
    new = [];
    owns = sees_own k now s ∙ sym (append-nil k.own);
    entries = tt;
    few = omega arith;
  }

  pub makes_still : (k : Known Entry) (most : ℕ) → Makes o p x k k most
  makes_still k most = record {
    later = prefix_self k.seen;
    new = [];
    owns = sym (append-nil k.own);
    entries = tt;
    few = omega arith;
  }

  pub makes_one : (k : Known Entry) (e : Entry) (now : Known Entry) (a : Adds k e now) → Says o p x a.front e
      → (most : ℕ)
      → length (begun_by e) ≤ most → Makes o p x k now most
  makes_one k e now a says most few = record {
    later = adds_later k e now a;
    new = placed (length a.front) e ∷ [];
    owns = adds_own k e now a;
    entries = (
      record {
        front = a.front;
        place = refl;
        behind = a.later;
        within = adds_within k e now a;
        says = says;
      },
      tt,
    );
    few = let same : length (begun_by e ++ []) ≡ length (begun_by e) = ap length (append-nil (begun_by e)) in
        omega (arith, few, same);
  }

  pub makes_both : (k between now : Known Entry) (most more : ℕ) → Makes o p x k between most
      → Makes o p x between now more
      → Makes o p x k now (most + more)
  makes_both k between now most more one two = record {
    later = prefix_trans k.seen between.seen now.seen one.later two.later;
    new = one.new ++ two.new;
    owns = two.owns ∙ ap (λ (l : List (own.Placed Entry)). l ++ two.new) one.owns ∙ append_assoc k.own one.new two.new;
    entries = all_append (IsEntryOf o p x k.seen now.seen) one.new two.new
        (all_like (IsEntryOf o p x k.seen between.seen) (IsEntryOf o p x k.seen now.seen)
        (wider o p x k.seen between.seen k.seen now.seen (prefix_self k.seen) two.later) one.new one.entries)
        (all_like (IsEntryOf o p x between.seen now.seen) (IsEntryOf o p x k.seen now.seen)
        (wider o p x between.seen now.seen k.seen now.seen one.later (prefix_self now.seen)) two.new two.entries);
    few =
        let all : length (drawn (one.new ++ two.new)) ≡ length (drawn one.new) + length (drawn two.new) =
        ap length (drawn-append one.new two.new) ∙ length-append (drawn one.new) (drawn two.new) in
        omega (arith, one.few, two.few, all);
  }

  -- a transaction begins
  pub makes_begun : (place : Place) (k : Known Entry) (tx : TxId) (b : Begins o place k tx) → Makes o p x k b.now 1
  makes_begun place k tx b = makes_one k (begun_at place b.number b.since) b.now b.adds tt 1 (omega arith)

  -- and then nothing more, or one entry that draws no number
  pub makes_seen : (place : Place) (k now : Known Entry) (tx : TxId) (b : Begins o place k tx) → Sees b.now now
      → Makes o p x k now 1
  makes_seen place k now tx b s = makes_both k b.now now 1 0 (makes_begun place k tx b) (makes_none b.now now s)

  pub makes_two : (place : Place) (k : Known Entry) (e : Entry) (now : Known Entry) (tx : TxId)
      (b : Begins o place k tx)
      → (a : Adds b.now e now) → Says o p x a.front e → begun_by e ≡ [] → Makes o p x k now 1
  makes_two place k e now tx b a says none =
      makes_both k b.now now 1 0 (makes_begun place k tx b)
      (makes_one b.now e now a says 0 (let same : length (begun_by e) ≡ 0 = ap length none in omega (arith, same)))
