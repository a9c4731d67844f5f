-- Each accepted commit stands in the blocks once, in order and under its own id.
use Rattle.std.proofs.Common.{◌≡◌, ◌∙◌, ℕ, ◌-◌, ◌^◌, ◌==◌, Bool, true, false, ◌&&◌, List, [], ◌∷◌, ◌++◌, map, refl, sym, ap, subst, append_assoc, append-nil, Option, Some, None, if◌then◌else◌}
use Rattle.std.specs.Prelude.{nat_le, nat_lt}
use Rattle.std.specs.List.{AllByRecursion, list_any}
use Rattle.std.proofs.lemmas.Bool.{and_parts, not-true, or_from, or_parts}
use Rattle.std.proofs.lemmas.List.{map-append}
use Rattle.ql_types.specs.Ids.{raw_id, thing_in, transaction_in}
use Rattle.ql_types.specs.declared.Place.{Place}
use Rattle.ledger_model.specs.declared.block.Block.{Block}
use Rattle.ledger_model.specs.declared.script.Request.{Request}
use Rattle.ledger_model.specs.Damages.{UndamagedBehind, has_id, strand_of}
use Rattle.ledger_model.specs.Follows.{all_differ}
use Rattle.ledger_model.specs.Run.{Ran, ran, refused}
use Rattle.laws_validity.proofs.Journals.{passes_all}
use Rattle.laws_validity.proofs.Lists.{all_append, differ_push, other_way}
use Rattle.laws_machine.specs.History.{Accepted, CommitsStandOnce, HasOwnId, accepted, accepted_by, block_ids, block_in}
use Rattle.laws_machine.specs.Machine.{Commit, Ending, Event, Machine, Step, Transaction, abort, aborts, begin, behind, closes, commit, commits, conflicts, differs, draws, ended, ending, execute, executes, executes_on, fails, full, happens, if_open, named, opened, seals, spent, unknown, wants}
use Rattle.laws_machine.proofs.Endings.{comes}
use Rattle.laws_machine.proofs.Histories.{good_behind}
use Rattle.laws_machine.proofs.Lists.{found}
use Rattle.laws_machine.proofs.Masks.{mask_after}

-- ---- no two blocks of an undamaged journal have one id

abbrev raw_of : Block → ℕ
raw_of b = b.header.tx.raw

none_has : (z : ℕ) (bs : List Block) → list_any (λ (b : Block). b.header.tx.raw == z) bs ≡ false
    → list_any (λ y. z == y) (block_ids bs) ≡ false
none_has z [] h = refl
none_has z (b ∷ bs) h =
    let both = or_parts (raw_of b == z) (list_any (λ (c : Block). c.header.tx.raw == z) bs) h in
    or_from (z == raw_of b) (list_any (λ y. z == y) (block_ids bs)) (other_way z (raw_of b) both.0)
    (none_has z bs both.1)

new_id : (before : List Block) (b : Block) → has_id (strand_of before b) before b ≡ true
    → list_any (λ (c : Block). c.header.tx.raw == raw_of b) before ≡ false
new_id before b h =
    let strand = strand_of before b in
    let number = transaction_in strand (raw_of b) in
    not-true _ (and_parts (nat_le 1 number && nat_lt number (2 ^ 64) && (thing_in strand (raw_of b) == 0)) _ h).1

ids_differ : (before bs : List Block) → all_differ (block_ids before) ≡ true → UndamagedBehind before bs
    → all_differ (block_ids (before ++ bs)) ≡ true
ids_differ before [] d u = subst (λ xs. all_differ (block_ids xs) ≡ true) (sym (append-nil before)) d
ids_differ before (b ∷ bs) d u =
    let none = none_has (raw_of b) before (new_id before b (passes_all before b u.1).id) in
    let pushed : all_differ (block_ids (before ++ b ∷ [])) ≡ true =
    ap all_differ (map-append raw_of before (b ∷ [])) ∙ differ_push (block_ids before) (raw_of b) d none in
    subst (λ xs. all_differ (block_ids xs) ≡ true) (append_assoc before (b ∷ []) bs)
    (ids_differ (before ++ b ∷ []) bs pushed u.2)

-- ---- one event

abbrev blocks_of : List Accepted → List Block
blocks_of all = map (λ (a : Accepted). a.block) all

-- an event adds the blocks of the commits that it accepts, and these have their own ids
record Adds (m : Machine) (e : Event) (s : Step) : Type 0 where
  blocks : s.now.blocks ≡ m.blocks ++ blocks_of (accepted_by e s.answer)
  own : AllByRecursion (HasOwnId m.mask) (accepted_by e s.answer)

none_added : (m : Machine) (e : Event) (s : Step) → s.now.blocks ≡ m.blocks → accepted_by e s.answer ≡ [] → Adds m e s
none_added m e s same none = record {
  blocks = same ∙ sym (append-nil m.blocks) ∙ ap (λ all. m.blocks ++ blocks_of all) (sym none);
  own = subst (AllByRecursion (HasOwnId m.mask)) (sym none) tt;
}

begun_adds : (m : Machine) (place : Place) (b : Bool)
    → Adds m (begin place) (if b then draws m place else record { answer = spent m.last; now = m })
begun_adds m place true = none_added m (begin place) (draws m place) refl refl
begun_adds m place false = none_added m (begin place) (record { answer = spent m.last; now = m }) refl refl

executed_adds : (m : Machine) (n : ℕ) (r : Request) (t : Transaction) (x : Ran)
    → Adds m (execute n r) (executes_on m r t x)
executed_adds m n r t (ran p) = none_added m (execute n r) (executes_on m r t (ran p)) refl refl
executed_adds m n r t (refused statement cause) =
    none_added m (execute n r) (executes_on m r t (refused statement cause)) refl refl

closed_adds : (m : Machine) (n : ℕ) (c : Commit) (t : Transaction) (e : Ending) → t.number ≡ n
    → ending m c t t.done ≡ e
    → Adds m (commit n c) (closes m t.number e)
closed_adds m n c t ended at is = none_added m (commit n c) (closes m t.number ended) refl refl
closed_adds m n c t (differs mine given) at is = none_added m (commit n c)
    (closes m t.number (differs mine given)) refl refl
closed_adds m n c t (conflicts since f) at is = none_added m (commit n c)
    (closes m t.number (conflicts since f)) refl refl
closed_adds m n c t (full blocks) at is = none_added m (commit n c) (closes m t.number (full blocks)) refl refl
closed_adds m n c t (wants o) at is = none_added m (commit n c) (closes m t.number (wants o)) refl refl
closed_adds m n c t (fails count block) at is =
    none_added m (commit n c) (closes m t.number (fails count block)) refl refl
closed_adds m n c t (seals block) at is =
    let k = comes m c t block (ap block_in is) in
    let id : block.header.tx.raw ≡ raw_id m.mask t.number 0 = ap raw_of k.block_is in
    record { blocks = refl; own = (id ∙ ap (λ i. raw_id m.mask i 0) at, tt) }

all_any : (ts : List Transaction) → AllByRecursion (λ t. Unit {0}) ts
all_any [] = tt
all_any (t ∷ ts) = (tt, all_any ts)

open_adds : (m : Machine) (e : Event) (n : ℕ) (f : Transaction → Step) (o : Option Transaction)
    → named n m.underway ≡ o
    → accepted_by e unknown ≡ [] → ((t : Transaction) → t.number ≡ n → Adds m e (f t)) → Adds m e (if_open m o f)
open_adds m e n f None is none h = none_added m e (record { answer = unknown; now = m }) refl none
open_adds m e n f (Some t) is none h = h t (found (λ x. Unit {0}) n m.underway t (all_any m.underway) is).1

event_adds : (m : Machine) (e : Event) → Adds m e (happens m e)
event_adds m (begin place) = begun_adds m place (nat_lt m.last (2 ^ 64 - 1))
event_adds m (execute n r) =
    open_adds m (execute n r) n (executes m r) (named n m.underway) refl refl (λ t at. executed_adds m n r t t.done)
event_adds m (commit n c) =
    open_adds m (commit n c) n (commits m c) (named n m.underway) refl refl
    (λ t at. closed_adds m n c t (ending m c t t.done) at refl)
event_adds m (abort n) =
    open_adds m (abort n) n (aborts m) (named n m.underway) refl refl
    (λ t at. none_added m (abort n) (aborts m t) refl refl)

-- ---- all events

all_add : (es : List Event) (m : Machine) → (behind es m).blocks ≡ m.blocks ++ blocks_of (accepted es m)
all_add [] m = sym (append-nil m.blocks)
all_add (e ∷ es) m =
    let s : Step = happens m e in
    let here : List Accepted = accepted_by e s.answer in
    let rest : List Accepted = accepted es s.now in
    all_add es s.now ∙ ap (λ bs. bs ++ blocks_of rest) (event_adds m e).blocks
    ∙ append_assoc m.blocks (blocks_of here) (blocks_of rest)
    ∙ ap (λ bs. m.blocks ++ bs) (sym (map-append (λ (a : Accepted). a.block) here rest))

all_own : (es : List Event) (m : Machine) → AllByRecursion (HasOwnId m.mask) (accepted es m)
all_own [] m = tt
all_own (e ∷ es) m =
    let s : Step = happens m e in
    all_append (HasOwnId m.mask) (accepted_by e s.answer) (accepted es s.now) (event_adds m e).own
    (subst (λ k. AllByRecursion (HasOwnId k) (accepted es s.now)) (mask_after m e) (all_own es s.now))

pub commits_stand_once : CommitsStandOnce
commits_stand_once mask before events o fit =
    let m : Machine = behind events (opened mask before) in
    record {
      in_order = all_add events (opened mask before);
      own = all_own events (opened mask before);
      once = ids_differ [] m.blocks refl (good_behind mask before events o fit).goes.undamaged;
    }
