-- What is true of the blocks of a beginning is true of all blocks: conflicts that were found, and a full journal.
use Rattle.std.proofs.Common.{◌≡◌, ℕ, ◌+◌, ◌-◌, ◌^◌, ◌≤◌, ◌&&◌, ◌==◌, nat_le, List, [], ◌∷◌, ◌++◌, length, length-append, take, drop, Option, Some, None, ap, sym, ◌∙◌, subst, arith, append-nil, append_assoc}
use Rattle.std.specs.List.{find}
use Rattle.std.proofs.lemmas.Bool.{and_parts, leb-true}
use Rattle.std.proofs.lemmas.List.{take-append-le, drop-append-le}
use mathlib.Core.List.{IsPrefix}
use Rattle.ledger_model.specs.declared.block.Block.{Block}
use Rattle.ledger_model.specs.declared.outcome.Item.{Item}
use Rattle.ledger_model.specs.declared.outcome.Named.{Named}
use Rattle.ledger_model.specs.Damages.{Undamaged, UndamagedBehind, strand_of}
use Rattle.ledger_model.specs.State.{State, after, state}
use Rattle.laws_validity.proofs.Journals.{passes_all}
use Rattle.laws_footprint.specs.Conflicts.{IsFirst, Tells}
use Rattle.laws_footprint.specs.Touches.{conflict, conflict_from, named_or, touched}
use Rattle.laws_footprint.proofs.Conflicts.{conflict_is_first}
use Rattle.turn_lock.proofs.Lists.{prefix_length, prefix_self}
use Rattle.laws_history.proofs.Lists.{one_length}

-- ---- conflicts

named_on : (m : ℕ) (o : Option Item) (few many : Option Named) (named : Named) → (few ≡ Some named → many ≡ Some named)
    → named_or m o few ≡ Some named → named_or m o many ≡ Some named
named_on m None few many named f h = f h
named_on m (Some i) few many named f h = h

from_on : (m : ℕ) (s : State) (bs cs : List Block) (items : List Item) (named : Named)
    → conflict_from m s bs items ≡ Some named → conflict_from m s (bs ++ cs) items ≡ Some named
from_on m s [] cs items named h = let bad : ⊥ = cc h in absurd bad
from_on m s (b ∷ bs) cs items named h =
    named_on m (find (touched s b) items) (conflict_from (m + 1) (after s b) bs items)
    (conflict_from (m + 1) (after s b) (bs ++ cs) items) named (from_on (m + 1) (after s b) bs cs items named) h

conflict_more : (bs cs : List Block) (since : ℕ) (items : List Item) (named : Named) → since ≤ length bs
    → conflict bs since items ≡ Some named → conflict (bs ++ cs) since items ≡ Some named
conflict_more bs cs since items named low h =
    (λ i. conflict_from since (state (take-append-le since bs cs low i)) (drop-append-le since bs cs low i) items)
    ∙ from_on since (state (take since bs)) (drop since bs) cs items named h

pub conflict_on : (bs cs : List Block) (since : ℕ) (items : List Item) (named : Named) → IsPrefix bs cs
    → since ≤ length bs
    → conflict bs since items ≡ Some named → conflict cs since items ≡ Some named
conflict_on bs cs since items named p low h =
    subst (λ (xs : List Block). conflict xs since items ≡ Some named) p.1 (conflict_more bs p.0 since items named low h)

pub found_first : (bs : List Block) (since : ℕ) (items : List Item) (named : Named)
    → conflict bs since items ≡ Some named
    → IsFirst bs since items named
found_first bs since items named h = subst (Tells bs since items) h (conflict_is_first bs since items)

-- ---- how many blocks there can be

few_behind : (before bs : List Block) → UndamagedBehind before bs → length before ≤ 2 ^ 32 - 1
    → length (before ++ bs) ≤ 2 ^ 32 - 1
few_behind before [] u low = let same : length (before ++ []) ≡ length before = ap length (append-nil before) in
    omega (arith, low, same)
few_behind before (b ∷ bs) u low =
    let checks = passes_all before b u.1 in
    let strand : ℕ = strand_of before b in
    let parts =
    and_parts ((b.header.address.sequence == length before) && nat_le (length before) (2 ^ 32 - 2))
    (b.header.address.strand.raw == strand) checks.address in
    let room = leb-true (length before) (2 ^ 32 - 2)
    (and_parts (b.header.address.sequence == length before) (nat_le (length before) (2 ^ 32 - 2)) parts.0).1 in
    let more : length (before ++ b ∷ []) ≡ length before + 1 = length-append before (b ∷ []) in
    let rest = few_behind (before ++ b ∷ []) bs u.2 (omega (arith, room, more)) in
    subst (λ (xs : List Block). length xs ≤ 2 ^ 32 - 1) (append_assoc before (b ∷ []) bs) rest

pub few_blocks : (bs : List Block) → Undamaged bs → length bs ≤ 2 ^ 32 - 1
few_blocks bs u = few_behind [] bs u (omega arith)

pub stays_full : (bs cs : List Block) → IsPrefix bs cs → Undamaged cs → length bs ≡ 2 ^ 32 - 1 → length cs ≡ 2 ^ 32 - 1
stays_full bs cs p u full =
    let low = prefix_length bs cs p in
    let high = few_blocks cs u in
    omega (arith, low, high, full)

-- so no block comes behind a full journal
pub full_same : (bs cs : List Block) → IsPrefix bs cs → Undamaged cs → length bs ≡ 2 ^ 32 - 1 → bs ≡ cs
full_same bs cs p u full =
    one_length bs cs cs p (prefix_self cs) (full ∙ sym (stays_full bs cs p u full))
