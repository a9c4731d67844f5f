-- The transactions of other numbers that a step leaves as they are, and the one that a commit closes.
use Rattle.std.proofs.Common.{◌≡◌, ◌∙◌, ℕ, ◌==◌, Bool, true, false, not, cond, List, [], ◌∷◌, ◌++◌, length, length-append, append-nil, take, Some, None, refl, sym, ap, arith, if◌then◌else◌}
use Rattle.std.proofs.lemmas.Bool.{eqb-true, ne_eqb}
use Rattle.std.proofs.lemmas.List.{take-append-le}
use Rattle.ledger_model.specs.declared.block.Block.{Block}
use Rattle.ledger_model.specs.State.{state}
use Rattle.laws_machine.specs.Machine.{Ending, Machine, Transaction, blocks_behind, conflicts, differs, ended, fails, full, named, replaced, seals, wants, without}
use Rattle.txn_core.specs.Opened.{Opened}
use Rattle.ledger_core.specs.Steps.{IsUnderway}

-- ---- the transaction of another number

module _ (n k : ℕ) (differ : n ≡ k → ⊥) where
  without_by : (b : Bool) (t : Transaction) (ts : List Transaction) → (t.number == k) ≡ b → named n (without k ts) ≡ named n ts
      → named n (cond (not b) (t ∷ without k ts) (without k ts)) ≡ named n (t ∷ ts)
  without_by true t ts is rest =
      rest ∙ sym (ap (λ b. if b then Some t else named n ts) (ne_eqb t.number n (λ e. differ (sym e ∙ eqb-true t.number k is))))
  without_by false t ts is rest = ap (λ o. if t.number == n then Some t else o) rest

  pub named_without : (ts : List Transaction) → named n (without k ts) ≡ named n ts
  named_without [] = refl
  named_without (t ∷ ts) = without_by (t.number == k) t ts refl (named_without ts)

  replaced_by : (b : Bool) (new t : Transaction) (ts : List Transaction) → new.number ≡ k → (t.number == new.number) ≡ b
      → named n (replaced new ts) ≡ named n ts → named n (if b then new ∷ ts else t ∷ replaced new ts) ≡ named n (t ∷ ts)
  replaced_by true new t ts own is rest =
      ap (λ b. if b then Some new else named n ts) (ne_eqb new.number n (λ e. differ (sym e ∙ own)))
      ∙ sym (ap (λ b. if b then Some t else named n ts) (ne_eqb t.number n (λ e. differ (sym e ∙ eqb-true t.number new.number is ∙ own))))
  replaced_by false new t ts own is rest = ap (λ o. if t.number == n then Some t else o) rest

  pub named_replaced : (new : Transaction) (ts : List Transaction) → new.number ≡ k → named n (replaced new ts) ≡ named n ts
  named_replaced new [] own = refl
  named_replaced new (t ∷ ts) own = replaced_by (t.number == new.number) new t ts own refl (named_replaced new ts own)

-- it is named as before, and the blocks of before stand in front, so it is open as before
pub still_underway : (m now : Machine) (other : Opened) (more : List Block) → IsUnderway m other → now.mask ≡ m.mask → now.blocks ≡ m.blocks ++ more
    → named other.begun.number now.underway ≡ named other.begun.number m.underway → IsUnderway now other
still_underway m now other more u masks blocks names = record {
  own = u.own;
  names = names ∙ u.names;
  number = u.number;
  mask = masks ∙ u.mask;
  place = u.place;
  since = u.since;
  stood = let long = length-append m.blocks more in let same = ap length blocks in let h = u.stood in omega (arith, long, same, h);
  base = ap (λ (bs : List Block). state (take u.own.since bs)) blocks ∙ ap state (take-append-le u.own.since m.blocks more u.stood) ∙ u.base;
  asked = u.asked;
  came = u.came;
}

-- ---- the transaction that is closed

none_by : (b : Bool) (n : ℕ) (t : Transaction) (ts : List Transaction) → (t.number == n) ≡ b → named n (without n ts) ≡ None
    → named n (cond (not b) (t ∷ without n ts) (without n ts)) ≡ None
none_by true n t ts is rest = rest
none_by false n t ts is rest = ap (λ b. if b then Some t else named n (without n ts)) is ∙ rest

pub none_without : (n : ℕ) (ts : List Transaction) → named n (without n ts) ≡ None
none_without n [] = refl
none_without n (t ∷ ts) = none_by (t.number == n) n t ts refl (none_without n ts)

-- ---- the blocks after a commit

-- those of before stand in front
pub in_front : (bs : List Block) (e : Ending) → (more : List Block) × (blocks_behind bs e ≡ bs ++ more)
in_front bs ended = ([], sym (append-nil bs))
in_front bs (differs mine given) = ([], sym (append-nil bs))
in_front bs (conflicts since found) = ([], sym (append-nil bs))
in_front bs (full blocks) = ([], sym (append-nil bs))
in_front bs (wants tried) = ([], sym (append-nil bs))
in_front bs (fails count b) = ([], sym (append-nil bs))
in_front bs (seals b) = (b ∷ [], refl)
