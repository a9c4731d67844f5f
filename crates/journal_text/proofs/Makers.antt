-- The ids that a transaction makes differ from those that others made.
use Rattle.std.proofs.Common.{◌≡◌, ◌∙◌, ℕ, Bool, true, false, not, ◌==◌, nat_le, List, [], ◌∷◌, refl, sym, ap}
use Rattle.std.specs.List.{list_all, list_any}
use Rattle.std.proofs.lemmas.Bool.{and_from, and_parts, both_ways, eqb-true, false_from_ne_true, not_from_false, or_from}
use Rattle.ql_types.specs.Ids.{raw_id, transaction_in, thing_in}
use Rattle.ql_types.proofs.Masks.{made_of_parts}
use Rattle.ledger_model.specs.declared.block.Block.{Block}
use Rattle.ledger_model.specs.Follows.{is_made_by}
use Rattle.journal_text.specs.Stands.{has_transaction, maker}
use Rattle.journal_text.proofs.Distinct.{apart}

-- a transaction is its own maker
pub maker-own : (strand tx : ℕ) → thing_in strand tx ≡ 0 → maker strand tx ≡ tx
maker-own strand tx own = sym (made_of_parts tx strand (transaction_in strand tx) refl ∙ ap (λ i. raw_id strand (transaction_in strand tx) i) own)

-- what the transaction made has it for its maker
pub maker-made : (strand tx id : ℕ) → maker strand tx ≡ tx → is_made_by strand (transaction_in strand tx) id ≡ true → maker strand id ≡ tx
maker-made strand tx id own made = ap (λ n. raw_id strand n 0) (eqb-true (transaction_in strand id) (transaction_in strand tx) (and_parts (transaction_in strand id == transaction_in strand tx) (nat_le 1 (thing_in strand id)) made).0) ∙ own

module _ (before : List Block) (strand tx : ℕ) (own : maker strand tx ≡ tx) (away : has_transaction before tx ≡ false) where
  abbrev MadeBefore : ℕ → Bool
  MadeBefore id = has_transaction before (maker strand id)

  clash : (x y : ℕ) → MadeBefore x ≡ true → is_made_by strand (transaction_in strand tx) y ≡ true → (x == y) ≡ true → false ≡ true
  clash x y old new same =
      let by : maker strand x ≡ tx = ap (maker strand) (eqb-true x y same) ∙ maker-made strand tx y own new in
      sym away ∙ sym (ap (has_transaction before) by) ∙ old

  among : (x : ℕ) (made : List ℕ) → MadeBefore x ≡ true → list_all (is_made_by strand (transaction_in strand tx)) made ≡ true → list_any (λ y. x == y) made ≡ false
  among x [] old new = refl
  among x (y ∷ ys) old new =
      let parts = and_parts (is_made_by strand (transaction_in strand tx) y) (list_all (is_made_by strand (transaction_in strand tx)) ys) new in
      or_from (x == y) (list_any (λ z. x == z) ys) (false_from_ne_true (x == y) (λ same. both_ways false refl (clash x y old parts.0 same))) (among x ys old parts.1)

  -- no id that a transaction so far made is among those that this one makes
  pub apart-made : (ids made : List ℕ) → list_all MadeBefore ids ≡ true → list_all (is_made_by strand (transaction_in strand tx)) made ≡ true → apart ids made ≡ true
  apart-made [] made old new = refl
  apart-made (x ∷ xs) made old new =
      let parts = and_parts (MadeBefore x) (list_all MadeBefore xs) old in
      and_from (not (list_any (λ y. x == y) made)) (apart xs made) (not_from_false (list_any (λ y. x == y) made) (among x made parts.0 new)) (apart-made xs made parts.1 new)
