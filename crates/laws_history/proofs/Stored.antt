-- What a store holds that is cut off in a line: a journal and a rest.
use Rattle.std.proofs.Common.{◌≡◌, ◌⊎◌, ℕ, zero, suc, List, [], ◌∷◌, ◌++◌, take, ◌∙◌, ap, sym, refl, true, inl, inr, arith, ◌==◌, not, Option, Some, None, append-nil, take_all}
use Rattle.std.proofs.lemmas.Bool.{and_parts}
use Rattle.ledger_model.specs.declared.block.Block.{Block}
use Rattle.ledger_model.specs.Journal.{journal_bytes}
use Rattle.ledger_model.specs.Recovered.{has_no_line_feed}
use Rattle.laws_history.specs.Stores.{HasJournal, Holding, HoldingWithRest}

-- what the store is known to hold is a journal with a rest, perhaps an empty one
pub journal-HoldingWithRest : (blocks : List Block) (held : Option (List ℕ)) → HasJournal blocks held
    → HoldingWithRest blocks held
journal-HoldingWithRest blocks None has = tt
journal-HoldingWithRest blocks (Some bytes) has = (has.0, has.1.lines, has.1.torn)

pub all-HoldingWithRest : (blocks : List Block) (held : Option (List ℕ)) → Holding blocks held
    → HoldingWithRest blocks held
all-HoldingWithRest blocks None holds = tt
all-HoldingWithRest blocks (Some bytes) holds = ([], holds ∙ sym (append-nil (journal_bytes blocks)), refl)

-- A front part of a line is the whole line, or no line feed stands in it.
pub part_of_line : (text : List ℕ) (kept : ℕ) → has_no_line_feed text ≡ true
    → (has_no_line_feed (take kept (text ++ 10 ∷ [])) ≡ true) ⊎ (take kept (text ++ 10 ∷ []) ≡ text ++ 10 ∷ [])
part_of_line [] zero one = inl refl
part_of_line [] (suc k) one = inr (ap (λ xs. 10 ∷ xs) (take_all k [] (omega arith)))
part_of_line (b ∷ text) zero one = inl refl
part_of_line (b ∷ text) (suc k) one =
    let parts = and_parts (not (b == 10)) (has_no_line_feed text) one in
    elim (part_of_line text k parts.1) [
      | inl rest ↦ inl (rw (parts.0, rest) refl)
      | inr all ↦ inr (ap (λ xs. b ∷ xs) all)
    ]
