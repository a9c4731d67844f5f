-- What stands in the store behind a run: the journal of its blocks, perhaps with the block of a refused commit, and a rest.
use Rattle.std.proofs.Common.{◌≡◌, ◌∙◌, ℕ, List, [], ◌∷◌, ◌++◌, take, length, append-nil, Bool, true, false, refl, sym, ap, subst, Option, Some, None, ◌⊎◌, inl, inr, Contains}
use Rattle.std.specs.Prelude.{option_map}
use Rattle.std.proofs.Math.Seq.{take-append_seam}
use Rattle.std.proofs.lemmas.Grind.{flat_map-append}
use Rattle.ion_values.specs.declared.value.Value.{Value}
use Rattle.ion_model.specs.Write.{value_text}
use Rattle.ledger_model.specs.declared.block.Block.{Block}
use Rattle.ledger_model.specs.Damages.{Undamaged}
use Rattle.ledger_model.specs.Journal.{block_value, line, journal_bytes}
use Rattle.ledger_model.specs.Recovered.{has_no_line_feed}
use Rattle.outside.specs.Told.{StoreTold}
use Rattle.laws_history.specs.Stores.{HoldsBehind, HasJournal, Holding, HoldingWithRest, IsSynced}
use Rattle.laws_history.proofs.Stored.{all-HoldingWithRest, journal-HoldingWithRest, part_of_line}
use Rattle.journal_reader.specs.Loads.{IsLoaded}
use Rattle.ledger_shared.specs.Rests.{HoldsRest}

pub loaded_journal : (held : Option (List ℕ)) (blocks : List Block) (marked : Bool) → IsLoaded held blocks marked → HasJournal blocks held
loaded_journal None blocks marked is = tt
loaded_journal (Some bytes) blocks marked is = (is.0, is.1)

-- ---- the bytes begin with the journal's lines

-- behind these lines
abbrev BeginsWith : List Block → Option (List ℕ) → Type 0
BeginsWith blocks held = (rest : List ℕ) × HoldsBehind blocks rest held

begins_all : (blocks : List Block) (held : Option (List ℕ)) → Holding blocks held → BeginsWith blocks held
begins_all blocks None holds = ([], tt)
begins_all blocks (Some bytes) holds = ([], holds ∙ sym (append-nil (journal_bytes blocks)))

begins_journal : (blocks : List Block) (held : Option (List ℕ)) → HasJournal blocks held → BeginsWith blocks held
begins_journal blocks None has = ([], tt)
begins_journal blocks (Some bytes) has = (has.0, has.1.lines)

-- cut to the lines of the blocks
cut_holds : (blocks : List Block) (held : Option (List ℕ)) → BeginsWith blocks held
    → Holding blocks (option_map (take (length (journal_bytes blocks))) held)
cut_holds blocks None begins = tt
cut_holds blocks (Some bytes) begins =
    ap (λ (x : List ℕ). take (length (journal_bytes blocks)) x) begins.1 ∙ take-append_seam (journal_bytes blocks) begins.0

-- ---- a part of a line

journal_more : (blocks : List Block) (b : Block) → journal_bytes blocks ++ line b ≡ journal_bytes (blocks ++ b ∷ []) ++ []
journal_more blocks b =
    sym (append-nil _ ∙ flat_map-append line blocks (b ∷ []) ∙ ap (λ (x : List ℕ). journal_bytes blocks ++ x) (append-nil (line b)))

-- is no whole line, or the block's
part_or_line : (blocks : List Block) (b : Block) (kept : ℕ) (held : Option (List ℕ)) → has_no_line_feed (value_text (block_value b)) ≡ true
    → HoldsBehind blocks (take kept (line b)) held → HoldingWithRest blocks held ⊎ HoldingWithRest (blocks ++ b ∷ []) held
part_or_line blocks b kept None one holds = inl tt
part_or_line blocks b kept (Some bytes) one holds =
    elim (part_of_line (value_text (block_value b)) kept one) [
      | inl rest ↦ inl (take kept (line b), holds, rest)
      | inr all ↦ inr ([], holds ∙ ap (λ (x : List ℕ). journal_bytes blocks ++ x) all ∙ journal_more blocks b, refl)
    ]

-- ---- what the store holds behind the run's blocks

module _ (first now : Option (List ℕ)) (opened blocks tried : List Block) (journal : HasJournal opened first)
    (rest : HoldsRest first now opened blocks tried) where
  begins_by : HoldsRest first now opened blocks tried → BeginsWith blocks now
  begins_by (inl holds) = begins_all blocks now holds
  begins_by (inr (inl part)) = (take part.1 (line part.0), part.3)
  begins_by (inr (inr same)) =
      subst (λ (bs : List Block). BeginsWith bs now) (sym same.0)
      (subst (λ (x : Option (List ℕ)). BeginsWith opened x) (sym same.1) (begins_journal opened first journal))

  -- what is so where it holds these blocks and a rest, is so: of the run's blocks, or with the block of a refused commit behind them
  module _ (law : (v : Value) → has_no_line_feed (value_text v) ≡ true) (Q : Type 0) (own : HoldingWithRest blocks now → Q)
      (more : (b : Block) → Contains tried b → Undamaged (blocks ++ b ∷ []) → HoldingWithRest (blocks ++ b ∷ []) now → Q) where
    by_part : (b : Block) → Contains tried b → Undamaged (blocks ++ b ∷ []) → HoldingWithRest blocks now ⊎ HoldingWithRest (blocks ++ b ∷ []) now → Q
    by_part b among sound (inl here) = own here
    by_part b among sound (inr whole) = more b among sound whole

    by_rest : HoldsRest first now opened blocks tried → Q
    by_rest (inl holds) = own (all-HoldingWithRest blocks now holds)
    by_rest (inr (inl part)) =
        by_part part.0 part.2 part.4 (part_or_line blocks part.0 part.1 now (law (block_value part.0)) part.3)
    by_rest (inr (inr same)) =
        own (subst (λ (bs : List Block). HoldingWithRest bs now) (sym same.0)
        (subst (λ (x : Option (List ℕ)). HoldingWithRest opened x) (sym same.1) (journal-HoldingWithRest opened first journal)))

    pub left_by : Q
    left_by = by_rest rest

  -- cut to the lines of the blocks
  pub cut_by : (kept : Option (List ℕ)) → kept ≡ option_map (take (length (journal_bytes blocks))) now → Holding blocks kept
  cut_by kept cut = subst (λ (x : Option (List ℕ)). Holding blocks x) (sym cut) (cut_holds blocks now (begins_by rest))

-- ---- what is synced

pub synced_by : (marked : Bool) (was now : StoreTold) → (marked ≡ false → IsSynced was) → (marked ≡ true → IsSynced now)
    → (marked ≡ false → now ≡ was) → IsSynced now
synced_by true was now is all same = all refl
synced_by false was now is all same = subst (λ (x : StoreTold). IsSynced x) (sym (same refl)) (is refl)
