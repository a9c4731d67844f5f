-- Wrong runs that the claim refuses, each for what a wrong program might write into a block or tell of a conflict.
use Rattle.std.proofs.Common.{◌≡◌, ◌∙◌, ℕ, ◌<◌, ◌≤◌, Bool, true, false, List, [], ◌∷◌, cond, map, length, take, slice_get, Some, refl, sym, subst, inl, inr, arith, true≢false}
use Rattle.std.specs.List.{AllByRecursion, find}
use Rattle.ql_types.specs.declared.TxId.{TxId}
use Rattle.turn_lock.specs.History.{Stands}
use Rattle.ledger_model.specs.declared.block.Block.{Block}
use Rattle.ledger_model.specs.declared.block.Said.{Said}
use Rattle.ledger_model.specs.declared.block.Told.{Told}
use Rattle.ledger_model.specs.declared.block.Told.TheVariants as told
use Rattle.ledger_model.specs.declared.outcome.Item.{Item}
use Rattle.ledger_model.specs.declared.outcome.Named.{Named}
use Rattle.ledger_model.specs.Journal.{said_in}
use Rattle.ledger_model.specs.Legal.{asked_in}
use Rattle.ledger_model.specs.Run.{Progress, final_revisions, ran, run}
use Rattle.ledger_model.specs.Script.{Placed}
use Rattle.ledger_model.specs.State.{draft_of, recorded_in, state}
use Rattle.laws_footprint.specs.Touches.{touches}
use Rattle.laws_history.specs.Claims.{IsInConflict}
use Rattle.laws_history.specs.Records.{RunRecord, FitsBlocks}
use Rattle.laws_wrong_runs.proofs.Places.{blocks_are_answered, conflicts_are_first}

-- ---- a block

module _ (t : RunRecord) (k : ℕ) (b : Block) (said : List Said) (new : length t.before ≤ k) (there : slice_get t.after k ≡ Some b)
    (says : b.info.said ≡ told.Said said) (fits : FitsBlocks t) where
  -- its statements come to this, as the transaction of this number on the blocks before it
  abbrev ComesTo : ℕ → Progress → Type 0
  ComesTo number p = run (record { mask = t.mask; number = number }) (state (take k t.after)) (asked_in said) ≡ ran p

  own : (number : ℕ) × (p : Progress) × ComesTo number p × (p.said ≡ said) × (b.info.schema ≡ p.schema)
      × (map draft_of (recorded_in b.info.tables b.revisions) ≡ final_revisions p)
  own =
      let m = blocks_are_answered t k b fits new there in
      let same : told.Said said ≡ told.Said m.progress.said = sym says ∙ m.said in
      let said_are : said ≡ m.progress.said = cc same in (
        m.number,
        m.progress,
        subst (λ (x : Told). run (record { mask = t.mask; number = m.number }) (state (take k t.after)) (asked_in (said_in x)) ≡ ran m.progress)
            says m.runs,
        sym said_are,
        m.schema,
        m.revisions,
      )

  -- the block has other answers than its statements come to, as those of another block
  other_answers : ((number : ℕ) (p : Progress) → ComesTo number p → p.said ≡ said → ⊥) → ⊥
  other_answers other = other own.0 own.1 own.2 own.3

  -- it makes other changes of the schema
  other_schema : ((number : ℕ) (p : Progress) → ComesTo number p → b.info.schema ≡ p.schema → ⊥) → ⊥
  other_schema other = other own.0 own.1 own.2 own.4

  -- it has other revisions
  other_revisions : ((number : ℕ) (p : Progress) → ComesTo number p
      → map draft_of (recorded_in b.info.tables b.revisions) ≡ final_revisions p → ⊥) → ⊥
  other_revisions other = other own.0 own.1 own.2 own.5

-- ---- a conflict

found_by : (test : Item → Bool) (x : Item) (items : List Item) (i : Item) (b : Bool) → test x ≡ b
    → (find test items ≡ Some i → Stands i items × (test i ≡ true)) → cond b (Some x) (find test items) ≡ Some i
    → Stands i (x ∷ items) × (test i ≡ true)
found_by test x items i true is later h =
    let same : x ≡ i = cc h in (inl (sym same), subst (λ (y : Item). test y ≡ true) same is)
found_by test x items i false is later h = let rest = later h in (inr rest.0, rest.1)

found : (test : Item → Bool) (items : List Item) (i : Item) → find test items ≡ Some i → Stands i items × (test i ≡ true)
found test [] i h = let bad : ⊥ = cc h in absurd bad
found test (x ∷ items) i h = found_by test x items i (test x) refl (found test items i) h

module _ (t : RunRecord) (p : Placed) (tx : TxId) (since : ℕ) (named : Named) (c : IsInConflict t p tx since named) where
  abbrev read : List Item
  read = c.progress.footprint

  -- fewer blocks stand than it names
  too_few : length t.after ≤ named.block → ⊥
  too_few few = let there = (conflicts_are_first t p tx since named c).there in omega (arith, few, there)

  -- it names a block on which the transaction ran
  too_early : named.block < since → ⊥
  too_early early = let late = (conflicts_are_first t p tx since named c).late in omega (arith, early, late)

  -- it names an item that the block doesn't touch
  untouched : touches t.after named.block named.item ≡ false → ⊥
  untouched none =
      let found_is = found (touches t.after named.block) read named.item (conflicts_are_first t p tx since named c).item in
      true≢false (sym found_is.1 ∙ none)

  -- it names an item that the transaction didn't read
  unread : (Stands named.item read → ⊥) → ⊥
  unread not = not (found (touches t.after named.block) read named.item (conflicts_are_first t p tx since named c).item).0

  -- an earlier block touched something that it read
  not_first : (m : ℕ) (i : Item) → since ≤ m → m < named.block → Stands i read → touches t.after m i ≡ true → ⊥
  not_first m i late early among touched =
      let none = (conflicts_are_first t p tx since named c).first m late early in
      true≢false (sym touched ∙ each read i none among)
    where
      each : (items : List Item) (i : Item) → AllByRecursion (λ (x : Item). touches t.after m x ≡ false) items → Stands i items
          → touches t.after m i ≡ false
      each [] i h among = absurd among
      each (x ∷ items) i h (inl same) = subst (λ (y : Item). touches t.after m y ≡ false) (sym same) h.0
      each (x ∷ items) i h (inr among) = each items i h.1 among
