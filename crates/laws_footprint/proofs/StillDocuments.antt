-- Stillness, document by document.
use Rattle.std.proofs.Common.{◌≡◌, ◌∙◌, inl, inr, ℕ, ◌+◌, Bool, true, false, cond, ◌==◌, List, [], ◌∷◌, take, drop, refl, sym, ap, subst, Option, Some, None, option_map}
use Rattle.std.specs.List.{AllByRecursion, find}
use Rattle.std.specs.Option.{option_map_or}
use Rattle.std.proofs.lemmas.Bool.{eqb-true}
use Rattle.ql_types.specs.declared.TableId.{TableId}
use Rattle.pql_model.specs.declared.tables.Row.{Row}
use Rattle.ledger_model.specs.declared.block.Block.{Block}
use Rattle.ledger_model.specs.declared.block.Draft.{Draft}
use Rattle.ledger_model.specs.declared.outcome.Item.{Item}
use Rattle.ledger_model.specs.Follows.{latest_of}
use Rattle.ledger_model.specs.Script.{or_else}
use Rattle.ledger_model.specs.State.{Recorded, State, after, draft_of, empty, state, state_from}
use Rattle.ledger_model.specs.Views.{row_of}
use Rattle.ledger_model.specs.Meets.{meets, meets_one}
use Rattle.laws_footprint.specs.Stillness.{DocumentsAreStill, IsStill, block_revises, is_met}
use Rattle.laws_footprint.specs.Touches.{conflict_from, id_of, revisions_in, touched}
use Rattle.laws_footprint.proofs.Documents.{IsLatest, latest_of_after, meets_row}
use Rattle.pql_model.proofs.Equality.{inside}
use Rattle.laws_footprint.proofs.Revised.{absent}
use Rattle.laws_footprint.proofs.Still.{all_items, each_unmet, none_found, none_named, state_split, unmet_after, unmet_before}

found_by : (id : ℕ) (r x : Recorded) (o : Option Recorded) (b : Bool) → (id_of r == id) ≡ b
    → or_else o (cond b (Some r) None) ≡ Some x → (o ≡ Some x → id_of x ≡ id) → id_of x ≡ id
found_by id r x (Some y) b e h ih = ih h
found_by id r x None true e h ih = sym (ap id_of (inside r x h)) ∙ eqb-true (id_of r) id e
found_by id r x None false e h ih = cc

-- the latest revision of a document is of it
pub latest_id : (id : ℕ) (rs : List Recorded) (x : Recorded) → latest_of rs id ≡ Some x → id_of x ≡ id
latest_id id [] x h = cc
latest_id id (r ∷ rs) x h = found_by id r x (latest_of rs id) (id_of r == id) refl h (latest_id id rs x)

is_latest : (id : ℕ) (rs : List Recorded) (x : Recorded) → latest_of rs id ≡ Some x → IsLatest rs (draft_of x)
is_latest id rs x h = ap (option_map draft_of) (ap (latest_of rs) (latest_id id rs x h) ∙ h)

by_row : (test : Row → Bool) (o : Option Row) → meets_row test o ≡ false → option_map_or test o false ≡ false
by_row test None h = refl
by_row test (Some row) h = h

module _ (table : TableId) (items : List Item) (id : ℕ) where
  unmet_latest : (s : State) (b : Block) (rs : List Recorded) (o : Option Recorded)
      → AllByRecursion (λ i. touched s b i ≡ false) items → latest_of rs id ≡ o → block_revises id b ≡ true
      → ((i : Item) (d : Draft) → touched s b i ≡ false → block_revises d.id.raw b ≡ true → IsLatest rs d
      → meets_row (meets table i) (row_of table d) ≡ false)
      → is_met table items o ≡ false
  unmet_latest s b rs None un e has unmet = refl
  unmet_latest s b rs (Some x) un e has unmet =
      let own : block_revises (id_of x) b ≡ true = ap (λ n. block_revises n b) (latest_id id rs x e) ∙ has in
      by_row (meets_one table items) (row_of table (draft_of x))
      (each_unmet s b table (row_of table (draft_of x)) items
      (all_items s b table (λ i. meets_row (meets table i) (row_of table (draft_of x)) ≡ false) items un
      (λ i h. unmet i (draft_of x) h own (is_latest id rs x e))))

  one_block : (s : State) (b : Block) (v : Bool) → block_revises id b ≡ v
      → AllByRecursion (λ i. touched s b i ≡ false) items → IsStill table items id s (after s b)
  one_block s b true e un =
      inr (
        unmet_latest s b s.revisions (latest_of s.revisions id) un refl e (λ i d. unmet_before s b table i d),
        unmet_latest s b (after s b).revisions (latest_of (after s b).revisions id) un refl e
            (λ i d. unmet_after s b table i d),
      )
  one_block s b false e un =
      inl (latest_of_after s b id
      ∙ ap (λ o. or_else o (latest_of s.revisions id)) (absent id (revisions_in b) e))

  then_still : (s t u : State) → IsStill table items id s t → IsStill table items id t u → IsStill table items id s u
  then_still s t u (inl e) (inl f) = inl (f ∙ e)
  then_still s t u (inl e) (inr f) = inr (ap (is_met table items) (sym e) ∙ f.0, f.1)
  then_still s t u (inr e) (inl f) = inr (e.0, ap (is_met table items) f ∙ e.1)
  then_still s t u (inr e) (inr f) = inr (e.0, f.1)

  all_blocks : (m : ℕ) (s : State) (later : List Block) → conflict_from m s later items ≡ None
      → IsStill table items id s (state_from s later)
  all_blocks m s [] none = inl refl
  all_blocks m s (b ∷ bs) none =
      let parts = none_named m (find (touched s b) items) (conflict_from (m + 1) (after s b) bs items) none in
      then_still s (after s b) (state_from (after s b) bs)
      (one_block s b (block_revises id b) refl (none_found (touched s b) items parts.0))
      (all_blocks (m + 1) (after s b) bs parts.1)

pub documents_are_still : DocumentsAreStill
documents_are_still blocks since table items id none =
    subst (IsStill table items id (state (take since blocks))) (sym (state_split empty since blocks))
    (all_blocks table items id since (state (take since blocks)) (drop since blocks) none)
