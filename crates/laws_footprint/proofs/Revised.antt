-- Which blocks have a revision of a document.
use Rattle.std.proofs.Common.{◌≡◌, ◌∙◌, ℕ, ◌+◌, Bool, true, false, cond, ◌==◌, List, [], ◌∷◌, refl, ap, Option, Some, None, option_map}
use Rattle.std.specs.List.{AllByRecursion, find, list_any}
use Rattle.std.proofs.lemmas.Bool.{both_ways, false_from_ne_true, or_from, or_parts}
use Rattle.ql_types.specs.declared.TableId.{TableId}
use Rattle.ledger_model.specs.declared.block.Block.{Block}
use Rattle.ledger_model.specs.declared.block.Draft.{Draft}
use Rattle.ledger_model.specs.declared.outcome.Item.{Item}
use Rattle.ledger_model.specs.Follows.{latest_of}
use Rattle.ledger_model.specs.Script.{or_else}
use Rattle.ledger_model.specs.State.{Recorded, State, after, draft_of, state_from}
use Rattle.ledger_model.specs.Views.{row_of}
use Rattle.ledger_model.specs.Meets.{meets, meets_one}
use Rattle.laws_footprint.specs.Stillness.{block_revises, has_revision_of}
use Rattle.laws_footprint.specs.Touches.{conflict_from, id_of, revisions_in, touched}
use Rattle.laws_footprint.proofs.Documents.{IsLatest, latest_of_after, meets_row}
use Rattle.laws_footprint.proofs.Still.{all_items, each_unmet, none_found, none_named, unmet_before}

-- ---- a document that meets an item

absent_by : (id : ℕ) (r : Recorded) (o : Option Recorded) (b : Bool) → (id_of r == id) ≡ b → o ≡ None → b ≡ false
    → or_else o (cond (id_of r == id) (Some r) None) ≡ None
absent_by id r o b e none not = ap (λ x. or_else x (cond (id_of r == id) (Some r) None)) none
    ∙ ap (λ c. cond c (Some r) None) (e ∙ not)

pub absent : (id : ℕ) (rs : List Recorded) → list_any (has_revision_of id) rs ≡ false → latest_of rs id ≡ None
absent id [] h = refl
absent id (r ∷ rs) h =
    let parts = or_parts (id_of r == id) (list_any (has_revision_of id) rs) h in
    absent_by id r (latest_of rs id) (id_of r == id) refl (absent id rs parts.1) parts.0

latest_past : (s : State) (b : Block) (d : Draft) → block_revises d.id.raw b ≡ false → IsLatest s.revisions d
    → IsLatest (after s b).revisions d
latest_past s b d not is =
    ap (option_map draft_of) (latest_of_after s b d.id.raw
    ∙ ap (λ o. or_else o (latest_of s.revisions d.id.raw)) (absent d.id.raw (revisions_in b) not)) ∙ is

not_revised : (s : State) (b : Block) (table : TableId) (items : List Item) (d : Draft)
    → AllByRecursion (λ i. touched s b i ≡ false) items → IsLatest s.revisions d
    → meets_row (meets_one table items) (row_of table d) ≡ true → block_revises d.id.raw b ≡ false
not_revised s b table items d un is met_here =
    false_from_ne_true (block_revises d.id.raw b) (λ has.
    both_ways (meets_row (meets_one table items) (row_of table d))
    (each_unmet s b table (row_of table d) items
    (all_items s b table (λ i. meets_row (meets table i) (row_of table d) ≡ false) items un
    (λ i h. unmet_before s b table i d h has is))) met_here)

-- none of the blocks has a revision of it
pub unrevised : (m : ℕ) (s : State) (later : List Block) (table : TableId) (items : List Item) (d : Draft)
    → conflict_from m s later items ≡ None → IsLatest s.revisions d
    → meets_row (meets_one table items) (row_of table d) ≡ true → list_any (block_revises d.id.raw) later ≡ false
unrevised m s [] table items d none is met_here = refl
unrevised m s (b ∷ bs) table items d none is met_here =
    let parts = none_named m (find (touched s b) items) (conflict_from (m + 1) (after s b) bs items) none in
    let not = not_revised s b table items d (none_found (touched s b) items parts.0) is met_here in
    or_from (block_revises d.id.raw b) _ not
    (unrevised (m + 1) (after s b) bs table items d parts.1 (latest_past s b d not is) met_here)

pub latest_behind : (s : State) (later : List Block) (id : ℕ) → list_any (block_revises id) later ≡ false
    → latest_of (state_from s later).revisions id ≡ latest_of s.revisions id
latest_behind s [] id h = refl
latest_behind s (b ∷ bs) id h =
    let parts = or_parts (block_revises id b) (list_any (block_revises id) bs) h in
    latest_behind (after s b) bs id parts.1
    ∙ latest_of_after s b id
    ∙ ap (λ o. or_else o (latest_of s.revisions id)) (absent id (revisions_in b) parts.0)
