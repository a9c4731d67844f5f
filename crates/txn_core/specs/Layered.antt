-- The documents of one table under what pends: those of the version at their places among all, and new ones behind them.
use Rattle.std.specs.Prelude.{◌≡◌, ◌==◌, ◌<◌, ℕ, suc, Bool, true, false, nat_lt, List, [], ◌∷◌, ◌++◌, length, map, Option, Some, None, if◌then◌else◌}
use Rattle.std.specs.List.{AllByRecursion}
use Rattle.ql_types.specs.declared.TableId.{TableId}
use Rattle.ledger_model.specs.declared.block.Draft.{Draft}
use Rattle.ledger_model.specs.State.{State, draft_of}
use Rattle.ledger_model.specs.Views.{latest, put}
use Rattle.versions.specs.Filing.{places_from}
use Rattle.versions.specs.Live.{is_live}
use Rattle.versions.specs.Places.{numbers_of, place_in}
use Rattle.view_rows.specs.Seen.{drafts_seen}
use Rattle.txn_core.specs.declared.one_table.Pass.{Pass}

-- how many places at the front are less than this one
abbrev pub below : ℕ → List ℕ → ℕ
below at [] = 0
below at (p ∷ places) = if nat_lt p at then suc (below at places) else 0

-- each place is less than all behind it
abbrev pub AreAscending : List ℕ → Type 0
AreAscending [] = Unit {0}
AreAscending (p ∷ places) = AllByRecursion (λ n. p < n) places × AreAscending places

abbrev pub is_place : ℕ → Option ℕ → Bool
is_place at None = false
is_place at (Some p) = p == at

-- of the documents those that are marked
abbrev pub marked : List Bool → List Draft → List Draft
marked (true ∷ marks) (d ∷ ds) = d ∷ marked marks ds
marked (false ∷ marks) (d ∷ ds) = marked marks ds
marked _ _ = []

-- the others have no row in the table
abbrev pub OthersLack : TableId → List Bool → List Draft → Type 0
OthersLack table [] [] = Unit {0}
OthersLack table (true ∷ marks) (d ∷ ds) = OthersLack table marks ds
OthersLack table (false ∷ marks) (d ∷ ds) = (is_live table d ≡ false) × OthersLack table marks ds
OthersLack table _ _ = ⊥

-- all documents under what pends are those of the version, of which some are seen at their places, and new ones
pub record IsLayered (table : TableId) (documents : List Draft) (places : List ℕ) (seen new all : List Draft) : Type 0 where
  pub front : List Draft
  pub marks : List Bool
  pub all_is : all ≡ front ++ new
  pub numbers : numbers_of front ≡ numbers_of documents
  pub places_are : places ≡ places_from (λ (b : Bool). b) 0 marks
  pub seen_are : seen ≡ marked marks front
  pub others : OthersLack table marks front

-- a revision that is put at a place keeps this
abbrev pub KeepsLayers : TableId → ℕ → Draft → List ℕ → List Draft → List ℕ → List Draft → Type 0
KeepsLayers table at d places seen places_now seen_now =
    (documents new all : List Draft) → place_in (numbers_of documents) d.id.raw ≡ Some at
    → IsLayered table documents places seen new all → IsLayered table documents places_now seen_now new (put all d)

-- the documents of a version
abbrev pub standing : State → List Draft
standing base = latest (map draft_of base.revisions)

abbrev pub IsPass : TableId → State → Pass → List Draft → Type 0
IsPass table base p all =
    IsLayered table (standing base) p.places.items (drafts_seen p.documents.items) (drafts_seen p.later) all

-- the places are in order, each with a document
abbrev pub AreSpots : List ℕ → List Draft → Type 0
AreSpots places seen = AreAscending places × (length seen ≡ length places)
