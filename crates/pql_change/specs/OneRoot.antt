-- A change of one document: the paths of the change all begin at one source of the row, and the row names its document.
use Rattle.std.specs.Prelude.{◌≡◌, ◌≢◌, ℕ, List, [], ◌∷◌, Some}
use Rattle.std.specs.List.{All}
use Rattle.ion_values.specs.declared.value.Value.{Value}
use Rattle.pql_model.specs.declared.statement.Change.{Change}
use Rattle.pql_model.specs.declared.tables.Row.{Row}
use Rattle.pql_model.specs.Changes.{Alteration, alterations, applied}
use Rattle.pql_model.specs.Effects.{changed_documents, document_at, root_of}
use Rattle.pql_model.specs.From.{Combined}
use Rattle.pql_model.specs.Meaning.{under}

abbrev pub BeginAt : Combined → ℕ → List Alteration → Type 0
BeginAt scope place changes = All (λ a. root_of scope a.target ≡ Some place) changes

-- what such a change makes of the row is that one document, with what `applied` makes of it
abbrev pub OneDocumentIsApplied : Type 0
OneDocumentIsApplied =
    (params : List Value) (c : Change) (scope : Combined) (place : ℕ) (d : Row)
    → document_at scope place ≡ Some d
    → alterations (under scope params) c ≢ []
    → BeginAt scope place (alterations (under scope params) c)
    → changed_documents params c (scope ∷ []) ≡ record { id = d.id; value = applied params scope c d.value } ∷ []
