-- A change of one document makes of it what `applied` says.
use Rattle.std.proofs.Common.{◌≡◌, ◌≢◌, ℕ, suc, List, [], ◌∷◌, refl, ap, ◌∙◌, Some, arith}
use Rattle.std.specs.Option.{option_and_then, option_map_or}
use Rattle.ion_values.specs.declared.value.Value.{Value}
use Rattle.pql_model.specs.declared.tables.Row.{Row}
use Rattle.pql_model.specs.Changes.{Alteration, alterations, altered}
use Rattle.pql_model.specs.Effects.{document_at, root_of, touch, touched_by, touched_in}
use Rattle.pql_model.specs.From.{Combined}
use Rattle.pql_model.specs.Meaning.{under}
use Rattle.pql_change.specs.OneRoot.{BeginAt, OneDocumentIsApplied}
use Rattle.pql_change.proofs.Touching.{same}

abbrev one : Row → Value → List Row
one d v = record { id = d.id; value = v } ∷ []

module _ (scope : Combined) (place : ℕ) where
  -- of a list the first, and the others
  begins : (a : Alteration) (more : List Alteration) → BeginAt scope place (a ∷ more) → root_of scope a.target ≡ Some place
  begins a more h = h 0 a (omega arith)

  others : (a : Alteration) (more : List Alteration) → BeginAt scope place (a ∷ more) → BeginAt scope place more
  others a more h = λ k x lt. h (suc k) x (omega arith)

module _ (scope : Combined) (place : ℕ) (d : Row) (there : document_at scope place ≡ Some d) where
  named : (a : Alteration) (touched : List Row) → root_of scope a.target ≡ Some place → touched_by scope touched a ≡ touch a.made d touched
  named a touched e =
      ap (λ o. option_map_or (λ (r : Row). touch a.made r touched) o touched) (ap (option_and_then (document_at scope)) e ∙ there)

  again : (f : Value → Value) (v : Value) → touch f d (one d v) ≡ one d (f v)
  again f v = simp (same d.id.raw)

  -- the changes of a document that is touched already
  further : (cs : List Alteration) (v : Value) → BeginAt scope place cs → touched_in scope (one d v) cs ≡ one d (altered cs v)
  further [] v h = refl
  further (a ∷ more) v h =
      ap (λ t. touched_in scope t more) (named a (one d v) (begins scope place a more h) ∙ again a.made v)
      ∙ further more (a.made v) (others scope place a more h)

  all : (cs : List Alteration) → cs ≢ [] → BeginAt scope place cs → touched_in scope [] cs ≡ one d (altered cs d.value)
  all [] some h = absurd (some refl)
  all (a ∷ more) some h =
      ap (λ t. touched_in scope t more) (named a [] (begins scope place a more h))
      ∙ further more (a.made d.value) (others scope place a more h)

pub one_document_is_applied : OneDocumentIsApplied
one_document_is_applied params c scope place d there some h = all scope place d there (alterations (under scope params) c) some h
