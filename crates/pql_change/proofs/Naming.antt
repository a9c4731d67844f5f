-- A document that is named by one row more.
use Rattle.std.proofs.Common.{◌≡◌, ℕ, Bool, true, false, ◌||◌, List, [], ◌∷◌, ◌++◌, refl, sym, ap, ◌∙◌, nat_eq}
use Rattle.std.proofs.lemmas.List.{map-append}
use Rattle.std.specs.Prelude.{if◌then◌else◌}
use Rattle.std.specs.List.{list_any, slice_get}
use Rattle.std.specs.Option.{option_and_then, option_map, option_map_or}
use Rattle.std.specs.declared.option.Option.TheVariants.{Some}
use Rattle.indexmap.specs.IndexSet.{insert_key}
use Rattle.ql_types.specs.declared.DocId.{DocId}
use Rattle.pql_model.specs.declared.scope.Bound.{Bound}
use Rattle.pql_model.specs.declared.tables.Row.{Row}
use Rattle.pql_model.specs.Effects.{deleted_in, document_in, is_named, with_id}
use Rattle.pql_model.specs.From.{Combined}
use Rattle.pql_change.specs.Touched.{id_of, ids_in}

known : (id : DocId) (keys : List ℕ) → list_any (nat_eq id.raw) keys ≡ is_named id (ids_in keys)
known id [] = refl
known id (k ∷ keys) = ap (λ b. nat_eq id.raw k || b) (known id keys)

pub naming : (id : DocId) (keys : List ℕ) → ids_in (insert_key nat_eq keys id.raw) ≡ with_id (ids_in keys) id
naming id keys = by (list_any (nat_eq id.raw) keys) refl
  where
    by : (b : Bool) → list_any (nat_eq id.raw) keys ≡ b → ids_in (insert_key nat_eq keys id.raw) ≡ with_id (ids_in keys) id
    by true h = ap (λ b. ids_in (if b then keys else keys ++ id.raw ∷ [])) h ∙ sym (ap (λ b. if b then ids_in keys else ids_in keys ++ id ∷ []) (sym (known id keys) ∙ h))
    by false h =
        ap (λ b. ids_in (if b then keys else keys ++ id.raw ∷ [])) h
        ∙ map-append id_of keys (id.raw ∷ [])
        ∙ sym (ap (λ b. if b then ids_in keys else ids_in keys ++ id ∷ []) (sym (known id keys) ∙ h))

-- the first source of a row, where it is a document
pub names : (scope : Combined) (b : Bound) (id : DocId) (ids : List DocId)
    → Some b ≡ slice_get scope 0 → b.id ≡ Some id → option_map_or (λ (d : Row). with_id ids d.id) (deleted_in scope) ids ≡ with_id ids id
names scope b id ids first is =
    ap (λ o. option_map_or (λ (d : Row). with_id ids d.id) (option_and_then document_in o) ids) (sym first)
    ∙ ap (λ o. option_map_or (λ (d : Row). with_id ids d.id) (option_map (λ i. record { id = i; value = b.value }) o) ids) is
