-- A document that is taken out of the map, changed and put back.
use Rattle.std.proofs.Common.{◌≡◌, ℕ, Bool, true, false, List, [], ◌∷◌, refl, ap, ◌∙◌, nat_eq, Option, unwrap_or, rules}
use Rattle.indexmap.specs.IndexMap.{insert_entry}
use Rattle.std.specs.Map.{lookup}
use Rattle.ion_values.specs.declared.value.Value.{Value}
use Rattle.ql_types.specs.declared.DocId.{DocId}
use Rattle.pql_model.specs.Effects.{touch}
use Rattle.pql_change.specs.Touched.{document_of, rows_in}

pub same : (k : ℕ) → nat_eq k k ≡ true
same k = search rules

touching : (f : Value → Value) (id : DocId) (v z : Value) (es : List (ℕ × Value))
    → rows_in (insert_entry nat_eq (insert_entry nat_eq es id.raw z) id.raw (f (unwrap_or (lookup (nat_eq id.raw) es) v)))
    ≡ touch f (document_of id v) (rows_in es)
touching f id v z [] = simp (same id.raw)
touching f id v z (e ∷ es) = by (nat_eq id.raw e.0) refl (touching f id v z es)
  where
    by : (b : Bool) → nat_eq id.raw e.0 ≡ b
        → rows_in (insert_entry nat_eq (insert_entry nat_eq es id.raw z) id.raw (f (unwrap_or (lookup (nat_eq id.raw) es) v))) ≡ touch f (document_of id v) (rows_in es)
        → rows_in (insert_entry nat_eq (insert_entry nat_eq (e ∷ es) id.raw z) id.raw (f (unwrap_or (lookup (nat_eq id.raw) (e ∷ es)) v)))
        ≡ touch f (document_of id v) (rows_in (e ∷ es))
    by true h rest = simp h
    by false h rest = simp h (ap (λ rows. record { id = record { raw = e.0 }; value = e.1 } ∷ rows) rest)

pub touched_once : (f : Value → Value) (id : DocId) (v z : Value) (es taken after : List (ℕ × Value)) (changed : Option Value) (document new : Value)
    → changed ≡ lookup (nat_eq id.raw) es → taken ≡ insert_entry nat_eq es id.raw z → document ≡ unwrap_or changed v → new ≡ f document
    → after ≡ insert_entry nat_eq taken id.raw new
    → rows_in after ≡ touch f (document_of id v) (rows_in es)
touched_once f id v z es taken after changed document new found out stands done back =
    ap rows_in back
    ∙ ap (λ d. rows_in (insert_entry nat_eq taken id.raw d)) (done ∙ ap f (stands ∙ ap (λ o. unwrap_or o v) found))
    ∙ ap (λ xs. rows_in (insert_entry nat_eq xs id.raw (f (unwrap_or (lookup (nat_eq id.raw) es) v)))) out
    ∙ touching f id v z es
