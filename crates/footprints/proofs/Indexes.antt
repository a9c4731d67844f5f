-- The fields with an index behind changes of the schema.
use Rattle.std.proofs.Common.{◌≡◌, ◌∙◌, ◌==◌, ◌&&◌, ◌||◌, Bool, true, false, List, [], ◌∷◌, ℕ, refl, sym, ap}
use Rattle.std.specs.List.{list_any}
use Rattle.std.specs.Str.{bytes_eq}
use Rattle.std.proofs.Math.Bool.{or-false}
use Rattle.std.proofs.lemmas.List.Folds.{list_any-append}
use Rattle.ql_types.specs.declared.TableId.{TableId}
use Rattle.ledger_model.specs.declared.block.Schema.{Schema}
use Rattle.ledger_model.specs.declared.block.Schema.TheVariants.{Create, Index, Drop, Redact}
use Rattle.ledger_model.specs.Follows.{has_index}
use Rattle.ledger_model.specs.State.{Indexed, all_indexed, indexed}
use Rattle.footprints.specs.Lent.{makes_index}

regroup : (a b c : Bool) → ((a || b) || c) ≡ (a || (b || c))
regroup true b c = refl
regroup false b c = refl

one_change : (ix : List Indexed) (table : TableId) (field : List ℕ) (c : Schema)
    → has_index (indexed ix c) table field ≡ (has_index ix table field || makes_index table field c)
one_change ix table field (Index name id) =
    let new : Indexed = record { table = id; field = name } in
    list_any-append (λ (i : Indexed). (i.table.raw == table.raw) && bytes_eq i.field field) ix (new ∷ [])
    ∙ ap (λ b. has_index ix table field || b) (or-false ((id.raw == table.raw) && bytes_eq name field))
one_change ix table field (Create name id) = sym (or-false (has_index ix table field))
one_change ix table field (Drop name id) = sym (or-false (has_index ix table field))
one_change ix table field (Redact address id document) = sym (or-false (has_index ix table field))

pub index_now : (ix : List Indexed) (table : TableId) (field : List ℕ) (cs : List Schema)
    → has_index (all_indexed ix cs) table field ≡ (has_index ix table field || list_any (makes_index table field) cs)
index_now ix table field [] = sym (or-false (has_index ix table field))
index_now ix table field (c ∷ cs) =
    index_now (indexed ix c) table field cs
    ∙ ap (λ b. b || list_any (makes_index table field) cs) (one_change ix table field c)
    ∙ regroup (has_index ix table field) (makes_index table field c) (list_any (makes_index table field) cs)
