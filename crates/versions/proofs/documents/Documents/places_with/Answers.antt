use Rattle.std.proofs.Common.{◌≡◌, List, true, map, refl, ap, ◌∙◌}
use Rattle.ledger_model.specs.Follows.{has_index}
use Rattle.ledger_model.specs.State.{draft_of}
use Rattle.ledger_model.specs.Views.{latest}
use Rattle.versions.specs.declared.recorded.Recorded.{Recorded}
use Rattle.versions.specs.declared.tables.Indexed.{Indexed}
use Rattle.versions.specs.Held.{indexed_of, recorded_of}
use Rattle.versions.specs.Filing.{places_from}
use Rattle.versions.specs.Indexes.{has_key_in, tree_on}
use Rattle.versions.specs.Newest.{newest}
use Rattle.versions.proofs.OneTable.{key_places}
use Rattle.versions.proofs.Trees.{index_is, index_there}
use Rattle.versions.proofs.documents.Documents.places_with.Goals as goal

pub unreachable-requires : goal.unreachable-requires
unreachable-requires c =
    let inside = c.self.inside in
    let has : has_index (map indexed_of inside.indexes) c.args.table c.args.field.now ≡ true =
    ap (λ (pair : List Recorded × List Indexed). has_index (map indexed_of pair.1) c.args.table c.args.field.now) c.self.view_is ∙ c.requires in
    let tree : tree_on c.as_slice.result.now c.as_slice-2.result.now c.args.table c.as_str.result.now ≡ tree_on inside.indexes inside.trees c.args.table c.args.field.now =
    rw (c.as_slice.ensures, c.as_slice-2.ensures, c.as_str.ensures) refl in
    index_there (newest inside.shelf) inside.indexes inside.trees c.args.table c.args.field.now c.self.invariant has (c.in_default.ensures ∙ tree)

pub returns : goal.returns
returns c =
    let inside = c.self.inside in
    let has : has_index (map indexed_of inside.indexes) c.args.table c.args.field.now ≡ true =
    ap (λ (pair : List Recorded × List Indexed). has_index (map indexed_of pair.1) c.args.table c.args.field.now) c.self.view_is ∙ c.requires in
    let tree : tree_on c.as_slice.result.now c.as_slice-2.result.now c.args.table c.as_str.result.now ≡ tree_on inside.indexes inside.trees c.args.table c.args.field.now =
    rw (c.as_slice.ensures, c.as_slice-2.ensures, c.as_str.ensures) refl in
    let filed = index_is (newest inside.shelf) inside.indexes inside.trees c.args.table c.args.field.now c.in-Some.tree.now c.self.invariant has (c.in-Some.ensures ∙ tree) in
    key_places (newest inside.shelf) inside.shelf c.in-Some.tree.now c.in_ok-places.places c.args.table c.args.field.now c.args.key.now refl
    filed (c.in_ok-places.ensures ∙ c.of.ensures.positions)
    ∙ ap (λ (pair : List Recorded × List Indexed).
    places_from (has_key_in c.args.table c.args.field.now c.args.key.now) 0 (latest (map draft_of (map recorded_of pair.0)))) c.self.view_is
