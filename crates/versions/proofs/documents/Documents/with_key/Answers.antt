use Rattle.std.proofs.Common.{◌≡◌, List, true, map, refl, ap, ◌∙◌}
use Rattle.ledger_model.specs.Follows.{has_index}
use Rattle.versions.specs.declared.recorded.Recorded.{Recorded}
use Rattle.versions.specs.declared.tables.Indexed.{Indexed}
use Rattle.versions.specs.Held.{indexed_of, recorded_of}
use Rattle.versions.specs.Indexes.{documents_with, tree_on}
use Rattle.versions.specs.Newest.{newest}
use Rattle.versions.proofs.Trees.{documents_are, index_is, index_there}
use Rattle.versions.proofs.documents.Documents.with_key.Goals as goal

pub unreachable-requires : goal.unreachable-requires
unreachable-requires c =
    let inside = c.self.inside in
    let has : has_index (map indexed_of inside.indexes) c.args.table c.args.field.now ≡ true =
    ap (λ (pair : List Recorded × List Indexed). has_index (map indexed_of pair.1) c.args.table c.args.field.now) c.self.view_is ∙ c.requires in
    let tree : tree_on c.as_slice.result.now c.as_slice-2.result.now c.args.table c.as_str.result.now ≡ tree_on inside.indexes inside.trees c.args.table c.args.field.now =
    rw (c.as_slice.ensures, c.as_slice-2.ensures, c.as_str.ensures) refl in
    index_there (newest inside.shelf) inside.indexes inside.trees c.args.table c.args.field.now c.self.invariant has (c.in_default.ensures ∙ tree)

pub returns : goal.returns
returns c =
    let inside = c.self.inside in
    let has : has_index (map indexed_of inside.indexes) c.args.table c.args.field.now ≡ true =
    ap (λ (pair : List Recorded × List Indexed). has_index (map indexed_of pair.1) c.args.table c.args.field.now) c.self.view_is ∙ c.requires in
    let tree : tree_on c.as_slice.result.now c.as_slice-2.result.now c.args.table c.as_str.result.now ≡ tree_on inside.indexes inside.trees c.args.table c.args.field.now =
    rw (c.as_slice.ensures, c.as_slice-2.ensures, c.as_str.ensures) refl in
    let filed = index_is (newest inside.shelf) inside.indexes inside.trees c.args.table c.args.field.now c.in-Some.tree.now c.self.invariant has (c.in-Some.ensures ∙ tree) in
    documents_are c.latest.result.now inside.shelf c.in-Some.tree.now c.of.result c.args.table c.args.field.now c.args.key.now c.in_ok-ids.ids c.latest.ensures
    (rw c.latest.ensures filed) c.of.ensures.positions c.in_ok-ids.ensures
    ∙ ap (λ (pair : List Recorded × List Indexed). documents_with (map recorded_of pair.0) c.args.table c.args.field.now c.args.key.now) c.self.view_is
