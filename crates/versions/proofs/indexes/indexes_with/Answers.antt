use Rattle.std.proofs.Common.{◌≡◌, ◌+◌, ◌<◌, ◌≤◌, List, ◌∷◌, ◌++◌, length, drop, refl, sym, subst, ap, ◌∙◌, arith}
use Rattle.std.proofs.lemmas.Option.{slice_get_past, slice_get_read}
use Rattle.std.proofs.lemmas.List.{drop_more}
use Rattle.versions.specs.declared.tables.Indexed.{Indexed}
use Rattle.versions.specs.Indexes.{AreIndexes}
use Rattle.versions.specs.Newest.{put}
use Rattle.versions.proofs.Trees.{Tree, left_not_there, left_there, so_far_all, so_far_next}
use Rattle.versions.proofs.indexes.indexes_with.Goals as goal

pub indexes-init : goal.indexes-init
indexes-init c = (
  c.requires,
  λ rest are.
      subst (λ (ps : List Tree). AreIndexes (put c.args.latest.now c.args.item.now) c.args.indexes.now (ps ++ rest)) (sym c.in_ok-new.ensures.items) are,
)

pub unreachable-requires : goal.unreachable-requires
unreachable-requires c =
    let at = c.indexes.at in
    let item = c.index-indexes-at.result in
    let next : drop at c.args.indexes.now ≡ item ∷ drop (at + 1) c.args.indexes.now =
    drop_more c.args.indexes.now at item c.indexes-test.true ∙ ap (λ (i : Indexed). i ∷ drop (at + 1) c.args.indexes.now) (sym c.index-indexes-at.is) in
    left_not_there c.args.latest.now c.args.indexes.now c.args.trees.now at item next (slice_get_past c.args.trees.now at c.in_default.ensures.lookup.3) c.indexes.invariant.0

pub indexes-preserved : goal.indexes-preserved
indexes-preserved c =
    let at = c.indexes.at in
    let item = c.index-indexes-at.result in
    let next : drop at c.args.indexes.now ≡ item ∷ drop (at + 1) c.args.indexes.now =
    drop_more c.args.indexes.now at item c.indexes-test.true ∙ ap (λ (i : Indexed). i ∷ drop (at + 1) c.args.indexes.now) (sym c.index-indexes-at.is) in
    let both = left_there c.args.latest.now c.args.indexes.now c.args.trees.now at item c.in-Some.tree.now next (slice_get_read c.args.trees.now (length c.args.trees.now) at c.in-Some.tree.now refl c.in-Some.ensures.lookup.3.0 c.in-Some.ensures.lookup.1)
    c.indexes.invariant.0 in (
      both.1,
      so_far_next (put c.args.latest.now c.args.item.now) c.args.indexes.now at c.indexes.new.items c.push.new.self.items item _ next
          (c.in_ok-index_after.ensures c.args.latest.now c.spot-spot.ensures both.0) c.in_ok-push.ensures.items c.indexes.invariant.1,
    )

pub returns : goal.returns
returns c =
    let past : length c.args.indexes.now ≤ c.indexes.at = omega arith in
    so_far_all (put c.args.latest.now c.args.item.now) c.args.indexes.now c.indexes.at c.indexes.new.items past c.indexes.invariant.1
