use Rattle.std.proofs.Common.{ℕ, ◌++◌, ◌<◌, [], ◌∷◌, sym, ◌∙◌, ap, ap₂, subst}
use Rattle.versions.specs.declared.recorded.Recorded.{Recorded}
use Rattle.versions.specs.ByTable.{IsEntered}
use Rattle.versions.specs.Histories.{entered}
use Rattle.versions.specs.Newest.{id_of, put}
use Rattle.versions.proofs.Places.{document-within}
use Rattle.versions.proofs.Whole.{whole_more}
use Rattle.versions.proofs.shelf.Shelf.push.Goals as goal

-- the document's place is that of its history
pub entered-requires : goal.entered-requires
entered-requires c = λ at is.
    let shelf = c.self.inside in
    subst (λ (n : ℕ). at < n) (sym c.self.invariant.kept_are.long)
    (document-within shelf.latest (id_of c.args.item) at (sym c.place_of-document.ensures ∙ is))

pub invariant_of-result : goal.invariant_of-result
invariant_of-result c =
    let shelf = c.self.inside in
    let both = c.in_ok-one.ensures in
    let places = c.in_ok-place.ensures in
    whole_more shelf.revisions shelf.latest shelf.histories shelf.by_table shelf.live c.self.invariant c.args.item c.in_ok-revisions.revisions
    c.in_ok-latest.latest c.in_ok-histories.histories c.in_ok-by_table.by_table c.in_ok-live.live
    (c.in_ok-revisions.ensures ∙ ap (λ (r : Recorded). shelf.revisions ++ r ∷ []) both.0)
    (c.in_ok-latest.ensures ∙ ap (put shelf.latest) both.1)
    (c.in_ok-histories.ensures ∙ ap₂ (entered shelf.histories) c.place_of-document.ensures (places.0 ∙ c.len.ensures))
    (subst (λ (n : ℕ). IsEntered shelf.by_table c.args.item.table n c.in_ok-by_table.by_table) (places.1 ∙ c.len.ensures) c.in_ok-by_table.ensures)
    (c.in_ok-live.ensures shelf.latest c.spot-spot.ensures c.self.invariant.live_are)
    c.id_fits.ensures
