use Rattle.std.proofs.Common.{List, map, ap, subst, ◌∙◌}
use Rattle.std.specs.Prelude.{slice_get}
use Rattle.std.specs.List.{filter_map}
use Rattle.ledger_model.specs.State.{draft_of}
use Rattle.ledger_model.specs.Views.{latest}
use Rattle.versions.specs.declared.recorded.Recorded.{Recorded}
use Rattle.versions.specs.Held.{recorded_of}
use Rattle.versions.specs.Live.{AreLast}
use Rattle.versions.proofs.Members.{found}
use Rattle.versions.proofs.OneTable.{lent_last_at, lent_places}
use Rattle.versions.proofs.shelf.Shelf.newest_at.Goals as goal

pub returns-clause-drafts : goal.returns-clause-drafts
returns-clause-drafts c =
    lent_places c.in_ok-all.all c.self.inside.revisions c.args.places.now
    (c.in_ok-all.ensures ∙ ap (λ (ds : List Recorded). found ds c.args.places.now) c.self.invariant.newest_is)
    ∙ ap (λ (rs : List Recorded). filter_map (λ at. slice_get (latest (map draft_of (map recorded_of rs))) at) c.args.places.now) c.self.view_is

pub returns-clause-last : goal.returns-clause-last
returns-clause-last c =
    subst (λ (rs : List Recorded). AreLast (map recorded_of rs) c.in_ok-all.all) c.self.view_is
    (lent_last_at c.in_ok-all.all c.self.inside.revisions c.args.places.now
    (c.in_ok-all.ensures ∙ ap (λ (ds : List Recorded). found ds c.args.places.now) c.self.invariant.newest_is))
