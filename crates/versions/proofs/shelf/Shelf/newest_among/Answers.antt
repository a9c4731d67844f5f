use Rattle.std.proofs.Common.{List, [], map, sym, ap, subst, ◌∙◌}
use Rattle.std.specs.List.{filter}
use Rattle.ledger_model.specs.State.{draft_of}
use Rattle.ledger_model.specs.Views.{latest}
use Rattle.versions.specs.declared.recorded.Recorded.{Recorded}
use Rattle.versions.specs.Held.{recorded_of}
use Rattle.versions.specs.Lookups.{AreApart, is_one_of, last_among, those_among}
use Rattle.versions.proofs.Among.{lent_among}
use Rattle.versions.proofs.LastOnes.{apart-newest, lent_last_among}
use Rattle.versions.proofs.shelf.Shelf.newest_among.Goals as goal

pub among-requires : goal.among-requires
among-requires c = subst AreApart (sym c.self.invariant.newest_is) (apart-newest [] c.self.inside.revisions tt)

pub returns-clause-drafts : goal.returns-clause-drafts
returns-clause-drafts c =
    lent_among c.in_ok-all.all c.args.ids.now c.self.inside.revisions (c.in_ok-all.ensures ∙ ap (filter (is_one_of c.args.ids.now)) c.self.invariant.newest_is)
    ∙ ap (λ (rs : List Recorded). those_among c.args.ids.now (latest (map draft_of (map recorded_of rs)))) c.self.view_is

pub returns-clause-last : goal.returns-clause-last
returns-clause-last c =
    lent_last_among c.in_ok-all.all c.args.ids.now c.self.inside.revisions (c.in_ok-all.ensures ∙ ap (filter (is_one_of c.args.ids.now)) c.self.invariant.newest_is)
    ∙ ap (λ (rs : List Recorded). last_among c.args.ids.now (map recorded_of rs)) c.self.view_is
