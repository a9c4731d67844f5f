use Rattle.std.proofs.Common.{◌≡◌, [], ◌∙◌, ap}
use Rattle.std.specs.Option.{option_copied, unwrap_or}
use Rattle.versions.specs.Redactions.{all_changed}
use Rattle.versions.proofs.Whole.{redacted_is, whole_stands}
use Rattle.versions.proofs.shelf.Shelf.redacted.Goals as goal

pub invariant_of-result : goal.invariant_of-result
invariant_of-result c =
    let shelf = c.self.inside in
    let is : c.in_ok-revisions.revisions ≡ all_changed c.args.change.now shelf.revisions =
    redacted_is shelf.revisions shelf.latest shelf.histories shelf.by_table shelf.live c.self.invariant c.args.change.now c.args.id
    c.place_of.result (unwrap_or (option_copied c.history_at-history.result) []) c.in_ok-revisions.revisions c.requires c.place_of.ensures
    c.history_at-history.ensures c.in_ok-revisions.ensures in
    rw (is, c.in_ok-latest.ensures, c.in_ok-histories.ensures, c.in_ok-by_table.ensures, c.in_ok-live.ensures)
    (whole_stands shelf.revisions shelf.latest shelf.histories shelf.by_table shelf.live c.self.invariant c.args.change.now)

pub returns : goal.returns
returns c =
    let shelf = c.self.inside in
    redacted_is shelf.revisions shelf.latest shelf.histories shelf.by_table shelf.live c.self.invariant c.args.change.now c.args.id
    c.place_of.result (unwrap_or (option_copied c.history_at-history.result) []) c.in_ok-revisions.revisions c.requires c.place_of.ensures
    c.history_at-history.ensures c.in_ok-revisions.ensures
    ∙ ap (all_changed c.args.change.now) c.self.view_is
