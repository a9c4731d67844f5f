use Rattle.std.proofs.Common.{◌∙◌, ap, map}
use Rattle.std.specs.Prelude.{[], option_map}
use Rattle.std.specs.Option.{option_copied, unwrap_or}
use Rattle.ledger_model.specs.Follows.{named_by}
use Rattle.versions.specs.Held.{recorded_of}
use Rattle.versions.specs.Redactions.{named_in}
use Rattle.versions.proofs.Named.{named_is}
use Rattle.versions.proofs.Whole.{history_is}
use Rattle.versions.proofs.shelf.Shelf.named.Goals as goal

pub returns : goal.returns
returns c =
    let shelf = c.self.inside in
    let history =
    history_is shelf.revisions shelf.latest shelf.histories shelf.by_table shelf.live c.self.invariant c.args.id c.place_of.result
    (unwrap_or (option_copied c.history_at-history.result) []) c.place_of.ensures c.history_at-history.ensures in
    ap (option_map recorded_of) (c.named_in.ensures ∙ ap (named_in c.args.change.now shelf.revisions) history)
    ∙ named_is c.args.change.now c.args.id shelf.revisions c.requires
    ∙ ap (λ rs. named_by (map recorded_of rs) c.args.change.now) c.self.view_is
