use Rattle.std.proofs.Common.{sym, ◌∙◌}
use Rattle.footprints.specs.Lent.{all_asked_of, schemas_of, spot_of}
use Rattle.footprints.proofs.Firsts.{by_documents, by_keys}
use Rattle.footprints.proofs.rules.items_of.Goals as goal

pub returns-in-Some : goal.returns-in-Some
returns-in-Some c =
    by_documents (schemas_of c.args.schemas) (spot_of c.args.at) (all_asked_of c.args.asked.now) c.in-Some.items (sym c.in-Some.is ∙ c.in_ok-items.ensures)

pub returns-in_ok-items-in-None : goal.returns-in_ok-items-in-None
returns-in_ok-items-in-None c =
    by_keys (schemas_of c.args.schemas) (spot_of c.args.at) (all_asked_of c.args.asked.now) c.in_ok-items-in-None.items
    (sym c.in-None.is ∙ c.in_ok-items.ensures) c.in_ok-items-in-None.ensures
