use Rattle.std.proofs.Common.{sym, ◌∙◌}
use Rattle.footprints.specs.Lent.{all_asked_of, schemas_of, spot_of}
use Rattle.footprints.specs.Rules.{keys_asked}
use Rattle.footprints.specs.declared.rules.Rule.TheVariants as rule
use Rattle.footprints.proofs.Firsts.{first_behind, first_front}
use Rattle.footprints.proofs.rules.later_keys.Goals as goal

pub returns-in-Some : goal.returns-in-Some
returns-in-Some c =
    first_front (keys_asked rule.OneOf (schemas_of c.args.schemas) (spot_of c.args.at) (all_asked_of c.args.asked.now))
    (keys_asked rule.SameAs (schemas_of c.args.schemas) (spot_of c.args.at) (all_asked_of c.args.asked.now)) c.in-Some.items (sym c.in-Some.is ∙ c.in_ok-items.ensures)

pub returns-in_ok-items-in-None : goal.returns-in_ok-items-in-None
returns-in_ok-items-in-None c =
    first_behind (keys_asked rule.OneOf (schemas_of c.args.schemas) (spot_of c.args.at) (all_asked_of c.args.asked.now))
    (keys_asked rule.SameAs (schemas_of c.args.schemas) (spot_of c.args.at) (all_asked_of c.args.asked.now)) c.in_ok-items-in-None.items
    (sym c.in-None.is ∙ c.in_ok-items.ensures) c.in_ok-items-in-None.ensures
