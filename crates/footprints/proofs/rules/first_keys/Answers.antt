use Rattle.std.proofs.Common.{◌++◌, sym, ◌∙◌}
use Rattle.footprints.specs.Lent.{all_asked_of, schemas_of, spot_of}
use Rattle.footprints.specs.Rules.{keys_asked}
use Rattle.footprints.specs.declared.rules.Rule.{Rule}
use Rattle.footprints.specs.declared.rules.Rule.TheVariants as rule
use Rattle.footprints.proofs.Firsts.{first_behind, first_front}
use Rattle.footprints.proofs.rules.first_keys.Goals as goal

pub returns-in-Some : goal.returns-in-Some
returns-in-Some c =
    let by = λ (r : Rule). keys_asked r (schemas_of c.args.schemas) (spot_of c.args.at) (all_asked_of c.args.asked.now) in
    first_front (by rule.EqualTo) (by rule.OneOf ++ by rule.SameAs) c.in-Some.items (sym c.in-Some.is ∙ c.in_ok-items.ensures)

pub returns-in_ok-items-in-None : goal.returns-in_ok-items-in-None
returns-in_ok-items-in-None c =
    let by = λ (r : Rule). keys_asked r (schemas_of c.args.schemas) (spot_of c.args.at) (all_asked_of c.args.asked.now) in
    first_behind (by rule.EqualTo) (by rule.OneOf ++ by rule.SameAs) c.in_ok-items-in-None.items
    (sym c.in-None.is ∙ c.in_ok-items.ensures) c.in_ok-items-in-None.ensures
