use Rattle.std.proofs.Common.{map, sym, ◌∙◌, ap}
use Rattle.std.specs.Prelude.{option_map}
use Rattle.ledger_model.specs.Conditions.{all_names, named}
use Rattle.footprints.specs.Lent.{texts}
use Rattle.footprints.specs.Sides.{step_of}
use Rattle.footprints.proofs.Naming.{path_is}
use Rattle.footprints.proofs.sides.path_side.Goals as goal

pub returns-in-Some : goal.returns-in-Some
returns-in-Some c = λ params.
    ap (named c.args.path.now.first)
    (ap (option_map texts) (sym c.in-Some.is) ∙ c.in_ok-fields.ensures params ∙ ap (λ xs. all_names (map (step_of params) xs)) c.as_slice.ensures)
    ∙ sym (path_is params c.args.path.now)

pub returns-in-None : goal.returns-in-None
returns-in-None c = λ params.
    ap (named c.args.path.now.first)
    (ap (option_map texts) (sym c.in-None.is) ∙ c.in_ok-fields.ensures params ∙ ap (λ xs. all_names (map (step_of params) xs)) c.as_slice.ensures)
    ∙ sym (path_is params c.args.path.now)
