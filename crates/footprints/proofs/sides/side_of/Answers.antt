use Rattle.std.proofs.Common.{sym, ◌∙◌, ap, subst}
use Rattle.std.specs.Prelude.{◌≡◌, IfOk}
use Rattle.ledger_model.specs.Conditions as spec
use Rattle.footprints.specs.Lent.{side_of}
use Rattle.footprints.proofs.Naming.{by_path}
use Rattle.footprints.proofs.sides.side_of.Goals as goal

pub returns-in-Path : goal.returns-in-Path
returns-in-Path c =
    subst (λ (x : spec.Side). IfOk c.path_side.result (λ s. side_of s ≡ x))
    (by_path c.args.params.now c.in-Path.path ∙ ap (λ e. (spec.condition_of c.args.params.now e).side) (sym c.in-Path.is))
    (c.path_side.ensures c.args.params.now)
