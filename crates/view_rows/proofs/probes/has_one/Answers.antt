use Rattle.std.proofs.Common.{sym, ap, ◌∙◌}
use Rattle.pql_model.specs.Tables.{has_one}
use Rattle.view_rows.proofs.Naming.{none_found}
use Rattle.view_rows.proofs.probes.has_one.Goals as goal

pub returns-in-None : goal.returns-in-None
returns-in-None c =
    sym (none_found c.args.keys.now) ∙ ap (has_one c.args.keys.now) (sym c.in-None.is ∙ c.in_ok-found.ensures)
