use Rattle.std.proofs.Common.{◌∙◌, FitsSigned, rules, to_z-of_z}
use Rattle.std.specs.Int.{w128}
use Rattle.versions.specs.Held.{recorded_of}
use Rattle.view_rows.proofs.Shown.{noted}
use Rattle.view_rows.proofs.history.note.Goals as goal

pub returns : goal.returns
returns c =
    let fits : FitsSigned w128 c.began.result = search rules in
    λ later are.
    noted c.args.nexts.now c.insert.new.self (recorded_of c.args.recorded.now) _ later (to_z-of_z fits ∙ c.began.ensures) c.in_ok-insert.ensures.updates.0 are
