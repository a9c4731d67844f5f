use Rattle.std.proofs.Common.{◌∙◌, ap}
use Rattle.std.specs.List.{fold}
use Rattle.ion_text.specs.Comparing.{without}
use Rattle.ion_text.proofs.Compared.{step_refused, step_taken}
use Rattle.ion_text.proofs.writing.comparison.Comparison.step_over.Goals as goal

pub returns-in-Some : goal.returns-in-Some
returns-in-Some c =
    step_taken c.self.inside.agrees c.self.inside.rest.now c.args.piece.now c.in-Some.rest.now
    c.in-Some.ensures.cases.0 c.in-Some.ensures.cases.1
    ∙ ap (λ s. fold without s c.args.piece.now) c.self.view_is

pub returns-in-None : goal.returns-in-None
returns-in-None c =
    step_refused c.self.inside.agrees c.self.inside.rest.now c.args.piece.now c.in-None.ensures.cases
    ∙ ap (λ s. fold without s c.args.piece.now) c.self.view_is
