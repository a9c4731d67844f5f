use Rattle.std.proofs.Common.{◌≡◌, ◌∙◌, IfOk, ap₂, subst}
use Rattle.clap.specs.Words.{App, Rule, app_of, with_rule}
use Rattle.cli_args.specs.Forms.{run_app}
use Rattle.cli_args.proofs.forms.run_form.Goals as goal

more : {a b : App} {r s : Rule} → a ≡ b → r ≡ s → with_rule a r ≡ with_rule b s
more same rules = ap₂ with_rule same rules

pub returns-clause-app : goal.returns-clause-app
unfolding run_app
returns-clause-app c =
    let ids =
    c.in_ok-form-2.ensures
    ∙ more (c.in_ok-form.ensures ∙ more c.bare.ensures c.option.ensures.rule) c.flag.ensures.rule in
    let times = c.in_ok-form-3.ensures ∙ more ids c.option-2.ensures.rule in
    let workers = c.in_ok-form-4.ensures ∙ more times c.option-3.ensures.rule in
    subst (λ (app : App). IfOk c.with-5.result (λ form. app_of form ≡ app)) (more workers c.option-4.ensures.rule)
    c.with-5.ensures
