use Rattle.std.proofs.Common.{◌≡◌, string_bytes, sym, ap, ◌∙◌}
use Rattle.pql_model.specs.declared.statement.Source.{Source}
use Rattle.pql_model.specs.Grammar.{is_variable}
use Rattle.pql_parse.proofs.Known.{knows_more}
use Rattle.pql_parse.proofs.sources.add.Goals as goal

pub returns-clause-knows : goal.returns-clause-knows
returns-clause-knows c = λ text.
    let e = c.args.earlier.now in
    let same : string_bytes c.into_string.result ≡ c.into_inner.result.variable =
    c.into_string.ensures ∙ c.in_ok-variable.ensures ∙ ap (λ (s : Source). s.variable) (c.get.ensures ∙ sym c.into_inner.ensures) in
    knows_more e.variables c.insert.new.self e.sources c.into_inner.result (string_bytes c.into_string.result) same c.requires c.in_ok-insert.ensures.updates text
    ∙ ap (λ ss. is_variable ss text) (sym c.in_ok-push.ensures.ok)
