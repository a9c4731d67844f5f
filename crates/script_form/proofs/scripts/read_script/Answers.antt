use Rattle.std.proofs.Common.{List, sym, subst}
use Rattle.std.specs.List.{All}
use Rattle.std.proofs.lemmas.List.Elements.{All-take}
use Rattle.ion_values.specs.declared.value.Value.{Value}
use Rattle.script_form.specs.Answers.{IsCountable}
use Rattle.script_form.proofs.scripts.read_script.Goals as goal

pub read_sessions-requires-clause-countable : goal.read_sessions-requires-clause-countable
read_sessions-requires-clause-countable c =
    let all = All-take IsCountable 1024 c.args.values c.requires in
    subst (λ (vs : List Value). All IsCountable vs) (sym c.served.ensures.value) all
