use Rattle.ion_model.specs.Write.{value_text}
use Rattle.ion_text.proofs.Compared.{end_tells}
use Rattle.ion_text.proofs.writing.values.is_text_of.Goals as goal

pub returns : goal.returns
returns c =
    end_tells c.is_at_end.result c.args.text.now (value_text c.args.value.now) _ _
    c.new-rest.ensures c.in-Ok.ensures c.is_at_end.ensures
