use Rattle.ion_extract.proofs.Levels.{field_form_is_injective}
use Rattle.ion_extract.proofs.laws.field_form_is_injective.Goals as goal

pub returns : goal.returns
returns c = field_form_is_injective
