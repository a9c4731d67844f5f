use Rattle.ion_model.proofs.TextsUtf8.{texts_are_utf8}
use Rattle.ion_model.proofs.laws.texts_are_utf8.Goals as goal

pub returns : goal.returns
returns c = texts_are_utf8
