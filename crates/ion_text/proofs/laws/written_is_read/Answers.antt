-- A text that is UTF-8 is read from its first byte on.
use Rattle.std.proofs.Common.{◌∙◌}
use Rattle.std.proofs.lemmas.Bool.{cond-true}
use Rattle.ion_model.specs.Read.{read_text}
use Rattle.ion_text.proofs.ReadBack.{run_back}
use Rattle.ion_text.proofs.ValueUtf8.{written_is_utf8}
use Rattle.ion_text.proofs.laws.written_is_read.Goals as goal

pub returns : goal.returns
unfolding read_text
returns c = λ v depth h room. cond-true _ _ _ (written_is_utf8 v h) ∙ run_back v depth h room
