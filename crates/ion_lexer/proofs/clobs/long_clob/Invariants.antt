use Rattle.std.proofs.Common.{length}
use Rattle.ion_model.specs.Lobs.{long_clob}
use Rattle.ion_model.specs.Texts.{pieces}
use Rattle.ion_lexer.proofs.Reading.{Reads}
use Rattle.ion_lexer.proofs.clobs.long_clob.Given as goal

-- what was read stands before what is left
abbrev pub invariant-segments : goal.invariant-segments
invariant-segments l = Reads long_clob l.out.items l.rest (pieces long_clob 0 l.bytes)

abbrev pub decreases-segments : goal.decreases-segments
decreases-segments l = length l.rest
