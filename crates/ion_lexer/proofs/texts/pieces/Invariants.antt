use Rattle.std.proofs.Common.{◌≡◌, ◌++◌, length, option_map}
use Rattle.ion_model.specs.Texts.{pieces}
use Rattle.ion_lexer.specs.Quotes.{front_of}
use Rattle.ion_lexer.proofs.texts.pieces.Given as goal

-- what was read stands before what is left
abbrev pub invariant-pieces : goal.invariant-pieces
invariant-pieces l = option_map (λ more. l.out.items ++ more) (pieces (front_of l.quotes l.content) 0 l.rest) ≡ pieces (front_of l.quotes l.content) 0 l.bytes

abbrev pub decreases-pieces : goal.decreases-pieces
decreases-pieces l = length l.rest
