use Rattle.std.proofs.Common.{◌≡◌, take}
use Rattle.pql_lexer.proofs.front.ascii.Given as goal

abbrev pub invariant-loop-b : goal.invariant-loop-b
invariant-loop-b l = l.text ≡ take l.b-index l.bytes
