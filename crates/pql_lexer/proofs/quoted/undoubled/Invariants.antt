use Rattle.std.proofs.Common.{◌≡◌, ◌++◌, drop, false}
use Rattle.pql_model.specs.Tokens.{undoubled}
use Rattle.pql_lexer.proofs.quoted.undoubled.Given as goal

-- what was read stands before what is left
abbrev pub invariant-loop-byte : goal.invariant-loop-byte
invariant-loop-byte l = l.out.items ++ undoubled l.quote l.after (drop l.byte-index l.bytes) ≡ undoubled l.quote false l.bytes
