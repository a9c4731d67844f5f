use Rattle.std.proofs.Common.{◌≡◌, ◌≤◌, ◌-◌, ◌++◌, drop, length}
use Rattle.pql_model.specs.Tokens.{tokens, tokens_from}
use Rattle.pql_lexer.proofs.tokens.Given as goal

-- what was read stands before what is left
abbrev pub invariant-tokens : goal.invariant-tokens
invariant-tokens l = record {
  within : l.at ≤ length l.text;
  asked : l.asked ≤ l.at;
  same : l.tokens ++ tokens_from 0 l.asked l.at (drop l.at l.text) ≡ tokens l.text;
}

abbrev pub decreases-tokens : goal.decreases-tokens
decreases-tokens l = length l.text - l.at
