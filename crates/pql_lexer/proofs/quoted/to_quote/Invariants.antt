use Rattle.std.proofs.Common.{◌≡◌, ◌+◌, ◌<◌, drop, option_map, true, false}
use Rattle.pql_model.specs.Tokens.{to_quote}
use Rattle.pql_lexer.proofs.quoted.to_quote.Given as goal

-- the quote closes where it closes in what is left
abbrev pub invariant-loop-at : goal.invariant-loop-at
invariant-loop-at l = record {
  same : option_map (λ len. l.at + len) (to_quote l.quote l.after (drop l.at l.bytes)) ≡ to_quote l.quote false l.bytes;
  some : l.after ≡ true → 0 < l.at;
}
