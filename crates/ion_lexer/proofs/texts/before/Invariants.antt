use Rattle.std.proofs.Common.{◌≡◌, ◌+◌, false, drop, option_map}
use Rattle.ion_model.specs.Texts.{before}
use Rattle.ion_lexer.specs.Quotes.{marks_of}
use Rattle.ion_lexer.proofs.texts.before.Given as goal

-- the quotes close where they close in what is left
abbrev pub invariant-loop-at : goal.invariant-loop-at
invariant-loop-at l = option_map (λ len. l.at + len) (before (marks_of l.quotes) l.hidden (drop l.at l.bytes)) ≡ before (marks_of l.quotes) false l.bytes
