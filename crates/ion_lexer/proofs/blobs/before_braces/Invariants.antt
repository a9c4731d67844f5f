use Rattle.std.proofs.Common.{◌≡◌, ◌+◌, drop, option_map}
use Rattle.ion_model.specs.Lobs.{before_braces}
use Rattle.ion_lexer.specs.Blobs.{hides_none}
use Rattle.ion_lexer.proofs.blobs.before_braces.Given as goal

-- the braces close where they close in what is left
abbrev pub invariant-loop-at : goal.invariant-loop-at
invariant-loop-at l = option_map (λ len. l.at + len) (before_braces hides_none 0 (drop l.at l.bytes)) ≡ before_braces hides_none 0 l.bytes
