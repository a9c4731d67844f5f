use Rattle.std.proofs.Common.{◌≡◌, ◌≤◌, ◌+◌, ◌-◌, drop, length, option_map}
use Rattle.ion_model.specs.Lobs.{before_braces, clob_hides}
use Rattle.ion_lexer.proofs.clobs.before_clob_braces.Given as goal

-- the braces close where they close in what is left
abbrev pub invariant-loop-at : goal.invariant-loop-at
invariant-loop-at l = record {
  within : l.at ≤ length l.bytes;
  same : option_map (λ len. l.at + len) (before_braces clob_hides 0 (drop l.at l.bytes)) ≡ before_braces clob_hides 0 l.bytes;
}

abbrev pub decreases-loop-at : goal.decreases-loop-at
decreases-loop-at l = length l.bytes - l.at
