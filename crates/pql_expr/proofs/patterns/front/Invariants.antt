use Rattle.std.proofs.Common.{◌≡◌, ◌≤◌, ◌-◌, drop, length}
use Rattle.pql_model.specs.Texts.{fits}
use Rattle.pql_expr.proofs.patterns.front.Given as goal

-- what is left of the text fits what is left of the pattern exactly where the whole fits
abbrev pub invariant-characters : goal.invariant-characters
invariant-characters l = record {
  told : fits l.pattern l.text ≡ fits (drop l.at l.pattern) (drop l.at l.text);
  within : l.at ≤ length l.pattern;
  short : l.at ≤ length l.text;
}

abbrev pub decreases-characters : goal.decreases-characters
decreases-characters l = length l.pattern - l.at
