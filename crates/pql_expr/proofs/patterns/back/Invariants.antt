use Rattle.std.proofs.Common.{◌≡◌, ◌≤◌, take, length}
use Rattle.pql_model.specs.Texts.{fits}
use Rattle.pql_expr.proofs.patterns.back.Given as goal

-- what is left of the text fits what is left of the pattern exactly where the whole fits
abbrev pub invariant-characters : goal.invariant-characters
invariant-characters l = record {
  told : fits l.pattern l.text ≡ fits (take l.pattern_left l.pattern) (take l.text_left l.text);
  within : l.pattern_left ≤ length l.pattern;
  short : l.text_left ≤ length l.text;
}

abbrev pub decreases-characters : goal.decreases-characters
decreases-characters l = l.pattern_left
