use Rattle.std.proofs.Common.{◌≡◌, drop}
use Rattle.std.specs.List.{list_all}
use Rattle.ion_values.specs.Within.{text_within}
use Rattle.ion_values.proofs.ranges.texts_are_within.Given as goal

-- those in front are within
abbrev pub invariant-texts : goal.invariant-texts
invariant-texts l = list_all text_within (drop l.text-index l.texts) ≡ list_all text_within l.texts
