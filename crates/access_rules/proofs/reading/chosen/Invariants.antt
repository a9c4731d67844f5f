use Rattle.std.proofs.Common.{◌≡◌, drop}
use Rattle.std.specs.List.{list_all}
use Rattle.std.specs.Option.{option_or}
use Rattle.access_rules.specs.ReadRules.{is_set, rules_in, said}
use Rattle.access_rules.proofs.reading.chosen.Given as goal

-- those in front are sets of rules, and what was found is the first of that name
abbrev pub invariant-sets : goal.invariant-sets
invariant-sets l = record {
  sets : list_all is_set (drop l.field-index l.fields) ≡ list_all is_set l.fields;
  first : option_or l.found (said rules_in l.name (drop l.field-index l.fields)) ≡ said rules_in l.name l.fields;
}
