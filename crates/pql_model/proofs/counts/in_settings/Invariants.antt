use Rattle.std.proofs.Common.{◌≡◌, ◌≤◌, ◌+◌, map, min, drop}
use Rattle.std.specs.List.{sum}
use Rattle.pql_model.specs.Parameters.{in_setting}
use Rattle.pql_model.proofs.counts.in_settings.Given as goal

abbrev pub invariant-loop-setting : goal.invariant-loop-setting
invariant-loop-setting l =
    record { told : min (l.count + sum (map in_setting (drop l.setting-index l.settings))) 4294967295 ≡ min (sum (map in_setting l.settings)) 4294967295; fits : l.count ≤ 4294967295 }
