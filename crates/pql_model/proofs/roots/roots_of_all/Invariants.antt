use Rattle.std.proofs.Common.{◌≡◌, ◌++◌, map, drop}
use Rattle.pql_model.specs.Roots.{root_place}
use Rattle.pql_model.specs.declared.statement.Setting.{Setting}
use Rattle.pql_model.proofs.roots.roots_of_all.Given as goal

-- the places so far and those of the rest are all
abbrev pub invariant-settings : goal.invariant-settings
invariant-settings l =
    l.roots ++ map (root_place l.sources) (map (λ (s : Setting). s.target) (drop l.setting-index l.settings))
    ≡ map (root_place l.sources) (map (λ (s : Setting). s.target) l.settings)
