use Rattle.std.proofs.Common.{◌≡◌, drop}
use Rattle.std.specs.List.{list_any}
use Rattle.pql_model.specs.Roots.{is_at}
use Rattle.pql_model.proofs.roots.has_root.Given as goal

-- those in front are others
abbrev pub invariant-roots : goal.invariant-roots
invariant-roots l = list_any (is_at l.place) (drop l.root-index l.roots) ≡ list_any (is_at l.place) l.roots
