use Rattle.std.proofs.Common.{◌≡◌, drop}
use Rattle.std.specs.List.{position_from}
use Rattle.std.specs.Str.{bytes_eq}
use Rattle.pql_model.specs.Changes.{place_of}
use Rattle.pql_change.proofs.members.place_of.Given as goal

abbrev pub invariant-fields : goal.invariant-fields
invariant-fields l = position_from (λ f. bytes_eq f.name l.name) l.place (drop l.place l.fields) ≡ place_of l.name l.fields
