use Rattle.std.proofs.Common.{◌≡◌}
use Rattle.pql_model.specs.Changes.{without_field}
use Rattle.pql_change.proofs.members.without_field.Given as goal

abbrev pub invariant-fields : goal.invariant-fields
invariant-fields l = l.kept ≡ without_field l.name l.yielded
