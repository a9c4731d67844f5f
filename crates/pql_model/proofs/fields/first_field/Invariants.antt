use Rattle.std.proofs.Common.{◌≡◌, drop}
use Rattle.pql_model.specs.Steps.{first_field}
use Rattle.pql_model.proofs.fields.first_field.Given as goal

-- the fields in front have other names
abbrev pub invariant-fields : goal.invariant-fields
invariant-fields l = first_field l.name (drop l.field-index l.fields) ≡ first_field l.name l.fields
