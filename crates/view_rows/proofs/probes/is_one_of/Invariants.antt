use Rattle.std.proofs.Common.{◌≡◌, ◌==◌, drop}
use Rattle.std.specs.List.{list_any}
use Rattle.ql_types.specs.declared.DocId.{DocId}
use Rattle.view_rows.proofs.probes.is_one_of.Given as goal

-- it is none of those passed
abbrev pub invariant-ids : goal.invariant-ids
invariant-ids l =
    list_any (λ (other : DocId). l.id.raw == other.raw) (drop l.other-index l.ids)
    ≡ list_any (λ (other : DocId). l.id.raw == other.raw) l.ids
