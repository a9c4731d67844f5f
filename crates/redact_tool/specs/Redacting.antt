-- A set of what blocks redact.
use Rattle.std.specs.Prelude.{◌≡◌, ◌||◌, Bool, List}
use Rattle.std.specs.List.{list_any}
use Rattle.std.specs.Ordering.{nat_cmp, ordering_then}
use Rattle.std.specs.BTreeSet.{contains_by}
use Rattle.ql_types.specs.declared.BlockAddress.{BlockAddress}
use Rattle.ql_types.specs.declared.DocId.{DocId}
use Rattle.ql_types.specs.declared.TableId.{TableId}
use Rattle.ledger_model.specs.declared.block.Block.{Block}
use Rattle.ledger_model.specs.declared.block.Schema.{Schema}
use Rattle.ledger_model.specs.State.{names_revision}
use Rattle.redact_tool.specs.declared.redactions.Redactions.{Redactions}

-- the revision is in it
abbrev pub has_redaction : Redactions → BlockAddress → TableId → DocId → Bool
has_redaction r a t d =
    contains_by (λ k. ordering_then (ordering_then (ordering_then (nat_cmp a.strand.raw k.0) (nat_cmp a.sequence k.1))
    (nat_cmp t.raw k.2)) (nat_cmp d.raw k.3)) r.revisions

-- it has what these blocks redact, and nothing else
abbrev pub AreRedactions : List Block → Redactions → Type 0
AreRedactions blocks r =
    (a : BlockAddress) (t : TableId) (d : DocId)
    → has_redaction r a t d ≡ list_any (λ b. list_any (names_revision a t d) b.info.schema) blocks

-- it has what these changes redact, and what it had before
abbrev pub Takes : Redactions → List Schema → Redactions → Type 0
Takes old changes new =
    (a : BlockAddress) (t : TableId) (d : DocId)
    → has_redaction new a t d ≡ (has_redaction old a t d || list_any (names_revision a t d) changes)
