use Rattle.std.proofs.Common.{◌≡◌, drop}
use Rattle.std.specs.List.{list_any}
use Rattle.ledger_model.specs.declared.outcome.Item.{Item}
use Rattle.ledger_model.specs.Meets.{document_shown, meets}
use Rattle.txn_core.proofs.candidates.shows_one.Given as goal

-- it meets none of those passed
abbrev pub invariant-items : goal.invariant-items
invariant-items l =
    list_any (λ (i : Item). meets l.of.table i (document_shown l.of.kind.now l.row)) (drop l.item-index l.items)
    ≡ list_any (λ (i : Item). meets l.of.table i (document_shown l.of.kind.now l.row)) l.items
