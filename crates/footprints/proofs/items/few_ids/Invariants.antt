use Rattle.std.proofs.Common.{◌≡◌, ◌≤◌, length, drop}
use Rattle.std.specs.List.{filter_map}
use Rattle.ledger_model.specs.Footprints.{document_in, each_once, each_once_behind, same_document}
use Rattle.footprints.specs.Lent.{values_lent}
use Rattle.footprints.proofs.items.few_ids.Given as goal

-- those so far, few, with the rest behind them are all, each once
abbrev pub invariant-values : goal.invariant-values
invariant-values l = record {
  few : length l.ids ≤ 100;
  all : each_once_behind same_document l.ids (filter_map document_in (values_lent (drop l.value-index l.values)))
      ≡ each_once same_document (filter_map document_in (values_lent l.values));
}
