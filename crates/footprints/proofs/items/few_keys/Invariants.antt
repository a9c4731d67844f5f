use Rattle.std.proofs.Common.{◌≡◌, ◌≤◌, length, drop}
use Rattle.std.specs.List.{filter_map}
use Rattle.ion_order.specs.Key.{key_of}
use Rattle.ion_values.specs.Keys.{is_same_key}
use Rattle.ledger_model.specs.Footprints.{each_once, each_once_behind}
use Rattle.footprints.specs.Lent.{values_lent}
use Rattle.footprints.proofs.items.few_keys.Given as goal

-- those so far, few, with the rest behind them are all, each once
abbrev pub invariant-values : goal.invariant-values
invariant-values l = record {
  few : length l.keys ≤ 100;
  all : each_once_behind is_same_key l.keys (filter_map key_of (values_lent (drop l.value-index l.values)))
      ≡ each_once is_same_key (filter_map key_of (values_lent l.values));
}
