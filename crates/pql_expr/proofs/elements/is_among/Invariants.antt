use Rattle.std.proofs.Common.{◌≡◌, ◌||◌, drop, map}
use Rattle.std.specs.List.{list_any}
use Rattle.pql_model.specs.Lists.{is_equal_to, is_null_answer}
use Rattle.pql_model.specs.Logic.{is_true, truth_in}
use Rattle.pql_expr.proofs.elements.is_among.Given as goal

abbrev pub invariant-values : goal.invariant-values
invariant-values l = record {
  equal : list_any (λ e. is_true (truth_in e)) (map (is_equal_to l.x) (drop l.value-index l.values)) ≡ list_any (λ e. is_true (truth_in e)) (map (is_equal_to l.x) l.values);
  unclear : (l.unclear || list_any is_null_answer (map (is_equal_to l.x) (drop l.value-index l.values))) ≡ list_any is_null_answer (map (is_equal_to l.x) l.values);
}
