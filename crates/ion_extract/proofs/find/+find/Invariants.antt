use Rattle.std.proofs.Common.{◌≡◌, drop, length, map}
use Rattle.std.specs.List.{All, AllByRecursion}
use Rattle.ion_values.specs.Equivalent.{in_order, is_equivalent}
use Rattle.hash_model.specs.Serialize.{serialize}
use Rattle.ion_extract.specs.Laws.{AreOne}
use Rattle.ion_extract.proofs.find.+find.Given as goal

abbrev pub invariant-find_in_values-members : goal.invariant-find_in_values-members
invariant-find_in_values-members l =
    record {
      lengths : length l.vs ≡ length l.ws;
      bytes : map serialize (drop l.at l.vs) ≡ map serialize (drop l.at l.ws);
      told : in_order (map is_equivalent (drop l.at l.vs)) (drop l.at l.ws) ≡ in_order (map is_equivalent l.vs) l.ws;
    }

abbrev pub invariant-find_in_fields-fields : goal.invariant-find_in_fields-fields
invariant-find_in_fields-fields l =
    AllByRecursion (λ f. All (AreOne f) l.gs) (drop l.field-index l.fs) → AllByRecursion (λ f. All (AreOne f) l.gs) l.fs

abbrev pub invariant-find_among-others : goal.invariant-find_among-others
invariant-find_among-others l =
    AllByRecursion (AreOne l.field) (drop l.other-index l.others) → AllByRecursion (AreOne l.field) l.others
