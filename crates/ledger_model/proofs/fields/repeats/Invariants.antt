use Rattle.std.proofs.Common.{◌≡◌, ◌≤◌, ℕ, List, length, drop, false}
use Rattle.std.specs.List.{list_any}
use Rattle.std.specs.BTreeSet.{contains_by}
use Rattle.std.specs.Ordering.{nat_cmp}
use Rattle.std.specs.Cmp.Lexicographic.{slice_cmp}
use Rattle.ledger_model.specs.ReadScript.{has_name, repeats}
use Rattle.ledger_model.proofs.fields.repeats.Given as goal

-- the set has the names of the fields from here on, of which none stands twice
abbrev pub invariant-fields : goal.invariant-fields
invariant-fields l = record {
  within : l.left ≤ length l.fields;
  members : (name : List ℕ) → contains_by (λ k. slice_cmp nat_cmp name k.now) l.names ≡ list_any (has_name name) (drop l.left l.fields);
  distinct : repeats (drop l.left l.fields) ≡ false;
}

abbrev pub decreases-fields : goal.decreases-fields
decreases-fields l = l.left
