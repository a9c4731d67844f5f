-- What is done at the end of a path: with a member of the value there, or with the value itself.
use Rattle.std.specs.Prelude.{List, [], ◌∷◌}
use Rattle.ion_values.specs.declared.value.Value.{Value}
use Rattle.pql_model.specs.declared.selector.Selector.{Selector}
use Rattle.pql_model.specs.Changes.{inside, put_in_list, remove_member, set_member}
use Rattle.pql_change.specs.declared.edits.Edit.{Edit}
use Rattle.pql_change.specs.declared.edits.Edit.TheVariants as edit

abbrev pub done : Edit → Value → Value
done (edit.Set member new) = set_member new member
done (edit.Put at new) = put_in_list new at
done (edit.Remove member) = remove_member member

-- inside the members that the path asks for, one in the other
abbrev pub at_end : (Value → Value) → List Selector → Value → Value
at_end f [] v = f v
at_end f (s ∷ ss) v = inside (at_end f ss) s v
