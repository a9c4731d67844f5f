-- How deep a value nests (Ion 1.0, "The Ion data model"): 0 for a scalar, one more than the deepest member for a
-- container, and 1 for an empty one.
use Rattle.std.specs.Prelude.{ℕ, ◌+◌, max, List, [], ◌∷◌}
use Rattle.ion_values.specs.declared.value.Value.{Value}
use Rattle.ion_values.specs.declared.value.Field.{Field}
use Rattle.ion_values.specs.declared.value.Body.TheOpen.{Body-F}
use Rattle.ion_values.specs.declared.value.Body.TheFolds.{fold-Value, fold-Field}

abbrev pub deepest : List ℕ → ℕ
deepest [] = 0
deepest (d ∷ ds) = max d (deepest ds)

-- one level, with each member's depth already known
abbrev pub body_step : Body-F ℕ ℕ ℕ → ℕ
body_step (Body-F.List depths) = deepest depths + 1
body_step (Body-F.Sexp depths) = deepest depths + 1
body_step (Body-F.Struct depths) = deepest depths + 1
body_step _ = 0

abbrev pub depth_of : Value → ℕ
depth_of = fold-Value ℕ ℕ ℕ body_step (λ f. f.value) (λ v. v.body)

-- the depth of a field is its value's
abbrev pub field_depth : Field → ℕ
field_depth = fold-Field ℕ ℕ ℕ body_step (λ f. f.value) (λ v. v.body)
