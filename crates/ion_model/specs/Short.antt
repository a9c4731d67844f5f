-- No list of a value is longer than a number says: not its annotations, members or fields, nor those of a value
-- inside (Ion 1.0, "The Ion data model"). The values of a text are such at its length.
use Rattle.std.specs.Prelude.{ℕ, ◌&&◌, Bool, true, nat_le, List, length}
use Rattle.std.specs.List.{list_all}
use Rattle.ion_values.specs.Within.{all_true}
use Rattle.ion_values.specs.declared.value.Value.{Value}
use Rattle.ion_values.specs.declared.value.Field.{Field}
use Rattle.ion_values.specs.declared.value.Body.{Body}
use Rattle.ion_values.specs.declared.value.Body.TheOpen.{Body-F, Field-F, Value-F}
use Rattle.ion_values.specs.declared.value.Body.TheFolds.{fold-Value, fold-Field, fold-Body}

-- one level, with each value inside already judged
abbrev pub body_step : ℕ → Body-F Bool Bool Bool → Bool
body_step most (Body-F.List values) = nat_le (length values) most && all_true values
body_step most (Body-F.Sexp values) = nat_le (length values) most && all_true values
body_step most (Body-F.Struct fields) = nat_le (length fields) most && all_true fields
body_step most _ = true

abbrev pub field_step : Field-F Bool Bool Bool → Bool
field_step f = f.value

abbrev pub value_step : ℕ → Value-F Bool Bool Bool → Bool
value_step most v = nat_le (length v.annotations) most && v.body

abbrev pub is_short : ℕ → Value → Bool
is_short most = fold-Value Bool Bool Bool (body_step most) field_step (value_step most)

abbrev pub body_short : ℕ → Body → Bool
body_short most = fold-Body Bool Bool Bool (body_step most) field_step (value_step most)

abbrev pub field_short : ℕ → Field → Bool
field_short most = fold-Field Bool Bool Bool (body_step most) field_step (value_step most)

-- the same for values that stand in a list
abbrev pub all_short : ℕ → List Value → Bool
all_short most values = nat_le (length values) most && list_all (is_short most) values
