-- The parts of a statement's conditions, which are the operands of their topmost ANDs, and what they ask of its sources
-- (the ledger's own rule).
use Rattle.std.specs.Prelude.{ℕ, List, [], ◌∷◌, ◌++◌, map, slice_get, Option, Some, None, option_map, if◌then◌else◌}
use Rattle.std.specs.List.{flat_map}
use Rattle.ion_values.specs.declared.value.Value.{Value}
use Rattle.pql_model.specs.declared.expr.Expr.{Expr}
use Rattle.pql_model.specs.declared.expr.Expr.TheFolds.{fold-Expr}
use Rattle.pql_model.specs.declared.expr.Expr.TheOpen.{Expr-F, Member-F, Path-F, PathStep-F}
use Rattle.pql_model.specs.declared.expr.Operator.{Operator}
use Rattle.pql_model.specs.declared.expr.Operator.TheVariants as op
use Rattle.pql_model.specs.declared.names.Resolved.{Resolved}
use Rattle.pql_model.specs.declared.names.Resolved.TheVariants as resolved
use Rattle.pql_model.specs.declared.statement.FromClause.{FromClause}
use Rattle.pql_model.specs.declared.statement.Source.{Source}
use Rattle.pql_model.specs.Lists.{list_seen}
use Rattle.pql_model.specs.Made.{seen}
use Rattle.pql_model.specs.Names.{called, resolve}
use Rattle.pql_model.specs.Rules.{is_single}

-- ---- parts

-- a side of a part: a constant, MISSING, a path of names, a list of constants without those that are MISSING, or
-- anything else
pub data Side : Type 0 where
  constant : (value : Value) → Side
  missing : Side
  names : (first : List ℕ) (fields : List (List ℕ)) → Side
  constants : (values : List Value) → Side
  other : Side

-- an equation, or that one side is IN the other
pub data Part : Type 0 where
  equation : (left right : Side) → Part
  among : (value list : Side) → Part

-- what an expression is as a side, and its parts
pub record Condition : Type 0 where
  pub side : Side
  pub parts : List Part

abbrev pub alone : Side → Condition
alone side = record { side = side; parts = [] }

abbrev pub part_alone : Part → Condition
part_alone part = record { side = other; parts = part ∷ [] }

abbrev pub given : Option Value → Side
given None = other
given (Some v) = constant v

abbrev pub operated : Operator → Condition → Condition → Condition
operated op.And left right = record { side = other; parts = left.parts ++ right.parts }
operated op.Equal left right = part_alone (equation left.side right.side)
operated _ left right = alone other

-- a step by an index gives no name
abbrev pub step_name : PathStep-F Condition (Option (List ℕ)) (Unit {0}) Side → Option (List ℕ)
step_name (PathStep-F.Field name) = Some name
step_name (PathStep-F.Index i) = None

abbrev pub all_names : List (Option (List ℕ)) → Option (List (List ℕ))
all_names [] = Some []
all_names (None ∷ more) = None
all_names (Some name ∷ more) = option_map (λ fields. name ∷ fields) (all_names more)

abbrev pub named : List ℕ → Option (List (List ℕ)) → Side
named first None = other
named first (Some fields) = names first fields

abbrev pub path_side : Path-F Condition (Option (List ℕ)) (Unit {0}) Side → Side
path_side p = named p.first (all_names p.steps)

abbrev pub no_side : Member-F Condition (Option (List ℕ)) (Unit {0}) Side → Unit {0}
no_side m = tt

-- one more in front of constants, where it is one
abbrev pub with_constant : Side → Option (List Value) → Option (List Value)
with_constant (constant v) more = option_map (λ values. v ∷ values) more
with_constant missing more = more
with_constant _ more = None

abbrev pub all_constants : List Condition → Option (List Value)
all_constants [] = Some []
all_constants (c ∷ more) = with_constant c.side (all_constants more)

abbrev pub list_side : Option (List Value) → Side
list_side None = other
list_side (Some values) = constants values

-- the question marks stand for the parameters
abbrev pub one_level : List Value → Expr-F Condition (Option (List ℕ)) (Unit {0}) Side → Condition
one_level params (Expr-F.Value v) = alone (constant v)
one_level params Expr-F.Missing = alone missing
one_level params (Expr-F.Parameter n) = alone (given (slice_get params n))
one_level params (Expr-F.Path side) = alone side
one_level params (Expr-F.List members) = alone (list_side (all_constants members))
one_level params (Expr-F.Binary o left right) = operated o left right
one_level params (Expr-F.IsIn value list) = part_alone (among value.side list.side)
one_level params _ = alone other

abbrev pub condition_of : List Value → Expr → Condition
condition_of params =
    fold-Expr Condition (Option (List ℕ)) (Unit {0}) Side (one_level params) step_name no_side path_side

abbrev pub parts_in : List Value → Option Expr → List Part
parts_in params None = []
parts_in params (Some e) = (condition_of params e).parts

-- of the ON conditions from the left, and then of the WHERE
abbrev pub parts_of : List Value → FromClause → List Part
parts_of params from =
    flat_map (λ (s : Source). parts_in params s.on) from.sources ++ parts_in params from.filter

-- ---- what a part asks for

-- what a path of names means: the id of the document of a source, or what stands at these names in the source's rows
pub data Meant : Type 0 where
  id_of : (place : ℕ) → Meant
  at_names : (place : ℕ) (fields : List (List ℕ)) → Meant
  unknown : Meant

-- it begins at the only source where its first name means none
abbrev pub meant_as : List Source → List ℕ → List (List ℕ) → Option Resolved → Meant
meant_as sources first fields (Some (resolved.Variable place)) = at_names place fields
meant_as sources first [] (Some (resolved.Id place)) = id_of place
meant_as sources first (field ∷ fields) (Some (resolved.Id place)) = unknown
meant_as sources first fields None = if is_single sources then at_names 0 (first ∷ fields) else unknown

abbrev pub meant : List Source → List ℕ → List (List ℕ) → Meant
meant sources first fields = meant_as sources first fields (resolve first (map called sources))

-- which values are asked for: one that equals a value, one of several, or one that equals what another path means
pub data Wanted : Type 0 where
  equal_to : (value : Value) → Wanted
  one_of : (values : List Value) → Wanted
  same_as : (other : Meant) → Wanted

-- what a row must have
pub record Asked : Type 0 where
  pub of : Meant
  pub wanted : Wanted

-- a path equated with a constant or with a path, in either order
abbrev pub asked_constant : List Source → Value → Side → List Asked
asked_constant sources v (names first fields) =
    record { of = meant sources first fields; wanted = equal_to v } ∷ []
asked_constant sources v _ = []

abbrev pub asked_path : List Source → Meant → Side → List Asked
asked_path sources of (constant v) = record { of = of; wanted = equal_to v } ∷ []
asked_path sources of (names first fields) =
    record { of = of; wanted = same_as (meant sources first fields) }
    ∷ record { of = meant sources first fields; wanted = same_as of } ∷ []
asked_path sources of _ = []

abbrev pub asked_equal : List Source → Side → Side → List Asked
asked_equal sources (constant v) right = asked_constant sources v right
asked_equal sources (names first fields) right = asked_path sources (meant sources first fields) right
asked_equal sources _ right = []

-- the elements of a list of constants, or of a constant that is a list
abbrev pub elements_in : Side → Option (List Value)
elements_in (constants values) = Some values
elements_in (constant v) = list_seen (seen v)
elements_in _ = None

abbrev pub asked_elements : Meant → Option (List Value) → List Asked
asked_elements of None = []
asked_elements of (Some values) = record { of = of; wanted = one_of values } ∷ []

abbrev pub asked_among : List Source → Side → Side → List Asked
asked_among sources (names first fields) list = asked_elements (meant sources first fields) (elements_in list)
asked_among sources _ list = []

abbrev pub asked_by : List Source → Part → List Asked
asked_by sources (equation left right) = asked_equal sources left right
asked_by sources (among value list) = asked_among sources value list

abbrev pub all_asked : List Source → List Part → List Asked
all_asked sources parts = flat_map (asked_by sources) parts
