-- Tables of what the names of sources mean.
use Rattle.std.specs.Prelude.{◌≡◌, ℕ, Bool, false, nat_lt, List, [], ◌∷◌, take, Option, Some, None, option_map, ◌||◌, if◌then◌else◌}
use denote.Ref.{Bor}
use Rattle.std.specs.List.{list_any}
use Rattle.std.specs.Str.{bytes_eq}
use Rattle.std.specs.BTreeMap.{BTreeMap, get_by}
use Rattle.std.specs.Ordering.{nat_cmp}
use Rattle.std.specs.Cmp.Lexicographic.{slice_cmp}
use Rattle.pql_model.specs.declared.statement.Source.{Source}
use Rattle.pql_model.specs.Productions.{Fault}
use Rattle.pql_model.specs.declared.statement.SourceKind.{SourceKind}
use Rattle.pql_model.specs.Names.{is_id}
use Rattle.pql_model.specs.Rules.{is_table, is_target_of_one}
use Rattle.pql_parse.specs.declared.rules.meanings.Meaning.{Meaning}
use Rattle.pql_parse.specs.declared.rules.meanings.Meaning.TheVariants as meaning
use Rattle.pql_parse.specs.declared.rules.Fault.{Fault as FaultInCode}

abbrev pub fault_of : FaultInCode → Fault
fault_of f = record { at = f.at; kind = f.kind }

-- what a table has for a name
abbrev pub found : {A : Type 0} → List ℕ → BTreeMap (Bor (List ℕ)) A → Option A
found name table = get_by (λ k. slice_cmp nat_cmp name k.now) table

abbrev pub is_below : ℕ → Option ℕ → Bool
is_below n (Some first) = nat_lt first n
is_below n None = false

-- whether a source has this name as its variable or as its BY name
abbrev pub has_name : List ℕ → Source → Bool
has_name name s = is_id name s.id_name || bytes_eq s.variable name

abbrev pub has_variable : List ℕ → Source → Bool
has_variable name s = bytes_eq s.variable name

-- The table has the first source of each name that passes the test.
abbrev pub HasFirsts : (List ℕ → Source → Bool) → BTreeMap (Bor (List ℕ)) ℕ → List Source → Type 0
HasFirsts test table sources =
    (name : List ℕ) (n : ℕ) → list_any (test name) (take n sources) ≡ is_below n (found name table)

-- what a name means of a source
pub data Meant : Type 0 where
  Variable : SourceKind → Meant
  Id : Meant

abbrev pub meant_by : List ℕ → Source → Option Meant
meant_by name s =
    if is_id name s.id_name then Some Id else (if bytes_eq s.variable name then Some (Variable s.from) else None)

abbrev pub or_else : Option Meant → Option Meant → Option Meant
or_else (Some m) before = Some m
or_else None before = before

-- the last source that has the name
abbrev pub meaning_of : List ℕ → List Source → Option Meant
meaning_of name [] = None
meaning_of name (s ∷ ss) = or_else (meaning_of name ss) (meant_by name s)

abbrev pub told : Meant → Meaning
told (Variable from) = if is_table from then meaning.Table else meaning.Other
told Id = meaning.Id

-- The table has what each name means.
abbrev pub HasMeanings : BTreeMap (Bor (List ℕ)) Meaning → List Source → Type 0
HasMeanings table sources = (name : List ℕ) → found name table ≡ option_map told (meaning_of name sources)

-- what a change may be put on, by what its first name means
abbrev pub is_meant : Bool → List Source → Option Meaning → Bool
is_meant has_steps sources (Some meaning.Table) = has_steps
is_meant has_steps sources (Some _) = false
is_meant has_steps sources None = is_target_of_one sources
