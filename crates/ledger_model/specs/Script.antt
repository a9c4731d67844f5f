-- The statements that values spell, and the jobs of a script with their places.
use Rattle.std.specs.Prelude.{ℕ, ◌+◌, ◌&&◌, List, [], ◌∷◌, ◌++◌, codes, Option, Some, None, option_map, if◌then◌else◌}
use Rattle.std.specs.Str.{bytes_eq}
use Rattle.ion_values.specs.declared.value.Value.{Value}
use Rattle.ion_values.specs.declared.value.Field.{Field}
use Rattle.ql_types.specs.declared.Place.{Place}
use Rattle.ledger_model.specs.declared.script.Request.{Request}
use Rattle.ledger_model.specs.declared.script.Job.{Job}
use Rattle.ledger_model.specs.Values.{string_in, list_in, fields_in}

abbrev pub and_then : {A B : Type 0} → Option A → (A → Option B) → Option B
and_then None f = None
and_then (Some x) f = f x

abbrev pub or_else : {A : Type 0} → Option A → Option A → Option A
or_else None other = other
or_else (Some x) other = Some x

-- all of these, where each is there
abbrev pub each : {A B : Type 0} → (A → Option B) → List A → Option (List B)
each f [] = Some []
each f (x ∷ xs) = and_then (f x) (λ y. option_map (λ ys. y ∷ ys) (each f xs))

-- ---- a statement is its text, or a struct of its text and its parameters

abbrev pub text_alone : List ℕ → Request
text_alone text = record { text = text; params = [] }

abbrev pub in_fields : Field → Field → Option Request
in_fields f g =
    if bytes_eq f.name (codes "text") && bytes_eq g.name (codes "params")
    then and_then (string_in f.value)
    (λ text. option_map (λ params. record { text = text; params = params }) (list_in g.value))
    else None

-- the two fields in either order
abbrev pub in_two : List Field → Option Request
in_two (f ∷ g ∷ []) = or_else (in_fields f g) (in_fields g f)
in_two _ = None

abbrev pub request_of : Value → Option Request
request_of v = or_else (option_map text_alone (string_in v)) (and_then (fields_in v) in_two)

-- ---- the jobs of a script and their places

-- a job and where it stands
pub record Placed : Type 0 where
  pub place : Place
  pub job : Job

-- a session's jobs, the first one at this place
abbrev pub placed_from : ℕ → ℕ → List Job → List Placed
placed_from session transaction [] = []
placed_from session transaction (job ∷ jobs) =
    record { place = record { session = session; transaction = transaction }; job = job }
    ∷ placed_from session (transaction + 1) jobs

-- the jobs of the sessions, of which the first one has this number
abbrev pub all_placed_from : ℕ → List (List Job) → List Placed
all_placed_from session [] = []
all_placed_from session (jobs ∷ more) = placed_from session 1 jobs ++ all_placed_from (session + 1) more

-- the jobs of a script in order, sessions and transactions counted from 1
abbrev pub all_placed : List (List Job) → List Placed
all_placed script = all_placed_from 1 script
