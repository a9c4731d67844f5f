-- A transaction's statements keep what holds of it so far: one more kind of statement is one more case.
use Rattle.std.proofs.Common.{◌≡◌, ◌+◌, ℕ, Bool, true, false, List, [], ◌∷◌, Option, Some, None, Result, Ok, Err, refl, subst, if◌then◌else◌}
use Rattle.std.specs.List.{AllByRecursion}
use Rattle.std.proofs.lemmas.Bool.{leb-true}
use Rattle.ion_values.specs.Depth.{depth_of}
use Rattle.ion_values.specs.declared.value.Value.{Value}
use Rattle.pql_model.specs.declared.statement.Statement.{Statement}
use Rattle.pql_model.specs.declared.statement.Statement.TheVariants as statement
use Rattle.pql_model.specs.Parse.{parsed}
use Rattle.ledger_model.specs.declared.script.Request.{Request}
use Rattle.ledger_model.specs.declared.outcome.Refusal.{Refusal}
use Rattle.ledger_model.specs.State.{State}
use Rattle.ledger_model.specs.Footprints.{footprint_of}
use Rattle.ledger_model.specs.Statements.{statement_of}
use Rattle.ledger_model.specs.Run.{Begun, Progress, Effect, Ran, ran, refused, is_shallow, told_depth, first_deep, done_by_statement, schemas_now, effect_of, if_read, if_shallow, recorded, step, then_run, run_from, run, start, views_of}
use Rattle.laws_validity.proofs.Lists.{all_push}
use Rattle.laws_validity.proofs.Shapes.{Shallow}
use Rattle.laws_validity.proofs.Statements.{Reads, request_reads}
use Rattle.laws_validity.proofs.Ready.{IsReady}
use Rattle.laws_validity.proofs.Progress.{ShallowSaid, none_made}
use Rattle.laws_validity.proofs.Effects.{MadeBy, FineProgress, Leaves, reading_leaves}
use Rattle.laws_validity.proofs.Creates.{leaves_create}
use Rattle.laws_validity.proofs.SchemaChanges.{leaves_drop, leaves_index}
use Rattle.laws_validity.proofs.Redacting.{leaves_redact}
use Rattle.laws_validity.proofs.Writes.{leaves_change, leaves_delete}
use Rattle.laws_validity.proofs.Inserts.{leaves_insert}
use Rattle.laws_validity.proofs.Selects.{leaves_select}

-- ---- parameters that don't nest too deep

shallow_first : (v : Value) (rest : Option ℕ) → (if is_shallow v then rest else Some (told_depth v)) ≡ None
    → (is_shallow v ≡ true) × (rest ≡ None)
shallow_first v rest e = go (is_shallow v) refl e where
  go : (b : Bool) → is_shallow v ≡ b → (if b then rest else Some (told_depth v)) ≡ None
      → (is_shallow v ≡ true) × (rest ≡ None)
  go true t k = (t, k)
  go false t k = cc

params_shallow : (vs : List Value) → first_deep vs ≡ None → AllByRecursion (Shallow 64) vs
params_shallow [] e = tt
params_shallow (v ∷ vs) e = let both =
    shallow_first v (first_deep vs) e in (leb-true (depth_of v) 64 both.0, params_shallow vs both.1)

module _ (b : Begun) (s : State) (ready : IsReady b s) where
  -- ---- one statement

  leaves_statement : (p : Progress) (params : List Value) (text : List ℕ) (st : Statement) → MadeBy b s p
      → AllByRecursion (Shallow 64) params → parsed text ≡ Ok st
      → Leaves b s p (done_by_statement b s p params st)
  leaves_statement p params text (statement.Create name) m given e = leaves_create b s ready p name m
  leaves_statement p params text (statement.Index name field) m given e = leaves_index b s ready p name field m
  leaves_statement p params text (statement.Drop name) m given e = leaves_drop b s ready p name m
  leaves_statement p params text (statement.Insert name value) m given e = leaves_insert b s ready p params name value m
  leaves_statement p params text (statement.Select select from) m given e =
      leaves_select b s ready p params text select from m given e
  leaves_statement p params text (statement.Update from c) m given e = leaves_change b s ready p params from c m
  leaves_statement p params text (statement.From from c) m given e = leaves_change b s ready p params from c m
  leaves_statement p params text (statement.Delete from) m given e = leaves_delete b s ready p params from m
  leaves_statement p params text (statement.Redact address table document) m given e =
      leaves_redact b s p params address table document m

  leaves_effect : (p : Progress) (params : List Value) (text : List ℕ) (st : Statement) → MadeBy b s p
      → AllByRecursion (Shallow 64) params → parsed text ≡ Ok st
      → Leaves b s p (effect_of b s p params st)
  leaves_effect p params text st m given e =
      reading_leaves b s p (footprint_of (schemas_now s p) (views_of s p) params st) _ (leaves_statement p params text st m given e)

  abbrev Keeps : Result Progress Refusal → Type 0
  Keeps (Ok q) = FineProgress b s q
  Keeps (Err cause) = Unit {0}

  recorded_keeps : (p : Progress) (r : Request) → FineProgress b s p → first_deep r.params ≡ None
      → (x : Result Effect Refusal) → Leaves b s p x
      → Keeps (recorded p r x)
  recorded_keeps p r so e (Err cause) h = tt
  recorded_keeps p r so e (Ok effect) h = record {
    said = all_push ShallowSaid p.said _ so.said (record { params = params_shallow r.params e; rows = h.rows });
    made = h.made;
  }

  shallow_keeps : (p : Progress) (r : Request) → FineProgress b s p → (o : Option ℕ) → first_deep r.params ≡ o
      → (x : Result Effect Refusal)
      → (AllByRecursion (Shallow 64) r.params → Leaves b s p x) → Keeps (recorded p r (if_shallow o x))
  shallow_keeps p r so (Some depth) e x h = tt
  shallow_keeps p r so None e x h = recorded_keeps p r so e x (h (params_shallow r.params e))

  read_keeps : (p : Progress) (r : Request) → FineProgress b s p → (x : Result Statement Refusal) → Reads r.text x
      → Keeps (recorded p r (if_read (λ st. if_shallow (first_deep r.params) (effect_of b s p r.params st)) x))
  read_keeps p r so (Err cause) h = tt
  read_keeps p r so (Ok st) h =
      shallow_keeps p r so (first_deep r.params) refl (effect_of b s p r.params st)
      (λ given. leaves_effect p r.params r.text st so.made given h)

  step_keeps : (p : Progress) (r : Request) → FineProgress b s p → Keeps (step b s p r)
  step_keeps p r so = read_keeps p r so (statement_of r) (request_reads r)

  -- ---- all statements

  abbrev Ends : Ran → Type 0
  Ends (ran q) = FineProgress b s q
  Ends (refused j cause) = Unit {0}

  then_keeps : (j : ℕ) (rest : Progress → Ran) → ((q : Progress) → FineProgress b s q → Ends (rest q))
      → (x : Result Progress Refusal) → Keeps x → Ends (then_run j x rest)
  then_keeps j rest f (Ok q) h = f q h
  then_keeps j rest f (Err cause) h = tt

  run_from-keeps : (rs : List Request) (j : ℕ) (p : Progress) → FineProgress b s p → Ends (run_from b s j p rs)
  run_from-keeps [] j p so = so
  run_from-keeps (r ∷ rs) j p so =
      then_keeps j _ (λ q more. run_from-keeps rs (j + 1) q more) (step b s p r) (step_keeps p r so)

  -- where all statements were done, it holds of what they did
  pub so_far_of : (asked : List Request) (q : Progress) → run b s asked ≡ ran q → FineProgress b s q
  so_far_of asked q all = subst Ends all (run_from-keeps asked 1 start (record { said = tt; made = none_made b s }))
