-- What a statement did that wasn't refused, and a transaction of two statements.
use Rattle.std.proofs.Common.{◌≡◌, ℕ, ◌+◌, ◌==◌, Bool, true, false, List, [], ◌∷◌, ◌++◌, length, Option, Some, None, Result, Ok, Err, refl, sym, ap, subst, if◌then◌else◌}
use Rattle.ion_values.specs.declared.value.Value.{Value}
use Rattle.pql_model.specs.declared.statement.Statement.{Statement}
use Rattle.pql_model.specs.Parse.{parsed}
use Rattle.pql_model.specs.Productions.{Fault}
use Rattle.ql_types.specs.declared.TableId.{TableId}
use Rattle.ledger_model.specs.declared.outcome.Item.{Item}
use Rattle.ledger_model.specs.declared.outcome.Refusal.{Refusal}
use Rattle.ledger_model.specs.declared.outcome.Refusal.TheVariants.{ParameterCount}
use Rattle.ledger_model.specs.declared.script.Request.{Request}
use Rattle.ledger_model.specs.Footprints.{footprint_of}
use Rattle.ledger_model.specs.State.{State}
use Rattle.ledger_model.specs.Statements.{counted, statement_of, wanted, with_parameters}
use Rattle.ledger_model.specs.Run.{Begun, Effect, Progress, Ran, changed_by, done_by_statement, effect_of, first_deep, if_read, if_shallow, on_table, ran, reading, recorded, run, schemas_now, start, step, then_run, unless, views_of}

-- ---- the statement of a request

-- is the one that its text gives
counted_as : (s st : Statement) (params : List Value) → counted s params ≡ Ok st → s ≡ st
counted_as s st params h = by (wanted s == length params) h
  where
    by : (b : Bool) → (if b then Ok s else Err (ParameterCount (wanted s) (length params))) ≡ Ok st → s ≡ st
    by true k = cc k
    by false k = let bad : ⊥ = cc k in absurd bad

read_as : (params : List Value) (x : Result Statement Fault) (st : Statement) → with_parameters x params ≡ Ok st → x ≡ Ok st
read_as params (Err fault) st h = let bad : ⊥ = cc h in absurd bad
read_as params (Ok s) st h = ap (λ (y : Statement). Ok y) (counted_as s st params h)

-- ---- one statement

-- the statement that the text gives did this
pub record Stepped (b : Begun) (s : State) (p : Progress) (r : Request) (q : Progress) : Type 0 where
  pub statement : Statement
  pub read : parsed r.text ≡ Ok statement
  pub effect : Effect
  pub done : done_by_statement b s p r.params statement ≡ Ok effect
  pub schema : q.schema ≡ p.schema ++ effect.schema
  pub log : q.log ≡ p.log ++ effect.log
  pub made : q.made ≡ p.made + effect.made

module _ (b : Begun) (s : State) (p : Progress) (r : Request) (q : Progress) where
  by_done : (st : Statement) → parsed r.text ≡ Ok st → (items : List Item) (x : Result Effect Refusal)
      → done_by_statement b s p r.params st ≡ x → recorded p r (reading items x) ≡ Ok q → Stepped b s p r q
  by_done st read items (Err cause) is h = let bad : ⊥ = cc h in absurd bad
  by_done st read items (Ok e) is h =
      let same : record (changed_by p e) {
        said = p.said ++ record { text = r.text; params = r.params; answer = record { rows = e.rows } } ∷ [];
        footprint = p.footprint ++ items;
      } ≡ q = cc h in
      record {
        statement = st;
        read = read;
        effect = e;
        done = is;
        schema = sym (ap (λ (x : Progress). x.schema) same);
        log = sym (ap (λ (x : Progress). x.log) same);
        made = sym (ap (λ (x : Progress). x.made) same);
      }

  by_depth : (st : Statement) → parsed r.text ≡ Ok st → (o : Option ℕ)
      → recorded p r (if_shallow o (effect_of b s p r.params st)) ≡ Ok q → Stepped b s p r q
  by_depth st read (Some depth) h = let bad : ⊥ = cc h in absurd bad
  by_depth st read None h =
      by_done st read (footprint_of (schemas_now s p) (views_of s p) r.params st) (done_by_statement b s p r.params st) refl h

  by_text : (x : Result Statement Refusal) → statement_of r ≡ x
      → recorded p r (if_read (λ st. if_shallow (first_deep r.params) (effect_of b s p r.params st)) x) ≡ Ok q
      → Stepped b s p r q
  by_text (Err cause) is h = let bad : ⊥ = cc h in absurd bad
  by_text (Ok st) is h = by_depth st (read_as r.params (parsed r.text) st is) (first_deep r.params) h

  pub stepped : step b s p r ≡ Ok q → Stepped b s p r q
  stepped h = by_text (statement_of r) refl h

-- ---- two statements

pub record RanTwo (b : Begun) (s : State) (first second : Request) (done : Progress) : Type 0 where
  pub between : Progress
  pub one : Stepped b s start first between
  pub two : Stepped b s between second done

then_ran : (j : ℕ) (x : Result Progress Refusal) (rest : Progress → Ran) (done : Progress) → then_run j x rest ≡ ran done
    → (q : Progress) × (x ≡ Ok q) × (rest q ≡ ran done)
then_ran j (Err cause) rest done h = let bad : ⊥ = cc h in absurd bad
then_ran j (Ok q) rest done h = (q, refl, h)

pub ran_two : (b : Begun) (s : State) (first second : Request) (done : Progress)
    → run b s (first ∷ second ∷ []) ≡ ran done → RanTwo b s first second done
ran_two b s first second done h =
    let one = then_ran 1 (step b s start first) _ done h in
    let two = then_ran 2 (step b s one.0 second) _ done one.2 in
    let same : two.0 ≡ done = cc two.2 in
    record {
      between = one.0;
      one = stepped b s start first one.0 one.1;
      two = stepped b s one.0 second done (subst (λ (q : Progress). step b s one.0 second ≡ Ok q) same two.1);
    }

-- ---- parts of statements

pub unless_done : (c : Option Refusal) (x : Result Effect Refusal) (e : Effect) → unless c x ≡ Ok e → (c ≡ None) × (x ≡ Ok e)
unless_done None x e h = (refl, h)
unless_done (Some cause) x e h = let bad : ⊥ = cc h in absurd bad

pub on_table_done : (name : List ℕ) (o : Option TableId) (f : TableId → Result Effect Refusal) (e : Effect)
    → on_table name o f ≡ Ok e → (id : TableId) × (o ≡ Some id) × (f id ≡ Ok e)
on_table_done name None f e h = let bad : ⊥ = cc h in absurd bad
on_table_done name (Some id) f e h = (id, refl, h)
