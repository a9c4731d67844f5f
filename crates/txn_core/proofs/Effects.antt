-- What a statement adds to its transaction.
use Rattle.std.proofs.Common.{◌≡◌, ℕ, ◌+◌, List, [], ◌∷◌, ◌++◌, Option, Some, None, Result, Ok, Err, true, false, inl, inr, refl, sym, ◌∙◌, ap, ap₂, add-zero}
use Rattle.std.specs.Prelude.{codes}
use Rattle.ql_types.specs.Ids.{raw_id}
use Rattle.ql_types.specs.declared.TableId.{TableId}
use Rattle.ion_values.specs.declared.value.Value.{Value}
use Rattle.ledger_model.specs.declared.outcome.Refusal.{Refusal}
use Rattle.ledger_model.specs.declared.outcome.Refusal.TheVariants as refusal
use Rattle.ledger_model.specs.declared.outcome.Refusal.TheVariants.{Ended}
use Rattle.ledger_model.specs.declared.script.Request.{Request}
use Rattle.ledger_model.specs.declared.block.Draft.{Draft}
use Rattle.ledger_model.specs.declared.block.Schema.{Schema}
use Rattle.ledger_model.specs.declared.block.Schema.TheVariants.{Create}
use Rattle.ledger_model.specs.Values.{named_id}
use Rattle.ledger_model.specs.declared.outcome.Item.{Item}
use Rattle.ledger_model.specs.State as state
use Rattle.ledger_model.specs.Run.{Begun, Progress, Effect, changed_by, created, existing, new_table, next_id, no_table_more, on_table, reading, recorded, reserved, table_now, tables_now, unless}
use Rattle.ledger_model.specs.Script.{or_else}
use Rattle.txn_core.specs.declared.effect.Effect as held
use Rattle.txn_core.specs.declared.stopped.ExecuteFault.{ExecuteFault}
use Rattle.txn_core.specs.declared.stopped.ExecuteFault.TheVariants.{Refused, OutOfMemory}
use Rattle.txn_core.specs.Effects.{asked_effect, effect_of}
use Rattle.txn_core.specs.Opened.{Opened, Adds, Executed, IsStopped, Steps, Told, asked, step_of}
use Rattle.txn_core.specs.Stops.{Does}
use Rattle.txn_core.specs.Transactions.{found, id_after, not_created}

-- ---- CREATE TABLE

by-cause : (a b c : Option Refusal) (e : Result Effect Refusal) → unless a (unless b (unless c e)) ≡ unless (or_else a (or_else b c)) e
by-cause (Some cause) b c e = refl
by-cause None (Some cause) c e = refl
by-cause None None c e = refl

pub created-by : (b : Begun) (s : state.State) (p : Progress) (name : List ℕ)
    → created b s p name ≡ unless (not_created (tables_now s p) p.schema name) (Ok (new_table (next_id b p) name))
created-by b s p name =
    by-cause (reserved name) (existing name (table_now s p name)) (no_table_more (tables_now s p) p.schema) (Ok (new_table (next_id b p) name))

pub created_refused : (t : Opened) (name : List ℕ) (cause : Refusal) → not_created (tables_now t.base t.done) t.done.schema name ≡ Some cause
    → created t.begun t.base t.done name ≡ Err cause
created_refused t name cause is =
    created-by t.begun t.base t.done name ∙ ap (λ (x : Option Refusal). unless x (Ok (new_table (next_id t.begun t.done) name))) is

pub table_created : (raw : ℕ) (name kept : List ℕ) (row : Value) (none rows : List Value) (unchanged changes : List Schema) (log : List Draft) (read : List Item) → kept ≡ name
    → row ≡ named_id (codes "tableId") raw → none ≡ [] → rows ≡ none ++ row ∷ [] → unchanged ≡ [] → changes ≡ unchanged ++ Create kept (record { raw = raw }) ∷ [] → log ≡ [] → read ≡ []
    → record { rows = rows; schema = changes; log = log; made = 1; footprint = read } ≡ new_table raw name
table_created raw name kept row none rows unchanged changes log read kept_is row_is none_is rows_is unchanged_is changes_is log_is read_is =
    let rows_now : rows ≡ (new_table raw name).rows = rows_is ∙ ap₂ (λ (xs : List Value) (x : Value). xs ++ x ∷ []) none_is row_is in
    let changes_now : changes ≡ (new_table raw name).schema =
    changes_is ∙ ap₂ (λ (xs : List Schema) (n : List ℕ). xs ++ Create n (record { raw = raw }) ∷ []) unchanged_is kept_is in
    λ i. record { rows = rows_now i; schema = changes_now i; log = log_is i; made = 1; footprint = read_is i }

id_first : (t : Opened) → id_after t 0 ≡ next_id t.begun t.done
id_first t = ap (λ (n : ℕ). raw_id t.begun.mask t.begun.number (n + 1)) (add-zero t.done.made)

pub created_done : (t : Opened) (name : List ℕ) (raw : ℕ) (e : Effect) → not_created (tables_now t.base t.done) t.done.schema name ≡ None → raw ≡ id_after t 0
    → e ≡ new_table raw name → created t.begun t.base t.done name ≡ Ok e
created_done t name raw e is raw_is e_is =
    created-by t.begun t.base t.done name ∙ ap (λ (x : Option Refusal). unless x (Ok (new_table (next_id t.begun t.done) name))) is
    ∙ ap (λ (n : ℕ). Ok (new_table n name)) (sym (raw_is ∙ id_first t)) ∙ ap (λ (x : Effect). Ok x) (sym e_is)

-- ---- the table that a statement names

pub on-found : (name : List ℕ) (t : Option TableId) (table : TableId) (f : TableId → Result Effect Refusal) → found name t ≡ Ok table → on_table name t f ≡ f table
on-found name (Some there) table f is = let e : there ≡ table = cc in ap f e
on-found name None table f is = let bad : ⊥ = cc in absurd bad

pub on-none : (name : List ℕ) (t : Option TableId) (cause : Refusal) (f : TableId → Result Effect Refusal) → found name t ≡ Err cause → on_table name t f ≡ Err cause
on-none name (Some there) cause f is = let bad : ⊥ = cc in absurd bad
on-none name None cause f is = let e : Err cause ≡ found name None = sym is in cc

-- ---- what a statement reads

-- it stands beside what the statement does
pub read_besides : (items read : List Item) (wanted : Result Effect Refusal) (e : Effect) → wanted ≡ Ok e → read ≡ items
    → reading items wanted ≡ Ok (record e { footprint = read })
read_besides items read wanted e is read_is =
    ap (reading items) is ∙ ap (λ (xs : List Item). Ok (record e { footprint = xs })) (sym read_is)

-- ---- one statement as a step of the run

-- the step records what the statement does
stepped : (t : Opened) (r : Request) (effect : Result Effect Refusal) → asked_effect t r ≡ effect → step_of t r ≡ recorded t.done r effect
stepped t r effect is = ap (recorded t.done r) is

-- what is done and added is the step
pub added_steps : (t now : Opened) (r : Request) (e : held.Effect) → asked_effect t r ≡ Ok (effect_of e) → Adds t r (effect_of e) now → Steps t r now
added_steps t now r e is adds = record { step = stepped t r (Ok (effect_of e)) is ∙ adds.done; rest = adds.rest }

-- a statement that isn't done leaves the transaction as it was
pub stops : (t now : Opened) (r : Request) (why : ExecuteFault) → Does (Err why) (asked_effect t r) → now ≡ t → IsStopped t r why now
stops t now r (Refused cause) is same = (stepped t r (Err cause) is, same)
stops t now r OutOfMemory is same = same

said_of : (p : Progress) (r : Request) (e : Effect) (q : Progress) → recorded p r (Ok e) ≡ Ok q
    → q.said ≡ p.said ++ record { text = r.text; params = r.params; answer = record { rows = e.rows } } ∷ []
said_of p r e q is =
    let same : record (changed_by p e) { said = p.said ++ record { text = r.text; params = r.params; answer = record { rows = e.rows } } ∷ [] } ≡ q = cc in
    sym (ap (λ (x : Progress). x.said) same)

-- with the rows that are answered
pub added_told : (t now : Opened) (r : Request) (e : held.Effect) (rows : List Value) → asked_effect t r ≡ Ok (effect_of e) → Adds t r (effect_of e) now → rows ≡ e.rows
    → Told t r (Ok rows) now
added_told t now r e rows is adds same = (
  added_steps t now r e is adds,
  said_of t.done r (effect_of e) now.done adds.done
      ∙ ap (λ (vs : List Value). t.done.said ++ record { text = r.text; params = r.params; answer = record { rows = vs } } ∷ []) (sym same),
)

-- ---- what is put behind the statements so far

pub adds_of : (t now : Opened) (text kept_text : List ℕ) (params kept_params : List Value) (e : Effect) (p : Progress) → kept_text ≡ text → kept_params ≡ params
    → p.said ≡ t.done.said ++ record { text = kept_text; params = kept_params; answer = record { rows = e.rows } } ∷ [] → p.schema ≡ t.done.schema ++ e.schema → p.log ≡ t.done.log ++ e.log
    → p.made ≡ t.done.made + e.made → p.footprint ≡ t.done.footprint ++ e.footprint → now ≡ record t { done = p } → Adds t (asked text params) e now
adds_of t now text kept_text params kept_params e p text_is params_are said schema log made read is = record {
  done = λ i. Ok (record {
    said = sym (ap (λ (x : Opened). x.done.said) is ∙ said ∙ ap₂ (λ (x : List ℕ) (ys : List Value). t.done.said ++ record { text = x; params = ys; answer = record { rows = e.rows } } ∷ []) text_is params_are) i;
    schema = sym (ap (λ (x : Opened). x.done.schema) is ∙ schema) i;
    log = sym (ap (λ (x : Opened). x.done.log) is ∙ log) i;
    made = sym (ap (λ (x : Opened). x.done.made) is ∙ made) i;
    footprint = sym (ap (λ (x : Opened). x.done.footprint) is ∙ read) i;
  });
  rest = is ∙ ap (λ (q : Progress). record t { done = q }) (sym (ap (λ (x : Opened). x.done) is));
}

pub same_opened : (t now : Opened) (p : Progress) → p ≡ t.done → now ≡ record t { done = p } → now ≡ t
same_opened t now p same is = is ∙ ap (λ (q : Progress). record t { done = q }) same

-- ---- one statement and its answer

pub executed_ended : (t : Opened) (r : Request) → t.ended ≡ true → Executed t r (Err Ended) t
executed_ended t r ended = inl (ended, refl, refl)

pub executed_done : (t now : Opened) (r : Request) (rows : List Value) → t.ended ≡ false → Told t r (Ok rows) now → Executed t r (Ok (record { rows = rows })) now
executed_done t now r rows ended told = (ended, told.0, told.1)

pub executed_refused : (t now later : Opened) (r : Request) (cause : Refusal) → t.ended ≡ false → Told t r (Err (Refused cause)) now → later ≡ record now { ended = true }
    → Executed t r (Err cause) later
executed_refused t now later r cause ended told is = inr (inr (ended, told.0, is ∙ ap (λ (x : Opened). record x { ended = true }) told.1))

pub executed_wanting : (t now : Opened) (r : Request) → t.ended ≡ false → Told t r (Err OutOfMemory) now → Executed t r (Err refusal.OutOfMemory) now
executed_wanting t now r ended told = inr (inl (ended, refl, told))
