-- The documents of an insert, one after another.
use Rattle.std.proofs.Common.{◌≡◌, ℕ, ◌+◌, ◌<◌, ◌≤◌, List, [], ◌∷◌, ◌++◌, length, get_or, drop, Option, Some, None, Result, Ok, Err, refl, sym, ◌∙◌, ap, subst, add_assoc, add-zero, append-nil, append_assoc, arith}
use Rattle.std.proofs.lemmas.List.{drop_more, drop_all}
use Rattle.ion_values.specs.declared.value.Body.{Body, out-Body, roll-Body, roll-out-Body}
use Rattle.ion_values.specs.declared.value.Body.TheOpen.{Body-F}
use Rattle.ion_values.specs.declared.value.Body.TheVariants as body
use Rattle.ion_values.specs.declared.value.Field.{Field}
use Rattle.ion_values.specs.declared.value.Value.{Value}
use Rattle.pql_model.specs.declared.expr.Expr.{Expr}
use Rattle.pql_model.specs.declared.scope.Bound.{Bound}
use Rattle.pql_model.specs.declared.scope.Evaluated.{Evaluated}
use Rattle.pql_model.specs.Meaning.{meaning, under}
use Rattle.ql_types.specs.declared.TableId.{TableId}
use Rattle.std.specs.Prelude.{codes}
use Rattle.ledger_model.specs.Values.{named_id}
use Rattle.ledger_model.specs.declared.block.Content.TheVariants.{Kept}
use Rattle.ledger_model.specs.declared.block.Draft.{Draft}
use Rattle.ledger_model.specs.declared.outcome.Refusal.{Refusal}
use Rattle.ledger_model.specs.Run.{Progress, Effect, and_then, changed_by, documents_in, if_documents, inserted, members_or, new_document, next_id, not_stored, nothing, on_table, reserved, stored, table_now, unless}
use Rattle.txn_core.specs.declared.effect.Effect as held
use Rattle.txn_core.specs.declared.stopped.ExecuteFault.{ExecuteFault}
use Rattle.txn_core.specs.declared.stopped.ExecuteFault.TheVariants.{Refused, OutOfMemory}
use Rattle.txn_core.specs.Effects.{both}
use Rattle.txn_core.specs.Opened.{Opened}
use Rattle.txn_core.specs.Stops.{Does, StopsFor}
use Rattle.txn_core.specs.Transactions.{found}
use Rattle.txn_core.specs.Inserts.{Stores, so_far}
use Rattle.txn_core.proofs.Effects.{on-found, on-none}

-- ---- all at once, or one after another

abbrev pub rest_of : Opened → TableId → Effect → List Value → Result Effect Refusal
rest_of t table e vs = and_then e (stored t.begun table (so_far t e) vs)

pub nothing-first : (r : Result Effect Refusal) → and_then nothing r ≡ r
nothing-first (Ok e) =
    let sum : 0 + e.made ≡ e.made = omega arith in
    λ i. Ok (record { rows = e.rows; schema = e.schema; log = e.log; made = sum i; footprint = e.footprint })
nothing-first (Err cause) = refl

pub nothing-so-far : (p : Progress) → changed_by p nothing ≡ p
nothing-so-far p = λ i. record { said = p.said; schema = append-nil p.schema i; log = append-nil p.log i; made = add-zero p.made i; footprint = append-nil p.footprint i }

pub nothing-last : (e : Effect) → both e nothing ≡ e
nothing-last e = λ i. record { rows = append-nil e.rows i; schema = append-nil e.schema i; log = append-nil e.log i; made = add-zero e.made i; footprint = append-nil e.footprint i }

-- no document is stored at first
pub none-stored : (t : Opened) (table : TableId) (vs : List Value) (e : Effect) → e ≡ nothing → rest_of t table e vs ≡ stored t.begun table t.done vs
none-stored t table vs e is =
    ap (λ (x : Effect). rest_of t table x vs) is ∙ nothing-first (stored t.begun table (so_far t nothing) vs)
    ∙ ap (λ (p : Progress). stored t.begun table p vs) (nothing-so-far t.done)

-- one effect and then another, behind what there was
pub more-so-far : (t : Opened) (e f : Effect) → changed_by (so_far t e) f ≡ so_far t (both e f)
more-so-far t e f = λ i. record {
  said = t.done.said;
  schema = append_assoc t.done.schema e.schema f.schema i;
  log = append_assoc t.done.log e.log f.log i;
  made = add_assoc t.done.made e.made f.made i;
  footprint = append_assoc t.done.footprint e.footprint f.footprint i;
}

pub then-more : (e f : Effect) (r : Result Effect Refusal) → and_then e (and_then f r) ≡ and_then (both e f) r
then-more e f (Err cause) = refl
then-more e f (Ok g) =
    λ i. Ok (record {
      rows = sym (append_assoc e.rows f.rows g.rows) i;
      schema = sym (append_assoc e.schema f.schema g.schema) i;
      log = sym (append_assoc e.log f.log g.log) i;
      made = sym (add_assoc e.made f.made g.made) i;
      footprint = sym (append_assoc e.footprint f.footprint g.footprint) i;
    })

pub then-unless : (e : Effect) (cause : Option Refusal) (r : Result Effect Refusal) → cause ≡ None → and_then e (unless cause r) ≡ and_then e r
then-unless e None r is = refl
then-unless e (Some cause) r is = let bad : ⊥ = cc in absurd bad

module _ (t : Opened) (table : TableId) (e : Effect) (vs : List Value) (i : ℕ) (v : Value) (all : Result Effect Refusal)
    (within : i < length vs) (is : v ≡ get_or vs i v) (left : rest_of t table e (drop i vs) ≡ all) where
  at-next : rest_of t table e (v ∷ drop (i + 1) vs) ≡ all
  at-next =
      let front : drop i vs ≡ v ∷ drop (i + 1) vs = drop_more vs i v within ∙ ap (λ (x : Value). x ∷ drop (i + 1) vs) (sym is) in
      subst (λ (rest : List Value). rest_of t table e rest ≡ all) front left

  -- the next document is stored
  pub one-stored : (now : Effect) → Stores t table v e (Ok tt) now → rest_of t table now (drop (i + 1) vs) ≡ all
  one-stored now stores =
      let one = new_document (next_id t.begun (so_far t e)) table v in
      ap (λ (x : Effect). rest_of t table x (drop (i + 1) vs)) stores.1
      ∙ sym (ap (λ (p : Progress). and_then (both e one) (stored t.begun table p (drop (i + 1) vs))) (more-so-far t e one))
      ∙ sym (then-more e one (stored t.begun table (changed_by (so_far t e) one) (drop (i + 1) vs)))
      ∙ sym (then-unless e (not_stored (so_far t e) v) (and_then one (stored t.begun table (changed_by (so_far t e) one) (drop (i + 1) vs))) stores.0)
      ∙ at-next

  one-stops : (cause : Refusal) → not_stored (so_far t e) v ≡ Some cause → all ≡ Err cause
  one-stops cause why =
      let one = new_document (next_id t.begun (so_far t e)) table v in
      sym at-next
      ∙ ap (λ (x : Option Refusal). and_then e (unless x (and_then one (stored t.begun table (changed_by (so_far t e) one) (drop (i + 1) vs))))) why

  -- it isn't
  pub not-stored : (stopped : ExecuteFault) (now : Effect) → Stores t table v e (Err stopped) now → StopsFor stopped (λ cause. all ≡ Err cause)
  not-stored (Refused cause) now why = one-stops cause why
  not-stored OutOfMemory now why = tt

-- no document is left
pub all-stored : (t : Opened) (table : TableId) (e : Effect) (vs : List Value) (i : ℕ) (all : Result Effect Refusal) → length vs ≤ i
    → rest_of t table e (drop i vs) ≡ all → all ≡ Ok e
all-stored t table e vs i all past left =
    sym left ∙ ap (rest_of t table e) (drop_all i vs past) ∙ ap (λ (x : Effect). Ok x) (nothing-last e)

-- one document alone
module _ (t : Opened) (table : TableId) (v : Value) (e : Effect) (empty : e ≡ nothing) where
  alone : rest_of t table e (v ∷ []) ≡ stored t.begun table t.done (v ∷ [])
  alone = none-stored t table (v ∷ []) e empty

  pub one-alone : (now : Effect) → Stores t table v e (Ok tt) now → stored t.begun table t.done (v ∷ []) ≡ Ok now
  one-alone now stores =
      all-stored t table now (v ∷ []) 1 (stored t.begun table t.done (v ∷ [])) (omega arith)
      (one-stored t table e (v ∷ []) 0 v (stored t.begun table t.done (v ∷ [])) (omega arith) refl alone now stores)

  pub none-alone : (stopped : ExecuteFault) (now : Effect) → Stores t table v e (Err stopped) now → StopsFor stopped (λ cause. stored t.begun table t.done (v ∷ []) ≡ Err cause)
  none-alone stopped now stores =
      not-stored t table e (v ∷ []) 0 v (stored t.begun table t.done (v ∷ [])) (omega arith) refl alone stopped now stores

-- a value that is no list is one document
alone_as : (v : Value) (b : Body-F Body Field Value) → ((x : List Value) → v.body ≡ body.List x → ⊥) → v.body ≡ roll-Body b → members_or v b ≡ v ∷ []
unfolding roll-Body denote.Hole.Carrier.roll
alone_as v (Body-F.List vs) other is = absurd (other vs is)
alone_as v (Body-F.Null x) other is = refl
alone_as v (Body-F.Bool x) other is = refl
alone_as v (Body-F.Int x) other is = refl
alone_as v (Body-F.Decimal x) other is = refl
alone_as v (Body-F.Timestamp x) other is = refl
alone_as v (Body-F.Symbol x) other is = refl
alone_as v (Body-F.String x) other is = refl
alone_as v (Body-F.Clob x) other is = refl
alone_as v (Body-F.Blob x) other is = refl
alone_as v (Body-F.Sexp x) other is = refl
alone_as v (Body-F.Struct x) other is = refl

pub alone_in : (v : Value) → ((x : List Value) → v.body ≡ body.List x → ⊥) → members_or v (out-Body v.body) ≡ v ∷ []
alone_in v other = alone_as v (out-Body v.body) other (sym (roll-out-Body v.body))

-- ---- one document

pub document_added : (e : Effect) (raw : ℕ) (table : TableId) (v kept row : Value) (rows : List Value) (log : List Draft) → row ≡ named_id (codes "documentId") raw → kept ≡ v
    → rows ≡ e.rows ++ row ∷ [] → log ≡ e.log ++ record { table = table; id = record { raw = raw }; version = 0; content = Kept kept } ∷ []
    → record { rows = rows; schema = e.schema; log = log; made = e.made + 1; footprint = e.footprint } ≡ both e (new_document raw table v)
document_added e raw table v kept row rows log row_is kept_is rows_is log_is =
    let rows_now : rows ≡ e.rows ++ (new_document raw table v).rows = rows_is ∙ ap (λ (x : Value). e.rows ++ x ∷ []) row_is in
    let log_now : log ≡ e.log ++ (new_document raw table v).log =
    log_is ∙ ap (λ (x : Value). e.log ++ record { table = table; id = record { raw = raw }; version = 0; content = Kept x } ∷ []) kept_is in
    λ i. record { rows = rows_now i; schema = sym (append-nil e.schema) i; log = log_now i; made = e.made + 1; footprint = sym (append-nil e.footprint) i }

-- ---- the whole statement

abbrev insert_wanted : Opened → List Value → List ℕ → Expr → Result Effect Refusal
insert_wanted t params name e = inserted t.begun t.base t.done params name e

abbrev with_table : Opened → List Value → Expr → TableId → Result Effect Refusal
with_table t params e table = if_documents (documents_in (meaning e (under [] params))) (stored t.begun table t.done)

pub insert_reserved : (t : Opened) (params : List Value) (name : List ℕ) (e : Expr) (cause : Refusal) → reserved name ≡ Some cause → insert_wanted t params name e ≡ Err cause
insert_reserved t params name e cause is = ap (λ (x : Option Refusal). unless x (on_table name (table_now t.base t.done name) (with_table t params e))) is

insert_free : (t : Opened) (params : List Value) (name : List ℕ) (e : Expr) → reserved name ≡ None
    → insert_wanted t params name e ≡ on_table name (table_now t.base t.done name) (with_table t params e)
insert_free t params name e is = ap (λ (x : Option Refusal). unless x (on_table name (table_now t.base t.done name) (with_table t params e))) is

pub insert_nowhere : (t : Opened) (params : List Value) (name : List ℕ) (e : Expr) (stopped : ExecuteFault) → reserved name ≡ None
    → StopsFor stopped (λ cause. found name (table_now t.base t.done name) ≡ Err cause) → StopsFor stopped (λ cause. insert_wanted t params name e ≡ Err cause)
insert_nowhere t params name e (Refused cause) free none =
    insert_free t params name e free ∙ on-none name (table_now t.base t.done name) cause (with_table t params e) none
insert_nowhere t params name e OutOfMemory free none = tt

pub insert_there : (t : Opened) (params : List Value) (name : List ℕ) (e : Expr) (table : TableId) (scope : List Bound) (value : Evaluated) (result : Result held.Effect ExecuteFault)
    → reserved name ≡ None → found name (table_now t.base t.done name) ≡ Ok table → scope ≡ [] → value ≡ meaning e (under scope params)
    → Does result (if_documents (documents_in value) (stored t.begun table t.done)) → Does result (insert_wanted t params name e)
insert_there t params name e table scope value result free is empty means does =
    let value_is : value ≡ meaning e (under [] params) = means ∙ ap (λ (x : List Bound). meaning e (under x params)) empty in
    let same : if_documents (documents_in value) (stored t.begun table t.done) ≡ insert_wanted t params name e =
    ap (λ (v : Evaluated). if_documents (documents_in v) (stored t.begun table t.done)) value_is
    ∙ sym (insert_free t params name e free ∙ on-found name (table_now t.base t.done name) table (with_table t params e) is) in
    subst (λ (w : Result Effect Refusal). Does result w) same does
