-- What the statements of a made workload do.
use Rattle.std.proofs.Common.{◌≡◌, ◌∙◌, ℕ, Bool, true, false, List, [], ◌∷◌, ◌++◌, codes, Option, Some, None, Result, Ok, refl, sym, ap, subst, rules}
use Rattle.ion_values.specs.declared.value.Body.TheFolds as values
use Rattle.ion_values.specs.declared.value.Field.{Field}
use Rattle.ion_values.specs.declared.value.Value.{Value}
use Rattle.pql_model.specs.declared.expr.Expr.{out-Expr}
use Rattle.pql_model.specs.declared.expr.Expr.TheFolds as expressions
use Rattle.pql_model.specs.declared.expr.Expr.TheVariants as expr
use Rattle.pql_model.specs.declared.scope.Evaluated.TheVariants.{Found}
use Rattle.pql_model.specs.declared.statement.FromClause.{FromClause}
use Rattle.pql_model.specs.declared.statement.Select.{Select}
use Rattle.pql_model.specs.declared.statement.Statement.{Statement}
use Rattle.pql_model.specs.declared.statement.Statement.TheVariants as statement
use Rattle.pql_model.specs.Answers.{answered}
use Rattle.pql_model.specs.Expressions.{expression, free_path, layers}
use Rattle.pql_model.specs.From.{rows_of}
use Rattle.pql_model.specs.Meaning.{meaning, under}
use Rattle.pql_model.specs.Parse.{parsed}
use Rattle.pql_model.specs.Productions.{Fault}
use Rattle.pql_model.specs.Tokens.{lex}
use Rattle.pql_model.specs.Words.{is_reserved}
use Rattle.ql_types.specs.declared.TableId.{TableId}
use Rattle.ledger_model.specs.declared.block.Content.TheVariants.{Kept}
use Rattle.ledger_model.specs.declared.block.Draft.{Draft}
use Rattle.ledger_model.specs.declared.block.Schema.{Schema}
use Rattle.ledger_model.specs.declared.block.Schema.TheVariants.{Create, Index}
use Rattle.ledger_model.specs.declared.outcome.Refusal.{Refusal}
use Rattle.ledger_model.specs.Journal.{structure}
use Rattle.ledger_model.specs.Script.{text_alone}
use Rattle.ledger_model.specs.State.{State}
use Rattle.ledger_model.specs.Values.{named_id}
use Rattle.ledger_model.specs.Run.{Begun, Effect, Progress, created, documents_in, done_by_statement, existing, if_documents, indexed, inserted, new_table, next_id, not_stored, on_table, reserved, selected, stored, table_now, tables_now, unless, views_of}
use Rattle.ledger_model.specs.SchemaChanges.{existing_index, indexes_now, no_index_more, no_table_more, schema_change}
use Rattle.ledger_model.specs.Selecting.{first_absent}
use Rattle.workload.specs.Made.{asked_with}
use Rattle.laws_workload.proofs.Inversions.{Stepped, on_table_done, unless_done}

-- ---- texts

create_text : parsed (codes "CREATE TABLE made") ≡ Ok (statement.Create (codes "made"))
unfolding parsed lex is_reserved layers expression free_path
create_text = refl

index_text : parsed (codes "CREATE INDEX ON made (s)") ≡ Ok (statement.Index (codes "made") (codes "s"))
unfolding parsed lex is_reserved layers expression free_path
index_text = refl

insert_text : parsed (codes "INSERT INTO made ?") ≡ Ok (statement.Insert (codes "made") (expr.Parameter 0))
unfolding parsed lex is_reserved layers expression free_path
insert_text = refl

abbrev is_select : Result Statement Fault → Bool
is_select (Ok (statement.Select select from)) = true
is_select _ = false

count_text : is_select (parsed (codes "SELECT COUNT(*) FROM made AS m WHERE m.s = ?")) ≡ true
unfolding parsed lex is_reserved layers expression free_path out-Expr denote.Hole.Carrier.out
count_text = refl

-- ---- statements by what they do

-- the statement is the one that the text gives
same_statement : (text : List ℕ) (a b : Statement) → parsed text ≡ Ok a → parsed text ≡ Ok b → a ≡ b
same_statement text a b x y = cc (sym x ∙ y)

pub record Creates (b : Begun) (s : State) (p : Progress) (e : Effect) : Type 0 where
  pub free : table_now s p (codes "made") ≡ None
  pub is : e ≡ new_table (next_id b p) (codes "made")

create_done : (b : Begun) (s : State) (p : Progress) (e : Effect) → created b s p (codes "made") ≡ Ok e → Creates b s p e
create_done b s p e h =
    let name = codes "made" in
    let made : Result Effect Refusal = Ok (new_table (next_id b p) name) in
    let room = unless (no_table_more (tables_now s p) p.schema) made in
    let one = unless_done (reserved name) (unless (existing name (table_now s p name)) room) e h in
    let two = unless_done (existing name (table_now s p name)) room e one.1 in
    let three = unless_done (no_table_more (tables_now s p) p.schema) made e two.1 in
    record { free = none (table_now s p name) two.0; is = let same : new_table (next_id b p) name ≡ e = cc three.1 in sym same }
  where
    none : (o : Option TableId) → existing (codes "made") o ≡ None → o ≡ None
    none None k = refl
    none (Some id) k = let bad : ⊥ = cc k in absurd bad

index_done : (s : State) (p : Progress) (e : Effect) → indexed s p (codes "made") (codes "s") ≡ Ok e
    → (id : TableId) × (e ≡ schema_change id (Index (codes "s") id))
index_done s p e h =
    let name = codes "made" in
    let made : TableId → Result Effect Refusal = λ id. Ok (schema_change id (Index (codes "s") id)) in
    let room : TableId → Result Effect Refusal = λ id. unless (no_index_more (indexes_now s p) id) (made id) in
    let put : TableId → Result Effect Refusal = λ id. unless (existing_index (indexes_now s p) name (codes "s") id) (room id) in
    let one = unless_done (reserved name) (on_table name (table_now s p name) put) e h in
    let two = on_table_done name (table_now s p name) put e one.1 in
    let three = unless_done (existing_index (indexes_now s p) name (codes "s") two.0) (room two.0) e two.2 in
    let four = unless_done (no_index_more (indexes_now s p) two.0) (made two.0) e three.1 in
    (two.0, let same : schema_change two.0 (Index (codes "s") two.0) ≡ e = cc four.1 in sym same)

select_done : (s : State) (p : Progress) (params : List Value) (select : Select) (from : FromClause) (e : Effect)
    → selected s p params select from ≡ Ok e → (e.schema ≡ []) × (e.log ≡ [])
select_done s p params select from e h =
    let found : Effect = record {
      rows = answered params (rows_of (views_of s p) params from) select;
      schema = [];
      log = [];
      made = 0;
      footprint = [];
    } in
    let one = unless_done (first_absent s p from.sources) (Ok found) e h in
    let same : found ≡ e = cc one.1 in
    (sym (ap (λ (x : Effect). x.schema) same), sym (ap (λ (x : Effect). x.log) same))

-- a new document of the table
abbrev pub draft_of : Begun → Progress → TableId → Value → Draft
draft_of b p table v = record { table = table; id = record { raw = next_id b p }; version = 0; content = Kept v }

pub record Inserts (b : Begun) (s : State) (p : Progress) (v : Value) (e : Effect) : Type 0 where
  pub table : TableId
  pub there : table_now s p (codes "made") ≡ Some table
  pub schema : e.schema ≡ []
  pub log : e.log ≡ draft_of b p table v ∷ []

given : (v : Value) → meaning (expr.Parameter 0) (under [] (v ∷ [])) ≡ Found v
given v = search (rules, expressions.the_lemmas)

alone : (fields : List Field) → documents_in (Found (structure fields)) ≡ Ok (structure fields ∷ [])
alone fields = search (rules, values.the_lemmas)

insert_done : (b : Begun) (s : State) (p : Progress) (fields : List Field) (e : Effect)
    → inserted b s p (structure fields ∷ []) (codes "made") (expr.Parameter 0) ≡ Ok e → Inserts b s p (structure fields) e
insert_done b s p fields e h =
    let name = codes "made" in
    let v = structure fields in
    let put : TableId → Result Effect Refusal =
    λ table. if_documents (documents_in (meaning (expr.Parameter 0) (under [] (v ∷ [])))) (stored b table p) in
    let one = unless_done (reserved name) (on_table name (table_now s p name) put) e h in
    let two = on_table_done name (table_now s p name) put e one.1 in
    let value : documents_in (meaning (expr.Parameter 0) (under [] (v ∷ []))) ≡ Ok (v ∷ []) =
    ap documents_in (given v) ∙ alone fields in
    let puts : stored b two.0 p (v ∷ []) ≡ Ok e = ap (λ x. if_documents x (stored b two.0 p)) (sym value) ∙ two.2 in
    let added : Effect = record {
      rows = named_id (codes "documentId") (next_id b p) ∷ [];
      schema = [];
      log = draft_of b p two.0 v ∷ [];
      made = 1;
      footprint = [];
    } in
    let three = unless_done (not_stored p v) (Ok added) e puts in
    let same : added ≡ e = cc three.1 in
    record {
      table = two.0;
      there = two.1;
      schema = sym (ap (λ (x : Effect). x.schema) same);
      log = sym (ap (λ (x : Effect). x.log) same);
    }

-- ---- the steps

module _ (b : Begun) (s : State) (p q : Progress) where
  pub steps_create : Stepped b s p (text_alone (codes "CREATE TABLE made")) q
      → (table_now s p (codes "made") ≡ None)
      × (q.schema ≡ p.schema ++ Create (codes "made") (record { raw = next_id b p }) ∷ []) × (q.log ≡ p.log ++ [])
  steps_create h =
      let same = same_statement (codes "CREATE TABLE made") h.statement (statement.Create (codes "made")) h.read create_text in
      let done = create_done b s p h.effect (subst (λ st. done_by_statement b s p [] st ≡ Ok h.effect) same h.done) in (
        done.free,
        h.schema ∙ ap (λ (e : Effect). p.schema ++ e.schema) done.is,
        h.log ∙ ap (λ (e : Effect). p.log ++ e.log) done.is,
      )

  pub steps_index : Stepped b s p (text_alone (codes "CREATE INDEX ON made (s)")) q
      → (id : TableId) × (q.schema ≡ p.schema ++ Index (codes "s") id ∷ []) × (q.log ≡ p.log ++ [])
  steps_index h =
      let same = same_statement (codes "CREATE INDEX ON made (s)") h.statement (statement.Index (codes "made") (codes "s")) h.read index_text in
      let done = index_done s p h.effect (subst (λ st. done_by_statement b s p [] st ≡ Ok h.effect) same h.done) in (
        done.0,
        h.schema ∙ ap (λ (e : Effect). p.schema ++ e.schema) done.1,
        h.log ∙ ap (λ (e : Effect). p.log ++ e.log) done.1,
      )

  pub steps_insert : (fields : List Field) → Stepped b s p (asked_with (codes "INSERT INTO made ?") (structure fields)) q
      → (id : TableId) × (table_now s p (codes "made") ≡ Some id) × (q.schema ≡ p.schema ++ [])
      × (q.log ≡ p.log ++ draft_of b p id (structure fields) ∷ [])
  steps_insert fields h =
      let insert = statement.Insert (codes "made") (expr.Parameter 0) in
      let same = same_statement (codes "INSERT INTO made ?") h.statement insert h.read insert_text in
      let done = insert_done b s p fields h.effect
      (subst (λ st. done_by_statement b s p (structure fields ∷ []) st ≡ Ok h.effect) same h.done) in (
        done.table,
        done.there,
        h.schema ∙ ap (λ (cs : List Schema). p.schema ++ cs) done.schema,
        h.log ∙ ap (λ (ds : List Draft). p.log ++ ds) done.log,
      )

  count_steps : (params : List Value) (e : Effect) (st : Statement) (x : Result Statement Fault) → is_select x ≡ true → x ≡ Ok st
      → done_by_statement b s p params st ≡ Ok e → (e.schema ≡ []) × (e.log ≡ [])
  count_steps params e (statement.Select select from) x is same h = select_done s p params select from e h
  count_steps params e (statement.Create name) x is same h = let bad : ⊥ = cc (ap is_select (sym same) ∙ is) in absurd bad
  count_steps params e (statement.Index name field) x is same h = let bad : ⊥ = cc (ap is_select (sym same) ∙ is) in absurd bad
  count_steps params e (statement.Drop name) x is same h = let bad : ⊥ = cc (ap is_select (sym same) ∙ is) in absurd bad
  count_steps params e (statement.Redact a t d) x is same h = let bad : ⊥ = cc (ap is_select (sym same) ∙ is) in absurd bad
  count_steps params e (statement.Insert name value) x is same h = let bad : ⊥ = cc (ap is_select (sym same) ∙ is) in absurd bad
  count_steps params e (statement.Update from change) x is same h = let bad : ⊥ = cc (ap is_select (sym same) ∙ is) in absurd bad
  count_steps params e (statement.From from change) x is same h = let bad : ⊥ = cc (ap is_select (sym same) ∙ is) in absurd bad
  count_steps params e (statement.Delete from) x is same h = let bad : ⊥ = cc (ap is_select (sym same) ∙ is) in absurd bad

  pub steps_count : (v : Value) → Stepped b s p (asked_with (codes "SELECT COUNT(*) FROM made AS m WHERE m.s = ?") v) q
      → (q.schema ≡ p.schema ++ []) × (q.log ≡ p.log ++ [])
  steps_count v h =
      let done = count_steps (v ∷ []) h.effect h.statement _ count_text h.read h.done in (
        h.schema ∙ ap (λ (cs : List Schema). p.schema ++ cs) done.0,
        h.log ∙ ap (λ (ds : List Draft). p.log ++ ds) done.1,
      )
