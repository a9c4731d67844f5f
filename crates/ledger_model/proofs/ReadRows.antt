-- Rows of FROM clauses with what they read, rule by rule.
use Rattle.std.proofs.Common.{◌≡◌, ◌∙◌, ℕ, pos, true, List, [], ◌∷◌, ◌++◌, ap, codes, refl, rules, Option, Some, None}
use Rattle.ion_values.specs.declared.value.Body.TheFolds as values
use Rattle.ion_values.specs.declared.value.Body.TheVariants as body
use Rattle.ion_values.specs.declared.value.Key.TheVariants as key
use Rattle.ion_values.specs.declared.value.Kind.TheVariants as kind
use Rattle.ion_values.specs.declared.value.Value.{Value}
use Rattle.ion_order.specs.Key.{key_of_number, zeros_in}
use Rattle.ql_types.specs.Ids.{spelled, values_of}
use Rattle.pql_model.specs.From.{Viewed}
use Rattle.ql_types.specs.declared.TableId.{TableId}
use Rattle.pql_model.specs.declared.expr.Expr.{Expr}
use Rattle.pql_model.specs.declared.expr.Expr.TheFolds.{the_lemmas}
use Rattle.pql_model.specs.declared.expr.Expr.TheVariants as expr
use Rattle.pql_model.specs.declared.expr.Operator.TheVariants as op
use Rattle.pql_model.specs.declared.expr.Path.{roll-Path}
use Rattle.pql_model.specs.declared.expr.PathStep.TheVariants as step
use Rattle.pql_model.specs.declared.statement.Change.{Change}
use Rattle.pql_model.specs.declared.statement.FromClause.{FromClause}
use Rattle.pql_model.specs.declared.statement.Select.TheVariants as select
use Rattle.pql_model.specs.declared.statement.Source.{Source}
use Rattle.pql_model.specs.declared.statement.SourceKind.{SourceKind}
use Rattle.pql_model.specs.declared.statement.SourceKind.TheVariants as source
use Rattle.pql_model.specs.declared.statement.Statement.TheVariants as statement
use Rattle.pql_model.specs.Made.{made}
use Rattle.ledger_model.specs.declared.outcome.Item.{Item}
use Rattle.ledger_model.specs.declared.outcome.Item.TheVariants as item
use Rattle.ledger_model.specs.Conditions.{Part, Side, all_asked, condition_of, constant, equation, names, other, parts_of}
use Rattle.ledger_model.specs.Footprints.{Schemas, all_read, footprint_of, items_read, read_of}

abbrev table : ℕ → TableId
table raw = record { raw = raw }

-- the tables t and u, and indexes on the fields `a` and `b` of t
abbrev now : Schemas
now = record {
  tables =
      record { name = codes "t"; id = table 5; active = true }
      ∷ record { name = codes "u"; id = table 6; active = true } ∷ [];
  indexes = record { table = table 5; field = codes "a" } ∷ record { table = table 5; field = codes "b" } ∷ [];
}

abbrev int : ℕ → Value
int n = made (body.Int (pos n))

abbrev text : List ℕ → Value
text bytes = made (body.String bytes)

-- the id 1
abbrev one : Value
one = text (codes "0000000000000000000001")

abbrev source_of : SourceKind → List ℕ → Option (List ℕ) → List Source
source_of from variable by = record { from = from; variable = variable; id_name = by; on = None } ∷ []

abbrev t : List Source
t = source_of (source.Table (codes "t")) (codes "t") None

abbrev equal : Side → Side → List Part
equal left right = equation left right ∷ []

-- no table has rows
abbrev no_rows : Viewed
no_rows name view = []

-- what is read of the sources by these parts of their conditions
abbrev read_by : List Part → List Source → List Item
read_by parts sources =
    items_read sources (all_read (read_of now no_rows [] (all_asked sources parts)) [] sources)

abbrev reads : Item → List Item
reads i = item.TableName (codes "t") ∷ i ∷ []

abbrev document : Item
document = item.Doc (table 5) (record { raw = 1 })

abbrev key_a : ℕ → Item
key_a n = item.IndexValue (table 5) (codes "a") (key.Number (pos n) (pos 0))

-- FROM t BY i WHERE i = '..'
by_name :
    read_by (equal (names (codes "i") []) (constant one))
    (source_of (source.Table (codes "t")) (codes "t") (Some (codes "i")))
    ≡ reads document
unfolding spelled values_of
by_name = search (rules, values.the_lemmas)

-- in a part behind a key it counts first
by_name_first :
    read_by (equation (names (codes "a") []) (constant (int 7))
    ∷ equal (constant one) (names (codes "i") []))
    (source_of (source.Table (codes "t")) (codes "t") (Some (codes "i"))) ≡ reads document
unfolding spelled values_of
by_name_first = search (rules, values.the_lemmas)

-- a text that reads as no id
no_id :
    read_by (equal (names (codes "i") []) (constant (text (codes "1"))))
    (source_of (source.Table (codes "t")) (codes "t") (Some (codes "i")))
    ≡ reads (item.Table (table 5))
no_id = search (rules, values.the_lemmas)

-- FROM _ql_committed_t AS x WHERE metadata.id = '..': its table's name, and the root left out
by_metadata :
    read_by (equal (names (codes "metadata") (codes "id" ∷ [])) (constant one))
    (source_of (source.Table (codes "_ql_committed_t")) (codes "x") None)
    ≡ reads document
unfolding spelled values_of
by_metadata = search (rules, values.the_lemmas)

-- FROM history(t) AS h WHERE h.metadata.id = '..'
by_history :
    read_by (equal (names (codes "h") (codes "metadata" ∷ codes "id" ∷ [])) (constant one))
    (source_of (source.History (codes "t") None None) (codes "h") None)
    ≡ reads document
unfolding spelled values_of
by_history = search (rules, values.the_lemmas)

-- a user view shows no metadata
no_metadata :
    read_by (equal (names (codes "metadata") (codes "id" ∷ [])) (constant one)) t
    ≡ reads (item.Table (table 5))
no_metadata = search (rules, values.the_lemmas)

-- a = 7, and 7 = t.a
left_out_root : read_by (equal (names (codes "a") []) (constant (int 7))) t ≡ reads (key_a 7)
unfolding key_of_number zeros_in
left_out_root = search (rules, values.the_lemmas)

reversed : read_by (equal (constant (int 7)) (names (codes "t") (codes "a" ∷ []))) t ≡ reads (key_a 7)
unfolding key_of_number zeros_in
reversed = search (rules, values.the_lemmas)

-- a = NULL AND a = 7: a const without a key doesn't count
without_key :
    read_by (equation (names (codes "a") []) (constant (made (body.Null kind.Null)))
    ∷ equal (names (codes "a") []) (constant (int 7))) t
    ≡ reads (key_a 7)
unfolding key_of_number zeros_in
without_key = search (rules, values.the_lemmas)

-- of two that count the first
first_counts :
    read_by (equation (names (codes "a") []) (constant (int 7))
    ∷ equal (names (codes "b") []) (constant (int 8))) t
    ≡ reads (key_a 7)
unfolding key_of_number zeros_in
first_counts = search (rules, values.the_lemmas)

no_index : read_by (equal (names (codes "c") []) (constant (int 7))) t ≡ reads (item.Table (table 5))
no_index = search (rules, values.the_lemmas)

-- FROM _ql_committed_t AS x WHERE x.data.a = 7, and x.a = 7
committed_key :
    read_by (equal (names (codes "x") (codes "data" ∷ codes "a" ∷ [])) (constant (int 7)))
    (source_of (source.Table (codes "_ql_committed_t")) (codes "x") None)
    ≡ reads (key_a 7)
unfolding key_of_number zeros_in
committed_key = search (rules, values.the_lemmas)

committed_field :
    read_by (equal (names (codes "x") (codes "a" ∷ [])) (constant (int 7)))
    (source_of (source.Table (codes "_ql_committed_t")) (codes "x") None)
    ≡ reads (item.Table (table 5))
committed_field = search (rules, values.the_lemmas)

-- history is read by no key
history_key :
    read_by (equal (names (codes "h") (codes "data" ∷ codes "a" ∷ [])) (constant (int 7)))
    (source_of (source.History (codes "t") None None) (codes "h") None)
    ≡ reads (item.Table (table 5))
history_key = search (rules, values.the_lemmas)

-- FROM t AS x, t AS y WHERE y.a = 7: the table that is named twice is read twice
twice :
    read_by (equal (names (codes "y") (codes "a" ∷ [])) (constant (int 7)))
    (record { from = source.Table (codes "t"); variable = codes "x"; id_name = None; on = None }
    ∷ source_of (source.Table (codes "t")) (codes "y") None)
    ≡ item.TableName (codes "t") ∷ item.TableName (codes "t") ∷ item.Table (table 5) ∷ key_a 7 ∷ []
unfolding key_of_number zeros_in
twice = search (rules, values.the_lemmas)

-- ---- what a name means

-- FROM t AS i BY i WHERE i = '..': the BY name counts after the variable
by_counts_last :
    read_by (equal (names (codes "i") []) (constant one))
    (source_of (source.Table (codes "t")) (codes "i") (Some (codes "i")))
    ≡ reads document
unfolding spelled values_of
by_counts_last = search (rules, values.the_lemmas)

-- and a step behind it is no field of the source
by_has_no_field :
    read_by (equal (names (codes "i") (codes "a" ∷ [])) (constant (int 7)))
    (source_of (source.Table (codes "t")) (codes "i") (Some (codes "i")))
    ≡ reads (item.Table (table 5))
by_has_no_field = search (rules, values.the_lemmas)

-- FROM u AS x, t AS x WHERE x.a = 7: the last of those that are spelt alike
spelt_alike :
    read_by (equal (names (codes "x") (codes "a" ∷ [])) (constant (int 7)))
    (record { from = source.Table (codes "u"); variable = codes "x"; id_name = None; on = None }
    ∷ source_of (source.Table (codes "t")) (codes "x") None)
    ≡ item.TableName (codes "u") ∷ item.TableName (codes "t") ∷ item.Table (table 6) ∷ key_a 7 ∷ []
unfolding key_of_number zeros_in
spelt_alike = search (rules, values.the_lemmas)

-- FROM t AS x, u AS y WHERE a = 7: with two sources a left-out root counts for neither
no_root :
    read_by (equal (names (codes "a") []) (constant (int 7)))
    (record { from = source.Table (codes "t"); variable = codes "x"; id_name = None; on = None }
    ∷ source_of (source.Table (codes "u")) (codes "y") None)
    ≡ item.TableName (codes "t") ∷ item.TableName (codes "u") ∷ item.Table (table 5) ∷ item.Table (table 6) ∷ []
no_root = search (rules, values.the_lemmas)

-- of a name without an active table the name alone
no_table :
    read_by [] (source_of (source.Table (codes "v")) (codes "v") None) ≡ item.TableName (codes "v") ∷ []
no_table = refl

-- of a history the table's name too
of_history :
    read_by [] (source_of (source.History (codes "t") None None) (codes "h") None)
    ≡ reads (item.Table (table 5))
of_history = refl

-- ---- parts of conditions

abbrev literal : ℕ → Expr
literal n = expr.Value (int n)

abbrev path : List ℕ → Expr
path first = expr.Path (roll-Path (record { first = first; steps = [] }))

-- (a = 5 AND b = 6) AND a = -5: brackets don't count, and -5 is no const
in_brackets :
    (condition_of [] (expr.Binary op.And
    (expr.Binary op.And (expr.Binary op.Equal (path (codes "a")) (literal 5))
    (expr.Binary op.Equal (path (codes "b")) (literal 6)))
    (expr.Binary op.Equal (path (codes "a")) (expr.Negate (literal 5))))).parts
    ≡ equation (names (codes "a") []) (constant (int 5))
    ∷ equation (names (codes "b") []) (constant (int 6))
    ∷ equation (names (codes "a") []) (other) ∷ []
in_brackets = search (rules, the_lemmas)

-- NOT a = 5
negated : (condition_of [] (expr.Not (expr.Binary op.Equal (path (codes "a")) (literal 5)))).parts ≡ []
negated = search (rules, the_lemmas)

abbrev equals : Expr → ℕ → Expr
equals left n = expr.Binary op.Equal left (literal n)

abbrev step_of : List ℕ → List ℕ → Expr
step_of first name = expr.Path (roll-Path (record { first = first; steps = step.Field name ∷ [] }))

-- ---- whole statements

-- FROM t WHERE a = 7
abbrev where_a : FromClause
where_a = record { sources = t; filter = Some (equals (path (codes "a")) 7) }

-- FROM t AS x JOIN u ON x.a = 7 WHERE x.b = 8
abbrev joined : FromClause
joined = record {
  sources =
      record { from = source.Table (codes "t"); variable = codes "x"; id_name = None; on = None }
      ∷ record {
        from = source.Table (codes "u");
        variable = codes "u";
        id_name = None;
        on = Some (equals (step_of (codes "x") (codes "a")) 7);
      } ∷ [];
  filter = Some (equals (step_of (codes "x") (codes "b")) 8);
}

abbrev on_and_where : List Part
on_and_where =
    equation (names (codes "x") (codes "a" ∷ [])) (constant (int 7))
    ∷ equal (names (codes "x") (codes "b" ∷ [])) (constant (int 8))

on_part :
    (condition_of [] (expr.Binary op.Equal (step_of (codes "x") (codes "a")) (literal 7))).parts
    ≡ equal (names (codes "x") (codes "a" ∷ [])) (constant (int 7))
on_part = search (rules, the_lemmas)

where_part :
    (condition_of [] (expr.Binary op.Equal (step_of (codes "x") (codes "b")) (literal 8))).parts
    ≡ equal (names (codes "x") (codes "b" ∷ [])) (constant (int 8))
where_part = search (rules, the_lemmas)

joined_parts : parts_of [] joined ≡ on_and_where
joined_parts =
    ap (λ es. (es ++ []) ++ (condition_of [] (equals (step_of (codes "x") (codes "b")) 8)).parts) on_part
    ∙ ap (λ es. equal (names (codes "x") (codes "a" ∷ [])) (constant (int 7)) ++ es) where_part

joined_reads :
    read_by on_and_where joined.sources
    ≡ item.TableName (codes "t") ∷ item.TableName (codes "u") ∷ key_a 7 ∷ item.Table (table 6) ∷ []
unfolding key_of_number zeros_in
joined_reads = search (rules, values.the_lemmas)

-- the ON conditions count before the WHERE
on_first :
    footprint_of now no_rows [] (statement.Select select.Star joined)
    ≡ item.TableName (codes "t") ∷ item.TableName (codes "u") ∷ key_a 7 ∷ item.Table (table 6) ∷ []
on_first = ap (λ es. read_by es joined.sources) joined_parts ∙ joined_reads

where_parts :
    (condition_of [] (expr.Binary op.Equal (path (codes "a")) (literal 7))).parts
    ≡ equal (names (codes "a") []) (constant (int 7))
where_parts = search (rules, the_lemmas)

where_reads : read_by (parts_of [] where_a) t ≡ reads (key_a 7)
where_reads = ap (λ es. read_by es t) where_parts ∙ left_out_root

updated : (c : Change) → footprint_of now no_rows [] (statement.Update where_a c) ≡ reads (key_a 7)
updated c = where_reads

changed : (c : Change) → footprint_of now no_rows [] (statement.From where_a c) ≡ reads (key_a 7)
changed c = where_reads

deleted : footprint_of now no_rows [] (statement.Delete where_a) ≡ reads (key_a 7)
deleted = where_reads

indexed : footprint_of now no_rows [] (statement.Index (codes "t") (codes "a")) ≡ item.TableName (codes "t") ∷ []
indexed = refl

dropped : footprint_of now no_rows [] (statement.Drop (codes "t")) ≡ item.TableName (codes "t") ∷ []
dropped = refl
