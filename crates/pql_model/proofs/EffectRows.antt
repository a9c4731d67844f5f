-- Statements that write, with the documents that they touch.
use Rattle.std.proofs.Common.{◌≡◌, ℕ, pos, List, [], ◌∷◌, codes, refl, rules}
use Rattle.std.specs.declared.option.Option.{Option}
use Rattle.std.specs.declared.option.Option.TheVariants.{None, Some}
use Rattle.ion_values.specs.declared.value.Body.TheFolds as values
use Rattle.ion_values.specs.declared.value.Body.TheVariants as body
use Rattle.ion_values.specs.declared.value.Field.{Field, roll-Field}
use Rattle.ion_values.specs.declared.value.Value.{Value}
use Rattle.pql_model.specs.declared.expr.Expr.{Expr, roll-Expr}
use Rattle.pql_model.specs.declared.expr.Expr.TheOpen.{Expr-F}
use Rattle.pql_model.specs.declared.expr.Expr.TheFolds.{the_lemmas}
use Rattle.pql_model.specs.declared.expr.Expr.TheVariants as expr
use Rattle.pql_model.specs.declared.expr.Path.{Path, roll-Path}
use Rattle.pql_model.specs.declared.expr.PathStep.{PathStep}
use Rattle.pql_model.specs.declared.expr.PathStep.TheVariants as step
use Rattle.pql_model.specs.declared.scope.Bound.{Bound}
use Rattle.pql_model.specs.declared.statement.Change.{Change}
use Rattle.pql_model.specs.declared.statement.Change.TheVariants as change
use Rattle.pql_model.specs.declared.statement.Setting.{Setting}
use Rattle.pql_model.specs.declared.tables.Row.{Row}
use Rattle.ql_types.specs.declared.DocId.{DocId}
use Rattle.pql_model.specs.Effects.{changed_documents, deleted_documents}
use Rattle.pql_model.specs.Made.{made}

-- ---- parts

abbrev int : ℕ → Value
int n = made (body.Int (pos n))

abbrev field : List ℕ → Value → Field
field name v = roll-Field (record { name = name; value = v })

abbrev struct : List Field → Value
struct fields = made (body.Struct fields)

abbrev document : ℕ → Value → Row
document id v = record { id = record { raw = id }; value = v }

abbrev bound : List ℕ → Row → Bound
bound variable r = record { variable = variable; value = r.value; id_name = None; id = Some r.id }

abbrev element : List ℕ → Value → Bound
element variable v = record { variable = variable; value = v; id_name = None; id = None }

abbrev path : List ℕ → List ℕ → Path
path first name = roll-Path (record { first = first; steps = step.Field name ∷ [] })

abbrev name : List ℕ → Expr
name first = roll-Expr (Expr-F.Path (roll-Path (record { first = first; steps = [] })))

abbrev of : List ℕ → List ℕ → Expr
of first last = roll-Expr (Expr-F.Path (path first last))

abbrev setting : Path → Expr → Setting
setting target e = record { target = target; value = e }

abbrev n : ℕ → Value
n k = struct (field (codes "n") (int k) ∷ [])

abbrev nx : ℕ → ℕ → Value
nx k x = struct (field (codes "n") (int k) ∷ field (codes "x") (int x) ∷ [])

abbrev first : Row
first = document 1 (n 1)

abbrev second : Row
second = document 2 (n 2)

abbrev a : Row → Bound
a r = bound (codes "a") r

abbrev b : Row → Bound
b r = bound (codes "b") r

abbrev i : ℕ → Bound
i k = element (codes "i") (int k)

-- ---- UPDATE, and FROM with a change

-- a document is touched once, in order of its first row, and the last row's value stays
last_stays : changed_documents [] (change.Set (setting (path (codes "a") (codes "x")) (name (codes "i")) ∷ []))
    ((a second ∷ i 7 ∷ []) ∷ (a first ∷ i 8 ∷ []) ∷ (a second ∷ i 9 ∷ []) ∷ [])
    ≡ document 2 (nx 2 9) ∷ document 1 (nx 1 8) ∷ []
last_stays = search (rules, the_lemmas, values.the_lemmas)

-- the second row's value is read from the row, and not from the document as the first row left it
read_from_rows : changed_documents [] (change.Set (setting (path (codes "a") (codes "n")) (of (codes "b") (codes "n")) ∷ setting (path (codes "a") (codes "x")) (of (codes "a") (codes "n")) ∷ []))
    ((a first ∷ b second ∷ []) ∷ (a first ∷ b second ∷ []) ∷ [])
    ≡ document 1 (nx 2 1) ∷ []
read_from_rows = search (rules, the_lemmas, values.the_lemmas)

-- two roots: each path changes its root's document, within a row in order of the changes
two_roots : changed_documents [] (change.Set (setting (path (codes "b") (codes "x")) (expr.Value (int 5)) ∷ setting (path (codes "a") (codes "x")) (expr.Value (int 6)) ∷ []))
    ((a first ∷ b second ∷ []) ∷ [])
    ≡ document 2 (nx 2 5) ∷ document 1 (nx 1 6) ∷ []
two_roots = search (rules, the_lemmas, values.the_lemmas)

-- one document by two variables
one_document : changed_documents [] (change.Set (setting (path (codes "a") (codes "n")) (expr.Value (int 5)) ∷ setting (path (codes "b") (codes "x")) (expr.Value (int 6)) ∷ []))
    ((a first ∷ b first ∷ []) ∷ [])
    ≡ document 1 (nx 5 6) ∷ []
one_document = search (rules, the_lemmas, values.the_lemmas)

-- each row removes from what the row before has left
removed_again : changed_documents [] (change.Remove (path (codes "a") (codes "n"))) ((a first ∷ i 1 ∷ []) ∷ (a first ∷ i 2 ∷ []) ∷ [])
    ≡ document 1 (struct []) ∷ []
removed_again = search (rules, the_lemmas, values.the_lemmas)

-- a document that is named and left as it was is touched
left_as_it_was : changed_documents [] (change.Remove (path (codes "a") (codes "z"))) ((a first ∷ []) ∷ []) ≡ first ∷ []
left_as_it_was = search (rules, the_lemmas, values.the_lemmas)

-- with one source its variable may be left out
left_out : changed_documents [] (change.Remove (roll-Path (record { first = codes "n"; steps = [] }))) ((a first ∷ []) ∷ (a second ∷ []) ∷ [])
    ≡ document 1 (struct []) ∷ document 2 (struct []) ∷ []
left_out = search (rules, the_lemmas, values.the_lemmas)

-- an element of a list is no document
no_document : changed_documents [] (change.Remove (path (codes "i") (codes "n"))) ((a first ∷ i 1 ∷ []) ∷ []) ≡ []
no_document = search (rules, the_lemmas, values.the_lemmas)

no_rows : changed_documents [] (change.Remove (path (codes "a") (codes "n"))) [] ≡ []
no_rows = refl

-- ---- DELETE

deleted_once : deleted_documents ((a second ∷ []) ∷ (a first ∷ []) ∷ (a second ∷ []) ∷ []) ≡ record { raw = 2 } ∷ record { raw = 1 } ∷ []
deleted_once = search rules
