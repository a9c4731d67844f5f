-- What INSERT INTO a table does to a transaction (Amazon QLDB's PartiQL; refusals and their order are the ledger's
-- own).
use Rattle.std.specs.Prelude.{ℕ, List, [], ◌∷◌, codes, Result, Ok, Err}
use Rattle.ion_values.specs.declared.value.Value.{Value}
use Rattle.ion_values.specs.declared.value.Body.{Body, out-Body}
use Rattle.ion_values.specs.declared.value.Body.TheOpen.{Body-F}
use Rattle.ion_values.specs.declared.value.Field.{Field}
use Rattle.ion_values.specs.declared.value.Kind.TheVariants.{Null}
use Rattle.pql_model.specs.declared.expr.Expr.{Expr}
use Rattle.pql_model.specs.declared.scope.Evaluated.{Evaluated}
use Rattle.pql_model.specs.declared.scope.Evaluated.TheVariants.{Missing, Found}
use Rattle.pql_model.specs.Meaning.{meaning, under}
use Rattle.ql_types.specs.declared.TableId.{TableId}
use Rattle.ledger_model.specs.declared.block.Content.TheVariants.{Kept}
use Rattle.ledger_model.specs.declared.outcome.Refusal.{Refusal}
use Rattle.ledger_model.specs.declared.outcome.Refusal.TheVariants.{NotADocument}
use Rattle.ledger_model.specs.Progress.{Begun, Progress, Effect, and_then, changed_by, next_id, not_stored, nothing, on_table, reserved, table_now, unless}
use Rattle.ledger_model.specs.State.{State}
use Rattle.ledger_model.specs.Values.{named_id}

abbrev pub members_or : Value → Body-F Body Field Value → List Value
members_or v (Body-F.List vs) = vs
members_or v _ = v ∷ []

-- the documents that are inserted: a list's elements, or the value alone
abbrev pub documents_in : Evaluated → Result (List Value) Refusal
documents_in Missing = Err (NotADocument Null)
documents_in (Found v) = Ok (members_or v (out-Body v.body))

abbrev pub new_document : ℕ → TableId → Value → Effect
new_document id table v = record {
  rows = named_id (codes "documentId") id ∷ [];
  schema = [];
  log = record { table = table; id = record { raw = id }; version = 0; content = Kept v } ∷ [];
  made = 1;
  footprint = [];
}

-- one document, and then the others
abbrev pub stored : Begun → TableId → Progress → List Value → Result Effect Refusal
stored b table p [] = Ok nothing
stored b table p (v ∷ vs) =
    let one = new_document (next_id b p) table v in
    unless (not_stored p v) (and_then one (stored b table (changed_by p one) vs))

abbrev pub if_documents : Result (List Value) Refusal → (List Value → Result Effect Refusal) → Result Effect Refusal
if_documents (Err cause) f = Err cause
if_documents (Ok vs) f = f vs

-- an insert's expression has no sources
abbrev pub inserted : Begun → State → Progress → List Value → List ℕ → Expr → Result Effect Refusal
inserted b s p params name e =
    unless (reserved name) (on_table name (table_now s p name)
    (λ table. if_documents (documents_in (meaning e (under [] params))) (stored b table p)))
