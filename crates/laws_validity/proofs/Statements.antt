-- The statement that a request asks for is the one that its text gives.
use Rattle.std.proofs.Common.{◌≡◌, ◌==◌, ℕ, List, length, Result, Ok, Err, refl}
use Rattle.std.proofs.lemmas.Bool.{cond_both}
use Rattle.ion_values.specs.declared.value.Value.{Value}
use Rattle.pql_model.specs.declared.statement.Statement.{Statement}
use Rattle.pql_model.specs.Parse.{parsed}
use Rattle.pql_model.specs.Productions.{Fault}
use Rattle.ledger_model.specs.declared.script.Request.{Request}
use Rattle.ledger_model.specs.declared.outcome.Refusal.{Refusal}
use Rattle.ledger_model.specs.declared.outcome.Refusal.TheVariants.{ParameterCount}
use Rattle.ledger_model.specs.Statements.{wanted, with_parameters, statement_of}

abbrev pub Reads : List ℕ → Result Statement Refusal → Type 0
Reads text (Ok st) = parsed text ≡ Ok st
Reads text (Err cause) = Unit {0}

given_reads : (text : List ℕ) (params : List Value) (x : Result Statement Fault) → parsed text ≡ x
    → Reads text (with_parameters x params)
given_reads text params (Err fault) e = tt
given_reads text params (Ok s) e =
    cond_both (wanted s == length params) (Ok s) (Err (ParameterCount (wanted s) (length params)))
    (Reads text) (λ _. e) (λ _. tt)

pub request_reads : (r : Request) → Reads r.text (statement_of r)
request_reads r = given_reads r.text r.params (parsed r.text) refl
