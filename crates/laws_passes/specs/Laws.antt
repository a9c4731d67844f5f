-- What a statement leaves of a transaction that may be committed with a pass (the ledger's own).
use Rattle.std.specs.Prelude.{Result}
use Rattle.pql_model.specs.declared.Answer.{Answer}
use Rattle.ledger_model.specs.declared.outcome.Refusal.{Refusal}
use Rattle.ledger_model.specs.declared.script.Request.{Request}
use Rattle.turn_lock.specs.declared.view.Known.{Known}
use Rattle.laws_machine.specs.Entries.{Entry, Opening}
use Rattle.txn_core.specs.Opened.{Executed, Opened}
use Rattle.ledger_shared.specs.Known.{MayCommit}

-- a transaction that may be committed with a pass may be committed with it after a statement, whatever the statement
-- returned
abbrev pub StatementsKeepOpen : Type 0
StatementsKeepOpen =
    (o : Opening) (k : Known Entry) (t now : Opened) (r : Request) (answer : Result Answer Refusal)
    → MayCommit o k t → Executed t r answer now → MayCommit o k now
