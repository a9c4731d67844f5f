-- What a statement does and what a transaction has done, as they are kept in memory.
use Rattle.std.specs.Prelude.{◌+◌, List, ◌++◌, Result}
use Rattle.ion_values.specs.declared.value.Value.{Value}
use Rattle.pql_model.specs.declared.statement.Statement.{Statement}
use Rattle.ledger_model.specs.declared.outcome.Refusal.{Refusal}
use Rattle.ledger_model.specs.declared.script.Request.{Request}
use Rattle.ledger_model.specs.Run as run
use Rattle.ledger_model.specs.Run.{Progress, Effect, final_revisions, first_deep, if_read, if_shallow}
use Rattle.ledger_model.specs.Statements.{counted, statement_of}
use Rattle.txn_core.specs.declared.effect.Effect as held
use Rattle.txn_core.specs.declared.progress.Progress as kept
use Rattle.txn_core.specs.declared.transaction.Finished.{Finished}
use Rattle.txn_core.specs.Opened.{Opened}

abbrev pub effect_of : held.Effect → Effect
effect_of e = record { rows = e.rows; schema = e.schema; log = e.log; made = e.made; footprint = e.footprint }

abbrev pub progress_of : kept.Progress → Progress
progress_of p = record {
  said = p.said.items;
  schema = p.schema.items;
  log = p.log;
  made = p.made;
  footprint = p.footprint.items;
}

-- one effect and then another
abbrev pub both : Effect → Effect → Effect
both e f = record {
  rows = e.rows ++ f.rows;
  schema = e.schema ++ f.schema;
  log = e.log ++ f.log;
  made = e.made + f.made;
  footprint = e.footprint ++ f.footprint;
}

-- what the transaction becomes a block of
abbrev pub finished_of : Opened → Finished
finished_of t = record {
  mask = record { bits = t.begun.mask };
  number = t.begun.number;
  place = t.place;
  said = t.done.said;
  schema = t.done.schema;
  drafts = final_revisions t.done;
}

-- what is done with these parameters of a statement, or why it is refused
abbrev pub effect_with : Opened → List Value → Result Statement Refusal → Result Effect Refusal
effect_with t params read =
    if_read (λ st. if_shallow (first_deep params) (run.effect_of t.begun t.base t.done params st)) read

abbrev pub done_as : Opened → List Value → Statement → Result Effect Refusal
done_as t params statement = effect_with t params (counted statement params)

abbrev pub asked_effect : Opened → Request → Result Effect Refusal
asked_effect t r = effect_with t r.params (statement_of r)
