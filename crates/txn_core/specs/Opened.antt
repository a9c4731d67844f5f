-- An open transaction, and what a statement does to it, by its answer.
use Rattle.std.specs.Prelude.{◌≡◌, ◌⊎◌, ℕ, Bool, true, false, refl, List, [], ◌∷◌, ◌++◌, Result, Ok, Err}
use Rattle.std.specs.Coded.{Coded, code_by, coded×, coded_ℕ, coded_bool, coded_list}
use Rattle.ion_values.specs.declared.value.Value.{Value}
use Rattle.pql_model.specs.declared.Answer.{Answer}
use Rattle.ql_types.specs.declared.Place.{Place}
use Rattle.ql_types.specs.contracts.Place as place
use Rattle.versions.specs.Held.{state_code}
use Rattle.ledger_model.specs.declared.block.Draft.{Draft}
use Rattle.ledger_model.specs.contracts.block.Draft as draft
use Rattle.ledger_model.specs.declared.block.Said.{Said}
use Rattle.ledger_model.specs.contracts.block.Said as said
use Rattle.ledger_model.specs.declared.block.Schema.{Schema}
use Rattle.ledger_model.specs.contracts.block.Schema as schema
use Rattle.ledger_model.specs.declared.outcome.Item.{Item}
use Rattle.ledger_model.specs.contracts.outcome.Item as item
use Rattle.ledger_model.specs.declared.outcome.Refusal.{Refusal}
use Rattle.ledger_model.specs.declared.outcome.Refusal.TheVariants.{Ended, OutOfMemory}
use Rattle.ledger_model.specs.declared.script.Request.{Request}
use Rattle.ledger_model.specs.State.{State}
use Rattle.ledger_model.specs.Run.{Begun, Effect, Progress, recorded, step}
use Rattle.txn_core.specs.declared.stopped.ExecuteFault.{ExecuteFault}
use Rattle.txn_core.specs.declared.stopped.ExecuteFault.TheVariants as stopped

-- the mask of the ids and the transaction's number, its place in the script, the state on which it runs with the
-- number of blocks that it stands for, what its statements have done so far, and whether one of them was refused
pub record Opened : Type 0 where
  pub begun : Begun
  pub place : Place
  pub base : State
  pub since : ℕ
  pub done : Progress
  pub ended : Bool

abbrev pub begun_code : Coded Begun
begun_code =
    code_by (ℕ × ℕ) (coded× coded_ℕ coded_ℕ) (λ b. (b.mask, b.number))
    (λ p. record { mask = p.0; number = p.1 }) (λ _. refl)

abbrev pub progress_code : Coded Progress
progress_code =
    code_by (List Said × (List Schema × (List Draft × (ℕ × List Item))))
    (coded× (coded_list said.the_row.coded) (coded× (coded_list schema.the_row.coded)
    (coded× (coded_list draft.the_row.coded) (coded× coded_ℕ (coded_list item.the_row.coded)))))
    (λ p. (p.said, (p.schema, (p.log, (p.made, p.footprint)))))
    (λ t. record { said = t.0; schema = t.1.0; log = t.1.1.0; made = t.1.1.1.0; footprint = t.1.1.1.1 }) (λ _. refl)

abbrev pub opened_code : Coded Opened
opened_code =
    code_by (Begun × (Place × (State × (ℕ × (Progress × Bool)))))
    (coded× begun_code (coded× place.the_row.coded
    (coded× state_code (coded× coded_ℕ (coded× progress_code coded_bool)))))
    (λ t. (t.begun, (t.place, (t.base, (t.since, (t.done, t.ended))))))
    (λ p. record {
      begun = p.0;
      place = p.1.0;
      base = p.1.1.0;
      since = p.1.1.1.0;
      done = p.1.1.1.1.0;
      ended = p.1.1.1.1.1;
    }) (λ _. refl)

abbrev pub asked : List ℕ → List Value → Request
asked text params = record { text = text; params = params }

-- ---- one statement

-- the statement, as a step of the run
abbrev pub step_of : Opened → Request → Result Progress Refusal
step_of t r = step t.begun t.base t.done r

-- the statement is put behind those so far, with what it does
pub record Adds (t : Opened) (r : Request) (e : Effect) (now : Opened) : Type 0 where
  pub done : recorded t.done r (Ok e) ≡ Ok now.done
  pub rest : now ≡ record t { done = now.done }

-- the statement is the transaction's next step, and nothing else is changed
pub record Steps (t : Opened) (r : Request) (now : Opened) : Type 0 where
  pub step : step_of t r ≡ Ok now.done
  pub rest : now ≡ record t { done = now.done }

-- the statement isn't done, for the step's cause or for lack of memory, and the transaction is unchanged
abbrev pub IsStopped : Opened → Request → ExecuteFault → Opened → Type 0
IsStopped t r (stopped.Refused cause) now = (step_of t r ≡ Err cause) × (now ≡ t)
IsStopped t r stopped.OutOfMemory now = now ≡ t

-- what is done, or why it isn't
abbrev pub Performed : Opened → Request → Result (Unit {0}) ExecuteFault → Opened → Type 0
Performed t r (Ok done) now = Steps t r now
Performed t r (Err why) now = IsStopped t r why now

-- the statement stands last with these rows
abbrev pub IsSaid : Opened → Request → List Value → Opened → Type 0
IsSaid t r rows now =
    now.done.said ≡ t.done.said ++ record { text = r.text; params = r.params; answer = record { rows = rows } } ∷ []

-- the same with the rows of the answer
abbrev pub Told : Opened → Request → Result (List Value) ExecuteFault → Opened → Type 0
Told t r (Ok rows) now = Steps t r now × IsSaid t r rows now
Told t r (Err why) now = IsStopped t r why now

-- An ended transaction returns Ended and is unchanged; so it is if memory runs out. Any other statement is a step of
-- the run: it is done, and its answer is the step's; or it is refused for the step's cause, and the transaction is
-- ended.
abbrev pub Executed : Opened → Request → Result Answer Refusal → Opened → Type 0
Executed t r (Ok answer) now = (t.ended ≡ false) × Steps t r now × IsSaid t r answer.rows now
Executed t r (Err cause) now =
    ((t.ended ≡ true) × (cause ≡ Ended) × (now ≡ t)) ⊎ ((t.ended ≡ false) × (cause ≡ OutOfMemory) × (now ≡ t))
    ⊎ ((t.ended ≡ false) × (step_of t r ≡ Err cause) × (now ≡ record t { ended = true }))
