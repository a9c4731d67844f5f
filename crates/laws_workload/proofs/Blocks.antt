-- What a block of a made workload's transaction did, which wasn't refused.
use Rattle.std.proofs.Common.{◌≡◌, ◌∙◌, ℕ, List, [], ◌∷◌, ◌++◌, codes, map, Some, None, sym, ap}
use Rattle.ion_values.specs.declared.value.Value.{Value}
use Rattle.ql_types.specs.Ids.{raw_id}
use Rattle.ql_types.specs.declared.TableId.{TableId}
use Rattle.ledger_model.specs.declared.block.Block.{Block}
use Rattle.ledger_model.specs.declared.block.Content.TheVariants.{Kept}
use Rattle.ledger_model.specs.declared.block.Draft.{Draft}
use Rattle.ledger_model.specs.declared.block.Schema.{Schema}
use Rattle.ledger_model.specs.declared.block.Schema.TheVariants.{Create, Index}
use Rattle.ledger_model.specs.declared.script.Request.{Request}
use Rattle.ledger_model.specs.Journal.{number, said_in}
use Rattle.ledger_model.specs.Legal.{Means, asked_in}
use Rattle.ledger_model.specs.Script.{text_alone}
use Rattle.ledger_model.specs.State as state
use Rattle.ledger_model.specs.State.{State, active_table, recorded_in}
use Rattle.ledger_model.specs.Values.{field}
use Rattle.ledger_model.specs.Run.{Begun, left_of, next_id, ran, run, start}
use Rattle.workload.specs.Made.{asked_with, made_document, made_first, made_job}
use Rattle.laws_workload.proofs.Inversions.{ran_two}
use Rattle.laws_workload.proofs.Statements.{steps_count, steps_create, steps_index, steps_insert}

abbrev pub name : List ℕ
name = codes "made"

-- the documents' drafts that the block adds
abbrev pub drafts_in : Block → List Draft
drafts_in b = map state.draft_of (recorded_in b.info.tables b.revisions)

-- it makes the table, which wasn't there
pub record MakesTable (s : State) (b : Block) : Type 0 where
  pub free : active_table s.tables name ≡ None
  pub id : TableId
  pub of_index : TableId
  pub schema : b.info.schema ≡ Create name id ∷ Index (codes "s") of_index ∷ []
  pub none : drafts_in b ≡ []

-- the transaction's own document
abbrev pub draft_at : ℕ → TableId → ℕ → Value → Draft
draft_at mask table n v = record { table = table; id = record { raw = raw_id mask n 1 }; version = 0; content = Kept v }

-- it adds a document to the table that is there
pub record AddsDocument (mask : ℕ) (s : State) (v : Value) (b : Block) : Type 0 where
  pub table : TableId
  pub there : active_table s.tables name ≡ Some table
  pub schema : b.info.schema ≡ []
  pub number : ℕ
  pub id : b.header.tx.raw ≡ raw_id mask number 0
  pub adds : drafts_in b ≡ draft_at mask table number v ∷ []

module _ (mask : ℕ) (s : State) (b : Block) (m : Means mask s b) where
  abbrev begun : Begun
  begun = record { mask = mask; number = m.number }

  ran_as : (asked : List Request) → asked_in (said_in b.info.said) ≡ asked → run begun s asked ≡ ran m.progress
  ran_as asked is = ap (λ (rs : List Request). run begun s rs) (sym is) ∙ m.runs

  log_left : (log : List Draft) → m.progress.log ≡ log → drafts_in b ≡ left_of log
  log_left log is = m.revisions ∙ ap left_of is

  pub makes_table : asked_in (said_in b.info.said) ≡ made_first.statements → MakesTable s b
  makes_table is =
      let two = ran_two begun s (text_alone (codes "CREATE TABLE made")) (text_alone (codes "CREATE INDEX ON made (s)")) m.progress
      (ran_as made_first.statements is) in
      let one = steps_create begun s start two.between two.one in
      let next = steps_index begun s two.between m.progress two.two in
      record {
        free = one.0;
        id = record { raw = next_id begun start };
        of_index = next.0;
        schema = m.schema ∙ next.1 ∙ ap (λ (cs : List Schema). cs ++ Index (codes "s") next.0 ∷ []) one.1;
        none = log_left [] (next.2 ∙ ap (λ (ds : List Draft). ds ++ []) one.2);
      }

  pub adds_document : (session transaction amount : ℕ)
      → asked_in (said_in b.info.said) ≡ (made_job session transaction amount).statements
      → AddsDocument mask s (made_document session transaction amount) b
  adds_document session transaction amount is =
      let v = made_document session transaction amount in
      let fields =
      field (codes "s") (number session) ∷ field (codes "t") (number transaction) ∷ field (codes "amount") (number amount) ∷ [] in
      let two = ran_two begun s (asked_with (codes "INSERT INTO made ?") v)
      (asked_with (codes "SELECT COUNT(*) FROM made AS m WHERE m.s = ?") (number session)) m.progress
      (ran_as (made_job session transaction amount).statements is) in
      let one = steps_insert begun s start two.between fields two.one in
      let next = steps_count begun s two.between m.progress (number session) two.two in
      record {
        table = one.0;
        there = one.1;
        schema = m.schema ∙ next.0 ∙ ap (λ (cs : List Schema). cs ++ []) one.2;
        number = m.number;
        id = m.id;
        adds = log_left (draft_at mask one.0 m.number v ∷ [])
            (next.1 ∙ ap (λ (ds : List Draft). ds ++ []) one.3);
      }
