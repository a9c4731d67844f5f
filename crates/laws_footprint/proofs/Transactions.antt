-- The frame of a whole transaction, statement by statement.
use Rattle.std.proofs.Common.{◌≡◌, ◌∙◌, inr, ℕ, ◌+◌, true, List, [], ◌∷◌, ◌++◌, take, drop, refl, sym, ap, subst, Result, Ok, Err}
use Rattle.std.specs.List.{AllByRecursion}
use Rattle.std.proofs.lemmas.List.{append_assoc}
use Rattle.ledger_model.specs.declared.block.Block.{Block}
use Rattle.ledger_model.specs.declared.block.Draft.{Draft}
use Rattle.ledger_model.specs.declared.block.Schema.{Schema}
use Rattle.ledger_model.specs.declared.outcome.Item.{Item}
use Rattle.ledger_model.specs.declared.outcome.Refusal.{Refusal}
use Rattle.ledger_model.specs.declared.script.Request.{Request}
use Rattle.ledger_model.specs.Follows.{created_id, created_ids}
use Rattle.ledger_model.specs.Run.{Begun, Effect, Progress, done_by_statement, ran, reading, recorded, run, run_from, start}
use Rattle.ledger_model.specs.State.{State, empty, state, state_from}
use Rattle.laws_footprint.specs.Framed.{TransactionIsFramed}
use Rattle.laws_footprint.specs.Own.{AllCreated, IdsFit, is_by}
use Rattle.laws_footprint.specs.Stillness.{Apart}
use Rattle.laws_footprint.proofs.Changing.{Pends, Stands, stands_more}
use Rattle.laws_footprint.proofs.Framing.{Known, known_beside, statement_same, statement_stands}
use Rattle.laws_footprint.proofs.Rows.{all_joined, all_left, all_right, all_untouched}
use Rattle.laws_footprint.proofs.Schemas.{Untouched}
use Rattle.laws_footprint.proofs.Steps.{first_of_run, run_of_first}
use Rattle.laws_footprint.proofs.Still.{state_split}

-- ---- lists

pub created_append : (cs ds : List Schema) → created_ids (cs ++ ds) ≡ created_ids cs ++ created_ids ds
created_append [] ds = refl
created_append (c ∷ cs) ds = ap (λ ids. created_id c ++ ids) (created_append cs ds)
    ∙ sym (append_assoc (created_id c) (created_ids cs) (created_ids ds))

-- ---- one statement

pub reading_says : (items : List Item) (x : Result Effect Refusal) (e : Effect) → reading items x ≡ Ok e
    → e.footprint ≡ items
reading_says items (Err cause) e h = cc
reading_says items (Ok f) e h = let same : record f { footprint = items } ≡ e =
    cc h in sym (ap (λ (x : Effect). x.footprint) same)

-- what an effect adds to the progress
pub recorded_is : (p : Progress) (r : Request) (e : Effect) (q : Progress) → recorded p r (Ok e) ≡ Ok q
    → record {
      said = q.said;
      schema = p.schema ++ e.schema;
      log = p.log ++ e.log;
      made = p.made + e.made;
      footprint =
          p.footprint ++ e.footprint;
    } ≡ q
recorded_is p r e q h = cc h

module _ (b : Begun) (m : ℕ) (s : State) (later : List Block) where
  abbrev now : State
  now = state_from s later

  -- what is known of the transaction, and what it has read isn't touched
  abbrev Good : Progress → Type 0
  Good p = Known b.mask b.number s later p × AllByRecursion (Untouched s later) p.footprint

  -- so it was with less
  good_before : (p : Progress) (r : Request) (e : Effect) (q : Progress) → recorded p r (Ok e) ≡ Ok q → Good q
      → Good p × AllByRecursion (Untouched s later) e.footprint
  good_before p r e q h good =
      let same = recorded_is p r e q h in
      let log : p.log ++ e.log ≡ q.log = ap (λ (x : Progress). x.log) same in
      let schema : p.schema ++ e.schema ≡ q.schema = ap (λ (x : Progress). x.schema) same in
      let footprint : p.footprint ++ e.footprint ≡ q.footprint = ap (λ (x : Progress). x.footprint) same in
      let k = good.0 in
      let read = subst (AllByRecursion (Untouched s later)) (sym footprint) good.1 in (
        (
          record {
            apart = all_left _ p.log e.log (subst (Apart later) (sym log) k.apart);
            own_index = k.own_index;
            tables =
                all_left _ (created_ids p.schema) (created_ids e.schema)
                (subst (AllByRecursion (λ id. is_by b.mask b.number id ≡ true)) (created_append p.schema e.schema)
                (subst (AllCreated b.mask b.number) (sym schema) k.tables));
            fit = k.fit;
            own_fit = all_left _ p.log e.log (subst IdsFit (sym log) k.own_fit);
            steady = k.steady;
          },
          all_left _ p.footprint e.footprint read,
        ),
        all_right _ p.footprint e.footprint read,
      )

  all_good : (j : ℕ) (p : Progress) (rs : List Request) (q : Progress) → run_from b s j p rs ≡ ran q → Good q → Good p
  all_good j p [] q h good = let same : q ≡ p = cc h in subst Good same good
  all_good j p (r ∷ rs) q h good =
      let w = first_of_run b s j p r rs q h in
      (good_before p r w.effect w.after w.records (all_good (j + 1) w.after rs q w.others good)).0

  -- ---- the tables of what pends stand

  stand_more : (cs ds : List Schema) (log : List Draft) → AllByRecursion (λ (d : Draft). Stands s later cs d.table) log
      → AllByRecursion (λ (d : Draft). Stands s later (cs ++ ds) d.table) log
  stand_more cs ds [] h = tt
  stand_more cs ds (d ∷ log) h = (stands_more s later cs ds d.table h.0, stand_more cs ds log h.1)

  pends_after : (p : Progress) (r : Request) (e : Effect) (q : Progress) → recorded p r (Ok e) ≡ Ok q → Pends s later p
      → AllByRecursion (λ (d : Draft). Stands s later p.schema d.table) e.log → Pends s later q
  pends_after p r e q h pends own =
      subst (Pends s later) (recorded_is p r e q h)
      (all_joined (λ (d : Draft). Stands s later (p.schema ++ e.schema) d.table) p.log e.log
      (stand_more p.schema e.schema p.log pends) (stand_more p.schema e.schema e.log own))

  -- ---- all statements

  runs_same : (j : ℕ) (p : Progress) (rs : List Request) (q : Progress) → Good q → Pends s later p
      → run_from b s j p rs ≡ ran q → run_from b now j p rs ≡ ran q
  runs_same j p [] q good pends h = h
  runs_same j p (r ∷ rs) q good pends h =
      let w = first_of_run b s j p r rs q h in
      let before = good_before p r w.effect w.after w.records (all_good (j + 1) w.after rs q w.others good) in
      let read =
      subst (AllByRecursion (Untouched s later))
      (reading_says _ (done_by_statement b s p r.params w.st) w.effect w.does) before.1 in
      run_of_first b s now j p r rs q w (statement_same b m s later p before.0.0 r.params w.st
      (inr pends) read)
      (runs_same (j + 1) w.after rs q good
      (pends_after p r w.effect w.after w.records pends
      (statement_stands b m s later p before.0.0 r.params w.st
      pends read w.effect w.does)) w.others)

pub transaction_is_framed : TransactionIsFramed
transaction_is_framed b blocks since asked p h beside none =
    let s = state (take since blocks) in
    let later = drop since blocks in
    ap (λ x. run b x asked) (state_split empty since blocks)
    ∙ runs_same b since s later 1 start asked p
    (known_beside b.mask b.number blocks since p beside, all_untouched since s later p.footprint none) tt h
