-- A transaction that changes the schema keeps what holds of it so far.
use Rattle.std.proofs.Common.{◌≡◌, ◌∙◌, ◌<◌, ◌+◌, ℕ, true, List, [], ◌∷◌, ◌++◌, sym, ap, subst, append_assoc, append-nil, arith}
use Rattle.std.specs.Prelude.{is_none}
use Rattle.std.specs.List.{AllByRecursion, filter}
use Rattle.ql_types.specs.Ids.{raw_id}
use Rattle.ledger_model.specs.declared.block.Schema.{Schema}
use Rattle.ledger_model.specs.declared.block.Schema.TheVariants.{Create}
use Rattle.ledger_model.specs.declared.block.Draft.{Draft}
use Rattle.ledger_model.specs.State.{State, all_changed, all_indexed, active_table}
use Rattle.ledger_model.specs.Run.{Begun, created_count}
use Rattle.ledger_model.specs.Views.{latest}
use Rattle.ledger_model.specs.Whole.{schema_fits}
use Rattle.ledger_model.specs.Follows.{is_new, change_follows, created_id, created_ids, all_differ}
use Rattle.laws_validity.specs.Pending.{draft_ids, given_ids}
use Rattle.laws_validity.proofs.Lists.{all_push, all_like, all_insert, apart, differ_put}
use Rattle.laws_validity.proofs.Tables.{schema_push, created_ids_append, created_count_append, has_table_more}
use Rattle.laws_validity.proofs.Ready.{IsReady}
use Rattle.laws_validity.proofs.Progress.{IsPending, IsGiven, Made, older, newest, differs_from_next, given_fits}

-- what pends may pend as more tables are created
more_created : (s : State) (ids more : List ℕ) (log : List Draft) → AllByRecursion (IsPending s ids) log
    → AllByRecursion (IsPending s (ids ++ more)) log
more_created s ids more log h =
    all_like (IsPending s ids) (IsPending s (ids ++ more)) (λ d f. record {
      on = f.on;
      table = has_table_more s.tables ids more d.table f.table;
      table_fits = f.table_fits;
      shallow = f.shallow;
      unredacted = f.unredacted;
    }) log h

module _ (b : Begun) (s : State) (schema : List Schema) (log : List Draft) (made : ℕ)
    (m : Made b s schema log made) where
  -- a table of a free name is created
  pub create_more : IsReady b s → (name : List ℕ) → is_none (active_table (all_changed s.tables schema) name) ≡ true
      → created_count schema < 20
      → Made b s (schema ++ Create name (record { raw = raw_id b.mask b.number (made + 1) }) ∷ []) log (made + 1)
  create_more ready name free room =
      let id = raw_id b.mask b.number (made + 1) in
      let c = Create name (record { raw = id }) in
      let ids = created_ids schema in
      let news = filter (is_new s.revisions) (draft_ids (latest log)) in
      let fits = given_fits b s ready schema log made m id (newest b made) in
      let created : created_ids (schema ++ c ∷ []) ≡ ids ++ id ∷ [] = created_ids_append schema (c ∷ []) in
      let counts = created_count_append schema (c ∷ []) in
      let all : given_ids s (schema ++ c ∷ []) log ≡ ids ++ id ∷ news = ap (λ xs. xs ++ news) created
      ∙ append_assoc ids (id ∷ []) news in
      let others = all_like (IsGiven b made) (λ x. id ≡ x → ⊥) (differs_from_next b made)
      (given_ids s schema log) m.ids in
      record {
        ids = subst (AllByRecursion (IsGiven b (made + 1))) (sym all)
            (all_insert (IsGiven b (made + 1)) ids news id (older b made (given_ids s schema log) m.ids)
            (newest b made));
        differ = subst (λ xs. all_differ xs ≡ true) (sym all)
            (differ_put ids news id m.differ (apart id (given_ids s schema log) others));
        follow = schema_push schema s.tables s.indexes c m.follow free;
        fits = all_push (λ d. schema_fits d ≡ true) schema c m.fits fits;
        drafts = subst (λ xs. AllByRecursion (IsPending s xs) log) (sym created)
            (more_created s ids (id ∷ []) log m.drafts);
        count = let e = m.count in omega (arith, e, counts);
        few_tables = omega (arith, counts, room);
        few_documents = m.few_documents;
      }

  -- a change that creates no table
  pub change_more : (c : Schema) → created_id c ≡ [] → created_count (c ∷ []) ≡ 0 → schema_fits c ≡ true
      → change_follows (all_changed s.tables schema) (all_indexed s.indexes schema) c ≡ true
      → Made b s (schema ++ c ∷ []) log made
  change_more c none uncounted fits follows =
      let news = filter (is_new s.revisions) (draft_ids (latest log)) in
      let created : created_ids (schema ++ c ∷ []) ≡ created_ids schema =
      created_ids_append schema (c ∷ []) ∙ ap (λ xs. created_ids schema ++ xs) (append-nil (created_id c) ∙ none)
      ∙ append-nil (created_ids schema) in
      let counts = created_count_append schema (c ∷ []) in
      let all : given_ids s (schema ++ c ∷ []) log ≡ given_ids s schema log = ap (λ xs. xs ++ news) created in
      record {
        ids = subst (AllByRecursion (IsGiven b made)) (sym all) m.ids;
        differ = subst (λ xs. all_differ xs ≡ true) (sym all) m.differ;
        follow = schema_push schema s.tables s.indexes c m.follow follows;
        fits = all_push (λ d. schema_fits d ≡ true) schema c m.fits fits;
        drafts = subst (λ xs. AllByRecursion (IsPending s xs) log) (sym created) m.drafts;
        count = let e = m.count in omega (arith, e, counts, uncounted);
        few_tables = let f = m.few_tables in omega (arith, f, counts, uncounted);
        few_documents = m.few_documents;
      }
