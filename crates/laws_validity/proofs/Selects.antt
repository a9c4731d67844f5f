-- SELECT keeps what holds of a transaction so far, and its answer doesn't nest too deep.
use Rattle.std.proofs.Common.{◌≡◌, ℕ, List, map, Option, Some, None, Ok, arith}
use Rattle.std.specs.List.{AllByRecursion}
use Rattle.ion_values.specs.declared.value.Value.{Value}
use Rattle.pql_model.specs.Parse.{parsed}
use Rattle.pql_model.specs.declared.statement.FromClause.{FromClause}
use Rattle.pql_model.specs.declared.statement.Select.{Select}
use Rattle.pql_model.specs.declared.statement.Statement.TheVariants as statement
use Rattle.pql_model.specs.declared.tables.View.{View}
use Rattle.pql_model.specs.declared.tables.View.TheVariants as view
use Rattle.ql_types.specs.declared.TableId.{TableId}
use Rattle.ledger_model.specs.State.{State, draft_of}
use Rattle.ledger_model.specs.Views.{user_view}
use Rattle.ledger_model.specs.Run.{Begun, Progress, table_now, first_absent, rows_in, views_of, selected}
use Rattle.ledger_model.specs.Follows.{created_ids}
use Rattle.laws_validity.proofs.Lists.{all_like}
use Rattle.laws_validity.proofs.Shapes.{Shallow}
use Rattle.laws_validity.proofs.Parts.{ShallowContent}
use Rattle.laws_validity.proofs.Depths.{answer_shallow}
use Rattle.laws_validity.proofs.Views.{committed_view_shallow, history_shallow, view_shallow}
use Rattle.laws_validity.proofs.Ready.{IsReady}
use Rattle.laws_validity.proofs.Progress.{IsPending}
use Rattle.laws_validity.proofs.Effects.{MadeBy, Leaves, unless_leaves, same_progress}

module _ (b : Begun) (s : State) (ready : IsReady b s) where
  in_shallow : (p : Progress) → MadeBy b s p → (v : View) (o : Option TableId)
      → AllByRecursion (λ r. Shallow 65 r.value) (rows_in s p v o)
  in_shallow p m view.User (Some table) =
      let pending = all_like (IsPending s (created_ids p.schema)) (λ d. ShallowContent d.content)
      (λ d f. f.shallow) p.log m.drafts in
      all_like (λ r. Shallow 64 r.value) (λ r. Shallow 65 r.value) (λ r h. omega (arith, h))
      (user_view table (map draft_of s.revisions) p.log)
      (view_shallow table s.revisions p.log ready.contents pending)
  in_shallow p m view.Committed (Some table) = committed_view_shallow table s.revisions ready.contents
  in_shallow p m (view.History start end) (Some table) = history_shallow table start end s.revisions ready.contents
  in_shallow p m v None = tt

  views_shallow : (p : Progress) → MadeBy b s p → (name : List ℕ) (v : View)
      → AllByRecursion (λ r. Shallow 65 r.value) (views_of s p name v)
  views_shallow p m name v = in_shallow p m v (table_now s p name)

  pub leaves_select : (p : Progress) (params : List Value) (text : List ℕ) (select : Select) (from : FromClause)
      → MadeBy b s p
      → AllByRecursion (Shallow 64) params → parsed text ≡ Ok (statement.Select select from)
      → Leaves b s p (selected s p params select from)
  leaves_select p params text select from m given e =
      unless_leaves b s p (first_absent s p from.sources) _ (λ _.
      record {
        rows = answer_shallow (views_of s p) params text select from
            (views_shallow p m) given e;
        made = same_progress b s p m;
      })
