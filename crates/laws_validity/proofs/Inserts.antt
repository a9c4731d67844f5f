-- INSERT INTO a table keeps what holds of a transaction so far.
use Rattle.std.proofs.Common.{◌≡◌, ◌<◌, ℕ, true, List, [], ◌∷◌, ◌++◌, length, None, Result, Ok, Err, refl, sym, subst, append-nil}
use Rattle.std.specs.Prelude.{codes}
use Rattle.std.proofs.lemmas.Bool.{ltb-true, leb-true}
use Rattle.ion_values.specs.Depth.{depth_of}
use Rattle.ion_values.specs.declared.value.Value.{Value}
use Rattle.ion_values.specs.declared.value.Body.{out-Body}
use Rattle.ion_model.specs.Write.{value_text}
use Rattle.pql_model.specs.Meaning.{meaning, under}
use Rattle.pql_model.specs.declared.expr.Expr.{Expr}
use Rattle.ql_types.specs.declared.TableId.{TableId}
use Rattle.ledger_model.specs.declared.block.Content.TheVariants.{Kept}
use Rattle.ledger_model.specs.declared.block.Draft.{Draft}
use Rattle.ledger_model.specs.declared.outcome.Refusal.{Refusal}
use Rattle.ledger_model.specs.declared.outcome.Refusal.TheVariants.{TooManyRevisions, DocumentTooLarge, NotADocument, TooDeep}
use Rattle.ledger_model.specs.Values.{is_struct, kind_of}
use Rattle.ledger_model.specs.State.{State}
use Rattle.ledger_model.specs.Views.{latest}
use Rattle.ledger_model.specs.Run.{Begun, Progress, next_id, is_shallow, is_small, told_depth, has_room, not_stored, changed_by, table_now, reserved, documents_in, new_document, stored, if_documents, inserted}
use Rattle.ledger_model.specs.Follows.{latest_of, created_ids, has_table}
use Rattle.laws_validity.specs.Pending.{goes_on}
use Rattle.laws_validity.proofs.Parts.{shallow_id}
use Rattle.laws_validity.proofs.Journals.{past}
use Rattle.laws_validity.proofs.Ready.{IsReady}
use Rattle.laws_validity.proofs.Progress.{IsPending, given_new, newest}
use Rattle.laws_validity.proofs.Revisions.{insert_more}
use Rattle.laws_validity.proofs.Following.{none_latest}
use Rattle.laws_validity.proofs.Effects.{IsThere, MadeBy, FineEffect, Leaves, unless_leaves, on_table_leaves, then_leaves, same_made, same_progress, table_there}

module _ (b : Begun) (s : State) (ready : IsReady b s) where
  abbrev new_draft : Progress → TableId → Value → Draft
  new_draft p table v = record { table = table; id = record { raw = next_id b p }; version = 0; content = Kept v }

  new_pending : (p : Progress) (table : TableId) (v : Value) → MadeBy b s p → IsThere s p.schema table
      → is_shallow v ≡ true
      → IsPending s (created_ids p.schema) (new_draft p table v)
  new_pending p table v m t low =
      let new = given_new b s ready p.schema p.log p.made m (next_id b p) (newest b p.made) in
      record {
        on = subst (λ o. goes_on (new_draft p table v) o ≡ true)
            (sym (none_latest (latest_of s.revisions (next_id b p)) new)) refl;
        table = t.table;
        table_fits = t.fits;
        shallow = leb-true (depth_of v) 64 low;
        unredacted = refl;
      }

  -- one document
  one_leaves : (p : Progress) (table : TableId) (v : Value) → MadeBy b s p → IsThere s p.schema table
      → not_stored p v ≡ None
      → FineEffect b s p (new_document (next_id b p) table v)
  one_leaves p table v m t n =
      let one = past (is_struct (out-Body v.body)) (NotADocument (kind_of (out-Body v.body))) _ n in
      let two = past (is_shallow v) (TooDeep (told_depth v)) _ one.1 in
      let three = past (is_small v) (DocumentTooLarge (length (value_text v))) _ two.1 in
      let four = past (has_room p) (TooManyRevisions 41) None three.1 in
      let room : length (latest p.log) < 40 = ltb-true (length (latest p.log)) 40 four.0 in
      let more = insert_more b s p.schema p.log p.made m ready (new_draft p table v) refl
      (new_pending p table v m t two.0) room in
      record {
        rows = (shallow_id (codes "documentId") (next_id b p), tt);
        made = same_made b s _ _ _ _ _ _ (sym (append-nil p.schema)) refl refl more;
      }

  still_there : (p : Progress) (id : TableId) → IsThere s p.schema id → IsThere s (p.schema ++ []) id
  still_there p id t = record {
    table = subst (λ cs. has_table s.tables (created_ids cs) id ≡ true) (sym (append-nil p.schema)) t.table;
    fits = t.fits;
  }

  stored_leaves : (table : TableId) (vs : List Value) (p : Progress) → MadeBy b s p → IsThere s p.schema table
      → Leaves b s p (stored b table p vs)
  stored_leaves table [] p m t = record { rows = tt; made = same_progress b s p m }
  stored_leaves table (v ∷ vs) p m t =
      let e = new_document (next_id b p) table v in
      unless_leaves b s p (not_stored p v) _ (λ n.
      let one = one_leaves p table v m t n in
      then_leaves b s p e one (stored b table (changed_by p e) vs)
      (stored_leaves table vs (changed_by p e) one.made (still_there p table t)))

  documents_leave : (p : Progress) (table : TableId) → MadeBy b s p → IsThere s p.schema table
      → (x : Result (List Value) Refusal)
      → Leaves b s p (if_documents x (stored b table p))
  documents_leave p table m t (Err cause) = tt
  documents_leave p table m t (Ok vs) = stored_leaves table vs p m t

  pub leaves_insert : (p : Progress) (params : List Value) (name : List ℕ) (e : Expr) → MadeBy b s p
      → Leaves b s p (inserted b s p params name e)
  leaves_insert p params name e m =
      unless_leaves b s p (reserved name) _ (λ _. on_table_leaves b s p name _ (table_now s p name) (λ id t.
      documents_leave p id m (table_there b s ready p m name id t) (documents_in (meaning e (under [] params)))))
