-- UPDATE, FROM with a change, and DELETE keep what holds of a transaction so far.
use Rattle.std.proofs.Common.{◌≡◌, ◌≤◌, ◌==◌, ◌&&◌, ◌||◌, ◌⊎◌, ℕ, Bool, true, false, List, [], ◌∷◌, ◌++◌, length, Option, Some, None, refl, sym, subst, append-nil, arith, inl, inr, true≢false, if◌then◌else◌}
use Rattle.std.specs.Prelude.{codes, is_some}
use Rattle.std.specs.List.{AllByRecursion, find, list_any}
use Rattle.std.proofs.lemmas.Bool.{and_parts, eqb-true, leb-true, ltb-true, or_cases}
use Rattle.ion_values.specs.Depth.{depth_of}
use Rattle.ion_values.specs.declared.value.Value.{Value}
use Rattle.ion_values.specs.declared.value.Body.{out-Body}
use Rattle.ion_model.specs.Write.{value_text}
use Rattle.pql_model.specs.declared.statement.Change.{Change}
use Rattle.pql_model.specs.declared.statement.FromClause.{FromClause}
use Rattle.pql_model.specs.declared.tables.Row.{Row}
use Rattle.pql_model.specs.Effects.{changed_documents, deleted_documents}
use Rattle.ql_types.specs.declared.DocId.{DocId}
use Rattle.ql_types.specs.declared.TableId.{TableId}
use Rattle.ledger_model.specs.declared.block.Content.{Content}
use Rattle.ledger_model.specs.declared.block.Content.TheVariants.{Deleted, Kept}
use Rattle.ledger_model.specs.declared.block.Draft.{Draft}
use Rattle.ledger_model.specs.declared.outcome.Refusal.TheVariants.{DocumentTooLarge, NotADocument, TooDeep, TooManyRevisions}
use Rattle.ledger_model.specs.Follows.{created_ids, is_active, is_kept, is_new, latest_of}
use Rattle.ledger_model.specs.Progress.{not_kept}
use Rattle.ledger_model.specs.Run.{Begun, Progress, changed_by, first_absent, has_room, is_shallow, is_small, tables_now, told_depth}
use Rattle.ledger_model.specs.Script.{or_else}
use Rattle.ledger_model.specs.State.{Recorded, State, Table}
use Rattle.ledger_model.specs.Values.{is_struct, kind_of}
use Rattle.ledger_model.specs.Views.{latest}
use Rattle.ledger_model.specs.Whole.{id_fits}
use Rattle.ledger_model.specs.Writing.{again_of, changed, deleted, first_own, has_room_for, if_active, is_root, next_of, no_room, pending_of, revised, revised_by, rows_now, stored_changes, stored_deletes, touched, touching}
use Rattle.laws_validity.specs.Pending.{draft_ids}
use Rattle.laws_validity.proofs.Effects.{FineEffect, Leaves, MadeBy, same_made, same_progress, then_leaves, unless_leaves}
use Rattle.laws_validity.proofs.Journals.{past}
use Rattle.laws_validity.proofs.Latest.{all_latest}
use Rattle.laws_validity.proofs.Parts.{shallow_id}
use Rattle.laws_validity.proofs.Progress.{IsPending}
use Rattle.laws_validity.proofs.Ready.{IsReady}
use Rattle.laws_validity.proofs.Revised.{IsContent, again_pends, known_of, next_pends}
use Rattle.laws_validity.proofs.Revisions.{as_many, ids_same, one_longer, revise_more}
use Rattle.laws_validity.proofs.Tables.{TableFits, active_has, tables_fit}

-- ---- what is found in a list

module _ {X : Type 0} (q : X → Bool) where
  found_like : (P : X → Type 0) (xs : List X) (x : X) → AllByRecursion P xs → find q xs ≡ Some x → P x
  found_like P [] x h e = cc
  found_like P (y ∷ ys) x h e = by_test (λ k. found_like P ys x h.1 k) (q y) e where
    by_test : (find q ys ≡ Some x → P x) → (b : Bool) → (if b then Some y else find q ys) ≡ Some x → P x
    by_test rest true k = let same : y ≡ x = cc in subst P same h.0
    by_test rest false k = rest k

  found_passes : (xs : List X) (x : X) → find q xs ≡ Some x → q x ≡ true
  found_passes [] x e = cc
  found_passes (y ∷ ys) x e = by_test (λ k. found_passes ys x k) (q y) refl e where
    by_test : (find q ys ≡ Some x → q x ≡ true) → (b : Bool) → q y ≡ b → (if b then Some y else find q ys) ≡ Some x
        → q x ≡ true
    by_test rest true t k = let same : y ≡ x = cc in subst (λ z. q z ≡ true) same t
    by_test rest false t k = rest k

found_among : (id : ℕ) (ds : List Draft) (d : Draft) → find (λ (x : Draft). x.id.raw == id) ds ≡ Some d
    → list_any (λ x. x == id) (draft_ids ds) ≡ true
found_among id [] d e = cc
found_among id (x ∷ xs) d e = by_test (λ k. found_among id xs d k) (x.id.raw == id) e where
  by_test : (find (λ (y : Draft). y.id.raw == id) xs ≡ Some d → list_any (λ y. y == id) (draft_ids xs) ≡ true)
      → (b : Bool)
      → (if b then Some x else find (λ (y : Draft). y.id.raw == id) xs) ≡ Some d
      → (b || list_any (λ y. y == id) (draft_ids xs)) ≡ true
  by_test rest true k = refl
  by_test rest false k = rest k

latest_is_of : (rs : List Recorded) (id : ℕ) (last : Recorded) → latest_of rs id ≡ Some last
    → last.revision.metadata.id.raw ≡ id
latest_is_of [] id last e = cc
latest_is_of (r ∷ rs) id last e =
    by_rest (latest_of rs id) (λ k. latest_is_of rs id last k) (r.revision.metadata.id.raw == id) refl e where
      by_rest : (o : Option Recorded) → (o ≡ Some last → last.revision.metadata.id.raw ≡ id) → (t : Bool)
          → (r.revision.metadata.id.raw == id) ≡ t → or_else o (if t then Some r else None) ≡ Some last
          → last.revision.metadata.id.raw ≡ id
      by_rest (Some x) rest t f k = rest k
      by_rest None rest true f k =
          let same : r ≡ last = cc in
          subst (λ (x : Recorded). x.revision.metadata.id.raw ≡ id) same (eqb-true r.revision.metadata.id.raw id f)
      by_rest None rest false f k = cc

-- an active table's id fits its type
active_table_fits : (ts : List Table) (id : TableId) → AllByRecursion TableFits ts → is_active ts id ≡ true
    → id_fits id.raw ≡ true
active_table_fits [] id h e = cc
active_table_fits (t ∷ ts) id h e =
    elim (or_cases (t.active && (t.id.raw == id.raw)) (is_active ts id) e) [
      | inl here ↦ subst (λ (n : ℕ). id_fits n ≡ true)
          (eqb-true t.id.raw id.raw (and_parts t.active (t.id.raw == id.raw) here).1) h.0
      | inr rest ↦ active_table_fits ts id h.1 rest
    ]

module _ (b : Begun) (s : State) (ready : IsReady b s) where
  -- ---- the revision that a touch gives

  -- it may pend, and its document has a revision already; of one that was touched before there are no more documents
  record IsRevision (p : Progress) (d : Draft) (again : Bool) : Type 0 where
    pub pending : IsPending s (created_ids p.schema) d
    pub known :
        (is_new s.revisions d.id.raw ≡ false) ⊎ (list_any (λ x. x == d.id.raw) (draft_ids (latest p.log)) ≡ true)
    pub as_many : again ≡ true → length (latest (p.log ++ d ∷ [])) ≡ length (latest p.log)

  again_is : (p : Progress) (id : DocId) (c : Content) (d : Draft) → MadeBy b s p → IsContent c
      → pending_of p id ≡ Some d → IsRevision p (again_of d c) true
  again_is p id c d m content e =
      let pends = all_latest (IsPending s (created_ids p.schema)) p.log m.drafts in
      let is = eqb-true d.id.raw id.raw (found_passes (λ (x : Draft). x.id.raw == id.raw) (latest p.log) d e) in
      let among = subst (λ (n : ℕ). list_any (λ x. x == n) (draft_ids (latest p.log)) ≡ true) (sym is)
      (found_among id.raw (latest p.log) d e) in
      record {
        pending = again_pends s (created_ids p.schema) d c
            (found_like (λ (x : Draft). x.id.raw == id.raw) (IsPending s (created_ids p.schema)) (latest p.log) d pends
            e)
            content;
        known = inr among;
        as_many = λ _. as_many _ _ (ids_same p.log (again_of d c) among);
      }

  next_is : (p : Progress) (id : DocId) (c : Content) (last : Recorded) → MadeBy b s p → IsContent c
      → latest_of s.revisions last.revision.metadata.id.raw ≡ Some last → is_kept last.revision.content ≡ true
      → is_active (tables_now s p) last.table ≡ true → IsRevision p (next_of last c) false
  next_is p id c last m content e kept active = record {
    pending = next_pends s (created_ids p.schema) last c e kept (active_has p.schema s.tables last.table active)
        (active_table_fits (tables_now s p) last.table (tables_fit p.schema s.tables ready.tables m.fits) active)
        content;
    known = inl (known_of s.revisions last.revision.metadata.id.raw last e);
    as_many = λ t. absurd (true≢false (sym t));
  }

  -- where its table is active
  kept_active : (p : Progress) (x d : Draft) (again : Bool)
      → (is_active (tables_now s p) x.table ≡ true → IsRevision p x again)
      → if_active (tables_now s p) (Some x) ≡ Some d → IsRevision p d again
  kept_active p x d again h e = by_test (is_active (tables_now s p) x.table) refl e where
    by_test : (t : Bool) → is_active (tables_now s p) x.table ≡ t → (if t then Some x else None) ≡ Some d
        → IsRevision p d again
    by_test true t k = let same : x ≡ d = cc in subst (λ y. IsRevision p y again) same (h t)
    by_test false t k = cc

  -- where it isn't deleted
  if_kept : (p : Progress) (c : Content) (x d : Draft) (again : Bool)
      → (is_kept c ≡ true → is_active (tables_now s p) x.table ≡ true → IsRevision p x again)
      → if_active (tables_now s p) (if is_kept c then Some x else None) ≡ Some d → IsRevision p d again
  if_kept p c x d again h e = by_test (is_kept c) refl e where
    by_test : (t : Bool) → is_kept c ≡ t → if_active (tables_now s p) (if t then Some x else None) ≡ Some d
        → IsRevision p d again
    by_test true t k = kept_active p x d again (h t) k
    by_test false t k = cc

  by_parts : (p : Progress) (id : DocId) (c : Content) (d : Draft) → MadeBy b s p → IsContent c
      → (o : Option Draft) → pending_of p id ≡ o → (l : Option Recorded) → latest_of s.revisions id.raw ≡ l
      → if_active (tables_now s p) (revised_by c o l) ≡ Some d → IsRevision p d (is_some o)
  by_parts p id c d m content (Some x) e l f k =
      if_kept p x.content (again_of x c) d true (λ _ _. again_is p id c x m content e) k
  by_parts p id c d m content None e None f k = cc
  by_parts p id c d m content None e (Some last) f k =
      let own = latest_is_of s.revisions id.raw last f in
      let here = subst (λ n. latest_of s.revisions n ≡ Some last) (sym own) f in
      if_kept p last.revision.content (next_of last c) d false
      (λ kept active. next_is p id c last m content here kept active) k

  revised_is : (p : Progress) (id : DocId) (c : Content) (d : Draft) → MadeBy b s p → IsContent c
      → revised s p id c ≡ Some d → IsRevision p d (is_some (pending_of p id))
  revised_is p id c d m content e =
      by_parts p id c d m content (pending_of p id) refl (latest_of s.revisions id.raw) refl e

  -- ---- a touch

  few_documents : (p : Progress) (id : DocId) (d : Draft) → MadeBy b s p → IsRevision p d (is_some (pending_of p id))
      → has_room_for p id ≡ true → length (latest (p.log ++ d ∷ [])) ≤ 40
  few_documents p id d m is room =
      elim (or_cases (is_some (pending_of p id)) (has_room p) room) [
        | inl again ↦ let same = is.as_many again in let few = m.few_documents in omega (arith, same, few)
        | inr more ↦
            let few = ltb-true (length (latest p.log)) 40 more in
            let longer = one_longer p.log d in
            omega (arith, few, longer)
      ]

  fine_touched : (p : Progress) (id : DocId) (o : Option Draft) → MadeBy b s p
      → ((d : Draft) → o ≡ Some d → IsRevision p d (is_some (pending_of p id))) → has_room_for p id ≡ true
      → FineEffect b s p (touched o)
  fine_touched p id None m h room = record { rows = tt; made = same_progress b s p m }
  fine_touched p id (Some d) m h room =
      let is = h d refl in
      let more = revise_more b s p.schema p.log p.made m d is.known is.pending (few_documents p id d m is room) in
      record {
        rows = (shallow_id (codes "documentId") d.id.raw, tt);
        made = same_made b s _ _ _ _ _ _ (sym (append-nil p.schema)) refl (omega arith) more;
      }

  fine_touching : (p : Progress) (id : DocId) (c : Content) → MadeBy b s p → IsContent c → has_room_for p id ≡ true
      → FineEffect b s p (touching s p id c)
  fine_touching p id c m content room =
      fine_touched p id (revised s p id c) m (λ d e. revised_is p id c d m content e) room

  -- ---- UPDATE, and FROM with a change

  -- a content that is stored doesn't nest too deep, and there is room for it
  kept_content : (room : Bool) (v : Value) → not_kept room v ≡ None → IsContent (Kept v) × (room ≡ true)
  kept_content room v n =
      let one = past (is_struct (out-Body v.body)) (NotADocument (kind_of (out-Body v.body))) _ n in
      let two = past (is_shallow v) (TooDeep (told_depth v)) _ one.1 in
      let three = past (is_small v) (DocumentTooLarge (length (value_text v))) _ two.1 in
      let four = past room (TooManyRevisions 41) None three.1 in
      (record { shallow = leb-true (depth_of v) 64 two.0; unredacted = refl }, four.0)

  changes_leave : (ds : List Row) (p : Progress) → MadeBy b s p → Leaves b s p (stored_changes s p ds)
  changes_leave [] p m = record { rows = tt; made = same_progress b s p m }
  changes_leave (d ∷ ds) p m =
      let e = touching s p d.id (Kept d.value) in
      unless_leaves b s p (not_kept (has_room_for p d.id) d.value) _ (λ n.
      let kept = kept_content (has_room_for p d.id) d.value n in
      let one = fine_touching p d.id (Kept d.value) m kept.0 kept.1 in
      then_leaves b s p e one (stored_changes s (changed_by p e) ds) (changes_leave ds (changed_by p e) one.made))

  pub leaves_change : (p : Progress) (params : List Value) (from : FromClause) (c : Change) → MadeBy b s p
      → Leaves b s p (changed s p params from c)
  leaves_change p params from c m =
      unless_leaves b s p (first_own (is_root from.sources c) 0 from.sources) _ (λ _.
      unless_leaves b s p (first_absent s p from.sources) _ (λ _.
      changes_leave (changed_documents params c (rows_now s p params from)) p m))

  -- ---- DELETE

  room_of : (room : Bool) → (if room then None else Some (TooManyRevisions 41)) ≡ None → room ≡ true
  room_of true e = refl
  room_of false e = cc

  deletes_leave : (ids : List DocId) (p : Progress) → MadeBy b s p → Leaves b s p (stored_deletes s p ids)
  deletes_leave [] p m = record { rows = tt; made = same_progress b s p m }
  deletes_leave (id ∷ ids) p m =
      let e = touching s p id Deleted in
      unless_leaves b s p (no_room p id) _ (λ n.
      let one = fine_touching p id Deleted m (record { shallow = tt; unredacted = refl })
      (room_of (has_room_for p id) n) in
      then_leaves b s p e one (stored_deletes s (changed_by p e) ids) (deletes_leave ids (changed_by p e) one.made))

  pub leaves_delete : (p : Progress) (params : List Value) (from : FromClause) → MadeBy b s p
      → Leaves b s p (deleted s p params from)
  leaves_delete p params from m =
      unless_leaves b s p (first_own (λ n. true) 0 from.sources) _ (λ _.
      unless_leaves b s p (first_absent s p from.sources) _ (λ _.
      deletes_leave (deleted_documents (rows_now s p params from)) p m))
