-- What a block that follows a state tells, and what holds of the latest revisions there.
use Rattle.std.proofs.Common.{◌≡◌, ◌∙◌, ◌&&◌, ◌==◌, ℕ, Bool, true, false, List, [], ◌∷◌, Option, Some, None, refl, sym, subst, inl, inr, if◌then◌else◌}
use Rattle.std.specs.Prelude.{is_none}
use Rattle.std.specs.List.{AllByRecursion, list_all, filter}
use Rattle.std.proofs.lemmas.Bool.{and_parts, and_cases, eqb-true}
use Rattle.std.proofs.lemmas.List.Folds.{list_all-append}
use Rattle.ql_types.specs.Ids.{transaction_in}
use Rattle.ledger_model.specs.declared.block.Block.{Block}
use Rattle.ledger_model.specs.Script.{or_else}
use Rattle.ledger_model.specs.State.{State, Recorded, recorded_in}
use Rattle.ledger_model.specs.Follows.{latest_of, is_new, is_made_by, made_ids, created_ids, document_ids, ids_follow, schema_follows, revision_follows, all_differ, follows}

-- ---- the parts of the check

pub record Parted (mask : ℕ) (s : State) (b : Block) : Type 0 where
  pub created : list_all (is_made_by mask (transaction_in mask b.header.tx.raw)) (created_ids b.info.schema) ≡ true
  pub documents : list_all (is_made_by mask (transaction_in mask b.header.tx.raw))
      (filter (is_new s.revisions) (document_ids b.revisions)) ≡ true
  pub revisions : list_all (revision_follows s b) (recorded_in b.info.tables b.revisions) ≡ true

pub parted : (mask : ℕ) (s : State) (b : Block) → follows mask s b ≡ true → Parted mask s b
parted mask s b f =
    let by : ℕ → Bool = is_made_by mask (transaction_in mask b.header.tx.raw) in
    let schema = schema_follows s.tables s.indexes b.info.schema in
    let ids = ids_follow mask (made_ids s b) b.header.tx.raw in
    let each = list_all (revision_follows s b) (recorded_in b.info.tables b.revisions) in
    let three = and_parts (schema && ids && each) (all_differ (document_ids b.revisions)) f in
    let two = and_parts (schema && ids) each three.0 in
    let made = and_parts (list_all by (made_ids s b)) (all_differ (made_ids s b)) (and_parts schema ids two.0).1 in
    let news = filter (is_new s.revisions) (document_ids b.revisions) in
    let parts = and_parts (list_all by (created_ids b.info.schema)) (list_all by news)
    (sym (list_all-append by (created_ids b.info.schema) news) ∙ made.0) in
    record { created = parts.0; documents = parts.1; revisions = two.1 }

-- ---- what holds of each revision holds of a document's latest one

module _ (P : Recorded → Type 0) where
  latest_step : (r : Recorded) (id : ℕ) (o : Option Recorded) (t : Bool) (last : Recorded) → (o ≡ Some last → P last)
      → P r
      → or_else o (if t then Some r else None) ≡ Some last → P last
  latest_step r id (Some x) t last rest h e = rest e
  latest_step r id None true last rest h e = let same : r ≡ last = cc in subst P same h
  latest_step r id None false last rest h e = cc

  pub latest_like : (rs : List Recorded) (id : ℕ) (last : Recorded) → AllByRecursion P rs
      → latest_of rs id ≡ Some last → P last
  latest_like [] id last h e = cc
  latest_like (r ∷ rs) id last h e =
      latest_step r id (latest_of rs id) (r.revision.metadata.id.raw == id) last
      (λ k. latest_like rs id last h.1 k) h.0 e

pub none_latest : (o : Option Recorded) → is_none o ≡ true → o ≡ None
none_latest None h = refl
none_latest (Some r) h = cc

-- ---- a document that isn't new is one of those before

is_none_or : {X : Type 0} (o p : Option X) → is_none (or_else o p) ≡ (is_none o && is_none p)
is_none_or None p = refl
is_none_or (Some x) p = refl

there : {X : Type 0} (t : Bool) (x : X) → is_none (if t then Some x else None) ≡ false → t ≡ true
there true x h = refl
there false x h = cc

pub old_like : (P : ℕ → Type 0) (old : List Recorded) (id : ℕ)
    → AllByRecursion (λ r. P r.revision.metadata.id.raw) old → is_new old id ≡ false → P id
old_like P [] id h k = cc
old_like P (r ∷ rs) id h k =
    elim (and_cases (is_new rs id) (is_none (if r.revision.metadata.id.raw == id then Some r else None))
    (sym (is_none_or (latest_of rs id) _) ∙ k)) [
      | inl rest ↦ old_like P rs id h.1 rest
      | inr here ↦ subst P (eqb-true _ _ (there (r.revision.metadata.id.raw == id) r here)) h.0
    ]
