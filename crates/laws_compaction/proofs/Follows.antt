-- Whether a block follows a state does not depend on the data of revisions, or on which of them have a hash in its
-- place.
use Rattle.std.proofs.Common.{◌≡◌, ◌∙◌, ◌==◌, ◌+◌, ℕ, Bool, true, false, not, cond, ◌&&◌, ◌||◌, List, [], ◌∷◌, ◌++◌, map, Option, Some, None, refl, ap, if◌then◌else◌}
use Rattle.std.specs.Prelude.{is_none}
use Rattle.std.specs.List.{filter, find, list_all}
use Rattle.std.specs.Option.{option_map, option_map_or}
use Rattle.ql_types.specs.declared.TableId.{TableId}
use Rattle.ledger_model.specs.declared.block.Block.{Block}
use Rattle.ledger_model.specs.declared.block.Revision.{Revision}
use Rattle.ledger_model.specs.declared.block.Schema.{Schema}
use Rattle.ledger_model.specs.Compaction.{compacted_block, shown_content, shown_revisions}
use Rattle.ledger_model.specs.Follows.{all_differ, can_be_redacted, continues, created_ids, document_ids, follows, has_table, ids_follow, is_kept, is_latest, is_new, is_of, is_redacted_in, latest_of, made_ids, named_by, redaction_follows, redactions_follow, revision_follows, schema_follows}
use Rattle.ledger_model.specs.Script.{or_else}
use Rattle.ledger_model.specs.State.{Recorded, State, is_redact, is_redacted_by, recorded_in, redacts, same_address}
use Rattle.ledger_model.proofs.Redactions.{kept_hidden}
use Rattle.laws_compaction.proofs.Shown.{hide, hidden, recorded_shown}

module _ (blocks : List Block) where
  abbrev hide_in : Option Recorded → Option Recorded
  hide_in o = option_map (hide blocks) o

  kept : (r : Recorded) → is_kept (shown_content blocks r) ≡ is_kept r.revision.content
  kept r = kept_hidden (is_redacted_in blocks r) r.revision.content

  -- ---- the latest revision of a document

  latest_at : (r : Recorded) (t : Bool) (o : Option Recorded)
      → or_else (hide_in o) (if t then Some (hide blocks r) else None) ≡ hide_in
      (or_else o (if t then Some r else None))
  latest_at r t (Some x) = refl
  latest_at r true None = refl
  latest_at r false None = refl

  latest_hidden : (rs : List Recorded) (id : ℕ) → latest_of (map (hide blocks) rs) id ≡ hide_in (latest_of rs id)
  latest_hidden [] id = refl
  latest_hidden (r ∷ rs) id =
      ap (λ (o : Option Recorded). or_else o (if r.revision.metadata.id.raw == id then Some (hide blocks r) else None))
      (latest_hidden rs id)
      ∙ latest_at r (r.revision.metadata.id.raw == id) (latest_of rs id)

  none_hidden : (o : Option Recorded) → is_none (hide_in o) ≡ is_none o
  none_hidden None = refl
  none_hidden (Some x) = refl

  new_hidden : (rs : List Recorded) (id : ℕ) → is_new (map (hide blocks) rs) id ≡ is_new rs id
  new_hidden rs id = ap (λ (o : Option Recorded). is_none o) (latest_hidden rs id) ∙ none_hidden (latest_of rs id)

  news_hidden : (rs : List Recorded) (ids : List ℕ)
      → filter (is_new (map (hide blocks) rs)) ids ≡ filter (is_new rs) ids
  news_hidden rs ids = λ i. filter (λ (id : ℕ). new_hidden rs id i) ids

  continues_hidden : (r : Recorded) (o : Option Recorded) → continues (hide blocks r) (hide_in o) ≡ continues r o
  continues_hidden r None = ap (λ (b : Bool). (r.revision.metadata.version == 0) && b) (kept r)
  continues_hidden r (Some last) =
      ap (λ (b : Bool). (r.table.raw == last.table.raw) &&
      (r.revision.metadata.version == last.revision.metadata.version + 1) && b)
      (kept last)

  -- ---- a block's own revisions

  one_follows : (s : State) (b : Block) (later : List Block) (r : Recorded)
      → revision_follows (hidden blocks s) (compacted_block blocks b later) (hide blocks r) ≡ revision_follows s b r
  one_follows s b later r =
      ap (λ (x : Bool). is_of b.header r.revision && has_table s.tables (created_ids b.info.schema) r.table && x)
      (ap (λ (o : Option Recorded). continues (hide blocks r) o) (latest_hidden s.revisions r.revision.metadata.id.raw)
      ∙ continues_hidden r (latest_of s.revisions r.revision.metadata.id.raw))

  all_follow : (s : State) (b : Block) (later : List Block) (rs : List Recorded)
      → list_all (revision_follows (hidden blocks s) (compacted_block blocks b later)) (map (hide blocks) rs)
      ≡ list_all (revision_follows s b) rs
  all_follow s b later [] = refl
  all_follow s b later (r ∷ rs) =
      ap (λ (x : Bool). x && list_all (revision_follows (hidden blocks s) (compacted_block blocks b later))
      (map (hide blocks) rs))
      (one_follows s b later r)
      ∙ ap (λ (x : Bool). revision_follows s b r && x) (all_follow s b later rs)

  pub ids_shown : (ts : List TableId) (rs : List Revision)
      → document_ids (shown_revisions blocks ts rs) ≡ document_ids rs
  ids_shown [] rs = refl
  ids_shown (t ∷ ts) [] = refl
  ids_shown (t ∷ ts) (r ∷ rs) = ap (λ (xs : List ℕ). r.metadata.id.raw ∷ xs) (ids_shown ts rs)

  made_hidden : (s : State) (b : Block) (later : List Block)
      → made_ids (hidden blocks s) (compacted_block blocks b later) ≡ made_ids s b
  made_hidden s b later =
      ap (λ (ids : List ℕ). created_ids b.info.schema ++ filter (is_new (map (hide blocks) s.revisions)) ids)
      (ids_shown b.info.tables b.revisions)
      ∙ ap (λ (ids : List ℕ). created_ids b.info.schema ++ ids) (news_hidden s.revisions (document_ids b.revisions))

  pub follows_hidden : (mask : ℕ) (s : State) (b : Block) (later : List Block)
      → follows mask (hidden blocks s) (compacted_block blocks b later) ≡ follows mask s b
  follows_hidden mask s b later =
      let schema = schema_follows s.tables s.indexes b.info.schema in
      let test : List ℕ → Bool → List ℕ → Bool = λ (made : List ℕ) (each : Bool) (ids : List ℕ).
      schema && ids_follow mask made b.header.tx.raw && each && all_differ ids in
      let each = ap (λ (rs : List Recorded). list_all
      (revision_follows (hidden blocks s) (compacted_block blocks b later)) rs)
      (recorded_shown blocks b.info.tables b.revisions)
      ∙ all_follow s b later (recorded_in b.info.tables b.revisions) in
      λ i. test (made_hidden s b later i) (each i) (ids_shown b.info.tables b.revisions i)

  -- ---- redactions

  found_at : (p : Recorded → Bool) (r : Recorded) (t : Bool) (o : Option Recorded)
      → cond t (Some (hide blocks r)) (hide_in o) ≡ hide_in (cond t (Some r) o)
  found_at p r true o = refl
  found_at p r false o = refl

  found_hidden : (p : Recorded → Bool) → ((r : Recorded) → p (hide blocks r) ≡ p r) → (rs : List Recorded)
      → find p (map (hide blocks) rs) ≡ hide_in (find p rs)
  found_hidden p same [] = refl
  found_hidden p same (r ∷ rs) =
      ap (λ (t : Bool). cond t (Some (hide blocks r)) (find p (map (hide blocks) rs))) (same r)
      ∙ ap (λ (o : Option Recorded). cond (p r) (Some (hide blocks r)) o) (found_hidden p same rs)
      ∙ found_at p r (p r) (find p rs)

  is_at : (o : Option Recorded) (r : Recorded)
      → option_map_or (λ (last : Recorded). same_address last.revision.address r.revision.address) (hide_in o) false
      ≡ option_map_or (λ (last : Recorded). same_address last.revision.address r.revision.address) o false
  is_at None r = refl
  is_at (Some x) r = refl

  latest_is : (rs : List Recorded) (r : Recorded) → is_latest (map (hide blocks) rs) (hide blocks r) ≡ is_latest rs r
  latest_is rs r =
      ap (λ (o : Option Recorded). option_map_or
      (λ (last : Recorded). same_address last.revision.address r.revision.address) o false)
      (latest_hidden rs r.revision.metadata.id.raw)
      ∙ is_at (latest_of rs r.revision.metadata.id.raw) r

  module _ (before shown : List Block) (same : (r : Recorded) → is_redacted_in shown r ≡ is_redacted_in before r) where
    can_hidden : (rs : List Recorded) (earlier : List Schema) (r : Recorded)
        → can_be_redacted shown (map (hide blocks) rs) earlier (hide blocks r) ≡ can_be_redacted before rs earlier r
    can_hidden rs earlier r =
        ap (λ (x : Bool). not x && not (is_redacted_in shown r) && not (is_redacted_by earlier r)) (latest_is rs r)
        ∙ ap (λ (x : Bool). not (is_latest rs r) && not x && not (is_redacted_by earlier r)) (same r)

    can_in : (rs : List Recorded) (earlier : List Schema) (o : Option Recorded)
        → option_map_or (can_be_redacted shown (map (hide blocks) rs) earlier) (hide_in o) false
        ≡ option_map_or (can_be_redacted before rs earlier) o false
    can_in rs earlier None = refl
    can_in rs earlier (Some r) = can_hidden rs earlier r

    redaction_hidden : (rs : List Recorded) (earlier : List Schema) (c : Schema)
        → redaction_follows shown (map (hide blocks) rs) earlier c ≡ redaction_follows before rs earlier c
    redaction_hidden rs earlier c =
        ap (λ (o : Option Recorded). not (is_redact c) || option_map_or
        (can_be_redacted shown (map (hide blocks) rs) earlier) o false)
        (found_hidden (λ (r : Recorded). redacts r c) (λ r. refl) rs)
        ∙ ap (λ (x : Bool). not (is_redact c) || x) (can_in rs earlier (named_by rs c))

    pub redactions_hidden : (rs : List Recorded) (earlier changes : List Schema)
        → redactions_follow shown (map (hide blocks) rs) earlier changes ≡ redactions_follow before rs earlier changes
    redactions_hidden rs earlier [] = refl
    redactions_hidden rs earlier (c ∷ cs) =
        ap (λ (x : Bool). x && redactions_follow shown (map (hide blocks) rs) (earlier ++ c ∷ []) cs)
        (redaction_hidden rs earlier c)
        ∙ ap (λ (x : Bool). redaction_follows before rs earlier c && x) (redactions_hidden rs (earlier ++ c ∷ []) cs)
