-- The state behind compacted blocks is that behind the blocks, with a hash in place of each content that they redact.
use Rattle.std.proofs.Common.{◌≡◌, ◌∙◌, ◌==◌, Bool, true, false, ◌&&◌, ◌||◌, List, [], ◌∷◌, ◌++◌, map, refl, sym, ap, if◌then◌else◌}
use Rattle.std.specs.List.{AllByRecursion, list_any}
use Rattle.std.proofs.lemmas.List.{map-append}
use Rattle.ql_types.specs.declared.TableId.{TableId}
use Rattle.ledger_model.specs.declared.block.Block.{Block}
use Rattle.ledger_model.specs.declared.block.Content.{Content}
use Rattle.ledger_model.specs.declared.block.Content.TheVariants.{Deleted, Kept, Redacted}
use Rattle.ledger_model.specs.declared.block.Revision.{Revision}
use Rattle.ledger_model.specs.declared.block.Schema.{Schema}
use Rattle.ledger_model.specs.Compaction.{compacted, compacted_block, compacted_from, shown_content, shown_revisions}
use Rattle.ledger_model.specs.Damages.{Undamaged}
use Rattle.ledger_model.specs.Follows.{is_redacted_in}
use Rattle.ledger_model.specs.State.{Recorded, State, after, all_changed, all_indexed, empty, hashed, is_redacted_by, is_revised, recorded_in, revision_after, revisions_after, state, state_from}
use Rattle.laws_validity.proofs.Redacted.{are_redacted, has_data}

-- to hide twice, in either order
swapped : (c d : Bool) (x : Content)
    → (if c then hashed (if d then hashed x else x) else (if d then hashed x else x))
    ≡ (if d then hashed (if c then hashed x else x) else (if c then hashed x else x))
swapped true true x = refl
swapped true false x = refl
swapped false true x = refl
swapped false false x = refl

-- the revision with this content
abbrev pub with_content : Recorded → Content → Recorded
with_content r c = record r { revision = record r.revision { content = c } }

module _ (blocks : List Block) where
  -- the revision as the journal of these blocks shows it
  abbrev pub hide : Recorded → Recorded
  hide r = with_content r (shown_content blocks r)

  abbrev pub hidden : State → State
  hidden s = record s { revisions = map hide s.revisions }

  -- ---- a block's own revisions

  pub recorded_shown : (ts : List TableId) (rs : List Revision)
      → recorded_in ts (shown_revisions blocks ts rs) ≡ map hide (recorded_in ts rs)
  recorded_shown [] rs = refl
  recorded_shown (t ∷ ts) [] = refl
  recorded_shown (t ∷ ts) (r ∷ rs) =
      ap (λ (xs : List Recorded). hide (record { table = t; revision = r }) ∷ xs) (recorded_shown ts rs)

  -- ---- redactions

  pub any_hidden : (p : Recorded → Bool) → ((r : Recorded) → p (hide r) ≡ p r) → (rs : List Recorded)
      → list_any p (map hide rs) ≡ list_any p rs
  any_hidden p same [] = refl
  any_hidden p same (r ∷ rs) =
      ap (λ (b : Bool). b || list_any p (map hide rs)) (same r) ∙ ap (λ (b : Bool). p r || b) (any_hidden p same rs)

  revised_hidden : (later : List Recorded) (r : Recorded) → is_revised (map hide later) r ≡ is_revised later r
  revised_hidden later r =
      any_hidden (λ (x : Recorded). x.revision.metadata.id.raw == r.revision.metadata.id.raw) (λ x. refl) later

  one_after : (changes : List Schema) (later : List Recorded) (r : Recorded)
      → revision_after changes (map hide later) (hide r) ≡ hide (revision_after changes later r)
  one_after changes later r =
      ap (λ (b : Bool). with_content r
      (if is_redacted_by changes r && b then hashed (shown_content blocks r) else shown_content blocks r))
      (revised_hidden later r)
      ∙ ap (λ (x : Content). with_content r x)
      (swapped (is_redacted_by changes r && is_revised later r) (is_redacted_in blocks r) r.revision.content)

  all_after : (changes : List Schema) (rs : List Recorded)
      → revisions_after changes (map hide rs) ≡ map hide (revisions_after changes rs)
  all_after changes [] = refl
  all_after changes (r ∷ later) =
      ap (λ (x : Recorded). x ∷ revisions_after changes (map hide later)) (one_after changes later r)
      ∙ ap (λ (xs : List Recorded). hide (revision_after changes later r) ∷ xs) (all_after changes later)

  -- ---- the state

  abbrev with_revisions : State → Block → List Recorded → State
  with_revisions s b rs = record {
    revisions = rs;
    tables = all_changed s.tables b.info.schema;
    indexes = all_indexed s.indexes b.info.schema;
  }

  pub after_hidden : (s : State) (b : Block) (later : List Block)
      → after (hidden s) (compacted_block blocks b later) ≡ hidden (after s b)
  after_hidden s b later =
      let old = revisions_after b.info.schema s.revisions in
      let own = recorded_in b.info.tables b.revisions in
      ap (λ (rs : List Recorded). with_revisions s b
      (rs ++ recorded_in b.info.tables (shown_revisions blocks b.info.tables b.revisions)))
      (all_after b.info.schema s.revisions)
      ∙ ap (λ (rs : List Recorded). with_revisions s b (map hide old ++ rs)) (recorded_shown b.info.tables b.revisions)
      ∙ ap (λ (rs : List Recorded). with_revisions s b rs) (sym (map-append hide old own))

  from_hidden : (s : State) (bs : List Block)
      → state_from (hidden s) (compacted_from blocks bs) ≡ hidden (state_from s bs)
  from_hidden s [] = refl
  from_hidden s (b ∷ bs) =
      ap (λ (t : State). state_from t (compacted_from blocks bs)) (after_hidden s b bs) ∙ from_hidden (after s b) bs

  -- ---- of an undamaged journal all that is redacted is hidden already

  once : (c : Bool) (x : Content) → (c ≡ true → has_data x ≡ false) → (if c then hashed x else x) ≡ x
  once false x h = refl
  once true Deleted h = refl
  once true (Kept v) h = cc (h refl)
  once true (Redacted hash) h = refl

  all_once : (rs : List Recorded)
      → AllByRecursion (λ r. is_redacted_in blocks r ≡ true → has_data r.revision.content ≡ false) rs → map hide rs ≡ rs
  all_once [] h = refl
  all_once (r ∷ rs) h =
      ap (λ (x : Content). with_content r x ∷ map hide rs) (once (is_redacted_in blocks r) r.revision.content h.0)
      ∙ ap (λ (xs : List Recorded). r ∷ xs) (all_once rs h.1)

  pub state_is : Undamaged blocks → state (compacted blocks) ≡ state blocks
  state_is u =
      from_hidden empty blocks
      ∙ ap (λ (rs : List Recorded). record (state blocks) { revisions = rs })
      (all_once (state blocks).revisions (are_redacted blocks u).hidden)
