-- The hashes of a compacted journal are asked for.
use Rattle.std.proofs.Common.{◌≡◌, ◌∙◌, ℕ, ◌+◌, Bool, true, false, not, ◌||◌, List, [], ◌∷◌, Option, Some, None, refl, ap, if◌then◌else◌}
use Rattle.std.specs.List.{list_all, list_any}
use Rattle.std.proofs.lemmas.Bool.{and_from, and_parts, or_right}
use Rattle.ql_types.specs.declared.TableId.{TableId}
use Rattle.ledger_model.specs.declared.block.Block.{Block}
use Rattle.ledger_model.specs.declared.block.Content.{Content}
use Rattle.ledger_model.specs.declared.block.Revision.{Revision}
use Rattle.ledger_model.specs.declared.block.Told.{Told}
use Rattle.ledger_model.specs.Compaction.{compacted, compacted_block, compacted_from, shown_content, shown_revisions, shown_told}
use Rattle.ledger_model.specs.Follows.{is_redacted_in}
use Rattle.ledger_model.specs.HashesAsked.{AreAsked, has_asked_data, has_asked_statements, is_asked, redacts_any, unasked_from}
use Rattle.ledger_model.specs.State.{Recorded, hashed, recorded_in}
use Rattle.ledger_model.specs.Whole.{is_redacted, is_said}
use Rattle.laws_compaction.proofs.Shown.{hide}
use Rattle.laws_compaction.proofs.Keeps.{redacts_any_from, redactions_stay}

-- ---- one block

told_asked : (hides : Bool) (t : Told) → (is_said t || hides) ≡ true → (is_said (shown_told hides t) || hides) ≡ true
told_asked true t h = or_right (is_said (shown_told true t)) true refl
told_asked false t h = h

data_asked : (c : Bool) (x : Content) → (not (is_redacted x) || c) ≡ true
    → (not (is_redacted (if c then hashed x else x)) || c) ≡ true
data_asked true x h = or_right (not (is_redacted (hashed x))) true refl
data_asked false x h = h

module _ (blocks : List Block) where
  one_asked : (r : Recorded) → has_asked_data blocks r ≡ true → has_asked_data (compacted blocks) (hide blocks r) ≡ true
  one_asked r h =
      ap (λ (c : Bool). not (is_redacted (shown_content blocks r)) || c) (redactions_stay blocks r)
      ∙ data_asked (is_redacted_in blocks r) r.revision.content h

  each_asked : (ts : List TableId) (rs : List Revision) → list_all (has_asked_data blocks) (recorded_in ts rs) ≡ true
      → list_all (has_asked_data (compacted blocks)) (recorded_in ts (shown_revisions blocks ts rs)) ≡ true
  each_asked [] rs h = refl
  each_asked (t ∷ ts) [] h = refl
  each_asked (t ∷ ts) (r ∷ rs) h =
      let here : Recorded = record { table = t; revision = r } in
      let parts = and_parts (has_asked_data blocks here) (list_all (has_asked_data blocks) (recorded_in ts rs)) h in
      and_from (has_asked_data (compacted blocks) (hide blocks here))
      (list_all (has_asked_data (compacted blocks)) (recorded_in ts (shown_revisions blocks ts rs)))
      (one_asked here parts.0) (each_asked ts rs parts.1)

  block_asked : (b : Block) (later : List Block) → is_asked blocks b later ≡ true
      → is_asked (compacted blocks) (compacted_block blocks b later) (compacted_from blocks later) ≡ true
  block_asked b later h =
      let hides = list_any redacts_any (b ∷ later) in
      let rs = recorded_in b.info.tables b.revisions in
      let parts = and_parts (has_asked_statements b later) (list_all (has_asked_data blocks) rs) h in
      and_from (has_asked_statements (compacted_block blocks b later) (compacted_from blocks later))
      (list_all (has_asked_data (compacted blocks))
      (recorded_in b.info.tables (shown_revisions blocks b.info.tables b.revisions)))
      (ap (λ (x : Bool). is_said (shown_told hides b.info.said) || (redacts_any b || x)) (redacts_any_from blocks later)
      ∙ told_asked hides b.info.said parts.0)
      (each_asked b.info.tables b.revisions parts.1)

-- ---- all blocks

none_at : (asked : Bool) (n : ℕ) (o : Option ℕ) → (if asked then o else Some n) ≡ None → (asked ≡ true) × (o ≡ None)
none_at true n o e = (refl, e)
none_at false n o e = cc

still_none : (asked : Bool) (n : ℕ) (o : Option ℕ) → asked ≡ true → o ≡ None → (if asked then o else Some n) ≡ None
still_none true n o e f = f
still_none false n o e f = cc

asked_from : (blocks : List Block) (n : ℕ) (bs : List Block) → unasked_from blocks n bs ≡ None
    → unasked_from (compacted blocks) n (compacted_from blocks bs) ≡ None
asked_from blocks n [] e = refl
asked_from blocks n (b ∷ later) e =
    let parts = none_at (is_asked blocks b later) n (unasked_from blocks (n + 1) later) e in
    still_none (is_asked (compacted blocks) (compacted_block blocks b later) (compacted_from blocks later)) n
    (unasked_from (compacted blocks) (n + 1) (compacted_from blocks later))
    (block_asked blocks b later parts.0) (asked_from blocks (n + 1) later parts.1)

pub asked : (blocks : List Block) → AreAsked blocks → AreAsked (compacted blocks)
asked blocks h = asked_from blocks 0 blocks h
