-- A journal without the bytes of what its blocks redact: each redacted revision has its data's hash in place of the
-- data, and each block up to the last that redacts anything has the hash of its statements in their place. All hashes
-- of blocks and revisions are made of these hashes (Ion Hash 1.0, for structs), so they stay.
use Rattle.std.specs.Prelude.{ℕ, Bool, List, [], ◌∷◌, Option, option_map, if◌then◌else◌}
use Rattle.std.specs.List.{list_any}
use Rattle.ql_types.specs.declared.TableId.{TableId}
use Rattle.ledger_model.specs.declared.block.Block.{Block}
use Rattle.ledger_model.specs.declared.block.Content.{Content}
use Rattle.ledger_model.specs.declared.block.Revision.{Revision}
use Rattle.ledger_model.specs.declared.block.Told.{Told}
use Rattle.ledger_model.specs.declared.block.Told.TheVariants as told
use Rattle.ledger_model.specs.HashesAsked.{redacts_any}
use Rattle.ledger_model.specs.Follows.{is_redacted_in}
use Rattle.ledger_model.specs.Seals.{told_hash}
use Rattle.ledger_model.specs.State.{Recorded, hashed}

-- ---- revisions

-- the content that the journal of these blocks shows of a revision
abbrev pub shown_content : List Block → Recorded → Content
shown_content blocks r = if is_redacted_in blocks r then hashed r.revision.content else r.revision.content

abbrev pub shown_revision : List Block → TableId → Revision → Revision
shown_revision blocks t r = record r { content = shown_content blocks (record { table = t; revision = r }) }

-- each by its table; one without a table stays
abbrev pub shown_revisions : List Block → List TableId → List Revision → List Revision
shown_revisions blocks [] rs = rs
shown_revisions blocks (t ∷ ts) [] = []
shown_revisions blocks (t ∷ ts) (r ∷ rs) = shown_revision blocks t r ∷ shown_revisions blocks ts rs

-- ---- statements

-- the hash of their field in their place
abbrev pub without_statements : Told → Told
without_statements t = told.Hashed (record { bytes = told_hash t })

abbrev pub shown_told : Bool → Told → Told
shown_told hides t = if hides then without_statements t else t

-- ---- blocks

-- the block of these blocks, in front of the later ones
abbrev pub compacted_block : List Block → Block → List Block → Block
compacted_block blocks b later = record b {
  info = record b.info { said = shown_told (list_any redacts_any (b ∷ later)) b.info.said };
  revisions = shown_revisions blocks b.info.tables b.revisions;
}

abbrev pub compacted_from : List Block → List Block → List Block
compacted_from blocks [] = []
compacted_from blocks (b ∷ later) = compacted_block blocks b later ∷ compacted_from blocks later

-- where no block redacts anything, the blocks stay as they are
abbrev pub compacted : List Block → List Block
compacted blocks = compacted_from blocks blocks
