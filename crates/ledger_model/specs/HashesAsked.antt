-- Which hashes in place of data and of statements a journal asks for. A data hash stands where a block redacts the
-- revision; a statements' hash stands up to the last block that redacts anything.
use Rattle.std.specs.Prelude.{◌≡◌, ℕ, ◌+◌, ◌&&◌, ◌||◌, not, Bool, List, [], ◌∷◌, Option, Some, None, if◌then◌else◌}
use Rattle.std.specs.List.{list_all, list_any}
use Rattle.ledger_model.specs.declared.block.Block.{Block}
use Rattle.ledger_model.specs.Follows.{is_redacted_in}
use Rattle.ledger_model.specs.State.{Recorded, is_redact, recorded_in}
use Rattle.ledger_model.specs.Whole.{is_redacted, is_said}

-- the block redacts a revision
abbrev pub redacts_any : Block → Bool
redacts_any b = list_any is_redact b.info.schema

-- its data stand there, or a block of the journal redacts it
abbrev pub has_asked_data : List Block → Recorded → Bool
has_asked_data blocks r = not (is_redacted r.revision.content) || is_redacted_in blocks r

-- its statements stand there, or it or a later block redacts a revision
abbrev pub has_asked_statements : Block → List Block → Bool
has_asked_statements b later = is_said b.info.said || list_any redacts_any (b ∷ later)

-- each of its hashes in place of data and of statements is asked for; later blocks stand behind it
abbrev pub is_asked : List Block → Block → List Block → Bool
is_asked blocks b later =
    has_asked_statements b later && list_all (has_asked_data blocks) (recorded_in b.info.tables b.revisions)

-- the first of them that has a hash which isn't asked for, counted on from n
abbrev pub unasked_from : List Block → ℕ → List Block → Option ℕ
unasked_from blocks n [] = None
unasked_from blocks n (b ∷ later) = if is_asked blocks b later then unasked_from blocks (n + 1) later else Some n

abbrev pub unasked : List Block → Option ℕ
unasked blocks = unasked_from blocks 0 blocks

-- each hash in place of data and of statements is asked for
abbrev pub AreAsked : List Block → Type 0
AreAsked blocks = unasked blocks ≡ None
