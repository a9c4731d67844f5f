-- The block that a transaction becomes.
use Rattle.std.specs.Prelude.{◌-◌, ◌^◌, ◌<◌, List, length, map}
use Rattle.ion_values.specs.declared.time.TimeParts.{TimeParts}
use Rattle.ledger_model.specs.declared.block.Block.{Block}
use Rattle.ledger_model.specs.declared.block.Draft.{Draft}
use Rattle.ledger_model.specs.Making.{block_of}
use Rattle.ledger_model.specs.Run.{Progress, final_revisions}
use Rattle.block_form.specs.declared.contents.HashedContent.{HashedContent}
use Rattle.block_form.specs.Hashed.{hashed_content, hashed_said}
use Rattle.laws_history.specs.Standings.{Standing}
use Rattle.txn_core.specs.Opened.{Opened}
use Rattle.ledger_core.specs.declared.appending.Receipt.{Receipt}
use Rattle.ledger_core.specs.declared.hashed_drafts.Hashed.{Hashed}

-- the block that a transaction becomes after these blocks
abbrev pub next_block : Opened → List Block → TimeParts → Block
next_block t before time = block_of t.begun before t.place time t.done

-- what the values of the drafts' revisions have of their contents, with its hashes
abbrev pub hashed_contents : List Draft → List HashedContent
hashed_contents drafts = map (λ d. hashed_content d.content) drafts

-- what the block of what was done has wherever it stands, with the hashes
abbrev pub hashed_of : Progress → Hashed
hashed_of p = record { told = hashed_said p.said; contents = hashed_contents (final_revisions p) }

-- what a commit returns of its block
abbrev pub receipt_of : Block → Receipt
receipt_of b = record { block = b.header.address.sequence; hash = b.hash; time = b.header.time }

-- there is a place for one block more
abbrev pub HasRoom : Standing → Type 0
HasRoom s = length s.blocks < 2 ^ 32 - 1
