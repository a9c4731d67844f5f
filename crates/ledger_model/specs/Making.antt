-- The block that a transaction becomes behind the blocks before it.
use Rattle.std.specs.Prelude.{◌≡◌, ℕ, int_le, List, map, length, Option, Some, None, if◌then◌else◌}
use Rattle.ion_values.specs.Time.{instant_of}
use Rattle.ion_values.specs.declared.time.TimeParts.{TimeParts}
use Rattle.ql_types.specs.Ids.{raw_id}
use Rattle.ql_types.specs.declared.BlockAddress.{BlockAddress}
use Rattle.ql_types.specs.declared.Place.{Place}
use Rattle.ql_types.specs.declared.TxId.{TxId}
use Rattle.ledger_model.specs.declared.block.Block.{Block}
use Rattle.ledger_model.specs.declared.block.Draft.{Draft}
use Rattle.ledger_model.specs.declared.block.Header.{Header}
use Rattle.ledger_model.specs.declared.block.Told.TheVariants as told
use Rattle.ledger_model.specs.declared.block.Info.{Info}
use Rattle.ledger_model.specs.declared.block.Metadata.{Metadata}
use Rattle.ledger_model.specs.declared.block.Revision.{Revision}
use Rattle.ledger_model.specs.declared.script.Request.{Request}
use Rattle.ledger_model.specs.State.{state}
use Rattle.ledger_model.specs.Run.{Begun, Progress, run, ran, final_revisions}
use Rattle.ledger_model.specs.Seals.{revision_hash, sealed}
use Rattle.ledger_model.specs.Legal.{last_hash}
use Rattle.ledger_model.specs.Damages.{last_block}

-- the time behind a block: this one, or the block's own where it isn't before this one
abbrev pub later_time : Option Block → TimeParts → TimeParts
later_time None time = time
later_time (Some last) time = if int_le (instant_of time) (instant_of last.header.time) then last.header.time else time

abbrev pub time_behind : List Block → TimeParts → TimeParts
time_behind before time = later_time (last_block before) time

abbrev pub metadata_of : TxId → TimeParts → Draft → Metadata
metadata_of tx time d = record { id = d.id; version = d.version; time = time; tx = tx }

-- the revision that a draft becomes in the block of this header
abbrev pub revision_of : Header → Draft → Revision
revision_of h d = record {
  address = h.address;
  hash = revision_hash d.content (metadata_of h.tx h.time d);
  content = d.content;
  metadata = metadata_of h.tx h.time d;
}

-- the next place of the strand
abbrev pub next_address : ℕ → List Block → BlockAddress
next_address mask before = record { strand = record { raw = mask }; sequence = length before }

abbrev pub header_of : Begun → List Block → TimeParts → List Draft → Header
header_of b before time drafts = record {
  address = next_address b.mask before;
  tx = record { raw = raw_id b.mask b.number 0 };
  time = time_behind before time;
  revisions = length drafts;
}

abbrev pub info_of : Place → Progress → List Draft → Info
info_of place p drafts = record {
  place = place;
  said = told.Said p.said;
  schema = p.schema;
  tables = map (λ d. d.table) drafts;
}

-- the sealed block of what a transaction did
abbrev pub block_of : Begun → List Block → Place → TimeParts → Progress → Block
block_of b before place time p =
    let drafts = final_revisions p in
    let header = header_of b before time drafts in
    sealed (last_hash b.mask before) header (info_of place p drafts) (map (revision_of header) drafts)

-- the block is that of these statements behind these blocks
pub record IsMadeOf (b : Begun) (before : List Block) (place : Place) (time : TimeParts) (asked : List Request)
    (made : Block) : Type 0 where
  pub progress : Progress
  pub runs : run b (state before) asked ≡ ran progress
  pub block_is : made ≡ block_of b before place time progress
