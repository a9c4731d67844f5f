-- Documents that statements see, each with its latest revision.
use Rattle.std.specs.Prelude.{List, map}
use Rattle.ledger_model.specs.declared.block.Draft.{Draft}
use Rattle.view_rows.specs.declared.seen.Seen.{Seen}

abbrev pub draft_seen : Seen → Draft
draft_seen s = record { table = s.table; id = s.id; version = s.version; content = s.content.now }

abbrev pub drafts_seen : List Seen → List Draft
drafts_seen documents = map draft_seen documents
