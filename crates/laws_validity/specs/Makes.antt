-- What a block is made of: what its transaction did, with texts that are UTF-8 (RFC 3629) and values of the ledger
-- (Ion 1.0), a time that is a timestamp, and a mask and a place that fit their types.
use Rattle.std.specs.Prelude.{ℕ, ◌<◌, ◌^◌, ◌&&◌, Bool, true, IsTrue}
use Rattle.std.specs.List.{list_all}
use Rattle.ion_values.specs.Time.{is_time}
use Rattle.ion_values.specs.Within.{within, text_within}
use Rattle.ion_values.specs.declared.time.TimeParts.{TimeParts}
use Rattle.ql_types.specs.declared.Place.{Place}
use Rattle.ledger_model.specs.declared.block.Content.{Content}
use Rattle.ledger_model.specs.declared.block.Content.TheVariants.{Deleted, Kept, Redacted}
use Rattle.ledger_model.specs.declared.block.Draft.{Draft}
use Rattle.ledger_model.specs.declared.block.Said.{Said}
use Rattle.ledger_model.specs.declared.block.Schema.{Schema}
use Rattle.ledger_model.specs.declared.block.Schema.TheVariants.{Create, Index, Drop, Redact}
use Rattle.ledger_model.specs.Run.{Progress}
use Rattle.ledger_model.specs.Whole.{place_fits}

-- ---- what a transaction did

-- the statement's text, its parameters and its rows are within their ranges
abbrev pub said_within : Said → Bool
said_within x = text_within x.text && list_all within x.params && list_all within x.answer.rows

-- so is the name of a table or of a field
abbrev pub change_within : Schema → Bool
change_within (Create name id) = text_within name
change_within (Index field id) = text_within field
change_within (Drop name id) = text_within name
change_within (Redact address id document) = true

abbrev pub content_within : Content → Bool
content_within Deleted = true
content_within (Kept v) = within v
content_within (Redacted hash) = true

abbrev pub draft_within : Draft → Bool
draft_within d = content_within d.content

-- each text, value and name of what the transaction did is within its range
pub record IsWithinAll (p : Progress) : Type 0 where
  pub said : IsTrue (list_all said_within p.said)
  pub schema : IsTrue (list_all change_within p.schema)
  pub log : IsTrue (list_all draft_within p.log)

-- ---- where and when it becomes a block

-- the mask of the ids, the time and the place are within their ranges
pub record CanMake (mask : ℕ) (time : TimeParts) (place : Place) : Type 0 where
  pub mask_fits : mask < 2 ^ 128
  pub timed : IsTrue (is_time time)
  pub placed : IsTrue (place_fits place)
