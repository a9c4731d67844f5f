-- What is known of names (own): those under which these changes create tables.
use Rattle.std.specs.Prelude.{◌≡◌, ℕ, List}
use Rattle.std.specs.Ordering.{nat_cmp}
use Rattle.std.specs.BTreeMap.{get}
use Rattle.ledger_model.specs.declared.block.Schema.{Schema}
use Rattle.stream_out.specs.declared.names.Names.{Names}
use Rattle.ledger_model.specs.Script.{or_else}
use Rattle.stream_out.specs.Streams.{created_name, name_in}

abbrev pub NamesStand : List Schema → Names → Type 0
NamesStand changes n = (id : ℕ) → get nat_cmp n.created id ≡ name_in changes id

-- one change more is taken in
abbrev pub Takes : Schema → Names → Names → Type 0
Takes c old new = (id : ℕ) → get nat_cmp new.created id ≡ or_else (created_name c id) (get nat_cmp old.created id)
