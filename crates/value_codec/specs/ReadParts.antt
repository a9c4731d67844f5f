-- The parts of which blocks, revisions and proofs are made, read back from values (Ion 1.0, "The Ion data model"): each
-- reading gives the part whose value it is given, and None for a value of no part.
use Rattle.std.specs.Prelude.{ℕ, pos, ◌^◌, ◌==◌, nat_lt, List, [], ◌∷◌, length, codes, Option, Some, None, option_map, if◌then◌else◌}
use Rattle.std.specs.Str.{bytes_eq}
use Rattle.ion_values.specs.declared.value.Value.{Value}
use Rattle.ion_values.specs.declared.value.Field.{Field}
use Rattle.ion_values.specs.declared.value.Body.{Body}
use Rattle.ion_values.specs.declared.value.Body.TheOpen.{Body-F}
use Rattle.ion_values.specs.declared.time.TimeParts.{TimeParts}
use Rattle.ql_types.specs.Ids as ids
use Rattle.ql_types.specs.declared.Hash32.{Hash32}
use Rattle.ql_types.specs.declared.Hash.{Hash}
use Rattle.ql_types.specs.declared.Hash.TheVariants.{Empty, Full}
use Rattle.ql_types.specs.declared.BlockAddress.{BlockAddress}
pub use Rattle.ledger_model.specs.Values.{blob_at, blob_in}
use Rattle.ledger_model.specs.Values.{bare, string_in, fields_in}
use Rattle.ledger_model.specs.Script.{and_then}

-- the value of a field of this name
abbrev pub named : List ℕ → Field → Option Value
named name f = if bytes_eq f.name name then Some f.value else None

abbrev pub number_at : ℕ → Option (Body-F Body Field Value) → Option ℕ
number_at limit (Some (Body-F.Int (pos n))) = if nat_lt n limit then Some n else None
number_at limit _ = None

-- a number below the limit
abbrev pub number_in : ℕ → Value → Option ℕ
number_in limit v = number_at limit (bare v)

abbrev pub moment_at : Option (Body-F Body Field Value) → Option TimeParts
moment_at (Some (Body-F.Timestamp t)) = Some t
moment_at _ = None

abbrev pub moment_in : Value → Option TimeParts
moment_in v = moment_at (bare v)

-- the number of an id
abbrev pub id_in : Value → Option ℕ
id_in v = and_then (string_in v) ids.id_in

abbrev pub hash_of_bytes : List ℕ → Option Hash32
hash_of_bytes bytes = if length bytes == 32 then Some (record { bytes = bytes }) else None

unfoldable pub hash_in : Value → Option Hash32
hash_in v = and_then (blob_in v) hash_of_bytes

-- no bytes are the empty hash
abbrev pub entry_of_bytes : List ℕ → Option Hash
entry_of_bytes [] = Some Empty
entry_of_bytes (b ∷ bs) = option_map Full (hash_of_bytes (b ∷ bs))

abbrev pub entry_in : Value → Option Hash
entry_in v = and_then (blob_in v) entry_of_bytes

abbrev pub address_of : List Field → Option BlockAddress
address_of (f ∷ g ∷ []) =
    and_then (and_then (named (codes "strandId") f) id_in) (λ strand.
    and_then (and_then (named (codes "sequenceNo") g) (number_in (2 ^ 64))) (λ sequence.
    Some (record { strand = record { raw = strand }; sequence = sequence })))
address_of _ = None

abbrev pub address_in : Value → Option BlockAddress
address_in v = and_then (fields_in v) address_of
