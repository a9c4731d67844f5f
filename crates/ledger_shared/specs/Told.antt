-- The entries that are kept behind the turn, as they are told: each one with its whole block.
use Rattle.std.specs.Prelude.{ℕ, List, map, Option, Some, None, option_map}
use Rattle.ql_types.specs.Ids.{transaction_in}
use Rattle.laws_machine.specs.Entries.{Entry, begun_at, failed, sealed, wanted}
use Rattle.ledger_shared.specs.declared.entry.Entry as kept
use Rattle.ledger_shared.specs.declared.entry.Entry.TheVariants.{Begun, Failed, Sealed, Wanted}

-- the transaction's number stands in its id under the mask
abbrev pub told : ℕ → kept.Entry → Entry
told mask (Begun place tx since) = begun_at place (transaction_in mask tx.raw) since
told mask (Sealed tx block made) = sealed (transaction_in mask tx.raw) made.value
told mask (Failed tx count made) = failed (transaction_in mask tx.raw) count made.value
told mask (Wanted tx tried) = wanted (transaction_in mask tx.raw) (option_map (λ b. b.value) tried)

abbrev pub all_told : ℕ → List kept.Entry → List Entry
all_told mask es = map (told mask) es

-- ---- what an entry does to a number

abbrev pub opened_by : Entry → Option ℕ
opened_by (begun_at place number since) = Some number
opened_by (sealed number block) = None
opened_by (failed number count block) = None
opened_by (wanted number tried) = None

abbrev pub used_by : Entry → Option ℕ
used_by (begun_at place number since) = None
used_by (sealed number block) = Some number
used_by (failed number count block) = Some number
used_by (wanted number tried) = Some number
