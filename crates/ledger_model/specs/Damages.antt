-- The checks of a block behind the blocks of a journal before it, and the first one that it fails. A journal is
-- undamaged where each of its blocks is whole and fails none.
use Rattle.std.specs.Prelude.{◌≡◌, ℕ, ◌-◌, ◌^◌, ◌==◌, ◌&&◌, not, Bool, true, false, nat_le, nat_lt, int_le, List, [], ◌∷◌, ◌++◌, length, Option, Some, None, if◌then◌else◌}
use Rattle.std.specs.List.{list_all, list_any}
use Rattle.std.specs.Option.{option_map_or}
use Rattle.std.specs.Str.{bytes_eq}
use Rattle.std.specs.Cmp.Lexicographic.{pointwise}
use Rattle.ion_values.specs.Time.{instant_of}
use Rattle.ql_types.specs.Ids.{transaction_in, thing_in}
use Rattle.ql_types.specs.declared.Hash32.{Hash32}
use Rattle.ql_types.specs.declared.Hash.{Hash}
use Rattle.ql_types.specs.declared.Hash.TheVariants.{Empty, Full}
use Rattle.ledger_model.specs.declared.block.Revision.{Revision}
use Rattle.ledger_model.specs.declared.block.Block.{Block}
use Rattle.ledger_model.specs.declared.damage.Damage.{Damage}
use Rattle.ledger_model.specs.declared.damage.Damage.TheVariants.{WrongAddress, WrongId, TimeFell, WrongPrevious, WrongHash, WrongState}
use Rattle.ledger_model.specs.Seals.{sealed, revision_hash}
use Rattle.ledger_model.specs.Legal.{last_hash}
use Rattle.ledger_model.specs.Whole.{IsWhole}
use Rattle.ledger_model.specs.Follows.{follows_blocks}

-- the strand of a journal is that of its first block
abbrev pub strand_of : List Block → Block → ℕ
strand_of [] b = b.header.address.strand.raw
strand_of (first ∷ more) b = first.header.address.strand.raw

abbrev pub last_block : List Block → Option Block
last_block [] = None
last_block (b ∷ []) = Some b
last_block (b ∷ c ∷ bs) = last_block (c ∷ bs)

-- the address is the line's place in the strand, of at most 2^32 - 1 places
abbrev pub has_address : ℕ → List Block → Block → Bool
has_address strand before b =
    (b.header.address.sequence == length before) && nat_le (length before) (2 ^ 32 - 2)
    && (b.header.address.strand.raw == strand)

-- the id is that of a transaction of the strand, from 1 on, and no earlier block has it
abbrev pub has_id : ℕ → List Block → Block → Bool
has_id strand before b =
    let number = transaction_in strand b.header.tx.raw in
    nat_le 1 number && nat_lt number (2 ^ 64) && (thing_in strand b.header.tx.raw == 0)
    && not (list_any (λ earlier. earlier.header.tx.raw == b.header.tx.raw) before)

-- the block isn't older than the one before
abbrev pub has_time : List Block → Block → Bool
has_time before b =
    option_map_or (λ last. int_le (instant_of last.header.time) (instant_of b.header.time)) (last_block before) true

abbrev pub same_hash : Hash32 → Hash32 → Bool
same_hash a b = bytes_eq a.bytes b.bytes

abbrev pub same_entry : Hash → Hash → Bool
same_entry Empty Empty = true
same_entry (Full a) (Full b) = same_hash a b
same_entry _ _ = false

-- the previous hash is that of the block before, or the strand's
abbrev pub has_previous : ℕ → List Block → Block → Bool
has_previous strand before b = same_hash b.previous (last_hash strand before)

abbrev pub has_revision_hash : Revision → Bool
has_revision_hash r = same_hash r.hash (revision_hash r.content r.metadata)

-- each hash is that of its contents
abbrev pub has_hashes : Block → Bool
has_hashes b =
    let computed = sealed b.previous b.header b.info b.revisions in
    list_all has_revision_hash b.revisions && pointwise same_entry b.list computed.list
    && same_hash b.entries computed.entries
    && same_hash b.hash computed.hash

-- the first check that a whole block fails behind these blocks
abbrev pub damage_behind : List Block → Block → Option Damage
damage_behind before b =
    let strand = strand_of before b in
    if not (has_address strand before b) then Some WrongAddress
    else if not (has_id strand before b) then Some WrongId
    else if not (has_time before b) then Some TimeFell
    else if not (has_previous strand before b) then Some WrongPrevious
    else if not (has_hashes b) then Some WrongHash
    else if not (follows_blocks strand before b) then Some WrongState
    else None

-- these blocks behind those
abbrev pub UndamagedBehind : List Block → List Block → Type 0
UndamagedBehind before [] = Unit {0}
UndamagedBehind before (b ∷ bs) = IsWhole b × (damage_behind before b ≡ None) × UndamagedBehind (before ++ b ∷ []) bs

abbrev pub Undamaged : List Block → Type 0
Undamaged blocks = UndamagedBehind [] blocks
