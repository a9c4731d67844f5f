-- What a replay makes of the records that it was given (own): it keeps a summary by its number, and details by their
-- number and document; a block is rebuilt once its summary and the details of each revision listed there are kept.
use Rattle.std.specs.Prelude.{◌≡◌, ◌≢◌, ◌⊎◌, ℕ, ◌+◌, ◌<◌, ◌^◌, ◌==◌, ◌&&◌, Bool, List, [], ◌∷◌, ◌++◌, length, take, drop, slice_get, Option, Some, None, Result, Ok, Err, option_map, if◌then◌else◌}
use Rattle.std.specs.Ordering.{nat_cmp, ordering_then}
use Rattle.std.specs.declared.cmp.Ordering.{Ordering}
use Rattle.std.specs.BTreeMap.{get}
use Rattle.ledger_model.specs.declared.block.Revision.{Revision}
use Rattle.ledger_model.specs.declared.block.Block.{Block}
use Rattle.ledger_model.specs.declared.block.Schema.{Schema}
use Rattle.ledger_model.specs.Script.{and_then, or_else, each}
use Rattle.ledger_model.specs.Damages.{Undamaged, same_hash}
use Rattle.stream_out.specs.declared.record.RevisionSummary.{RevisionSummary}
use Rattle.stream_out.specs.declared.record.Summary.{Summary}
use Rattle.stream_out.specs.declared.record.Details.{Details}
use Rattle.stream_out.specs.declared.record.Record.{Record}
use Rattle.stream_out.specs.declared.record.Record.TheVariants as kind
use Rattle.stream_out.specs.declared.replay.Replay.{Replay}
use Rattle.stream_out.specs.declared.replay.ReplayFault.{ReplayFault}
use Rattle.stream_out.specs.declared.replay.ReplayFault.TheVariants as fault
use Rattle.stream_out.specs.Streams.{block_records, changes_in, stream}

-- ---- what is kept of records

abbrev pub number_of : Summary → ℕ
number_of s = s.block.header.address.sequence

abbrev pub details_number : Details → ℕ
details_number d = d.revision.address.sequence

abbrev pub document_of : Details → ℕ
document_of d = d.revision.metadata.id.raw

abbrev pub summary_at : Record → ℕ → Option Summary
summary_at (kind.Summary s) n = if number_of s == n then Some s else None
summary_at _ n = None

-- the first summary of this number
abbrev pub summary_among : List Record → ℕ → Option Summary
summary_among [] n = None
summary_among (r ∷ rs) n = or_else (summary_at r n) (summary_among rs n)

abbrev pub details_at : Record → ℕ → ℕ → Option Details
details_at (kind.Details d) n id = if (details_number d == n) && (document_of d == id) then Some d else None
details_at _ n id = None

-- the first details of this number and document
abbrev pub details_among : List Record → ℕ → ℕ → Option Details
details_among [] n id = None
details_among (r ∷ rs) n id = or_else (details_at r n id) (details_among rs n id)

-- ---- the blocks of what is kept

-- the revision that is listed, if its details have its hash
abbrev pub revision_by : Option Details → RevisionSummary → Option Revision
revision_by found l = and_then found (λ d. if same_hash d.revision.hash l.hash then Some d.revision else None)

-- the block of a summary and of what is kept for each document
abbrev pub block_by : (ℕ → Option Details) → Summary → Option Block
block_by found s =
    option_map (λ revisions. record s.block { revisions = revisions })
    (each (λ l. revision_by (found l.document.raw) l) s.listed)

-- the block of this number, if all of it is there
abbrev pub block_among : List Record → ℕ → Option Block
block_among told n = and_then (summary_among told n) (block_by (details_among told n))

-- each of these blocks is that of its number, the first one of number `from`
abbrev pub AreBlocks : List Record → ℕ → List Block → Type 0
AreBlocks told from blocks = (i : ℕ) → i < length blocks → slice_get blocks i ≡ block_among told (from + i)

-- ---- replays

abbrev pub pair_cmp : ℕ × ℕ → ℕ × ℕ → Ordering
pair_cmp x y = ordering_then (nat_cmp x.0 y.0) (nat_cmp x.1 y.1)

-- the details that are kept of this number and document
abbrev pub kept_details : Replay → ℕ → ℕ → Option Details
kept_details r n id = get pair_cmp r.details (n, id)

-- the block of this number, if all of it is kept
abbrev pub kept_block : Replay → ℕ → Option Block
kept_block r n = and_then (get nat_cmp r.summaries n) (block_by (kept_details r n))

-- it keeps these records, and the blocks that stand are theirs
pub record Holds (told : List Record) (r : Replay) : Type 0 where
  pub summaries : (n : ℕ) → get nat_cmp r.summaries n ≡ summary_among told n
  pub details : (n id : ℕ) → kept_details r n id ≡ details_among told n id
  pub blocks : AreBlocks told r.from r.blocks.list

-- no further block can stand
abbrev pub IsSettled : List Record → Replay → Type 0
IsSettled told r =
    let next = r.from + length r.blocks.list in next < 2 ^ 64 → block_among told next ≡ None

-- ---- what comes of a record

-- the number of a record that is kept
abbrev pub record_number : Record → Option ℕ
record_number (kind.Summary s) = Some (number_of s)
record_number (kind.Details d) = Some (details_number d)
record_number _ = None

abbrev pub IsBelow : ℕ → Record → ℕ → Type 0
IsBelow from r n = (record_number r ≡ Some n) × (n < from)

-- what is kept in the record's place equals it
abbrev pub Agrees : List Record → Record → Type 0
Agrees told (kind.Summary s) = (t : Summary) → summary_among told (number_of s) ≡ Some t → t ≡ s
Agrees told (kind.Details d) = (e : Details) → details_among told (details_number d) (document_of d) ≡ Some e → e ≡ d
Agrees told _ = Unit {0}

-- or it doesn't
abbrev pub DiffersFrom : List Record → Record → Type 0
DiffersFrom told (kind.Summary s) = (t : Summary) × (summary_among told (number_of s) ≡ Some t) × (t ≢ s)
DiffersFrom told (kind.Details d) =
    (e : Details) × (details_among told (details_number d) (document_of d) ≡ Some e) × (e ≢ d)
DiffersFrom told _ = ⊥

abbrev pub IsNotBelow : ℕ → Record → Type 0
IsNotBelow from r = (n : ℕ) → IsBelow from r n → ⊥

-- a record may be kept if it isn't below and its place is free or has it already
abbrev pub Admits : {A : Type 0} → ℕ → Record → Option A → A → Result Bool ReplayFault → Type 0
Admits {A} from r kept x (Ok free) = IsNotBelow from r × (kept ≡ (if free then None else Some x))
Admits {A} from r kept x (Err (fault.Below n first)) = IsBelow from r n × (first ≡ from)
Admits {A} from r kept x (Err (fault.Differs n)) =
    IsNotBelow from r × (record_number r ≡ Some n) × ((y : A) × (kept ≡ Some y) × (y ≢ x))
Admits {A} from r kept x (Err fault.OutOfMemory) = ⊥

-- a record is kept exactly if it isn't below and agrees with what is kept; after another one nothing has changed
abbrev pub Keeps : List Record → Record → Replay → Result (Unit {0}) ReplayFault → Replay → Type 0
Keeps told r old (Ok _) new = IsNotBelow old.from r × Agrees told r × Holds (told ++ r ∷ []) new
Keeps told r old (Err (fault.Below n from)) new = IsBelow old.from r n × (from ≡ old.from) × (new ≡ old)
Keeps told r old (Err (fault.Differs n)) new =
    IsNotBelow old.from r × (record_number r ≡ Some n) × DiffersFrom told r × (new ≡ old)
Keeps told r old (Err fault.OutOfMemory) new = IsNotBelow old.from r × Agrees told r × Holds told new

-- and then each block stands that can; out of memory, the record may be kept and blocks may be left out
abbrev pub Delivers : List Record → Record → Replay → Result (Unit {0}) ReplayFault → Replay → Type 0
Delivers told r old (Ok u) new = Keeps told r old (Ok u) new × IsSettled (told ++ r ∷ []) new
Delivers told r old (Err (fault.Below n from)) new = Keeps told r old (Err (fault.Below n from)) new
Delivers told r old (Err (fault.Differs n)) new = Keeps told r old (Err (fault.Differs n)) new
Delivers told r old (Err fault.OutOfMemory) new =
    IsNotBelow old.from r × Agrees told r × (Holds told new ⊎ Holds (told ++ r ∷ []) new)

-- ---- deliveries of a stream

abbrev pub IsIn : Record → List Record → Type 0
IsIn r [] = ⊥
IsIn r (s ∷ rs) = (r ≡ s) ⊎ IsIn r rs

abbrev pub AreIn : List Record → List Record → Type 0
AreIn told records = (r : Record) → IsIn r told → IsIn r records

-- records of the stream from a block on: some may be lost, repeated or in another order
abbrev pub IsDelivery : List Block → ℕ → List Record → Type 0
IsDelivery journal from told = AreIn told (stream journal from (length journal))

-- of blocks behind these changes those up to the first of which a record isn't there
abbrev pub IsRebuilt : List Schema → List Block → List Record → List Block → Type 0
IsRebuilt changes [] told made = made ≡ []
IsRebuilt changes (b ∷ bs) told [] = AreIn (block_records (changes ++ b.info.schema) b) told → ⊥
IsRebuilt changes (b ∷ bs) told (x ∷ xs) =
    (x ≡ b) × AreIn (block_records (changes ++ b.info.schema) b) told
    × IsRebuilt (changes ++ b.info.schema) bs told xs

-- for each delivery of the stream of an undamaged journal: no further record of it is refused, and once all that were
-- delivered are kept and no further block can stand, the blocks are those up to the first of which a record is lost
abbrev pub DeliveriesRebuild : Type 0
DeliveriesRebuild =
    (journal : List Block) (from : ℕ) (told : List Record) → Undamaged journal → IsDelivery journal from told
    → ((r : Record) → IsIn r (stream journal from (length journal)) → IsNotBelow from r × Agrees told r)
    × ((r : Replay) → r.from ≡ from → Holds told r → IsSettled told r
    → IsRebuilt (changes_in (take from journal)) (drop from journal) told r.blocks.list)
