-- What a begin and a commit do behind the turn: they add an entry or none behind those in front.
use Rattle.std.specs.Prelude.{◌≡◌, ◌-◌, ◌^◌, ◌+◌, ◌<◌, ◌≤◌, ℕ, false, true, List, [], ◌∷◌, ◌++◌, length, take, slice_get, Option, Some, None, Result, Ok, Err}
use Rattle.ion_values.specs.declared.time.TimeParts.{TimeParts}
use Rattle.ql_types.specs.declared.Hash32.{Hash32}
use Rattle.ql_types.specs.declared.Place.{Place}
use Rattle.ledger_model.specs.declared.block.Block.{Block}
use Rattle.ledger_model.specs.declared.script.Request.{Request}
use Rattle.ledger_model.specs.Damages.{same_hash}
use Rattle.ledger_model.specs.Making.{IsMadeOf}
use Rattle.ledger_model.specs.Run.{ran, run, start}
use Rattle.ledger_model.specs.State.{state}
use Rattle.laws_footprint.specs.Touches.{conflict}
use Rattle.laws_machine.specs.Entries.{Entry, Opening, begun_at, failed, sealed, wanted}
use Rattle.laws_history.specs.Attempts.{begun_as}
use Rattle.laws_history.specs.Seen.{blocks_in, reach}
use Rattle.txn_core.specs.Opened.{Opened}
use Rattle.ledger_core.specs.NextBlock.{receipt_of}
use Rattle.ledger_core.specs.Committing.{is_own, own_digest}
use Rattle.ledger_core.specs.declared.appending.Receipt.{Receipt}
use Rattle.ledger_core.specs.declared.begin.BeginFault.{BeginFault}
use Rattle.ledger_core.specs.declared.begin.BeginFault.TheVariants as begin
use Rattle.ledger_core.specs.declared.commit.CommitFault.{CommitFault}
use Rattle.ledger_core.specs.declared.commit.CommitFault.TheVariants.{Conflict, DigestDiffers, EndedTxn, JournalFull, OutOfMemory, StoreFault}
use Rattle.ledger_shared.specs.Told.{used_by}

-- behind these entries come some more, of which this is true
abbrev pub Extends : List Entry → List Entry → (List Entry → Type 0) → Type 0
Extends front now P = (added : List Entry) × (now ≡ front ++ added) × P added

module _ (o : Opening) (front : List Entry) where
  -- ---- begin

  -- the transaction of the next number, on all blocks that stand
  pub record Opens (place : Place) (t : Opened) (added : List Entry) : Type 0 where
    pub number_is : t.begun.number ≡ (reach o front).last + 1
    pub counted : t.begun.number < 2 ^ 64
    pub txn_is : t ≡ record {
      begun = begun_as o t.begun.number;
      place = place;
      base = state (blocks_in o front);
      since = length (blocks_in o front);
      done = start;
      ended = false;
    }
    pub adds : added ≡ begun_at place t.begun.number (length (blocks_in o front)) ∷ []

  -- no number is left where the last one is the greatest u64
  abbrev pub Begins : Place → Result Opened BeginFault → List Entry → Type 0
  Begins place (Ok t) added = Opens place t added
  Begins place (Err (begin.IdsSpent last)) added =
      ((reach o front).last ≡ last) × (last ≡ 2 ^ 64 - 1) × (added ≡ [])
  Begins place (Err begin.OutOfMemory) added = added ≡ []

  -- ---- commit

  -- the transaction was opened in front and nothing has used it, and it stands on a front part of the blocks
  pub record IsOpen (t : Opened) : Type 0 where
    pub mask : t.begun.mask ≡ o.mask
    pub since : t.since ≤ length (blocks_in o front)
    pub base : t.base ≡ state (take t.since (blocks_in o front))
    pub at : ℕ
    pub opened : slice_get front at ≡ Some (begun_at t.place t.begun.number t.since)
    pub unused : (i : ℕ) (e : Entry) → slice_get front i ≡ Some e → used_by e ≡ Some t.begun.number → ⊥
    pub asked : List Request
    pub runs : run t.begun t.base asked ≡ ran t.done

  -- its statements are all done, and the digest that is sent, where one is, is its own
  pub record IsReady (t : Opened) (sent : Option Hash32) : Type 0 where
    pub goes_on : t.ended ≡ false
    pub digest_is : is_own t sent ≡ true

  -- so it is, no later block touched what it read, and this is its block behind all blocks
  pub record Makes (t : Opened) (sent : Option Hash32) (block : Block) : Type 0 where
    pub ready : IsReady t sent
    pub untouched : conflict (blocks_in o front) t.since t.done.footprint ≡ None
    pub room : length (blocks_in o front) < 2 ^ 32 - 1
    pub time : TimeParts
    pub made : (asked : List Request) → run t.begun t.base asked ≡ ran t.done
        → IsMadeOf (begun_as o t.begun.number) (blocks_in o front) t.place time asked block

  -- it is sealed, and the receipt is that of its block
  pub record Seals (t : Opened) (sent : Option Hash32) (receipt : Receipt) (added : List Entry) : Type 0 where
    pub block : Block
    pub makes : Makes t sent block
    pub receipt_is : receipt ≡ receipt_of block
    pub adds : added ≡ sealed t.begun.number block ∷ []

  -- the store failed at its block, and had failed so often then
  pub record Fails (t : Opened) (sent : Option Hash32) (count : ℕ) (added : List Entry) : Type 0 where
    pub block : Block
    pub makes : Makes t sent block
    pub rose : (reach o front).count < count
    pub adds : added ≡ failed t.begun.number count block ∷ []

  -- memory ran out behind the turn, with its block where it had come to its store
  abbrev pub Wants : Opened → Option Hash32 → List Entry → Type 0
  Wants t sent [] = Unit {0}
  Wants t sent (wanted number None ∷ []) = number ≡ t.begun.number
  Wants t sent (wanted number (Some block) ∷ []) = (number ≡ t.begun.number) × Makes t sent block
  Wants t sent other = ⊥

  abbrev pub Commits : Opened → Option Hash32 → Result Receipt CommitFault → List Entry → Type 0
  Commits t sent (Ok receipt) added = Seals t sent receipt added
  Commits t sent (Err EndedTxn) added = (t.ended ≡ true) × (added ≡ [])
  Commits t sent (Err (DigestDiffers mine given)) added =
      (t.ended ≡ false) × (mine ≡ own_digest t) × (sent ≡ Some given) × (same_hash mine given ≡ false) × (added ≡ [])
  Commits t sent (Err (Conflict since named)) added =
      IsReady t sent × (since ≡ t.since)
      × (conflict (blocks_in o front) t.since t.done.footprint ≡ Some named) × (added ≡ [])
  Commits t sent (Err (JournalFull blocks)) added =
      IsReady t sent × (conflict (blocks_in o front) t.since t.done.footprint ≡ None)
      × (length (blocks_in o front) ≡ 2 ^ 32 - 1) × (blocks ≡ 2 ^ 32 - 1) × (added ≡ [])
  Commits t sent (Err (StoreFault count)) added = Fails t sent count added
  Commits t sent (Err OutOfMemory) added = Wants t sent added

-- the entry that a refused commit of the transaction of this number adds, with the block with which it came to its
-- store
abbrev pub refusal_of : (number : ℕ) → CommitFault → Option Block → Option Entry
refusal_of number (StoreFault count) (Some block) = Some (failed number count block)
refusal_of number (StoreFault count) None = None
refusal_of number OutOfMemory tried = Some (wanted number tried)
refusal_of number EndedTxn tried = None
refusal_of number (DigestDiffers mine given) tried = None
refusal_of number (Conflict since named) tried = None
refusal_of number (JournalFull blocks) tried = None
