-- The ledger as a machine of events, without memory, store and threads: transactions begin, execute statements,
-- commit and abort, in any order. What each event is answered, and what it leaves, is one function (the ledger's
-- own).
use Rattle.std.specs.Prelude.{ℕ, ◌+◌, ◌-◌, ◌^◌, ◌==◌, not, nat_lt, max, List, [], ◌∷◌, ◌++◌, length, take, Option, Some, None, Result, Ok, Err, if◌then◌else◌}
use Rattle.std.specs.List.{filter, last_or}
use Rattle.std.specs.Option.{option_map_or}
use Rattle.ion_values.specs.declared.time.TimeParts.{TimeParts}
use Rattle.ion_values.specs.declared.value.Value.{Value}
use Rattle.ql_types.specs.Ids.{raw_id, transaction_in}
use Rattle.ql_types.specs.declared.Hash32.{Hash32}
use Rattle.ql_types.specs.declared.Place.{Place}
use Rattle.ql_types.specs.declared.TxId.{TxId}
use Rattle.ledger_model.specs.declared.block.Block.{Block}
use Rattle.ledger_model.specs.declared.block.Said.{Said}
use Rattle.ledger_model.specs.declared.outcome.Named.{Named}
use Rattle.ledger_model.specs.declared.outcome.Refusal.{Refusal}
use Rattle.ledger_model.specs.declared.outcome.Refusal.TheVariants.{Ended}
use Rattle.ledger_model.specs.declared.script.Request.{Request}
use Rattle.ledger_model.specs.CommitDigest.{commit_digest}
use Rattle.ledger_model.specs.Damages.{same_hash}
use Rattle.ledger_model.specs.Making.{block_of}
use Rattle.ledger_model.specs.Run.{Begun, Progress, Ran, ran, refused, start, step, then_run}
use Rattle.ledger_model.specs.State.{State, state}
use Rattle.laws_footprint.specs.Touches.{conflict}

-- ---- the machine

-- A transaction that is open: its number, its place in the script, how many blocks stood at its begin, the
-- statements that it was asked, and what they came to. Behind a refused statement it is ended and takes no more.
pub record Transaction : Type 0 where
  pub number : ℕ
  pub place : Place
  pub since : ℕ
  pub asked : List Request
  pub done : Ran

-- the mask of the ids, the blocks, the last number that was drawn or found, and the open transactions
pub record Machine : Type 0 where
  pub mask : ℕ
  pub blocks : List Block
  pub last : ℕ
  pub underway : List Transaction

-- the greatest number of a transaction of these blocks, 0 where there is none
abbrev pub greatest : ℕ → List Block → ℕ
greatest mask [] = 0
greatest mask (b ∷ bs) = max (transaction_in mask b.header.tx.raw) (greatest mask bs)

-- on the blocks that are there at the opening, no transaction is open
abbrev pub opened : ℕ → List Block → Machine
opened mask blocks = record { mask = mask; blocks = blocks; last = greatest mask blocks; underway = [] }

-- ---- events

-- What serves a commit once it has passed its checks: all does; memory doesn't; or its store doesn't, which wants
-- memory, or has failed for the `count`th time.
pub data Service : Type 0 where
  served : Service
  no_memory : Service
  store_wants : Service
  store_failed : (count : ℕ) → Service

-- what a commit carries: the digest that is given, the clock's answer as a time, and what serves it
pub record Commit : Type 0 where
  pub digest : Hash32
  pub time : TimeParts
  pub service : Service

-- a begin at a place of the script; the others name a transaction by its number
pub data Event : Type 0 where
  begin : Place → Event
  execute : (number : ℕ) → Request → Event
  commit : (number : ℕ) → Commit → Event
  abort : (number : ℕ) → Event

-- ---- answers

-- How a commit ends: its transaction was ended, the digest is another one, a later block touched what it read, the
-- journal is full, memory is wanted, the store failed, or it is sealed. Where it comes to its store, it has its
-- block.
pub data Ending : Type 0 where
  ended : Ending
  differs : (mine given : Hash32) → Ending
  conflicts : (since : ℕ) → Named → Ending
  full : (blocks : ℕ) → Ending
  wants : Option Block → Ending
  fails : (count : ℕ) → Block → Ending
  seals : Block → Ending

-- A begin gives the transaction's number and how many blocks stood before, or no number is left behind the last one.
-- A statement is answered by its rows, or refused. Unknown is what names no open transaction.
pub data Answer : Type 0 where
  begun : (number since : ℕ) → Answer
  spent : (last : ℕ) → Answer
  rows : List Value → Answer
  refuses : Refusal → Answer
  ends : Ending → Answer
  aborted : Answer
  unknown : Answer

-- what a commit that is sealed is told
pub record Receipt : Type 0 where
  pub block : ℕ
  pub hash : Hash32
  pub time : TimeParts

abbrev pub receipt_of : Block → Receipt
receipt_of b = record { block = b.header.address.sequence; hash = b.hash; time = b.header.time }

-- an event's answer, and the machine behind it
pub record Step : Type 0 where
  pub answer : Answer
  pub now : Machine

-- ---- open transactions

-- the one of this number
abbrev pub named : ℕ → List Transaction → Option Transaction
named n [] = None
named n (t ∷ ts) = if t.number == n then Some t else named n ts

abbrev pub without : ℕ → List Transaction → List Transaction
without n ts = filter (λ (t : Transaction). not (t.number == n)) ts

-- this one in place of that of its number
abbrev pub replaced : Transaction → List Transaction → List Transaction
replaced new [] = []
replaced new (t ∷ ts) = if t.number == new.number then new ∷ ts else t ∷ replaced new ts

abbrev pub if_open : Machine → Option Transaction → (Transaction → Step) → Step
if_open m None f = record { answer = unknown; now = m }
if_open m (Some t) f = f t

-- its mask and number, and its id
abbrev pub begun_as : Machine → Transaction → Begun
begun_as m t = record { mask = m.mask; number = t.number }

abbrev pub id_of : Machine → Transaction → TxId
id_of m t = record { raw = raw_id m.mask t.number 0 }

-- the state of the blocks at its begin
abbrev pub base : Machine → Transaction → State
base m t = state (take t.since m.blocks)

-- ---- begin

abbrev pub new_transaction : Machine → Place → Transaction
new_transaction m place = record {
  number = m.last + 1;
  place = place;
  since = length m.blocks;
  asked = [];
  done = ran start;
}

-- the next number is drawn
abbrev pub draws : Machine → Place → Step
draws m place = record {
  answer = begun (m.last + 1) (length m.blocks);
  now = record m { last = m.last + 1; underway = new_transaction m place ∷ m.underway };
}

-- numbers are below 2^64
abbrev pub begins : Machine → Place → Step
begins m place = if nat_lt m.last (2 ^ 64 - 1) then draws m place else record { answer = spent m.last; now = m }

-- ---- execute

-- the answer of the last statement
abbrev pub last_rows : List Said → List Value
last_rows said = option_map_or (λ (x : Said). x.answer.rows) (last_or None said) []

abbrev pub told : Result Progress Refusal → Answer
told (Err cause) = refuses cause
told (Ok p) = rows (last_rows p.said)

-- the transaction with one statement more, which comes to this
abbrev pub asked_more : Transaction → Request → Result Progress Refusal → Transaction
asked_more t r x = record t { asked = t.asked ++ r ∷ []; done = then_run (length t.asked + 1) x ran }

-- one step of the run on the blocks at the transaction's begin, behind what its statements did
abbrev pub executes_on : Machine → Request → Transaction → Ran → Step
executes_on m r t (ran p) =
    let x = step (begun_as m t) (base m t) p r in
    record { answer = told x; now = record m { underway = replaced (asked_more t r x) m.underway } }
executes_on m r t (refused statement cause) = record { answer = refuses Ended; now = m }

abbrev pub executes : Machine → Request → Transaction → Step
executes m r t = executes_on m r t t.done

-- ---- commit

abbrev pub ends_by : Service → Block → Ending
ends_by served block = seals block
ends_by no_memory block = wants None
ends_by store_wants block = wants (Some block)
ends_by (store_failed count) block = fails count block

-- a journal has at most 2^32 - 1 blocks
abbrev pub unless_full : List Block → Ending → Ending
unless_full blocks next = if nat_lt (length blocks) (2 ^ 32 - 1) then next else full (length blocks)

abbrev pub unless_conflict : ℕ → Option Named → Ending → Ending
unless_conflict since None next = next
unless_conflict since (Some found) next = conflicts since found

abbrev pub unless_differs : Hash32 → Hash32 → Ending → Ending
unless_differs mine given next = if same_hash mine given then next else differs mine given

abbrev pub own_digest : Machine → Transaction → Hash32
own_digest m t = commit_digest (id_of m t) t.asked

-- what it read, against the blocks behind its begin
abbrev pub conflict_of : Machine → Transaction → Progress → Option Named
conflict_of m t p = conflict m.blocks t.since p.footprint

-- the block that it becomes behind all blocks
abbrev pub own_block : Machine → Transaction → Commit → Progress → Block
own_block m t c p = block_of (begun_as m t) m.blocks t.place c.time p

-- the checks in their order: the digest, a conflict, room for a block, memory and the store
abbrev pub ending_of : Machine → Commit → Transaction → Progress → Ending
ending_of m c t p =
    unless_differs (own_digest m t) c.digest
    (unless_conflict t.since (conflict_of m t p) (unless_full m.blocks (ends_by c.service (own_block m t c p))))

-- and first of all, whether the transaction is ended
abbrev pub ending : Machine → Commit → Transaction → Ran → Ending
ending m c t (ran p) = ending_of m c t p
ending m c t (refused statement cause) = ended

-- the blocks behind the commit
abbrev pub blocks_behind : List Block → Ending → List Block
blocks_behind blocks (seals block) = blocks ++ block ∷ []
blocks_behind blocks _ = blocks

-- the transaction is closed either way
abbrev pub closes : Machine → ℕ → Ending → Step
closes m number e = record {
  answer = ends e;
  now = record m { blocks = blocks_behind m.blocks e; underway = without number m.underway };
}

abbrev pub commits : Machine → Commit → Transaction → Step
commits m c t = closes m t.number (ending m c t t.done)

-- ---- abort

abbrev pub aborts : Machine → Transaction → Step
aborts m t = record { answer = aborted; now = record m { underway = without t.number m.underway } }

-- ---- all events

abbrev pub happens : Machine → Event → Step
happens m (begin place) = begins m place
happens m (execute number r) = if_open m (named number m.underway) (executes m r)
happens m (commit number c) = if_open m (named number m.underway) (commits m c)
happens m (abort number) = if_open m (named number m.underway) (aborts m)

-- the machine behind a list of events
abbrev pub behind : List Event → Machine → Machine
behind [] m = m
behind (e ∷ es) m = behind es (happens m e).now

-- what they are answered
abbrev pub answers : List Event → Machine → List Answer
answers [] m = []
answers (e ∷ es) m = (happens m e).answer ∷ answers es (happens m e).now
