-- How a commit comes to its store: each check was passed, and the block is the transaction's own.
use Rattle.std.proofs.Common.{◌≡◌, ◌<◌, ℕ, ◌-◌, ◌^◌, Bool, true, false, length, refl, Option, Some, None, if◌then◌else◌}
use Rattle.std.specs.Prelude.{nat_lt}
use Rattle.std.proofs.lemmas.Bool.{ltb-true}
use Rattle.ql_types.specs.declared.Hash32.{Hash32}
use Rattle.ledger_model.specs.declared.block.Block.{Block}
use Rattle.ledger_model.specs.declared.outcome.Named.{Named}
use Rattle.ledger_model.specs.Damages.{same_hash}
use Rattle.ledger_model.specs.Run.{Progress, Ran, ran, refused}
use Rattle.laws_machine.specs.Entries.{count_in}
use Rattle.laws_machine.specs.History.{block_in}
use Rattle.laws_machine.specs.Machine.{Commit, Ending, Machine, Service, Transaction, conflict_of, differs, ending, ends_by, fails, full, no_memory, own_block, own_digest, served, store_failed, store_wants, unless_conflict}

-- the commit comes to its store with this block
pub record Comes (m : Machine) (c : Commit) (t : Transaction) (block : Block) : Type 0 where
  pub progress : Progress
  pub done : t.done ≡ ran progress
  pub digest : same_hash (own_digest m t) c.digest ≡ true
  pub free : conflict_of m t progress ≡ None
  pub room : length m.blocks < 2 ^ 32 - 1
  pub block_is : block ≡ own_block m t c progress

-- ---- check by check

past_digest : (b : Bool) (mine given : Hash32) (next : Ending) (block : Block)
    → block_in (if b then next else differs mine given) ≡ Some block → (b ≡ true) × (block_in next ≡ Some block)
past_digest true mine given next block h = (refl, h)
past_digest false mine given next block h = cc h

past_conflict : (o : Option Named) (since : ℕ) (next : Ending) (block : Block)
    → block_in (unless_conflict since o next) ≡ Some block → (o ≡ None) × (block_in next ≡ Some block)
past_conflict None since next block h = (refl, h)
past_conflict (Some found) since next block h = cc h

past_room : (b : Bool) (count : ℕ) (next : Ending) (block : Block)
    → block_in (if b then next else full count) ≡ Some block → (b ≡ true) × (block_in next ≡ Some block)
past_room true count next block h = (refl, h)
past_room false count next block h = cc h

past_service : (s : Service) (own block : Block) → block_in (ends_by s own) ≡ Some block → block ≡ own
past_service served own block h = cc h
past_service no_memory own block h = cc h
past_service store_wants own block h = cc h
past_service (store_failed count) own block h = cc h

came : (m : Machine) (c : Commit) (t : Transaction) (block : Block) (x : Ran) → t.done ≡ x
    → block_in (ending m c t x) ≡ Some block → Comes m c t block
came m c t block (ran p) done h =
    let digest = past_digest (same_hash (own_digest m t) c.digest) (own_digest m t) c.digest _ block h in
    let free = past_conflict (conflict_of m t p) t.since _ block digest.1 in
    let room = past_room (nat_lt (length m.blocks) (2 ^ 32 - 1)) (length m.blocks) _ block free.1 in
    record {
      progress = p;
      done = done;
      digest = digest.0;
      free = free.0;
      room = ltb-true (length m.blocks) (2 ^ 32 - 1) room.0;
      block_is = past_service c.service (own_block m t c p) block room.1;
    }
came m c t block (refused statement cause) done h = cc h

pub comes : (m : Machine) (c : Commit) (t : Transaction) (block : Block) → block_in (ending m c t t.done) ≡ Some block
    → Comes m c t block
comes m c t block h = came m c t block t.done refl h

-- ---- the store's failures

fails_digest : (b : Bool) (mine given : Hash32) (next : Ending) (count : ℕ) (block : Block)
    → (if b then next else differs mine given) ≡ fails count block → next ≡ fails count block
fails_digest true mine given next count block h = h
fails_digest false mine given next count block h = cc h

fails_conflict : (o : Option Named) (since : ℕ) (next : Ending) (count : ℕ) (block : Block)
    → unless_conflict since o next ≡ fails count block → next ≡ fails count block
fails_conflict None since next count block h = h
fails_conflict (Some found) since next count block h = cc h

fails_room : (b : Bool) (blocks : ℕ) (next : Ending) (count : ℕ) (block : Block)
    → (if b then next else full blocks) ≡ fails count block → next ≡ fails count block
fails_room true blocks next count block h = h
fails_room false blocks next count block h = cc h

fails_service : (s : Service) (own : Block) (count : ℕ) (block : Block) → ends_by s own ≡ fails count block
    → count_in s ≡ Some count
fails_service served own count block h = cc h
fails_service no_memory own count block h = cc h
fails_service store_wants own count block h = cc h
fails_service (store_failed n) own count block h = cc h

-- a count that is told is the store's
pub count_told : (m : Machine) (c : Commit) (t : Transaction) (count : ℕ) (block : Block) (x : Ran)
    → ending m c t x ≡ fails count block → count_in c.service ≡ Some count
count_told m c t count block (ran p) h =
    fails_service c.service (own_block m t c p) count block
    (fails_room (nat_lt (length m.blocks) (2 ^ 32 - 1)) (length m.blocks) _ count block
    (fails_conflict (conflict_of m t p) t.since _ count block
    (fails_digest (same_hash (own_digest m t) c.digest) (own_digest m t) c.digest _ count block h)))
count_told m c t count block (refused statement cause) h = cc h
