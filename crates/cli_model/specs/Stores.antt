-- What a call leaves of its store, and what it reads of the journal that the store holds.
use Rattle.std.specs.Prelude.{◌≡◌, ◌<◌, ℕ, true, List, IfSome}
use Rattle.ledger_model.specs.declared.block.Block.{Block}
use Rattle.ledger_model.specs.declared.damage.Damage.{Damage}
use Rattle.ledger_model.specs.Damages.{Undamaged}
use Rattle.ledger_model.specs.Recovered.{IsDamaged}
use Rattle.outside.specs.Told.{StoreTold, held}
use Rattle.laws_history.specs.Calls.{Span}
use Rattle.laws_history.specs.Stores.{HasJournal}

-- ---- the store

-- The store is the one that was given, which the first of these says. So it tells what it told.
pub record IsUncalled (same : Type 0) (store : Span StoreTold) : Type 0 where
  pub is : same
  pub told : store.after ≡ store.before

-- its content is as before
abbrev pub IsUnchanged : Span StoreTold → Type 0
IsUnchanged store = store.after.content ≡ store.before.content

-- it didn't fail
abbrev pub IsUnfailed : Span StoreTold → Type 0
IsUnfailed store = store.after.faults ≡ store.before.faults

-- its content is as before, and it didn't fail
pub record IsOnlyRead (store : Span StoreTold) : Type 0 where
  pub content : IsUnchanged store
  pub faults : IsUnfailed store

-- it failed, in its last call too
pub record HasFailed (store : Span StoreTold) : Type 0 where
  pub rose : store.before.faults < store.after.faults
  pub last : store.after.last_failed ≡ true

-- ---- the journal

-- the journal that the store holds was read, and has these undamaged blocks
pub record Reads (store : Span StoreTold) (blocks : List Block) : Type 0 where
  pub found : HasJournal blocks (held store.before)
  pub undamaged : Undamaged blocks
  pub only_read : IsOnlyRead store

-- the journal that the store holds was read, and this line of it fails this check first
pub record ReadsDamage (store : Span StoreTold) (sequence : ℕ) (kind : Damage) : Type 0 where
  pub damaged : IfSome (held store.before) (λ bytes. IsDamaged bytes sequence kind)
  pub only_read : IsOnlyRead store
