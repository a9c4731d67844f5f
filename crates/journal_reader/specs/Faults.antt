-- What a store's failure tells.
use Rattle.std.specs.Prelude.{◌≡◌, ℕ, ◌<◌, true}
use Rattle.outside.specs.Told.{StoreTold}

-- the store failed in its last call, and had failed this many times by then
pub record IsStoreFault (count : ℕ) (before after : StoreTold) : Type 0 where
  pub rose : before.faults < count
  pub count_is : count ≡ after.faults
  pub last : after.last_failed ≡ true
