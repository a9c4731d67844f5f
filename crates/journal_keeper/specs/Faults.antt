-- Why a store was not cut or took no line.
use Rattle.std.specs.Prelude.{◌≡◌, ◌≤◌, ℕ, Result, OnOk, IfErr}
use Rattle.outside.specs.Told.{StoreTold}
use Rattle.outside.specs.declared.traits.OutFault.{OutFault}
use Rattle.outside.specs.declared.traits.OutFault.TheVariants as out
use Rattle.journal_reader.specs.Faults.{IsStoreFault}
use Rattle.journal_keeper.specs.declared.keeping.SettleFault.{SettleFault}
use Rattle.journal_keeper.specs.declared.keeping.SettleFault.TheVariants as fault

-- the store failed in its last call, or memory ran out and it had not failed
abbrev pub IsSettleFault : SettleFault → StoreTold → StoreTold → Type 0
IsSettleFault (fault.StoreFault count) before after = IsStoreFault count before after
IsSettleFault fault.OutOfMemory before after = after.faults ≡ before.faults

-- what a call leaves of the store's count of faults: it rises exactly if the call returns that the store failed
pub record StoreLeaves {T : Type 0} (result : Result T SettleFault) (before after : StoreTold) : Type 0 where
  pub later : before.faults ≤ after.faults
  pub fine : OnOk result (after.faults ≡ before.faults)
  pub fault : IfErr result (λ fault. IsSettleFault fault before after)

-- the store's fault, with how often it has failed
abbrev pub told : OutFault → ℕ → SettleFault
told out.Failed count = fault.StoreFault count
told out.OutOfMemory count = fault.OutOfMemory
