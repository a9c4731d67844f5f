-- When a call of the outside may answer a fault.
use Rattle.std.specs.Prelude.{◌≡◌, ℕ, ◌<◌, ◌≤◌, Bool, true, false, Result, Ok, Err, IsOk, IsErrOf}
use Rattle.outside.specs.declared.traits.OutFault.{OutFault}
use Rattle.outside.specs.declared.traits.OutFault.TheVariants.{Failed, OutOfMemory}

-- The count of faults never falls. A call that succeeds or wants memory leaves it, and one that answers `Failed`
-- raised it.
pub record HasCause {T : Type 0} (before now : ℕ) (result : Result T OutFault) : Type 0 where
  pub later : before ≤ now
  pub fine : IsOk result → now ≡ before
  pub failed : IsErrOf result Failed → before < now
  pub wanted : IsErrOf result OutOfMemory → now ≡ before

-- whether the answer is `Failed`
abbrev pub is_failed : {T : Type 0} → Result T OutFault → Bool
is_failed (Ok x) = false
is_failed (Err Failed) = true
is_failed (Err OutOfMemory) = false
