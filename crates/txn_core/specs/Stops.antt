-- How a part of a statement comes out where it may be stopped.
use Rattle.std.specs.Prelude.{◌≡◌, Result, Ok, Err}
use Rattle.ledger_model.specs.declared.outcome.Refusal.{Refusal}
use Rattle.ledger_model.specs.Run.{Effect}
use Rattle.txn_core.specs.Effects.{effect_of}
use Rattle.txn_core.specs.declared.effect.Effect as held
use Rattle.txn_core.specs.declared.stopped.ExecuteFault.{ExecuteFault}
use Rattle.txn_core.specs.declared.stopped.ExecuteFault.TheVariants.{Refused, OutOfMemory}

-- if a statement stopped for a cause, it is this one; nothing is said if memory ran out
abbrev pub StopsFor : ExecuteFault → (Refusal → Type 0) → Type 0
StopsFor (Refused cause) P = P cause
StopsFor OutOfMemory P = Unit {0}

-- what comes is what was wanted: a value, or the cause why the statement is refused
abbrev pub Comes : {A : Type 0} → Result A ExecuteFault → Result A Refusal → Type 0
Comes (Ok x) wanted = wanted ≡ Ok x
Comes (Err stopped) wanted = StopsFor stopped (λ cause. wanted ≡ Err cause)

-- the same of what a statement does
abbrev pub Does : Result held.Effect ExecuteFault → Result Effect Refusal → Type 0
Does (Ok e) wanted = wanted ≡ Ok (effect_of e)
Does (Err stopped) wanted = StopsFor stopped (λ cause. wanted ≡ Err cause)
