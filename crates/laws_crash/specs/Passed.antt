-- The moments that a store's content went through.
use Rattle.std.specs.Prelude.{◌≡◌, ℕ, List, ◌++◌, Option, IfSome, IsSomeAnd}
use Rattle.std.specs.List.{AllByRecursion}
use Rattle.outside.specs.Store.{Content, Moment, moment, moment_of, past_after, left_since}
use Rattle.ledger_model.specs.declared.block.Block.{Block}
use Rattle.ledger_model.specs.Damages.{Undamaged}
use Rattle.ledger_model.specs.HashesAsked.{AreAsked}
use Rattle.laws_crash.specs.Sound.{IsSafe, Recovers}

-- Each moment after the first content's has the property. `past_after` are all moments of a content, its own the last
-- one.
pub record Passes (P : Moment → Type 0) (before now : Content) : Type 0 where
  pub more : List Moment
  pub grows : past_after now ≡ past_after before ++ more
  pub each : AllByRecursion P more

-- so it is if the store tells its content
abbrev pub PassesTold : (Moment → Type 0) → Option Content → Option Content → Type 0
PassesTold P before now = IfSome now (λ later. IsSomeAnd before (λ earlier. Passes P earlier later))

-- ---- laws

-- if each moment of a stretch is safe, what a stop left at any of them recovers
abbrev pub SafePassesRecover : Type 0
SafePassesRecover =
    (blocks tried : List Block) (before now : Content) → Undamaged blocks → AreAsked blocks
    → IsSafe blocks tried (moment_of before) → Passes (IsSafe blocks tried) before now
    → (image : List ℕ) → left_since now (moment before) image → Recovers blocks tried image
