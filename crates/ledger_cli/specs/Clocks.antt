-- What the clock of a run tells, which times it gives, and what the source of ids asks of it.
use Rattle.std.specs.Prelude.{◌≡◌, ◌++◌, ℕ, ℤ, List, length, drop, Option, Some, IfSome, IsSomeAnd, Contains}
use Rattle.ion_time.specs.Millis.{BeginsAt, nearest}
use Rattle.ion_values.specs.declared.time.TimeParts.{TimeParts}
use Rattle.cli_args.specs.declared.IdSource.{IdSource}
use Rattle.cli_args.specs.declared.IdSource.TheVariants as ids
use Rattle.cli_args.specs.declared.RunOptions.{RunOptions}
use Rattle.laws_history.specs.Calls.{Span}
use Rattle.laws_history.specs.Records.{Times, IsTimeIn}
use Rattle.cli_model.specs.Clocks.{Answers}
use Rattle.cli_model.specs.Runs.{AreTerms, Terms}

-- the answers that a clock has given, and the one answer that it always gives, where it has one
pub record ClockTold : Type 0 where
  pub answers : Answers
  pub always : Option ℤ

abbrev pub clock_told : {C : Type 0} → (C → Answers) → (C → Option ℤ) → C → ClockTold
clock_told answers always clock = record { answers = answers clock; always = always clock }

-- where the answers are told afterwards, they were told before, and these begin with those
abbrev pub Extends : Answers → Answers → Type 0
Extends before now = IfSome now (λ later. IsSomeAnd before (λ earlier. (more : List ℤ) × (later ≡ earlier ++ more)))

-- and the clock always gives what it always gave
pub record GoesOn (before now : ClockTold) : Type 0 where
  pub extends : Extends before.answers now.answers
  pub same : now.always ≡ before.always

-- the answer was given from one moment to a later one, where both are told
abbrev pub IsAnswered : Answers → Answers → ℤ → Type 0
IsAnswered (Some before) (Some now) answer = Contains (drop (length before) now) answer
IsAnswered _ _ answer = Unit {0}

-- the time is that of such an answer, taken to the nearest millisecond of the years 0001 to 9999
pub record IsGivenTime (before now : ClockTold) (time : TimeParts) : Type 0 where
  pub answer : ℤ
  pub among : IsAnswered before.answers now.answers answer
  pub one : IfSome before.always (λ same. answer ≡ same)
  pub begins : BeginsAt (nearest answer) time

-- the times that the clock gave then are among these
abbrev pub Covers : ClockTold → ClockTold → Times → Type 0
Covers before now times = (time : TimeParts) → IsGivenTime before now time → IsTimeIn times time

-- plain ids and a seed ask nothing of the clock
abbrev pub IsAsked : {C : Type 0} → IdSource → C → C → Type 0
IsAsked ids.Plain before now = now ≡ before
IsAsked (ids.Seed seed) before now = now ≡ before
IsAsked ids.FirstAnswer before now = Unit {0}

-- the mask is the one that is told, where one is, and the times that the clock gave are among those that are told
pub record AreCovered (mask : ℕ) (before now : ClockTold) (terms : Terms) : Type 0 where
  pub given : IfSome terms.given (λ given. given ≡ mask)
  pub times : Covers before now terms.times

-- it is so on the terms that the words and the clock give
pub record IsOnTerms (o : RunOptions) (clock : Span Answers) (Is : Terms → Type 0) : Type 0 where
  pub terms : Terms
  pub are : AreTerms o clock terms
  pub is : Is terms
