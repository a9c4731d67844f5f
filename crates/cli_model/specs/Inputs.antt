-- How the input of a call is read, and the script or the values that it spells.
use Rattle.std.specs.Prelude.{◌≡◌, ◌<◌, ◌≤◌, ℕ, List, length, Option, Ok, Err}
use Rattle.ion_model.specs.Read.{read_text}
use Rattle.ion_values.specs.declared.fault.IonFault.{IonFault}
use Rattle.ion_values.specs.declared.value.Value.{Value}
use Rattle.ledger_model.specs.declared.script.Job.{Job}
use Rattle.outside.specs.Told.{SourceTold}
use Rattle.laws_history.specs.Calls.{Span}
use Rattle.laws_history.specs.Streams.{Taken, WasRead}
use Rattle.cli_model.specs.Judging.{Judged, bad_rules, faulty, judged, misspelt, no_such_rules, scripted}
use Rattle.cli_model.specs.Lines.{BadInput}
use Rattle.cli_model.specs.Lines as bad

-- the longest input, in bytes, and how deep one may nest
abbrev pub longest : ℕ
longest = 16777216

abbrev pub deepest : ℕ
deepest = 80

-- a part of the input was read that is too long already
pub record IsTooLong (source : Span SourceTold) : Type 0 where
  pub input : List ℕ
  pub taken : Taken source input
  pub long : longest < length input

-- the source wasn't asked for anything
abbrev pub IsIdle : Span SourceTold → Type 0
IsIdle source = source.after ≡ source.before

-- the source didn't fail
abbrev pub IsFine : Span SourceTold → Type 0
IsFine source = source.after.faults ≡ source.before.faults

-- it failed
abbrev pub SourceFailed : Span SourceTold → Type 0
SourceFailed source = source.before.faults < source.after.faults

-- ---- scripts

-- the whole input was read, and it is judged so, under the rules of that name or under none
pub record IsJudged (rules : Option (List ℕ)) (source : Span SourceTold) (what : Judged) : Type 0 where
  pub input : List ℕ
  pub read : WasRead source input
  pub judged_is : judged rules input ≡ what

-- the input spells this script, under the rules that it holds
abbrev pub HasScript : Option (List ℕ) → Span SourceTold → List (List Job) → Type 0
HasScript rules source script = IsJudged rules source (scripted script)

-- the whole input was read, and it is a script
pub record SpellsScript (rules : Option (List ℕ)) (source : Span SourceTold) : Type 0 where
  pub script : List (List Job)
  pub has : HasScript rules source script

-- why the input is no script
abbrev pub IsNoScript : Option (List ℕ) → BadInput → Span SourceTold → Type 0
IsNoScript rules bad.too_long source = IsTooLong source
IsNoScript rules (bad.faulty fault) source = IsJudged rules source (faulty fault)
IsNoScript rules bad.bad_rules source = IsJudged rules source bad_rules
IsNoScript rules bad.no_such_rules source = IsJudged rules source no_such_rules
IsNoScript rules (bad.misspelt fault) source = IsJudged rules source (misspelt fault)
IsNoScript rules (bad.not_a_record at) source = ⊥
IsNoScript rules (bad.record_differs at sequence) source = ⊥

-- ---- values

-- the whole input was read, which isn't too long, and it is the text of these values, which nest at most so deep
pub record HasValuesWithin (depth : ℕ) (source : Span SourceTold) (values : List Value) : Type 0 where
  pub input : List ℕ
  pub read : WasRead source input
  pub short : length input ≤ longest
  pub text_of : read_text depth input ≡ Ok values

-- it is no text of such values, by this fault
pub record HasNoValuesWithin (depth : ℕ) (source : Span SourceTold) (fault : IonFault) : Type 0 where
  pub input : List ℕ
  pub read : WasRead source input
  pub short : length input ≤ longest
  pub text_of : read_text depth input ≡ Err fault

-- as deep as an input may nest
abbrev pub HasValues : Span SourceTold → List Value → Type 0
HasValues source values = HasValuesWithin deepest source values

-- why the input is no text of values
abbrev pub IsNoText : BadInput → Span SourceTold → Type 0
IsNoText bad.too_long source = IsTooLong source
IsNoText (bad.faulty fault) source = HasNoValuesWithin deepest source fault
IsNoText bad.bad_rules source = ⊥
IsNoText bad.no_such_rules source = ⊥
IsNoText (bad.misspelt fault) source = ⊥
IsNoText (bad.not_a_record at) source = ⊥
IsNoText (bad.record_differs at sequence) source = ⊥
