-- A script that is read can be run: its sessions and its jobs can be counted in 32 bits.
use Rattle.std.proofs.Common.{◌≡◌, Bool, inl, inr, ◌+◌, ◌<◌, ◌≤◌, ◌^◌, ℕ, zero, suc, nat_le, List, [], ◌∷◌, length, take, Option, Some, None, Result, Ok, Err, refl, ap, subst, arith, if◌then◌else◌}
use Rattle.std.specs.Prelude.{IfOk}
use Rattle.std.specs.List.{All, AllByRecursion}
use Rattle.std.specs.Option.{ok_or, unwrap_or}
use Rattle.ion_model.specs.Read.{read_text}
use Rattle.std.proofs.lemmas.Bool.{cond_both}
use Rattle.std.proofs.lemmas.Grind.{common_steps}
use Rattle.ion_values.specs.declared.value.Value.{Value}
use Rattle.ledger_model.specs.declared.script.Job.{Job}
use Rattle.ledger_model.specs.declared.script.ScriptFault.{ScriptFault}
use Rattle.ledger_model.specs.declared.script.ScriptKind.TheVariants as kind
use Rattle.ledger_model.specs.Values.{list_in}
use Rattle.ledger_model.specs.ReadScript.{if_read, fault_at, placed_at, read_each, read_placed, read_session, read_script}
use Rattle.std.proofs.lemmas.Bool.Decides.{leb_tells}
use Rattle.ion_values.specs.declared.fault.IonFault.{IonFault}
use Rattle.access_rules.specs.declared.rule.Rule.{Rule}
use Rattle.access_rules.specs.declared.rule.RulesAnswer.{RulesAnswer}
use Rattle.access_rules.specs.declared.rule.RulesAnswer.TheVariants as answer
use Rattle.access_rules.specs.ReadRules.{read_rules}
use Rattle.script_form.specs.Answers.{IsCountable}
use Rattle.outside.specs.Told.{SourceTold}
use Rattle.laws_history.specs.Calls.{Span}
use Rattle.laws_history.specs.Streams.{Taken, WasRead}
use Rattle.ledger_cli.specs.declared.lines.BadInput.TheVariants as cause
use Rattle.ledger_cli.specs.declared.command_fault.CommandFault.{CommandFault}
use Rattle.ledger_cli.specs.declared.command_fault.CommandFault.TheVariants as stop
use Rattle.cli_model.specs.Inputs.{IsFine}
use Rattle.cli_model.specs.Judging.{judged, judged_behind, judged_by, judged_script, judged_text, judged_under, judged_values, too_long}
use Rattle.ledger_cli.specs.Inputs.{IsReadStop, IsUnread, ReadsScript}
use Rattle.ledger_shared.specs.Sessions.{AreNumbered}
use Rattle.ledger_cli.specs.Judgements.{JudgesTo}

-- ---- lists

short_take : {A : Type 0} (n : ℕ) (xs : List A) → length (take n xs) ≤ n
short_take n xs = grind (arith, common_steps)

-- ---- sessions are as long as their lists

longer_by_one : {A B E : Type 0} (x : A) (xs : List A) (y : B) (r : Result (List B) E)
    → IfOk r (λ ys. length ys ≡ length xs)
    → IfOk (if_read r (λ ys. Ok (y ∷ ys))) (λ ys. length ys ≡ length (x ∷ xs))
longer_by_one x xs y (Ok ys) h = ap (λ n. suc n) h
longer_by_one x xs y (Err e) h = tt

behind_one : {A B E : Type 0} (x : A) (xs : List A) (r : Result B E) (s : Result (List B) E)
    → IfOk s (λ ys. length ys ≡ length xs)
    → IfOk (if_read r (λ y. if_read s (λ ys. Ok (y ∷ ys)))) (λ ys. length ys ≡ length (x ∷ xs))
behind_one x xs (Ok y) s h = longer_by_one x xs y s h
behind_one x xs (Err e) s h = tt

-- as many are read as there are
as_many : {A B E : Type 0} (read : ℕ → A → Result B E) (xs : List A) (number : ℕ)
    → IfOk (read_each read number xs) (λ ys. length ys ≡ length xs)
as_many read [] number = refl
as_many read (x ∷ xs) number =
    behind_one x xs (read number x) (read_each read (number + 1) xs) (as_many read xs (number + 1))

-- a session's jobs can be counted where its members can

abbrev IsShort : List Job → Type 0
IsShort jobs = length jobs < 2 ^ 32

few_as : (members : List Value) → length members < 2 ^ 32 → (r : Result (List Job) ScriptFault)
    → IfOk r (λ jobs. length jobs ≡ length members) → IfOk r IsShort
few_as members few (Ok jobs) same = omega (arith, few, same)
few_as members few (Err e) same = tt

few_in : (session : ℕ) (members : Option (List Value)) → length (unwrap_or members []) < 2 ^ 32
    → IfOk (if_read (placed_at session 0 (ok_or members kind.NotASession)) (λ vs. read_each (read_placed session) 1 vs))
    IsShort
few_in session None few = tt
few_in session (Some members) few =
    few_as members few (read_each (read_placed session) 1 members) (as_many (read_placed session) members 1)

few_session : (session : ℕ) (v : Value) → IsCountable v → IfOk (read_session session v) IsShort
few_session session v few = few_in session (list_in v) few

-- ---- so are they all

each_then : {B E : Type 0} (Q : B → Type 0) (r : Result B E) (s : Result (List B) E) → IfOk r Q
    → IfOk s (AllByRecursion Q)
    → IfOk (if_read r (λ y. if_read s (λ ys. Ok (y ∷ ys)))) (AllByRecursion Q)
each_then Q (Ok y) (Ok ys) h k = (h, k)
each_then Q (Ok y) (Err e) h k = tt
each_then Q (Err e) s h k = tt

few_each : (vs : List Value) (number : ℕ) → AllByRecursion IsCountable vs
    → IfOk (read_each read_session number vs) (AllByRecursion IsShort)
few_each [] number h = tt
few_each (v ∷ vs) number h =
    each_then IsShort (read_session number v) (read_each read_session (number + 1) vs) (few_session number v h.0)
    (few_each vs (number + 1) h.1)

-- what is told of each place is so of each item
each_of : {A : Type 0} (P : A → Type 0) (xs : List A) → All P xs → AllByRecursion P xs
each_of P [] all = tt
each_of P (x ∷ xs) all = (all 0 x (omega arith), each_of P xs (λ k d within. all (suc k) d (omega (arith, within))))

first_ones : {A : Type 0} (P : A → Type 0) (n : ℕ) (xs : List A) → AllByRecursion P xs → AllByRecursion P (take n xs)
first_ones P zero xs h = tt
first_ones P (suc n) [] h = tt
first_ones P (suc n) (x ∷ xs) h = (h.0, first_ones P n xs h.1)

-- ---- the script

few_read : (values : List Value) (r : Result (List (List Job)) ScriptFault) → IfOk r (AllByRecursion IsShort)
    → IfOk r (λ script. length script ≡ length (take 1024 values))
    → IfOk (if_read r (λ script. if nat_le (length values) 1024 then Ok script
    else Err (fault_at 1025 0 kind.TooManySessions))) AreNumbered
few_read values (Ok script) each same =
    cond_both (nat_le (length values) 1024) (Ok script) (Err (fault_at 1025 0 kind.TooManySessions))
    (λ (r : Result (List (List Job)) ScriptFault). IfOk r AreNumbered)
    (λ _. record { sessions = each; few = omega (arith, same, short_take 1024 values) }) (λ _. tt)
few_read values (Err e) each same = tt

few_script : (values : List Value) → All IsCountable values → IfOk (read_script values) AreNumbered
few_script values all =
    few_read values (read_each read_session 1 (take 1024 values))
    (few_each (take 1024 values) 1 (first_ones IsCountable 1024 values (each_of IsCountable values all)))
    (as_many read_session (take 1024 values) 1)

pub runnable_is : (values : List Value) (script : List (List Job)) → All IsCountable values
    → read_script values ≡ Ok script → AreNumbered script
runnable_is values script all is =
    subst (λ (r : Result (List (List Job)) ScriptFault). IfOk r AreNumbered) is (few_script values all)

-- ---- the script that is read from a source

script_is_short : (r : Result (List (List Job)) ScriptFault) → judged_script r ≡ too_long → ⊥
script_is_short (Ok script) is = cc
script_is_short (Err fault) is = cc

under_is_short : (rules : List Rule) (r : Result (List (List Job)) ScriptFault) → judged_under rules r ≡ too_long → ⊥
under_is_short rules (Ok script) is = cc
under_is_short rules (Err fault) is = cc

ruled_is_short : (rules : Result (List Rule) RulesAnswer) (r : Result (List (List Job)) ScriptFault) → judged_by rules r ≡ too_long → ⊥
ruled_is_short (Ok rules) r is = under_is_short rules r is
ruled_is_short (Err answer.BadRules) r is = cc
ruled_is_short (Err answer.NoSuchRules) r is = cc
ruled_is_short (Err answer.OutOfMemory) r is = cc

behind_is_short : (name : List ℕ) (values : List Value) → judged_behind name values ≡ too_long → ⊥
behind_is_short name [] is = cc
behind_is_short name (v ∷ values) is = ruled_is_short (read_rules name v) (read_script values) is

values_are_short : (rules : Option (List ℕ)) (values : List Value) → judged_values rules values ≡ too_long → ⊥
values_are_short None values is = script_is_short (read_script values) is
values_are_short (Some name) values is = behind_is_short name values is

text_is_short : (rules : Option (List ℕ)) (r : Result (List Value) IonFault) → judged_text rules r ≡ too_long → ⊥
text_is_short rules (Ok values) is = values_are_short rules values is
text_is_short rules (Err fault) is = cc

-- an input that is judged too long is
is_long : (rules : Option (List ℕ)) (input : List ℕ) → judged rules input ≡ too_long → 16777216 < length input
is_long rules input is =
    elim (leb_tells (length input) 16777216) [
      | inl t ↦
          absurd (text_is_short rules (read_text 80 input)
          (subst (λ (b : Bool). (if b then judged_text rules (read_text 80 input) else too_long) ≡ too_long) t.0 is))
      | inr f ↦ f.1
    ]

-- an input that is judged so gives the script, or the cause why not
pub reads_input : (rules : Option (List ℕ)) (source : Span SourceTold) (input : List ℕ) (r : Result (List (List Job)) CommandFault) → WasRead source input
    → IsFine source
    → JudgesTo r (judged rules input) → IfOk r AreNumbered → ReadsScript rules r source
reads_input rules source input (Ok script) read fine is runs =
    (record { input = input; read = read; judged_is = is }, runs, fine)
reads_input rules source input (Err stop.BadWords) read fine is runs = absurd is
reads_input rules source input (Err (stop.BadInput cause.TooLong)) read fine is runs =
    (record { input = input; taken = read.taken; long = is_long rules input is }, fine)
reads_input rules source input (Err (stop.BadInput (cause.Faulty fault))) read fine is runs =
    (record { input = input; read = read; judged_is = is }, fine)
reads_input rules source input (Err (stop.BadInput cause.BadRules)) read fine is runs =
    (record { input = input; read = read; judged_is = is }, fine)
reads_input rules source input (Err (stop.BadInput cause.NoSuchRules)) read fine is runs =
    (record { input = input; read = read; judged_is = is }, fine)
reads_input rules source input (Err (stop.BadInput (cause.Misspelt fault))) read fine is runs =
    (record { input = input; read = read; judged_is = is }, fine)
reads_input rules source input (Err (stop.BadInput (cause.NotARecord at))) read fine is runs = absurd is
reads_input rules source input (Err (stop.BadInput (cause.RecordDiffers at sequence))) read fine is runs = absurd is
reads_input rules source input (Err (stop.NoSuch why)) read fine is runs = absurd is
reads_input rules source input (Err (stop.Damaged sequence kind)) read fine is runs = absurd is
reads_input rules source input (Err stop.SourceFailed) read fine is runs = absurd is
reads_input rules source input (Err stop.StoreFailed) read fine is runs = absurd is
reads_input rules source input (Err (stop.NotEmpty blocks)) read fine is runs = absurd is
reads_input rules source input (Err (stop.BadRange from to)) read fine is runs = absurd is
reads_input rules source input (Err (stop.NotAccepted fault)) read fine is runs = absurd is
reads_input rules source input (Err stop.NotPublished) read fine is runs = absurd is
reads_input rules source input (Err stop.OutOfMemory) read fine is runs = fine

-- an input that wasn't read
pub unread_input : (rules : Option (List ℕ)) (source : Span SourceTold) (why : CommandFault) → IsUnread why source
    → (why ≡ stop.BadInput cause.TooLong → (input : List ℕ) × Taken source input × (16777216 < length input))
    → IsReadStop rules why source
unread_input rules source stop.BadWords is long = absurd is
unread_input rules source (stop.BadInput cause.TooLong) is long =
    let (input, taken, more) = long refl in
    (record { input = input; taken = taken; long = more }, is.1)
unread_input rules source (stop.BadInput (cause.Faulty fault)) is long = let bad : ⊥ = cc in absurd bad
unread_input rules source (stop.BadInput cause.BadRules) is long = let bad : ⊥ = cc in absurd bad
unread_input rules source (stop.BadInput cause.NoSuchRules) is long = let bad : ⊥ = cc in absurd bad
unread_input rules source (stop.BadInput (cause.Misspelt fault)) is long = let bad : ⊥ = cc in absurd bad
unread_input rules source (stop.BadInput (cause.NotARecord at)) is long = let bad : ⊥ = cc in absurd bad
unread_input rules source (stop.BadInput (cause.RecordDiffers at sequence)) is long = let bad : ⊥ = cc in absurd bad
unread_input rules source (stop.NoSuch why) is long = absurd is
unread_input rules source (stop.Damaged sequence kind) is long = absurd is
unread_input rules source stop.SourceFailed is long = is
unread_input rules source stop.StoreFailed is long = absurd is
unread_input rules source (stop.NotEmpty blocks) is long = absurd is
unread_input rules source (stop.BadRange from to) is long = absurd is
unread_input rules source (stop.NotAccepted fault) is long = absurd is
unread_input rules source stop.NotPublished is long = absurd is
unread_input rules source stop.OutOfMemory is long = is
