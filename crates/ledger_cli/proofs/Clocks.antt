-- The answers of a clock from one moment to a later one, and the times and the mask that are taken of them.
use Rattle.std.proofs.Common.{◌≡◌, ◌∙◌, ◌+◌, ℤ, List, [], ◌∷◌, ◌++◌, length, length-append, drop, append-nil, append_assoc, refl, sym, ap, subst, arith, Option, Some, None}
use Rattle.std.specs.Prelude.{IfSome, IsSome}
use Rattle.std.specs.List.{Contains}
use Rattle.std.proofs.lemmas.Grind.{common_steps}
use Rattle.id_seed.specs.Seed.{mask_of}
use Rattle.ion_time.specs.Millis.{BeginsAt, nearest}
use Rattle.ion_time.proofs.Names.{millis_name_times}
use Rattle.ion_values.specs.declared.time.TimeParts.{TimeParts}
use Rattle.outside.specs.Clocks.{AddsAnswer}
use Rattle.laws_history.specs.Records.{Times, one_time, IsTimeIn}
use Rattle.cli_model.specs.Clocks.{Answers, HasAnswered, times_between, mask_between, first_mask, seed_of}
use Rattle.ledger_shared.specs.Behind.{GaveBetween}
use Rattle.ledger_cli.specs.Clocks.{ClockTold, GoesOn, IsAnswered, Covers, Extends}

-- ---- what is in a list is in a longer one

drop_front : (xs ys zs : List ℤ) → zs ≡ xs ++ ys → drop (length xs) zs ≡ ys
drop_front [] ys zs is = is
drop_front (x ∷ xs) ys [] is = cc
drop_front (x ∷ xs) ys (z ∷ zs) is = drop_front xs ys zs cc

in_front : (xs ys : List ℤ) (x : ℤ) → Contains xs x → Contains (xs ++ ys) x
in_front xs ys x h = (h.0, omega (arith, length-append xs ys, h.1), grind (arith, common_steps, h.1, h.2))

in_back : (xs ys : List ℤ) (x : ℤ) → Contains ys x → Contains (xs ++ ys) x
in_back [] ys x h = h
in_back (z ∷ xs) ys x h =
    let rest = in_back xs ys x h in
    (rest.0 + 1, omega (arith, rest.1), grind (arith, common_steps, rest.2))

-- ---- an answer that was given since

pub answered_since : (before now : Answers) (answer : ℤ) → GaveBetween before now answer → IsAnswered before now answer
answered_since None now answer h = tt
answered_since (Some xs) None answer h = tt
answered_since (Some xs) (Some ys) answer h = subst (λ (l : List ℤ). Contains l answer) (sym (drop_front xs h.0 ys h.1)) h.2

-- ---- longer lists of answers

pub extends_same : (a : Answers) → Extends a a
extends_same None = tt
extends_same (Some xs) = ([], sym (append-nil xs))

pub extends_by : (a b : Answers) (answer : ℤ) → AddsAnswer a b answer → Extends a b
extends_by a None answer adds = tt
extends_by None (Some ys) answer adds = absurd adds
extends_by (Some xs) (Some ys) answer adds = (answer ∷ [], adds)

pub extends_on : (a b c : Answers) → Extends a b → Extends b c → Extends a c
extends_on a b None e f = tt
extends_on a None (Some zs) e f = absurd f
extends_on None (Some ys) (Some zs) e f = absurd e
extends_on (Some xs) (Some ys) (Some zs) e f =
    (e.0 ++ f.0, f.1 ∙ ap (λ (l : List ℤ). l ++ f.0) e.1 ∙ append_assoc xs e.0 f.0)

-- ---- what a clock tells from one moment to a later one

pub goes_same : (a : ClockTold) → GoesOn a a
goes_same a = record { extends = extends_same a.answers; same = refl }

pub goes_on : (a b c : ClockTold) → GoesOn a b → GoesOn b c → GoesOn a c
goes_on a b c e f = record { extends = extends_on a.answers b.answers c.answers e.extends f.extends; same = f.same ∙ e.same }

-- ---- times

-- an answer of the first part is one of the whole
answered_front : (a b c : Answers) (answer : ℤ) → Extends a b → Extends b c → IsAnswered a b answer → IsAnswered a c answer
answered_front None b c answer e f is = tt
answered_front (Some xs) b None answer e f is = tt
answered_front (Some xs) None (Some zs) answer e f is = absurd f
answered_front (Some xs) (Some ys) (Some zs) answer e f is =
    let whole = f.1 ∙ ap (λ (l : List ℤ). l ++ f.0) e.1 ∙ append_assoc xs e.0 f.0 in
    let first = subst (λ (l : List ℤ). Contains l answer) (drop_front xs e.0 ys e.1) is in
    subst (λ (l : List ℤ). Contains l answer) (sym (drop_front xs (e.0 ++ f.0) zs whole)) (in_front e.0 f.0 answer first)

-- so is one of the last part
answered_back : (a b c : Answers) (answer : ℤ) → Extends a b → Extends b c → IsAnswered b c answer → IsAnswered a c answer
answered_back None b c answer e f is = tt
answered_back (Some xs) b None answer e f is = tt
answered_back (Some xs) None (Some zs) answer e f is = absurd f
answered_back (Some xs) (Some ys) (Some zs) answer e f is =
    let whole = f.1 ∙ ap (λ (l : List ℤ). l ++ f.0) e.1 ∙ append_assoc xs e.0 f.0 in
    let last = subst (λ (l : List ℤ). Contains l answer) (drop_front ys f.0 zs f.1) is in
    subst (λ (l : List ℤ). Contains l answer) (sym (drop_front xs (e.0 ++ f.0) zs whole)) (in_back e.0 f.0 answer last)

-- what covers the whole covers its first part
pub covers_front : (a b c : ClockTold) (times : Times) → GoesOn a b → GoesOn b c → Covers a c times → Covers a b times
covers_front a b c times e f covers = λ time is.
    covers time
    (record {
      answer = is.answer;
      among = answered_front a.answers b.answers c.answers is.answer e.extends f.extends is.among;
      one = is.one;
      begins = is.begins;
    })

-- and its last part
pub covers_back : (a b c : ClockTold) (times : Times) → GoesOn a b → GoesOn b c → Covers a c times → Covers b c times
covers_back a b c times e f covers = λ time is.
    covers time
    (record {
      answer = is.answer;
      among = answered_back a.answers b.answers c.answers is.answer e.extends f.extends is.among;
      one = subst (λ (x : Option ℤ). IfSome x (λ same. is.answer ≡ same)) e.same is.one;
      begins = is.begins;
    })

-- the times of answers are those between
time_between : (a b : Answers) (answer : ℤ) (time : TimeParts) → IsAnswered a b answer → BeginsAt (nearest answer) time
    → IsTimeIn (times_between a b) time
time_between None b answer time is begins = tt
time_between (Some xs) None answer time is begins = tt
time_between (Some xs) (Some ys) answer time is begins = (answer, is, begins)

pub between_covers : (first : Answers) (a b : ClockTold) → Extends first a.answers → Extends a.answers b.answers
    → Covers a b (times_between first b.answers)
between_covers first a b e f = λ time is.
    time_between first b.answers is.answer time (answered_back first a.answers b.answers is.answer e f is.among) is.begins

-- a clock that always gives one answer gives one time
pub one_covers : (a b : ClockTold) (ms : ℤ) (own : TimeParts) → a.always ≡ Some ms → BeginsAt (nearest ms) own → Covers a b (one_time own)
one_covers a b ms own always begins = λ time is.
    let one : is.answer ≡ ms = subst (λ (x : Option ℤ). IfSome x (λ same. is.answer ≡ same)) always is.one in
    millis_name_times (nearest ms) time own (subst (λ (n : ℤ). BeginsAt (nearest n) time) one is.begins) begins

-- ---- the mask

-- the mask of the first answer, whatever is answered later
pub first_given : (a b c : Answers) (answer : ℤ) → AddsAnswer a b answer → Extends b c
    → IfSome (mask_between a c) (λ given. given ≡ mask_of (seed_of answer))
first_given None b c answer adds f = tt
first_given (Some xs) b None answer adds f = tt
first_given (Some xs) None (Some zs) answer adds f = absurd f
first_given (Some xs) (Some ys) (Some zs) answer adds f =
    let whole : zs ≡ xs ++ (answer ∷ f.0) = f.1 ∙ ap (λ (l : List ℤ). l ++ f.0) adds ∙ append_assoc xs (answer ∷ []) f.0 in
    subst (λ (l : List ℤ). IfSome (first_mask l) (λ given. given ≡ mask_of (seed_of answer))) (sym (drop_front xs (answer ∷ f.0) zs whole)) refl

-- there is a first answer, whatever is answered later
pub first_answered : (a b c : Answers) (answer : ℤ) → AddsAnswer a b answer → Extends b c → HasAnswered a c
first_answered None b c answer adds f = tt
first_answered (Some xs) b None answer adds f = tt
first_answered (Some xs) None (Some zs) answer adds f = absurd f
first_answered (Some xs) (Some ys) (Some zs) answer adds f =
    let whole : zs ≡ xs ++ (answer ∷ f.0) = f.1 ∙ ap (λ (l : List ℤ). l ++ f.0) adds ∙ append_assoc xs (answer ∷ []) f.0 in
    subst (λ (l : List ℤ). IsSome (first_mask l)) (sym (drop_front xs (answer ∷ f.0) zs whole)) refl
