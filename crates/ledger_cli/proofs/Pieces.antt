-- What was written so far, and the part of the rest that a call took.
use Rattle.std.proofs.Common.{◌≡◌, ℕ, ◌+◌, ◌-◌, ◌≤◌, List, [], ◌∷◌, ◌++◌, length, length-append, take, drop, sym, subst, ◌∙◌, arith, append_assoc, Option, Result, Ok, Err}
use Rattle.std.specs.Prelude.{OnErr, OnOk}
use Rattle.std.proofs.lemmas.Grind.{common_steps}
use Rattle.std.proofs.lemmas.List.{take-append-le}
use Rattle.std.proofs.Math.Seq.{take-add, take-append-add}
use Rattle.std.specs.Io.KnownBytes.{Appends}
use Rattle.std.proofs.KnownBytes.{Appends-trans}
use Rattle.outside.specs.Told.{SinkTold}
use Rattle.laws_history.specs.Calls.{span}
use Rattle.laws_history.specs.Streams.{Writes, BreaksOff}
use Rattle.ledger_cli.specs.Ends.{count_line}
use Rattle.std.specs.Fmt.{decimal}

taken : (p : List ℕ) (at n : ℕ) → take at p ++ take n (take (length p - at) (drop at p)) ≡ take (at + n) p
taken p at n = grind (arith, common_steps, take-add)

pub appended : (a b c : Option (List ℕ)) (p : List ℕ) (at n : ℕ) → Appends a b (take at p)
    → Appends b c (take n (take (length p - at) (drop at p))) → Appends a c (take (at + n) p)
appended a b c p at n before now = subst (λ (bs : List ℕ). Appends a c bs) (taken p at n) (Appends-trans a b c _ _ before now)

pub length-taken : (p : List ℕ) (n : ℕ) → length (take n p) ≤ n
length-taken p n = grind (arith, common_steps)

-- a piece that broke off behind another one is a text that broke off
pub breaks_behind : (a b c : SinkTold) (p q : List ℕ) → Writes (span a b) p → BreaksOff (span b c) q → BreaksOff (span a c) (p ++ q)
breaks_behind a b c p q before off = (
  length p + off.0,
  omega (arith, length-append p q, off.1),
  subst (λ (bs : List ℕ). Writes (span a c) bs) (sym (take-append-add p q off.0))
      (Appends-trans a.written b.written c.written p (take off.0 q) before off.2),
)

-- a piece in front of another one, too
pub breaks_before : (a b : SinkTold) (p q : List ℕ) → BreaksOff (span a b) p → BreaksOff (span a b) (p ++ q)
breaks_before a b p q off = (
  off.0,
  omega (arith, length-append p q, off.1),
  subst (λ (bs : List ℕ). Writes (span a b) bs) (sym (take-append-le off.0 p q (omega (arith, off.1)))) off.2,
)

-- what is so is so at a failure
pub on_err : {A E Q : Type 0} (r : Result A E) → Q → OnErr r Q
on_err (Ok x) q = tt
on_err (Err e) q = q

pub on_ok : {A E Q : Type 0} (r : Result A E) → Q → OnOk r Q
on_ok (Ok x) q = q
on_ok (Err e) q = tt

-- a text, a count, and a bracket with a line feed
line_of : (front : List ℕ) (count : ℕ) → (front ++ decimal count) ++ (125 ∷ 10 ∷ []) ≡ count_line front count
line_of front count = sym (append_assoc (front ++ decimal count) (125 ∷ []) (10 ∷ []))

module _ (a b c d : SinkTold) (front begun digits : List ℕ) (count : ℕ) (same : begun ≡ front) (is : digits ≡ decimal count) where
  line_is : (begun ++ digits) ++ (125 ∷ 10 ∷ []) ≡ count_line front count
  line_is = (λ i. (same i ++ is i) ++ (125 ∷ 10 ∷ [])) ∙ line_of front count

  pub count_broken_second : Writes (span a b) begun → BreaksOff (span b c) digits → BreaksOff (span a c) (count_line front count)
  count_broken_second one off =
      subst (λ (x : List ℕ). BreaksOff (span a c) x) line_is
      (breaks_before a c (begun ++ digits) (125 ∷ 10 ∷ []) (breaks_behind a b c begun digits one off))

  pub count_broken_last : Writes (span a b) begun → Writes (span b c) digits → BreaksOff (span c d) (125 ∷ 10 ∷ []) → BreaksOff (span a d) (count_line front count)
  count_broken_last one two off =
      subst (λ (x : List ℕ). BreaksOff (span a d) x) line_is
      (breaks_behind a c d (begun ++ digits) (125 ∷ 10 ∷ []) (Appends-trans a.written b.written c.written begun digits one two) off)
