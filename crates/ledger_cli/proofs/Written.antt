-- Texts that are written piece by piece.
use Rattle.std.proofs.Common.{◌≡◌, ◌∙◌, ◌<◌, ◌≤◌, ◌+◌, ℕ, List, [], ◌∷◌, ◌++◌, length, length-append, append-nil, append_assoc, drop, get_or, refl, sym, ap, subst, arith, Result, Ok, Err}
use Rattle.std.specs.List.{flat_map}
use Rattle.std.proofs.KnownBytes.{Appends-nil, Appends-trans}
use Rattle.std.proofs.lemmas.List.{drop_all, drop_more}
use Rattle.outside.specs.Causes.{HasCause}
use Rattle.outside.specs.Told.{SinkTold}
use Rattle.outside.specs.declared.traits.OutFault.{OutFault}
use Rattle.outside.specs.declared.traits.OutFault.TheVariants as fault
use Rattle.laws_history.specs.Calls.{span}
use Rattle.laws_history.specs.Streams.{Writes, BreaksOff}
use Rattle.ledger_cli.specs.Outputs.{IsWritten}
use Rattle.ledger_cli.proofs.Pieces.{breaks_before, breaks_behind}

-- a front part of the text was written, the sink didn't fail, and this is the rest
pub record IsBegun (before now : SinkTold) (rest text : List ℕ) : Type 0 where
  pub done : List ℕ
  pub written : Writes (span before now) done
  pub fine : now.faults ≡ before.faults
  pub whole : done ++ rest ≡ text

pub begun : (t : SinkTold) (text : List ℕ) → IsBegun t t text text
begun t text = record { done = []; written = Appends-nil t.written; fine = refl; whole = refl }

-- the same rest
pub begun_as : (a b : SinkTold) (rest other text : List ℕ) → rest ≡ other → IsBegun a b rest text → IsBegun a b other text
begun_as a b rest other text is so = subst (λ (r : List ℕ). IsBegun a b r text) is so

fine_cause : (a b : ℕ) → b ≡ a → HasCause {T = Unit {0}} a b (Ok tt)
fine_cause a b is = record {
  later = omega (arith, is);
  fine = λ _. is;
  failed = λ e. let bad : ⊥ = cc e in absurd bad;
  wanted = λ e. let bad : ⊥ = cc e in absurd bad;
}

module _ (a b c : SinkTold) (fine : b.faults ≡ a.faults) where
  same_cause : (r : Result (Unit {0}) OutFault) → HasCause b.faults c.faults r → HasCause a.faults c.faults r
  same_cause r h = subst (λ (n : ℕ). HasCause n c.faults r) fine h

-- a piece of the rest was written
pub further : (a b c : SinkTold) (p rest text : List ℕ) (u : Unit {0}) → IsBegun a b (p ++ rest) text
    → IsWritten (Ok u) (span b c) p → IsBegun a c rest text
further a b c p rest text u so w = record {
  done = so.done ++ p;
  written = Appends-trans a.written b.written c.written so.done p so.written w.written;
  fine = w.cause.fine refl ∙ so.fine;
  whole = append_assoc so.done p rest ∙ so.whole;
}

-- a piece of it broke off
breaks : (a b c : SinkTold) (p rest text : List ℕ) (e : OutFault) → IsBegun a b (p ++ rest) text
    → IsWritten (Err e) (span b c) p → IsWritten (Err e) (span a c) text
breaks a b c p rest text e so w = record {
  written = tt;
  broken = subst (λ (x : List ℕ). BreaksOff (span a c) x) (append_assoc so.done p rest ∙ so.whole)
      (breaks_before a c (so.done ++ p) rest (breaks_behind a b c so.done p so.written w.broken));
  cause = same_cause a b c so.fine (Err e) w.cause;
}

pub broke : (a b c : SinkTold) (p rest text : List ℕ) (e : OutFault) (r : Result (Unit {0}) OutFault) → r ≡ Err e
    → IsBegun a b (p ++ rest) text → IsWritten (Err e) (span b c) p → IsWritten r (span a c) text
broke a b c p rest text e r is so w =
    subst (λ (x : Result (Unit {0}) OutFault). IsWritten x (span a c) text) (sym is) (breaks a b c p rest text e so w)

-- the rest was written, or broke off
pub last : (a b c : SinkTold) (p text : List ℕ) (r : Result (Unit {0}) OutFault) → IsBegun a b p text → IsWritten r (span b c) p
    → IsWritten r (span a c) text
last a b c p text (Ok u) so w = record {
  written = subst (λ (x : List ℕ). Writes (span a c) x) so.whole
      (Appends-trans a.written b.written c.written so.done p so.written w.written);
  broken = tt;
  cause = same_cause a b c so.fine (Ok u) w.cause;
}
last a b c p text (Err e) so w = record {
  written = tt;
  broken = subst (λ (x : List ℕ). BreaksOff (span a c) x) so.whole (breaks_behind a b c so.done p so.written w.broken);
  cause = same_cause a b c so.fine (Err e) w.cause;
}

-- nothing is left
pub ended : (a b : SinkTold) (text : List ℕ) → IsBegun a b [] text → IsWritten (Ok tt) (span a b) text
ended a b text so = record {
  written = subst (λ (x : List ℕ). Writes (span a b) x) (sym (append-nil so.done) ∙ so.whole) so.written;
  broken = tt;
  cause = fine_cause a.faults b.faults so.fine;
}

-- there was no memory for any of it
pub unmade : (t : SinkTold) (text : List ℕ) → 0 < length text → IsWritten (Err fault.OutOfMemory) (span t t) text
unmade t text some = record {
  written = tt;
  broken = (0, some, Appends-nil t.written);
  cause = record {
    later = omega arith;
    fine = λ e. let bad : ⊥ = cc e in absurd bad;
    failed = λ e. let bad : ⊥ = cc e in absurd bad;
    wanted = λ _. refl;
  };
}

-- a text that ends with a line feed isn't empty
pub line_some : (text : List ℕ) → 0 < length (text ++ 10 ∷ [])
line_some text = omega (arith, length-append text (10 ∷ []))

-- the text of the same bytes
pub written_as : (a b : SinkTold) (r : Result (Unit {0}) OutFault) (p text : List ℕ) → p ≡ text → IsWritten r (span a b) p
    → IsWritten r (span a b) text
written_as a b r p text is w = subst (λ (x : List ℕ). IsWritten r (span a b) x) is w

-- the next of the pieces, and the others
pub next_piece : {A : Type 0} (f : A → List ℕ) (xs : List A) (i : ℕ) (x : A) → i < length xs → x ≡ get_or xs i x
    → flat_map f (drop i xs) ≡ f x ++ flat_map f (drop (i + 1) xs)
next_piece {A} f xs i x within is =
    ap (λ (ys : List A). flat_map f ys) (drop_more xs i x within ∙ ap (λ (y : A). y ∷ drop (i + 1) xs) (sym is))

-- none is left
pub no_piece : {A : Type 0} (f : A → List ℕ) (xs : List A) (i : ℕ) → length xs ≤ i → flat_map f (drop i xs) ≡ []
no_piece {A} f xs i past = ap (λ (ys : List A). flat_map f ys) (drop_all i xs past)

module _ {A : Type 0} (f : A → List ℕ) (xs : List A) (i : ℕ) where
  -- the next of the pieces was written
  pub one_more : (x : A) (a b c : SinkTold) (u : Unit {0}) → i < length xs → x ≡ get_or xs i x
      → IsBegun a b (flat_map f (drop i xs)) (flat_map f xs) → IsWritten (Ok u) (span b c) (f x)
      → IsBegun a c (flat_map f (drop (i + 1) xs)) (flat_map f xs)
  one_more x a b c u within is so w =
      further a b c (f x) (flat_map f (drop (i + 1) xs)) (flat_map f xs) u
      (begun_as a b (flat_map f (drop i xs)) (f x ++ flat_map f (drop (i + 1) xs)) (flat_map f xs) (next_piece f xs i x within is) so) w

  -- the next of them broke off
  pub one_broke : (x : A) (a b c : SinkTold) (e : OutFault) (r : Result (Unit {0}) OutFault) → i < length xs → x ≡ get_or xs i x
      → r ≡ Err e → IsBegun a b (flat_map f (drop i xs)) (flat_map f xs) → IsWritten (Err e) (span b c) (f x)
      → IsWritten r (span a c) (flat_map f xs)
  one_broke x a b c e r within is out so w =
      broke a b c (f x) (flat_map f (drop (i + 1) xs)) (flat_map f xs) e r out
      (begun_as a b (flat_map f (drop i xs)) (f x ++ flat_map f (drop (i + 1) xs)) (flat_map f xs) (next_piece f xs i x within is) so) w

  -- all of them were written
  pub all_written : (a b : SinkTold) → length xs ≤ i → IsBegun a b (flat_map f (drop i xs)) (flat_map f xs)
      → IsWritten (Ok tt) (span a b) (flat_map f xs)
  all_written a b past so =
      ended a b (flat_map f xs) (begun_as a b (flat_map f (drop i xs)) [] (flat_map f xs) (no_piece f xs i past) so)
