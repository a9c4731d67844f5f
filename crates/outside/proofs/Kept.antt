-- What a call does to known bytes, after calls that kept them.
use Rattle.std.proofs.Common.{◌≡◌, ℕ, ◌+◌, ◌-◌, List, [], ◌++◌, length, take, drop, None, Some, Result, Ok, Err, sym, ap, subst, ◌∙◌, append-nil}
use Rattle.std.proofs.Math.Seq.{take-add}
use Rattle.std.proofs.lemmas.List.{take_rest}
use Rattle.std.specs.declared.option.Option.{Option}
use Rattle.std.specs.Io.KnownBytes.{Keeps, Appends, Consumes, ReadConsumes, WriteAppends}
use Rattle.std.proofs.KnownBytes.{Appends-trans, Keeps-trans}

kept_consumes : (a b c : Option (List ℕ)) (bs : List ℕ) → Keeps a b → Consumes b c bs → Consumes a c bs
kept_consumes None b c bs p q = tt
kept_consumes (Some x) None c bs p q = absurd p
kept_consumes (Some x) (Some y) None bs p q = absurd q
kept_consumes (Some x) (Some y) (Some z) bs p q = sym p ∙ q

kept_appends : (a b c : Option (List ℕ)) (bs : List ℕ) → Keeps a b → Appends b c bs → Appends a c bs
kept_appends None b c bs p q = tt
kept_appends (Some x) None c bs p q = absurd p
kept_appends (Some x) (Some y) None bs p q = absurd q
kept_appends (Some x) (Some y) (Some z) bs p q = q ∙ ap (λ l. l ++ bs) p

pub kept_read : {E : Type 0} (a b c : Option (List ℕ)) (r : Result ℕ E) (buf : List ℕ) → Keeps a b → ReadConsumes b c r buf → ReadConsumes a c r buf
kept_read a b c (Ok n) buf p q = (kept_consumes a b c (take n buf) p q.0, q.1)
kept_read a b c (Err e) buf p q = Keeps-trans a b c p q

pub kept_write : {E : Type 0} (a b c : Option (List ℕ)) (r : Result ℕ E) (buf : List ℕ) → Keeps a b → WriteAppends b c r buf → WriteAppends a c r buf
kept_write a b c (Ok n) buf p q = kept_appends a b c (take n buf) p q
kept_write a b c (Err e) buf p q = Keeps-trans a b c p q

-- nothing appended
pub appends_none : (a b : Option (List ℕ)) → Appends a b [] → Keeps a b
appends_none None b p = tt
appends_none (Some x) None p = absurd p
appends_none (Some x) (Some y) p = p ∙ append-nil x

-- the front of a list, and then the front of what is behind it
pub appends_more : (a b c : Option (List ℕ)) (all : List ℕ) (at n : ℕ) → Appends a b (take at all)
    → Appends b c (take n (take (length all - at) (drop at all))) → Appends a c (take (at + n) all)
appends_more a b c all at n p q =
    let front : take n (take (length all - at) (drop at all)) ≡ take n (drop at all) = ap (take n) (take_rest all at) in
    subst (Appends a c) (ap (λ l. take at all ++ l) front ∙ sym (take-add at n all)) (Appends-trans a b c (take at all) _ p q)
