-- The front part of a store's bytes, read on.
use Rattle.std.proofs.Common.{◌≡◌, ◌∙◌, ℕ, zero, suc, ◌+◌, ◌≤◌, Bool, List, [], ◌∷◌, ◌++◌, length, take, drop, refl, sym, ap, subst, inl, Option, Some, None, append_assoc, arith, length-drop, length-take}
use Rattle.std.specs.Prelude.{IfSome, nat_lt, option_map}
use Rattle.std.proofs.Math.ListN.{drop_of_length-le}
use Rattle.std.proofs.Math.Seq.{take-add, take-length}
use Rattle.std.proofs.lemmas.Bool.{le-ltb, ltb-false}
use Rattle.std.proofs.lemmas.List.{take-append-drop}
use Rattle.ledger_model.specs.declared.block.Block.{Block}
use Rattle.ledger_model.specs.declared.damage.Damage.{Damage}
use Rattle.ledger_model.specs.Recovered.{IsDamaged, IsDamagedLine, IsJournal}
use Rattle.outside.specs.Store.{Content, ReadsAt}
use Rattle.outside.specs.Told.{StoreTold, held}
use Rattle.journal_text.specs.declared.journal.JournalFault.{JournalFault}
use Rattle.journal_text.specs.declared.journal.JournalFault.TheVariants as journal
use Rattle.journal_text.specs.Reading.{IsFault, IsLineFault}
use Rattle.journal_reader.specs.declared.cause.LoadCause.{LoadCause}
use Rattle.journal_reader.specs.declared.cause.LoadCause.TheVariants as cause
use Rattle.journal_reader.specs.Loads.{IsCause, IsLoaded, IsRead, cause_of}

-- the bytes, where they are told
abbrev pub bytes_of : Option Content → Option (List ℕ)
bytes_of content = option_map (λ (c : Content). c.bytes) content

-- a front part that ends within the first list
pub take-inside : (n : ℕ) (xs ys : List ℕ) → n ≤ length xs → take n (xs ++ ys) ≡ take n xs
take-inside zero xs ys h = refl
take-inside (suc n) [] ys h = absurd (omega arith)
take-inside (suc n) (x ∷ xs) ys h = ap (λ zs. x ∷ zs) (take-inside n xs ys (omega arith))

-- as many bytes as the store holds are to be read, and these are the first of them
abbrev pub IsFront : ℕ → List ℕ → Option (List ℕ) → Type 0
IsFront size all held = IfSome held (λ bytes. (size ≡ length bytes) × (all ≡ take (length all) bytes))

nothing : (bytes : List ℕ) → [] ≡ take 0 bytes
nothing bytes = refl

pub long-of : (bytes : List ℕ) (n : ℕ) → n ≤ length bytes → length (take n bytes) ≡ n
long-of bytes n p = omega (arith, length-take n bytes)

next-of : (bytes all out new : List ℕ) (count : ℕ) → all ≡ take (length all) bytes → length all ≤ length bytes → ReadsAt bytes (length all) out count
    → new ≡ all ++ take count out → new ≡ take (length new) bytes
next-of bytes all out new count front within reads n =
    let whole : new ≡ take (length all + count) bytes =
    n ∙ ap (λ xs. xs ++ take count out) front ∙ ap (λ ys. take (length all) bytes ++ ys) reads.front ∙ sym (take-add (length all) count bytes) in
    let long : length new ≡ length all + count = ap length whole ∙ long-of bytes (length all + count) (omega (arith, within, reads.within)) in
    whole ∙ ap (λ m. take m bytes) (sym long)

pub front-next : (held : Option (List ℕ)) (now : Option Content) (all out new : List ℕ) (size at count : ℕ) → bytes_of now ≡ held → at ≡ length all → at ≤ size
    → IsFront size all held → IfSome now (λ content. ReadsAt content.bytes at out count) → new ≡ all ++ take count out → IsFront size new held
front-next None now all out new size at count same place within front reads n = tt
front-next (Some bytes) None all out new size at count same place within front reads n = cc
front-next (Some bytes) (Some content) all out new size at count same place within front reads n =
    let there : ReadsAt bytes at out count = subst (λ (b : Option (List ℕ)). IfSome b (λ bs. ReadsAt bs at out count)) same reads in
    let size_is = front.0 in
    (size_is, next-of bytes all out new count front.1 (omega (arith, place, within, size_is)) (subst (λ (m : ℕ). ReadsAt bytes m out count) place there) n)

pub front-none : (held : Option (List ℕ)) (all : List ℕ) (size : ℕ) → IfSome held (λ bytes. size ≡ length bytes) → all ≡ [] → IsFront size all held
front-none None all size long none = tt
front-none (Some bytes) all size long none = (long, subst (λ (xs : List ℕ). xs ≡ take (length xs) bytes) (sym none) (nothing bytes))

-- all bytes were read
pub front-all : (held : Option (List ℕ)) (all : List ℕ) (size at : ℕ) → IsFront size all held → at ≡ length all → size ≤ at → at ≤ size
    → IfSome held (λ bytes. all ≡ bytes)
front-all None all size at front place past within = tt
front-all (Some bytes) all size at front place past within =
    let long : length all ≡ length bytes = omega (arith, place, past, within, front.0) in
    front.1 ∙ ap (λ n. take n bytes) long ∙ take-length bytes

-- ---- why they were not loaded

-- a fault that is found however the bytes go on is found in the store's bytes
damaged-held : (held : Option (List ℕ)) (all piece : List ℕ) (size sequence : ℕ) (kind : Damage) → IsFront size (all ++ piece) held
    → ((rest : List ℕ) → IsDamagedLine (all ++ (piece ++ rest)) sequence kind) → IfSome held (λ bytes. IsDamaged bytes sequence kind)
damaged-held None all piece size sequence kind front is = tt
damaged-held (Some bytes) all piece size sequence kind front is =
    let rest = drop (length (all ++ piece)) bytes in
    let whole : all ++ (piece ++ rest) ≡ bytes =
    sym (append_assoc all piece rest) ∙ ap (λ xs. xs ++ rest) front.1 ∙ take-append-drop (length (all ++ piece)) bytes in
    inl (subst (λ (xs : List ℕ). IsDamagedLine xs sequence kind) whole (is rest))

pub fed-cause : (was after : StoreTold) (all piece : List ℕ) (size : ℕ) (fault : JournalFault) → IsFront size (all ++ piece) (held was)
    → after.faults ≡ was.faults → ((rest : List ℕ) → IsLineFault (all ++ (piece ++ rest)) fault) → IsCause (cause_of fault) was after
fed-cause was after all piece size (journal.Damaged sequence kind) front same is = (damaged-held (held was) all piece size sequence kind front is, same)
fed-cause was after all piece size journal.OutOfMemory front same is = same

-- and one that is found at the end of the store's bytes
pub ended-cause : (was after : StoreTold) (all : List ℕ) (fault : JournalFault) → IfSome (held was) (λ bytes. all ≡ bytes)
    → after.faults ≡ was.faults → IsFault all fault → IsCause (cause_of fault) was after
ended-cause was after all (journal.Damaged sequence kind) whole same is = (held-damaged (held was) whole, same) where
  held-damaged : (h : Option (List ℕ)) → IfSome h (λ bytes. all ≡ bytes) → IfSome h (λ bytes. IsDamaged bytes sequence kind)
  held-damaged None w = tt
  held-damaged (Some bytes) w = subst (λ (xs : List ℕ). IsDamaged xs sequence kind) w is
ended-cause was after all journal.OutOfMemory whole same is = same

-- what went before left the store as it was
pub cause-since : (why : LoadCause) (was before after : StoreTold) → before.content ≡ was.content → before.faults ≡ was.faults → IsCause why before after
    → IsCause why was after
cause-since (cause.Damaged sequence kind) was before after same faults is = (
  subst (λ (c : Option Content). IfSome (bytes_of c) (λ bytes. IsDamaged bytes sequence kind)) same is.0,
  is.1 ∙ faults,
)
cause-since (cause.StoreFault count) was before after same faults is =
    let rose = is.rose in record { rose = omega (arith, rose, faults); count_is = is.count_is; last = is.last }
cause-since cause.OutOfMemory was before after same faults is = is ∙ faults

-- ---- what was loaded

-- the rest behind the lines begins at their end, and is marked where there is one
pub is-read : (bytes : List ℕ) (listed blocks : List Block) (at size : ℕ) → IsJournal bytes listed (drop at bytes) → at ≤ length bytes → size ≡ length bytes
    → blocks ≡ listed → IsRead bytes blocks (nat_lt at size)
is-read bytes listed blocks at size journal within long same = (
  drop at bytes,
  subst (λ (bs : List Block). IsJournal bytes bs (drop at bytes)) (sym same) journal,
  (
    λ e. let past = ltb-false at size e in drop_of_length-le bytes (omega (arith, past, long)),
    λ e. let none = ap length e in let rest = length-drop at bytes in le-ltb at size (omega (arith, none, rest, within, long)),
  ),
)

pub loaded-held : (held : Option (List ℕ)) (bytes : List ℕ) (blocks : List Block) (marked : Bool) → IfSome held (λ h. bytes ≡ h) → IsRead bytes blocks marked
    → IsLoaded held blocks marked
loaded-held None bytes blocks marked same is = tt
loaded-held (Some h) bytes blocks marked same is = subst (λ (xs : List ℕ). IsRead xs blocks marked) same is
