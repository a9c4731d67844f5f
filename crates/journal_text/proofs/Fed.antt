-- A journal that is taken a piece at a time: a piece of a line, and the line that ends.
use Rattle.std.proofs.Common.{◌≡◌, ◌∙◌, ℕ, zero, suc, ◌+◌, ◌<◌, ◌≤◌, ◌==◌, Bool, true, false, not, List, [], ◌∷◌, ◌++◌, length, take, drop, get_or, Option, Some, None, append_assoc, append-nil, length-append, refl, sym, ap, subst, arith}
use Rattle.std.proofs.Math.Seq.{take-add}
use Rattle.std.proofs.lemmas.List.{take-append-drop, take_all, take_more}
use Rattle.std.proofs.lemmas.Bool.{and_parts, not-true}
use Rattle.std.specs.Prelude.{if◌then◌else◌}
use Rattle.std.specs.Io.BufRead.{take_through}
use Rattle.ledger_model.specs.declared.block.Block.{Block}
use Rattle.ledger_model.specs.declared.damage.Damage.{Damage}
use Rattle.ledger_model.specs.Journal.{line, journal_bytes}
use Rattle.ledger_model.specs.Damages.{damage_behind, has_hashes, strand_of, UndamagedBehind, Undamaged}
use Rattle.ledger_model.specs.HashesAsked.{AreAsked}
use Rattle.ledger_model.specs.Recovered.{Fails, IsLineOf, IsJournal, IsDamagedLine}
use Rattle.journal_text.specs.declared.journal.JournalFault.{JournalFault}
use Rattle.journal_text.specs.declared.journal.JournalFault.TheVariants as fault
use Rattle.journal_text.specs.declared.registry.Registry.{Registry}
use Rattle.journal_text.specs.Stands.{Stands}
use Rattle.journal_text.specs.Reading.{IsLineFault, IsRefused, StandsBehind}
use Rattle.journal_text.specs.Feeding.{IsOneMore, IsReader}
use Rattle.journal_text.proofs.Feeds.{NoFeed}
use Rattle.journal_text.proofs.Growing.{hashes_behind, journal_more, stands_more, undamaged_more}
use Rattle.journal_text.proofs.Pieces.{append_one_line}

-- ---- what is taken of a piece

no_feed_first : (b : ℕ) (bytes : List ℕ) → NoFeed (b ∷ bytes) → (b == 10) ≡ false
no_feed_first b bytes h = not-true (b == 10) (and_parts (not (b == 10)) _ h).0

pub through_all : (piece : List ℕ) → NoFeed piece → take_through 10 piece ≡ piece
through_all [] h = refl
through_all (b ∷ bytes) h =
    let here : (b == 10) ≡ false = no_feed_first b bytes h in
    rw here (ap (λ more. b ∷ more) (through_all bytes (and_parts (not (b == 10)) _ h).1))

pub through_feed : (text rest : List ℕ) → NoFeed text → take_through 10 (text ++ 10 ∷ rest) ≡ text ++ 10 ∷ []
through_feed [] rest h = refl
through_feed (b ∷ text) rest h =
    let here : (b == 10) ≡ false = no_feed_first b text h in
    rw here (ap (λ more. b ∷ more) (through_feed text rest (and_parts (not (b == 10)) _ h).1))

pub taken_part : (blocks : List Block) (begun line piece : List ℕ) → line ≡ begun ++ piece → NoFeed piece
    → journal_bytes blocks ++ line ≡ (journal_bytes blocks ++ begun) ++ take_through 10 piece
taken_part blocks begun line piece is none =
    ap (λ xs. journal_bytes blocks ++ xs) is ∙ sym (append_assoc (journal_bytes blocks) begun piece)
    ∙ ap (λ xs. (journal_bytes blocks ++ begun) ++ xs) (sym (through_all piece none))

-- ---- one line more

pub taken_more : (blocks : List Block) (begun text : List ℕ) (b : Block) → IsLineOf ((begun ++ text) ++ 10 ∷ []) b
    → journal_bytes (blocks ++ b ∷ []) ++ [] ≡ (journal_bytes blocks ++ begun) ++ (text ++ 10 ∷ [])
taken_more blocks begun text b is =
    journal_more blocks b []
    ∙ ap (λ z. journal_bytes blocks ++ z) (append-nil (line b) ∙ sym is.written ∙ append_assoc begun text (10 ∷ []))
    ∙ sym (append_assoc (journal_bytes blocks) begun (text ++ 10 ∷ []))

pub long_more : (blocks : List Block) (begun text : List ℕ) (b : Block) → IsLineOf ((begun ++ text) ++ 10 ∷ []) b
    → length (journal_bytes (blocks ++ b ∷ [])) ≡ length (journal_bytes blocks) + length begun + length text + 1
long_more blocks begun text b is =
    let whole = ap length (taken_more blocks begun text b is) in
    let none = length-append (journal_bytes (blocks ++ b ∷ [])) [] in
    let both = length-append (journal_bytes blocks ++ begun) (text ++ 10 ∷ []) in
    let front = length-append (journal_bytes blocks) begun in
    let back = length-append text (10 ∷ []) in
    omega (arith, whole, none, both, front, back)

-- ---- a line that is refused

damaged_fed : (blocks : List Block) (begun text rest : List ℕ) (sequence : ℕ) (kind : Damage) → Undamaged blocks → NoFeed begun → NoFeed text
    → sequence ≡ length blocks → Fails blocks ((begun ++ text) ++ 10 ∷ []) kind
    → IsDamagedLine ((journal_bytes blocks ++ begun) ++ ((text ++ 10 ∷ []) ++ rest)) sequence kind
damaged_fed blocks begun text rest sequence kind u h k is f = (
  blocks,
  is,
  record {
    text = begun ++ text;
    rest = rest;
    lines = append_assoc (journal_bytes blocks) begun ((text ++ 10 ∷ []) ++ rest)
        ∙ ap (λ z. journal_bytes blocks ++ z) (
        ap (λ z. begun ++ z) (append_assoc text (10 ∷ []) rest) ∙ sym (append_assoc begun text (10 ∷ rest)));
    one_line = append_one_line begun text h k;
    undamaged = u;
    fails = f;
  },
)

pub fault_fed : (blocks : List Block) (begun text rest : List ℕ) (fault : JournalFault) → Undamaged blocks → NoFeed begun → NoFeed text
    → IsRefused blocks ((begun ++ text) ++ 10 ∷ []) fault → IsLineFault ((journal_bytes blocks ++ begun) ++ ((text ++ 10 ∷ []) ++ rest)) fault
fault_fed blocks begun text rest (fault.Damaged sequence kind) u h k r = damaged_fed blocks begun text rest sequence kind u h k r.0 r.1
fault_fed blocks begun text rest fault.OutOfMemory u h k r = tt

-- ---- what was taken, as a journal

dropped : (front rest : List ℕ) → drop (length front) (front ++ rest) ≡ rest
dropped [] rest = refl
dropped (x ∷ front) rest = dropped front rest

pub is_journal : (blocks : List Block) (begun : List ℕ) (size : ℕ) → Undamaged blocks → AreAsked blocks → NoFeed begun → size ≡ length (journal_bytes blocks)
    → IsJournal (journal_bytes blocks ++ begun) blocks (drop size (journal_bytes blocks ++ begun))
is_journal blocks begun size u asked h long =
    let rest : drop size (journal_bytes blocks ++ begun) ≡ begun =
    ap (λ n. drop n (journal_bytes blocks ++ begun)) long ∙ dropped (journal_bytes blocks) begun in
    subst (λ (z : List ℕ). IsJournal (journal_bytes blocks ++ begun) blocks z) (sym rest) (record { lines = refl; torn = h; undamaged = u; asked = asked })

-- ---- each block of an undamaged journal

undamaged_behind : (before blocks : List Block) (at : ℕ) (d : Block) → UndamagedBehind before blocks → at < length blocks
    → damage_behind (before ++ take at blocks) (get_or blocks at d) ≡ None
undamaged_behind before [] at d u h = absurd (omega arith)
undamaged_behind before (b ∷ bs) zero d u h = subst (λ (z : List Block). damage_behind z b ≡ None) (sym (append-nil before)) u.1
undamaged_behind before (b ∷ bs) (suc at) d u h =
    subst (λ (z : List Block). damage_behind z (get_or bs at d) ≡ None) (append_assoc before (b ∷ []) (take at bs))
    (undamaged_behind (before ++ b ∷ []) bs at d u.2 (omega arith))

pub undamaged_at : (blocks : List Block) (at : ℕ) (d : Block) → Undamaged blocks → at < length blocks → damage_behind (take at blocks) (get_or blocks at d) ≡ None
undamaged_at blocks at d u h = undamaged_behind [] blocks at d u h

pub hashes_at : (blocks : List Block) (at : ℕ) (b : Block) → Undamaged blocks → at < length blocks → b ≡ get_or blocks at b → true ≡ has_hashes b
hashes_at blocks at b u room is =
    sym (hashes_behind (take at blocks) b (ap (λ (x : Block). damage_behind (take at blocks) x) is ∙ undamaged_at blocks at b u room))

-- ---- the registry of blocks, admitted one by one

pub stands_first : (blocks : List Block) (r : Registry) → ((strand : ℕ) → Stands strand [] r) → StandsBehind (take 0 blocks) r
stands_first [] r stands = λ next. stands (strand_of [] next)
stands_first (b ∷ blocks) r stands = λ next. stands (strand_of [] next)

pub stands_next : (blocks before : List Block) (at : ℕ) (b : Block) (r : Registry) → Undamaged blocks → at < length blocks → before ≡ take at blocks → b ≡ get_or blocks at b
    → (damage_behind before b ≡ None → Stands (strand_of before b) (before ++ b ∷ []) r) → StandsBehind (take (at + 1) blocks) r
stands_next blocks before at b r u room front is stands =
    let none : damage_behind before b ≡ None =
    ap (λ (bs : List Block). damage_behind bs b) front ∙ ap (λ (x : Block). damage_behind (take at blocks) x) is ∙ undamaged_at blocks at b u room in
    let more : before ++ b ∷ [] ≡ take (at + 1) blocks =
    ap (λ (bs : List Block). bs ++ b ∷ []) front ∙ ap (λ (x : Block). take at blocks ++ x ∷ []) is ∙ sym (take_more blocks at b room) in
    subst (λ (bs : List Block). StandsBehind bs r) more (stands_more before b r (stands none))

pub stands_all : (blocks : List Block) (at : ℕ) (r : Registry) → length blocks ≤ at → StandsBehind (take at blocks) r → StandsBehind blocks r
stands_all blocks at r end stands = subst (λ (bs : List Block). StandsBehind bs r) (take_all at blocks end) stands

-- ---- what a reader keeps true

pub take_none : (xs : List ℕ) → take 0 xs ≡ []
take_none [] = refl
take_none (x ∷ xs) = refl

pub first_part : (xs ys : List ℕ) (n : ℕ) → n ≡ length xs → take n (xs ++ ys) ≡ xs
first_part [] ys zero e = take_none ys
first_part [] ys (suc n) e = absurd (omega arith)
first_part (x ∷ xs) ys zero e = absurd (omega arith)
first_part (x ∷ xs) ys (suc n) e = ap (λ more. x ∷ more) (first_part xs ys n (omega arith))

pub reads_nothing : (blocks : List Block) (begun : List ℕ) (registry : Registry) → blocks ≡ [] → begun ≡ [] → ((strand : ℕ) → Stands strand [] registry)
    → IsReader blocks begun (Some registry) 0
reads_nothing blocks begun registry none empty stands = record {
  undamaged = subst (λ (bs : List Block). Undamaged bs) (sym none) tt;
  torn = subst (λ (text : List ℕ). NoFeed text) (sym empty) refl;
  stands = subst (λ (bs : List Block). StandsBehind bs registry) (sym none) (λ next. stands (strand_of [] next));
  long = sym (ap (λ (bs : List Block). length (journal_bytes bs)) none);
}

pub reads_more : (before after : List Block) (begun text whole empty : List ℕ) (was : Option Registry) (registry : Registry) (size new : ℕ)
    → IsReader before begun was size → whole ≡ begun ++ text → IsOneMore before after (whole ++ 10 ∷ []) → StandsBehind after registry
    → new ≡ size + length begun + length text + 1 → empty ≡ [] → IsReader after empty (Some registry) new
reads_more before after begun text whole empty was registry size new r is one stands longer none =
    let line : IsLineOf ((begun ++ text) ++ 10 ∷ []) one.block =
    subst (λ (xs : List ℕ). IsLineOf (xs ++ 10 ∷ []) one.block) is one.line in
    let long = ap (λ (bs : List Block). length (journal_bytes bs)) one.more ∙ long_more before begun text one.block line in
    let was_long = r.long in
    record {
      undamaged = subst (λ (bs : List Block). Undamaged bs) (sym one.more) (undamaged_more before one.block r.undamaged line.whole one.undamaged);
      torn = subst (λ (xs : List ℕ). NoFeed xs) (sym none) refl;
      stands = stands;
      long = omega (arith, long, was_long, longer);
    }

pub taken_one : (before after : List Block) (begun text whole empty : List ℕ) → whole ≡ begun ++ text → IsOneMore before after (whole ++ 10 ∷ []) → empty ≡ []
    → journal_bytes after ++ empty ≡ (journal_bytes before ++ begun) ++ (text ++ 10 ∷ [])
taken_one before after begun text whole empty is one none =
    ap (λ (bs : List Block). journal_bytes bs ++ empty) one.more ∙ ap (λ xs. journal_bytes (before ++ one.block ∷ []) ++ xs) none
    ∙ taken_more before begun text one.block (subst (λ (xs : List ℕ). IsLineOf (xs ++ 10 ∷ []) one.block) is one.line)

pub reads_on : (blocks now : List Block) (begun line : List ℕ) (was : Option Registry) (size : ℕ) → IsReader blocks begun was size → now ≡ blocks
    → line ≡ begun → IsReader now line None size
reads_on blocks now begun line was size r same kept = record {
  undamaged = subst (λ (bs : List Block). Undamaged bs) (sym same) r.undamaged;
  torn = subst (λ (xs : List ℕ). NoFeed xs) (sym kept) r.torn;
  stands = tt;
  long = r.long ∙ ap (λ (bs : List Block). length (journal_bytes bs)) (sym same);
}

pub reads_further : (blocks : List Block) (begun line piece : List ℕ) (was : Option Registry) (size : ℕ) → IsReader blocks begun was size
    → line ≡ begun ++ piece → NoFeed piece → IsReader blocks line was size
reads_further blocks begun line piece was size r is none = record {
  undamaged = r.undamaged;
  torn = subst (λ (xs : List ℕ). NoFeed xs) (sym is) (append_one_line begun piece r.torn none);
  stands = r.stands;
  long = r.long;
}

-- ---- a piece that is fed to its end

through_front : (xs : List ℕ) → take_through 10 xs ≡ take (length (take_through 10 xs)) xs
through_front [] = refl
through_front (x ∷ xs) = go (x == 10) (through_front xs) where
  go : (b : Bool) → take_through 10 xs ≡ take (length (take_through 10 xs)) xs
      → (if b then x ∷ [] else x ∷ take_through 10 xs) ≡ take (length (if b then x ∷ [] else x ∷ take_through 10 xs)) (x ∷ xs)
  go true more = ap (λ rest. x ∷ rest) (sym (take_none xs))
  go false more = ap (λ rest. x ∷ rest) more

pub through_some : (xs : List ℕ) → 0 < length xs → 0 < length (take_through 10 xs)
through_some [] h = absurd (omega arith)
through_some (x ∷ xs) h = go (x == 10) where
  go : (b : Bool) → 0 < length (if b then x ∷ [] else x ∷ take_through 10 xs)
  go true = omega arith
  go false = omega arith

pub through_short : (xs : List ℕ) → length (take_through 10 xs) ≤ length xs
through_short [] = omega arith
through_short (x ∷ xs) = go (x == 10) (through_short xs) where
  go : (b : Bool) → length (take_through 10 xs) ≤ length xs → length (if b then x ∷ [] else x ∷ take_through 10 xs) ≤ length (x ∷ xs)
  go true short = omega arith
  go false short = omega (arith, short)

pub fed_more : (piece old so_far new : List ℕ) (at count : ℕ) → so_far ≡ old ++ take at piece → new ≡ so_far ++ take_through 10 (drop at piece)
    → count ≡ length (take_through 10 (drop at piece)) → new ≡ old ++ take (at + count) piece
fed_more piece old so_far new at count before more is =
    more ∙ ap (λ z. z ++ take_through 10 (drop at piece)) before ∙ append_assoc old (take at piece) (take_through 10 (drop at piece))
    ∙ ap (λ z. old ++ z) (
    ap (λ z. take at piece ++ z) (through_front (drop at piece) ∙ ap (λ n. take n (drop at piece)) (sym is)) ∙ sym (take-add at count piece))

pub fed_fault : (piece old so_far : List ℕ) (at : ℕ) (fault : JournalFault) → so_far ≡ old ++ take at piece
    → ((rest : List ℕ) → IsLineFault (so_far ++ (take_through 10 (drop at piece) ++ rest)) fault) → (rest : List ℕ) → IsLineFault (old ++ (piece ++ rest)) fault
fed_fault piece old so_far at fault before is rest =
    let left = drop at piece in
    let through = take_through 10 left in
    let cut : through ++ drop (length through) left ≡ left =
    ap (λ z. z ++ drop (length through) left) (through_front left) ∙ take-append-drop (length through) left in
    let whole : so_far ++ (through ++ (drop (length through) left ++ rest)) ≡ old ++ (piece ++ rest) =
    ap (λ z. so_far ++ z) (sym (append_assoc through (drop (length through) left) rest) ∙ ap (λ z. z ++ rest) cut)
    ∙ ap (λ z. z ++ (left ++ rest)) before ∙ append_assoc old (take at piece) (left ++ rest)
    ∙ ap (λ z. old ++ z) (sym (append_assoc (take at piece) left rest) ∙ ap (λ z. z ++ rest) (take-append-drop at piece)) in
    subst (λ (bytes : List ℕ). IsLineFault bytes fault) whole (is (drop (length through) left ++ rest))
