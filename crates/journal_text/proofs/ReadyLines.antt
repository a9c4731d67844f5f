-- What is taken of a piece by the lines that were read of it.
use Rattle.std.proofs.Common.{◌≡◌, ◌∙◌, ℕ, ◌+◌, ◌≤◌, List, [], ◌∷◌, ◌++◌, None, Option, Some, length, take, drop, append_assoc, append-nil, length-append, refl, sym, ap, subst, arith}
use Rattle.std.proofs.Math.Seq.{take-add}
use Rattle.std.proofs.lemmas.List.{take-append-drop, take-take}
use Rattle.ledger_model.specs.declared.block.Block.{Block}
use Rattle.journal_text.specs.declared.journal.JournalFault.{JournalFault}
use Rattle.journal_text.specs.declared.registry.Registry.{Registry}
use Rattle.journal_text.specs.declared.shares.ReadLine.{ReadLine}
use Rattle.journal_text.specs.Feeding.{IsOneMore, IsReader, ReadSoFar, taken}
use Rattle.journal_text.specs.Reading.{IsLineFault, IsRefused, StandsBehind}
use Rattle.journal_text.specs.Shares.{IsFaultIn, IsReadIn, IsTakenTo}
use Rattle.journal_text.proofs.Fed.{first_part, reads_more, take_none, taken_one}
use Rattle.journal_text.proofs.Growing.{within_more}

-- ---- a line of a piece

pub in_piece : (piece : List ℕ) (l : ReadLine) → IsReadIn piece l → l.from + l.len + 1 ≤ length piece
in_piece piece l r =
    let end = within_more piece r.text (drop (length r.text + 1) (drop l.from piece)) l.from r.within r.stands in
    let long = r.long in
    omega (arith, end, long)

pub text_at : (piece : List ℕ) (l : ReadLine) (r : IsReadIn piece l) → take l.len (drop l.from piece) ≡ r.text
text_at piece l r =
    ap (λ n. take n (drop l.from piece)) (sym r.long) ∙ ap (take (length r.text)) r.stands
    ∙ first_part r.text (10 ∷ drop (length r.text + 1) (drop l.from piece)) (length r.text) refl

feed_behind : (piece : List ℕ) (l : ReadLine) (r : IsReadIn piece l) → (r.text ++ 10 ∷ []) ++ drop (length r.text + 1) (drop l.from piece) ≡ drop l.from piece
feed_behind piece l r = append_assoc r.text (10 ∷ []) (drop (length r.text + 1) (drop l.from piece)) ∙ sym r.stands

line_at : (piece : List ℕ) (l : ReadLine) (r : IsReadIn piece l) → take (l.len + 1) (drop l.from piece) ≡ r.text ++ 10 ∷ []
line_at piece l r =
    let long = r.long in
    let one = length-append r.text (10 ∷ []) in
    ap (take (l.len + 1)) (sym (feed_behind piece l r))
    ∙ first_part (r.text ++ 10 ∷ []) (drop (length r.text + 1) (drop l.from piece)) (l.len + 1) (omega (arith, long, one))

-- ---- what was taken, one after another

pub nothing_taken : (piece : List ℕ) (at : ℕ) (r : ReadSoFar) → at ≤ length piece → r.damaged ≡ None → IsTakenTo piece at at r r
nothing_taken piece at r within reads = record { within = within; taken = λ before h. h; reads = reads }

pub then_taken : (piece : List ℕ) (a b c : ℕ) (x y z : ReadSoFar) → IsTakenTo piece a b x y → IsTakenTo piece b c y z → IsTakenTo piece a c x z
then_taken piece a b c x y z first next = record {
  within = next.within;
  taken = λ before h. next.taken before (first.taken before h);
  reads = next.reads;
}

pub fault_later : (piece : List ℕ) (a b : ℕ) (x y : ReadSoFar) (fault : JournalFault) → IsTakenTo piece a b x y → IsFaultIn piece b y fault → IsFaultIn piece a x fault
fault_later piece a b x y fault first is = λ before rest h. is before rest (first.taken before h)

two_parts : (at from : ℕ) (piece : List ℕ) → at ≤ from → take at piece ++ drop at (take from piece) ≡ take from piece
two_parts at from piece h = ap (λ z. z ++ drop at (take from piece)) (sym (take-take at from piece h)) ∙ take-append-drop at (take from piece)

pub taken_between : (piece : List ℕ) (at from : ℕ) (x y : ReadSoFar) → at ≤ from → from ≤ length piece
    → taken y ≡ taken x ++ drop at (take from piece) → y.damaged ≡ None → IsTakenTo piece at from x y
taken_between piece at from x y h within more reads = record {
  within = within;
  taken = λ before is.
      more ∙ ap (λ z. z ++ drop at (take from piece)) is ∙ append_assoc before (take at piece) (drop at (take from piece))
      ∙ ap (λ z. before ++ z) (two_parts at from piece h);
  reads = reads;
}

pub fault_between : (piece : List ℕ) (at from : ℕ) (x : ReadSoFar) (fault : JournalFault) → at ≤ from
    → ((rest : List ℕ) → IsLineFault (taken x ++ (drop at (take from piece) ++ rest)) fault) → IsFaultIn piece at x fault
fault_between piece at from x fault h is = λ before rest so_far.
    let behind = drop from piece ++ rest in
    let between = drop at (take from piece) in
    let whole : take at piece ++ (between ++ behind) ≡ piece ++ rest =
    sym (append_assoc (take at piece) between behind) ∙ ap (λ z. z ++ behind) (two_parts at from piece h)
    ∙ sym (append_assoc (take from piece) (drop from piece) rest) ∙ ap (λ z. z ++ rest) (take-append-drop from piece) in
    subst (λ (bytes : List ℕ). IsLineFault bytes fault)
    (ap (λ z. z ++ (between ++ behind)) so_far ∙ append_assoc before (take at piece) (between ++ behind) ∙ ap (λ z. before ++ z) whole) (is behind)

pub taken_line : (piece : List ℕ) (l : ReadLine) (r : IsReadIn piece l) (x y : ReadSoFar) → taken y ≡ taken x ++ (r.text ++ 10 ∷ [])
    → y.damaged ≡ None → IsTakenTo piece l.from (l.from + l.len + 1) x y
taken_line piece l r x y more reads = record {
  within = in_piece piece l r;
  taken = λ before is.
      let sum : l.from + (l.len + 1) ≡ l.from + l.len + 1 = omega arith in
      more ∙ ap (λ z. z ++ (r.text ++ 10 ∷ [])) is ∙ append_assoc before (take l.from piece) (r.text ++ 10 ∷ [])
      ∙ ap (λ z. before ++ z) (
      ap (λ z. take l.from piece ++ z) (sym (line_at piece l r)) ∙ sym (take-add l.from (l.len + 1) piece) ∙ ap (λ n. take n piece) sum);
  reads = reads;
}

pub fault_at : (piece : List ℕ) (l : ReadLine) (r : IsReadIn piece l) (x : ReadSoFar) (fault : JournalFault)
    → ((rest : List ℕ) → IsLineFault (taken x ++ ((r.text ++ 10 ∷ []) ++ rest)) fault) → IsFaultIn piece l.from x fault
fault_at piece l r x fault is = λ before rest so_far.
    let behind = drop (length r.text + 1) (drop l.from piece) in
    let line = r.text ++ 10 ∷ [] in
    let whole : take l.from piece ++ (line ++ (behind ++ rest)) ≡ piece ++ rest =
    ap (λ z. take l.from piece ++ z) (sym (append_assoc line behind rest) ∙ ap (λ z. z ++ rest) (feed_behind piece l r))
    ∙ sym (append_assoc (take l.from piece) (drop l.from piece) rest) ∙ ap (λ z. z ++ rest) (take-append-drop l.from piece) in
    subst (λ (bytes : List ℕ). IsLineFault bytes fault)
    (ap (λ z. z ++ (line ++ (behind ++ rest))) so_far ∙ append_assoc before (take l.from piece) (line ++ (behind ++ rest)) ∙ ap (λ z. before ++ z) whole)
    (is (behind ++ rest))

-- ---- a whole piece

from_front : (piece : List ℕ) (r : ReadSoFar) → taken r ≡ taken r ++ take 0 piece
from_front piece r = sym (append-nil (taken r)) ∙ ap (λ z. taken r ++ z) (sym (take_none piece))

pub all_taken : (piece : List ℕ) (at : ℕ) (x y z : ReadSoFar) → IsTakenTo piece 0 at x y → taken z ≡ taken y ++ drop at piece → taken z ≡ taken x ++ piece
all_taken piece at x y z first more =
    more ∙ ap (λ bytes. bytes ++ drop at piece) (first.taken (taken x) (from_front piece x)) ∙ append_assoc (taken x) (take at piece) (drop at piece)
    ∙ ap (λ bytes. taken x ++ bytes) (take-append-drop at piece)

pub all_fault : (piece : List ℕ) (x : ReadSoFar) (fault : JournalFault) → IsFaultIn piece 0 x fault → (rest : List ℕ) → IsLineFault (taken x ++ (piece ++ rest)) fault
all_fault piece x fault is rest = is (taken x) rest (from_front piece x)

pub end_fault : (piece : List ℕ) (at : ℕ) (x y : ReadSoFar) (fault : JournalFault) → IsTakenTo piece 0 at x y
    → ((rest : List ℕ) → IsLineFault (taken y ++ (drop at piece ++ rest)) fault) → (rest : List ℕ) → IsLineFault (taken x ++ (piece ++ rest)) fault
end_fault piece at x y fault first is rest =
    subst (λ (bytes : List ℕ). IsLineFault bytes fault)
    (ap (λ z. z ++ (drop at piece ++ rest)) (first.taken (taken x) (from_front piece x)) ∙ append_assoc (taken x) (take at piece) (drop at piece ++ rest)
    ∙ ap (λ z. taken x ++ z) (sym (append_assoc (take at piece) (drop at piece) rest) ∙ ap (λ z. z ++ rest) (take-append-drop at piece)))
    (is rest)

-- ---- a line that begins where none is begun

pub ready_reads : (before after : List Block) (begun text : List ℕ) (was : Option Registry) (registry : Registry) (size new : ℕ)
    → IsReader before begun was size → begun ≡ [] → IsOneMore before after (text ++ 10 ∷ []) → StandsBehind after registry
    → new ≡ size + 0 + length text + 1 → IsReader after begun (Some registry) new
ready_reads before after begun text was registry size new r none one stands longer =
    let empty = ap length none in
    reads_more before after begun text (begun ++ text) begun was registry size new r refl
    (subst (λ (xs : List ℕ). IsOneMore before after ((xs ++ text) ++ 10 ∷ [])) (sym none) one) stands (omega (arith, longer, empty)) none

pub ready_taken : (before after : List Block) (begun text : List ℕ) → begun ≡ [] → IsOneMore before after (text ++ 10 ∷ [])
    → taken (record { blocks = after; line = begun; damaged = None }) ≡ taken (record { blocks = before; line = begun; damaged = None }) ++ (text ++ 10 ∷ [])
ready_taken before after begun text none one =
    taken_one before after begun text (begun ++ text) begun refl
    (subst (λ (xs : List ℕ). IsOneMore before after ((xs ++ text) ++ 10 ∷ [])) (sym none) one) none

pub ready_refused : (blocks : List Block) (begun text : List ℕ) (fault : JournalFault) → begun ≡ [] → IsRefused blocks (text ++ 10 ∷ []) fault
    → IsRefused blocks ((begun ++ text) ++ 10 ∷ []) fault
ready_refused blocks begun text fault none is = subst (λ (xs : List ℕ). IsRefused blocks ((xs ++ text) ++ 10 ∷ []) fault) (sym none) is
