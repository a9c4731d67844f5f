-- How many blocks stand up to the last that redacts anything.
use Rattle.std.proofs.Common.{◌≡◌, ◌∙◌, ◌+◌, ◌<◌, ◌≤◌, ℕ, zero, suc, Bool, true, false, ◌||◌, List, [], ◌∷◌, ◌++◌, length, take, drop, get_or, refl, sym, ap, inl, inr, if◌then◌else◌, arith}
use Rattle.std.specs.Prelude.{nat_lt}
use Rattle.std.specs.List.{list_any}
use Rattle.std.proofs.lemmas.Bool.{cases_lt, lt-ltb, le-ltb, or_parts}
use Rattle.std.proofs.lemmas.List.{take_more, length-take-le}
use Rattle.std.proofs.lemmas.List.Folds.{list_any-append}
use Rattle.ledger_model.specs.declared.block.Block.{Block}
use Rattle.ledger_model.specs.HashesAsked.{redacts_any}
use Rattle.redact_tool.specs.Fronts.{redacting_front}

-- ---- one block more

alone : (q : Bool) (m n : ℕ) → (if q || false then m else n) ≡ (if q then m else n)
alone true m n = refl
alone false m n = refl

one_more : (a r q : Bool) (f n : ℕ)
    → (if a || (r || (q || false)) then (if q then n + 1 else f) + 1 else 0) ≡
    (if q then (n + 1) + 1 else (if a || r then f + 1 else 0))
one_more true r true f n = refl
one_more false true true f n = refl
one_more false false true f n = refl
one_more true r false f n = refl
one_more false true false f n = refl
one_more false false false f n = refl

front_push : (xs : List Block) (b : Block)
    → redacting_front (xs ++ b ∷ []) ≡ (if redacts_any b then length xs + 1 else redacting_front xs)
front_push [] b = alone (redacts_any b) 1 0
front_push (x ∷ xs) b =
    let long : length (x ∷ xs) ≡ length xs + 1 = omega arith in
    ap (λ (n : ℕ). if list_any redacts_any (x ∷ (xs ++ b ∷ [])) then n + 1 else 0) (front_push xs b)
    ∙ ap (λ (t : Bool). if redacts_any x || t then
    (if redacts_any b then length xs + 1 else redacting_front xs) + 1 else 0)
    (list_any-append redacts_any xs (b ∷ []))
    ∙ one_more (redacts_any x) (list_any redacts_any xs) (redacts_any b) (redacting_front xs) (length xs)
    ∙ ap (λ (n : ℕ). if redacts_any b then n + 1 else redacting_front (x ∷ xs)) (sym long)

module _ (bs : List Block) (at : ℕ) (b : Block) (h : at < length bs) (is : b ≡ get_or bs at b) where
  front_at : redacting_front (take (at + 1) bs) ≡ (if redacts_any b then at + 1 else redacting_front (take at bs))
  front_at =
      ap redacting_front (take_more bs at b h)
      ∙ ap (λ (x : Block). redacting_front (take at bs ++ x ∷ [])) (sym is)
      ∙ front_push (take at bs) b
      ∙ ap (λ (n : ℕ). if redacts_any b then n + 1 else redacting_front (take at bs))
      (length-take-le at bs (omega (arith, h)))

  pub front_next : (front next : ℕ) → front ≡ redacting_front (take at bs)
      → next ≡ (if redacts_any b then at + 1 else front)
      → next ≡ redacting_front (take (at + 1) bs)
  front_next front next so now = now ∙ ap (λ (n : ℕ). if redacts_any b then at + 1 else n) so ∙ sym front_at

take_end : (bs : List Block) (n : ℕ) → length bs ≤ n → take n bs ≡ bs
take_end [] zero h = refl
take_end [] (suc n) h = refl
take_end (b ∷ bs) zero h = absurd (omega arith)
take_end (b ∷ bs) (suc n) h = ap (λ (xs : List Block). b ∷ xs) (take_end bs n (omega arith))

pub front_end : (bs : List Block) (at front : ℕ) → length bs ≤ at → front ≡ redacting_front (take at bs)
    → front ≡ redacting_front bs
front_end bs at front h so = so ∙ ap redacting_front (take_end bs at h)

-- ---- the blocks that stand in it

none_left : (bs : List Block) (at : ℕ) → list_any redacts_any bs ≡ false → list_any redacts_any (drop at bs) ≡ false
none_left [] zero h = refl
none_left [] (suc at) h = refl
none_left (b ∷ bs) zero h = h
none_left (b ∷ bs) (suc at) h = none_left bs at (or_parts (redacts_any b) (list_any redacts_any bs) h).1

first_in : (t : Bool) (f : ℕ) → nat_lt 0 (if t then f + 1 else 0) ≡ t
first_in true f = lt-ltb 0 (f + 1) (omega arith)
first_in false f = refl

more_in : (f at : ℕ) → nat_lt (suc at) (f + 1) ≡ nat_lt at f
more_in f at =
    elim (cases_lt at f) [
      | inl less ↦ lt-ltb (suc at) (f + 1) (omega (arith, less)) ∙ sym (lt-ltb at f less)
      | inr not_less ↦ le-ltb (suc at) (f + 1) (omega (arith, not_less)) ∙ sym (le-ltb at f not_less)
    ]

later_in : (t : Bool) (f at : ℕ) (rest : Bool) → (t ≡ false → rest ≡ false) → nat_lt at f ≡ rest
    → nat_lt (suc at) (if t then f + 1 else 0) ≡ rest
later_in true f at rest none so = more_in f at ∙ so
later_in false f at rest none so = le-ltb (suc at) 0 (omega arith) ∙ sym (none refl)

-- a block stands in the front where it or a later one redacts anything
pub in_front : (bs : List Block) (at : ℕ) → nat_lt at (redacting_front bs) ≡ list_any redacts_any (drop at bs)
in_front [] zero = refl
in_front [] (suc at) = le-ltb (suc at) 0 (omega arith)
in_front (b ∷ bs) zero = first_in (list_any redacts_any (b ∷ bs)) (redacting_front bs)
in_front (b ∷ bs) (suc at) =
    later_in (list_any redacts_any (b ∷ bs)) (redacting_front bs) at (list_any redacts_any (drop at bs))
    (λ none. none_left bs at (or_parts (redacts_any b) (list_any redacts_any bs) none).1) (in_front bs at)
