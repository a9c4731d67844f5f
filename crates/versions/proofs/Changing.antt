-- Revisions at places that a redaction changes, one after another.
use Rattle.std.proofs.Common.{◌≡◌, ℕ, zero, suc, ◌+◌, ◌-◌, true, false, Bool, List, [], ◌∷◌, ◌++◌, length, set, take, Some, None, refl, sym, ◌∙◌, ap, arith}
use Rattle.std.specs.Prelude.{slice_get, if◌then◌else◌}
use Rattle.ledger_model.specs.declared.block.Schema.{Schema}
use Rattle.ledger_model.specs.State.{redacts}
use Rattle.versions.specs.declared.recorded.Recorded.{Recorded}
use Rattle.versions.specs.Held.{recorded_of}
use Rattle.versions.specs.Redactions.{before_last, changed_along, changed_at, changed_by, hidden}
use Rattle.versions.proofs.Along.{take_next}

-- ---- one place

pub at_none : (c : Schema) (rs : List Recorded) (at : ℕ) → slice_get rs at ≡ None → changed_at c at rs ≡ rs
at_none c [] at e = refl
at_none c (r ∷ rs) zero e = cc
at_none c (r ∷ rs) (suc at) e = ap (λ (xs : List Recorded). r ∷ xs) (at_none c rs at e)

at_set : (c : Schema) (rs : List Recorded) (at : ℕ) (r : Recorded) → slice_get rs at ≡ Some r → changed_at c at rs ≡ set rs at (changed_by c r)
at_set c [] at r e = cc
at_set c (x ∷ rs) zero r e = let s : x ≡ r = cc in ap (λ (y : Recorded). changed_by c y ∷ rs) s
at_set c (x ∷ rs) (suc at) r e = ap (λ (xs : List Recorded). x ∷ xs) (at_set c rs at r e)

set_same : (rs : List Recorded) (at : ℕ) (r : Recorded) → slice_get rs at ≡ Some r → set rs at r ≡ rs
set_same [] at r e = cc
set_same (x ∷ rs) zero r e = let s : x ≡ r = cc in ap (λ (y : Recorded). y ∷ rs) (sym s)
set_same (x ∷ rs) (suc at) r e = ap (λ (xs : List Recorded). x ∷ xs) (set_same rs at r e)

-- the change doesn't redact what stands there
pub at_kept : (c : Schema) (rs : List Recorded) (at : ℕ) (r : Recorded) → slice_get rs at ≡ Some r → redacts (recorded_of r) c ≡ false
    → changed_at c at rs ≡ rs
at_kept c rs at r e not =
    at_set c rs at r e ∙ ap (λ (b : Bool). set rs at (if b then hidden r else r)) not ∙ set_same rs at r e

-- it does
pub at_hidden : (c : Schema) (rs : List Recorded) (at : ℕ) (r : Recorded) → slice_get rs at ≡ Some r → redacts (recorded_of r) c ≡ true
    → changed_at c at rs ≡ set rs at (hidden r)
at_hidden c rs at r e is = at_set c rs at r e ∙ ap (λ (b : Bool). set rs at (if b then hidden r else r)) is

-- ---- one place more

along_end : (c : Schema) (places : List ℕ) (at : ℕ) (rs : List Recorded)
    → changed_along c (places ++ at ∷ []) rs ≡ changed_at c at (changed_along c places rs)
along_end c [] at rs = refl
along_end c (p ∷ places) at rs = along_end c places at (changed_at c p rs)

pub along_next : (c : Schema) (places : List ℕ) (n at : ℕ) (rs new more : List Recorded) → slice_get places n ≡ Some at
    → new ≡ changed_along c (take n places) rs → more ≡ changed_at c at new → more ≡ changed_along c (take (n + 1) places) rs
along_next c places n at rs new more there so_far is =
    is ∙ ap (changed_at c at) so_far ∙ sym (along_end c (take n places) at rs)
    ∙ ap (λ (ps : List ℕ). changed_along c ps rs) (sym (take_next places n at there))

pub before_taken : (places : List ℕ) → take (length places - 1) places ≡ before_last places
before_taken [] = refl
before_taken (at ∷ []) = refl
before_taken (at ∷ next ∷ places) =
    let more : length (at ∷ next ∷ places) - 1 ≡ suc (length places) = omega arith in
    let rest : length (next ∷ places) - 1 ≡ length places = omega arith in
    ap (λ (n : ℕ). take n (at ∷ next ∷ places)) more
    ∙ ap (λ (ps : List ℕ). at ∷ ps) (ap (λ (n : ℕ). take n (next ∷ places)) (sym rest) ∙ before_taken (next ∷ places))
