-- What is put into a growing text, and what is left of one that is compared.
use lib.Pointwise.{pointwise}
use Rattle.std.proofs.Common.{◌≡◌, ◌↔◌, IsTrue, ℕ, ◌==◌, Bool, true, false, ◌&&◌, if◌then◌else◌, List, [], ◌∷◌, ◌++◌, length, take, drop, Option, Some, None, refl, ap, ◌∙◌, sym, append_assoc, append-nil}
use Rattle.std.specs.List.{fold}
use Rattle.std.proofs.lemmas.Bool.{eqb-true, eq-eqb}
use Rattle.ion_text.specs.Comparing.{without}

-- byte after byte at the end
pub appended : (text more : List ℕ) → fold (λ bytes b. bytes ++ b ∷ []) text more ≡ text ++ more
appended text [] = sym (append-nil text)
appended text (b ∷ z) = appended (text ++ b ∷ []) z ∙ append_assoc text (b ∷ []) z

-- after a byte that differs nothing agrees
pub differs_on : (more : List ℕ) → fold without None more ≡ None
differs_on [] = refl
differs_on (b ∷ z) = differs_on z

-- what is left behind a piece that agrees, or not
abbrev pub left_of : Bool → List ℕ → Option (List ℕ)
left_of true rest = Some rest
left_of false rest = None

by_first : (same agree : Bool) (y z : List ℕ) → fold without (Some y) z ≡ left_of agree (drop (length z) y)
    → fold without (if same then Some y else None) z ≡ left_of (same && agree) (drop (length z) y)
by_first true agree y z h = h
by_first false agree y z h = differs_on z

-- all of a piece agrees, or what is left differs
pub stepped : (text piece : List ℕ) → fold without (Some text) piece
    ≡ left_of (pointwise ◌==◌ (take (length piece) text) piece) (drop (length piece) text)
stepped text [] = refl
stepped [] (b ∷ z) = differs_on z
stepped (c ∷ y) (b ∷ z) = by_first (c == b) (pointwise ◌==◌ (take (length z) y) z) y z (stepped y z)

-- The comparison behind a piece that stands in front of what is left, and behind one that doesn't.
pub step_taken : (agrees : Bool) (text piece rest : List ℕ)
    → pointwise ◌==◌ (take (length piece) text) piece ≡ true
    → rest ≡ drop (length piece) text
    → (if agrees then Some rest else None) ≡ fold without (if agrees then Some text else None) piece
step_taken true text piece rest same is = rw (stepped text piece, same, is) refl
step_taken false text piece rest same is = sym (differs_on piece)

pub step_refused : (agrees : Bool) (text piece : List ℕ)
    → pointwise ◌==◌ (take (length piece) text) piece ≡ false
    → None ≡ fold without (if agrees then Some text else None) piece
step_refused true text piece same = rw (stepped text piece, same) refl
step_refused false text piece same = sym (differs_on piece)

taken_on : (same : Bool) (y z : List ℕ) → fold without (if same then Some y else None) z ≡ Some []
    → (same ≡ true) × (fold without (Some y) z ≡ Some [])
taken_on true y z h = (refl, h)
taken_on false y z h = absurd (cc (sym (differs_on z) ∙ h))

-- Nothing is left where the text is expected, and nowhere else.
pub ends : (text piece : List ℕ) → fold without (Some text) piece ≡ Some [] → text ≡ piece
ends [] [] h = refl
ends (c ∷ y) [] h = absurd (cc h)
ends [] (b ∷ z) h = absurd (cc (sym (differs_on z) ∙ h))
ends (c ∷ y) (b ∷ z) h =
    let both = taken_on (c == b) y z h in
    let first = eqb-true c b both.0 in
    rw (first, ends y z both.1)

pub ends_at : (text : List ℕ) → fold without (Some text) text ≡ Some []
ends_at [] = refl
ends_at (c ∷ y) = rw (eq-eqb c c refl) (ends_at y)

-- what the end of a comparison tells
pub end_tells : (at_end : Bool) (text written : List ℕ) (start done : Option (List ℕ))
    → start ≡ Some text → done ≡ fold without start written
    → (IsTrue at_end ↔ (done ≡ Some [])) → (IsTrue at_end ↔ (text ≡ written))
end_tells at_end text written start done from put tells =
    let all : done ≡ fold without (Some text) written = put ∙ ap (λ s. fold without s written) from in (
      λ h. ends text written (sym all ∙ tells.0 h),
      λ same. tells.1 (all ∙ ap (λ z. fold without (Some text) z) (sym same) ∙ ends_at text),
    )
