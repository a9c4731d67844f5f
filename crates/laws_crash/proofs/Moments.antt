-- The moments of a stretch, and the images of all of them.
use Rattle.std.proofs.Common.{◌≡◌, ℕ, List, [], ◌∷◌, ◌++◌, length, drop, refl, ap, subst, ◌∙◌, inl, inr, append_assoc}
use Rattle.std.specs.List.{AllByRecursion}
use Rattle.outside.specs.Store.{Content, Moment, IsImageOfOne, left_since, moment, moment_of, past_after}
use Rattle.laws_crash.specs.Pending.{ImagesAre}
use Rattle.laws_crash.specs.Sound.{IsSafe, Recovers, SafeRecovers}
use Rattle.laws_crash.specs.Passed.{Passes, SafePassesRecover}
use Rattle.laws_crash.proofs.Lists.{all_append}

drop_seam : (xs : List Moment) (m : Moment) (more : List Moment) → drop (length xs) ((xs ++ m ∷ []) ++ more) ≡ m ∷ more
drop_seam [] m more = refl
drop_seam (x ∷ xs) m more = drop_seam xs m more

one_of : (P : Moment → Type 0) (Q : List ℕ → Type 0) (image : List ℕ) (ms : List Moment) → ((m : Moment) → P m → ImagesAre Q m)
    → AllByRecursion P ms → IsImageOfOne ms image → Q image
one_of P Q image [] f all none = absurd none
one_of P Q image (m ∷ ms) f all (inl is) = f m all.0 image is
one_of P Q image (m ∷ ms) f all (inr is) = one_of P Q image ms f all.1 is

from_here : (P : Moment → Type 0) (Q : List ℕ → Type 0) (image : List ℕ) (m : Moment) (ms : List Moment) → ImagesAre Q m
    → ((m : Moment) → P m → ImagesAre Q m) → AllByRecursion P ms → IsImageOfOne (m ∷ ms) image → Q image
from_here P Q image m ms here f all (inl is) = here image is
from_here P Q image m ms here f all (inr is) = one_of P Q image ms f all is

-- what a stop left since the first content is an image at a moment with the property, or at the first content's
pub passes_leave : (P : Moment → Type 0) (Q : List ℕ → Type 0) (before now : Content) → Passes P before now
    → ImagesAre Q (moment_of before) → ((m : Moment) → P m → ImagesAre Q m) → (image : List ℕ)
    → left_since now (moment before) image → Q image
passes_leave P Q before now passes here f image left =
    let all : drop (moment before) (past_after now) ≡ moment_of before ∷ passes.more =
    ap (drop (moment before)) passes.grows ∙ drop_seam before.past (moment_of before) passes.more in
    from_here P Q image (moment_of before) passes.more here f passes.each (subst (λ (ms : List Moment). IsImageOfOne ms image) all left)

-- two stretches, one after the other
pub passes_on : (P : Moment → Type 0) (a b c : Content) → Passes P a b → Passes P b c → Passes P a c
passes_on P a b c ab bc = record {
  more = ab.more ++ bc.more;
  grows = bc.grows ∙ ap (λ (ms : List Moment). ms ++ bc.more) ab.grows ∙ append_assoc (past_after a) ab.more bc.more;
  each = all_append P ab.more bc.more ab.each bc.each;
}

pub safe_passes_recover : SafeRecovers → SafePassesRecover
safe_passes_recover law blocks tried before now sound asked safe passes image left =
    passes_leave (IsSafe blocks tried) (Recovers blocks tried) before now passes
    (law blocks tried (moment_of before) sound asked safe)
    (λ m at. law blocks tried m sound asked at) image left
