-- The content after one change more.
use Rattle.std.proofs.Common.{◌≡◌, ℕ, List, [], ◌∷◌, ◌++◌, refl, sym, subst, None, Some, Result, Ok, if◌then◌else◌}
use Rattle.std.specs.Prelude.{IsSome, is_ok, Vec}
use Rattle.std.specs.declared.option.Option.{Option}
use Rattle.std.specs.declared.alloc.Global.{Global}
use Rattle.outside.specs.Store.{Content}
use Rattle.outside.specs.StoreForms.{NoneBefore, changed, content_after}
use Rattle.outside.specs.declared.memory.changes.Change.{Change}

pub one_more : (content : Content) (changes : List Change) (change : Change)
    → content_after content (changes ++ change ∷ []) ≡ changed (content_after content changes) change
one_more content [] change = refl
one_more content (c ∷ changes) change = one_more (changed content c) changes change

-- a push that had room
pub pushed : {A E B : Type 0} (r : Result A E) (x : A) (xs ys now : List B) → r ≡ Ok x → now ≡ (if is_ok r then xs else ys) → now ≡ xs
pushed {A} {E} r x xs ys now is e = subst (λ (q : Result A E). now ≡ (if is_ok q then xs else ys)) is e

-- where bytes were noted, no change was made before
none_before : (opened : Option (Vec ℕ Global)) (made : List Change) → IsSome opened → NoneBefore opened made
none_before None made is = let bad : ⊥ = cc in absurd bad
none_before (Some bytes) made is = tt

pub still_none : (opened now : Option (Vec ℕ Global)) (made : List Change) → IsSome opened → now ≡ opened → NoneBefore now made
still_none opened now made is same = subst (λ (o : Option (Vec ℕ Global)). NoneBefore o made) (sym same) (none_before opened made is)
