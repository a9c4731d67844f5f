-- The bytes of a store after a cut and an append.
use Rattle.std.proofs.Common.{◌≡◌, ◌∙◌, ℕ, Bool, true, false, List, [], ◌∷◌, ◌++◌, length, take, append-nil, refl, sym, ap, subst, true≢false, inl, inr, Option, Some, None, ◌⊎◌}
use Rattle.std.specs.Prelude.{option_map, IfSome}
use Rattle.journal_keeper.specs.Keeping.{HoldsPart, MayBeCut, cleared}
use Rattle.ledger_core.specs.Tails.{HoldsMarked}

-- ---- what is held behind the journal

take-front : (xs ys : List ℕ) → take (length xs) (xs ++ ys) ≡ xs
take-front [] ys = refl
take-front (x ∷ xs) ys = ap (λ zs. x ∷ zs) (take-front xs ys)

cut-is : (journal rest bytes : List ℕ) (size : ℕ) → size ≡ length journal → bytes ≡ journal ++ rest → take size bytes ≡ journal
cut-is journal rest bytes size long e = subst (λ (bs : List ℕ). take size bs ≡ journal) (sym e) (subst (λ (n : ℕ). take n (journal ++ rest) ≡ journal) (sym long) (take-front journal rest))

nothing-behind : (journal rest bytes : List ℕ) → bytes ≡ journal ++ rest → rest ≡ [] → bytes ≡ journal
nothing-behind journal rest bytes e none = e ∙ ap (λ r. journal ++ r) none ∙ append-nil journal

cleared-is : (journal bytes : List ℕ) (marked : Bool) (size : ℕ) → size ≡ length journal → HoldsMarked journal marked (Some bytes) → cleared marked size bytes ≡ journal
cleared-is journal bytes true size long (rest, e, none) = cut-is journal rest bytes size long e
cleared-is journal bytes false size long (rest, e, none) = nothing-behind journal rest bytes e (none refl)

-- what was put behind the cleared bytes stands behind the journal
pub holds-behind : (journal line : List ℕ) (marked : Bool) (size : ℕ) (before now : Option (List ℕ)) → size ≡ length journal → HoldsMarked journal marked before
    → now ≡ option_map (λ held. cleared marked size held ++ line) before → IfSome now (λ bytes. bytes ≡ journal ++ line)
holds-behind journal line marked size None now long held e = subst (λ (b : Option (List ℕ)). IfSome b (λ bytes. bytes ≡ journal ++ line)) (sym e) tt
holds-behind journal line marked size (Some x) now long held e =
    subst (λ (b : Option (List ℕ)). IfSome b (λ bytes. bytes ≡ journal ++ line)) (sym e)
    (ap (λ bs. bs ++ line) (cleared-is journal x marked size long held))

pub holds-cleared : (journal : List ℕ) (marked : Bool) (size : ℕ) (before now : Option (List ℕ)) → size ≡ length journal → HoldsMarked journal marked before
    → now ≡ option_map (cleared marked size) before → IfSome now (λ bytes. bytes ≡ journal)
holds-cleared journal marked size None now long held e = subst (λ (b : Option (List ℕ)). IfSome b (λ bytes. bytes ≡ journal)) (sym e) tt
holds-cleared journal marked size (Some x) now long held e =
    subst (λ (b : Option (List ℕ)). IfSome b (λ bytes. bytes ≡ journal)) (sym e) (cleared-is journal x marked size long held)

pub unmarked : (journal : List ℕ) (marked : Bool) (now : Option (List ℕ)) → IfSome now (λ bytes. bytes ≡ journal) → HoldsMarked journal marked now
unmarked journal marked None held = tt
unmarked journal marked (Some x) held = ([], held ∙ sym (append-nil journal), λ _. refl)

behind-marked : (journal part : List ℕ) (now : Option (List ℕ)) → IfSome now (λ bytes. bytes ≡ journal ++ part) → HoldsMarked journal true now
behind-marked journal part None held = tt
behind-marked journal part (Some x) held = (part, held, λ bad. absurd (true≢false bad))

marked-anyhow : (journal : List ℕ) (marked : Bool) (now : Option (List ℕ)) → HoldsMarked journal marked now → HoldsMarked journal true now
marked-anyhow journal marked None held = tt
marked-anyhow journal marked (Some x) (rest, e, none) = (rest, e, λ bad. absurd (true≢false bad))

-- ---- what is held after a fault

pub still-marked : (journal : List ℕ) (marked : Bool) (size : ℕ) (before now : Option (List ℕ)) → size ≡ length journal → HoldsMarked journal marked before
    → MayBeCut before now size → HoldsMarked journal marked now
still-marked journal marked size before now long held (inl e) = subst (λ (b : Option (List ℕ)). HoldsMarked journal marked b) (sym e) held
still-marked journal marked size before now long held (inr e) =
    unmarked journal marked now (holds-cleared journal true size before now long (marked-anyhow journal marked before held) e)

pub part-marked : (journal line : List ℕ) (marked : Bool) (size : ℕ) (before now : Option (List ℕ)) → size ≡ length journal → HoldsMarked journal marked before
    → (now ≡ before) ⊎ HoldsPart marked size line before now → HoldsMarked journal true now
part-marked journal line marked size before now long held (inl e) = subst (λ (b : Option (List ℕ)). HoldsMarked journal true b) (sym e) (marked-anyhow journal marked before held)
part-marked journal line marked size before now long held (inr (kept, e)) =
    behind-marked journal (take kept line) now (holds-behind journal (take kept line) marked size before now long held e)

pub part-holds : (journal line : List ℕ) (marked : Bool) (size : ℕ) (before now : Option (List ℕ)) → size ≡ length journal → HoldsMarked journal marked before
    → (now ≡ before) ⊎ HoldsPart marked size line before now → (now ≡ before) ⊎ ((kept : ℕ) × IfSome now (λ bytes. bytes ≡ journal ++ take kept line))
part-holds journal line marked size before now long held (inl e) = inl e
part-holds journal line marked size before now long held (inr (kept, e)) = inr (kept, holds-behind journal (take kept line) marked size before now long held e)
