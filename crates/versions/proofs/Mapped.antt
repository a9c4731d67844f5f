-- A list whose items are changed one after another.
use Rattle.std.proofs.Common.{◌≡◌, ℕ, ◌+◌, ◌<◌, List, [], ◌∷◌, ◌++◌, length, get_or, take, drop, set, map, sym, ◌∙◌, ap, ap₂, arith}
use Rattle.std.proofs.lemmas.List.{take_more_set, take_more, drop_more, drop-set-lt, map-append, drop-drop, length-drop}

pub left-more : {A : Type 0} (xs ys : List A) (i : ℕ) (x : A) → i < length xs → drop i xs ≡ drop i ys → drop (i + 1) (set xs i x) ≡ drop (i + 1) ys
left-more xs ys i x within left =
    let next : i < i + 1 = omega arith in
    drop-set-lt (i + 1) xs i x next ∙ sym (drop-drop 1 i xs) ∙ ap (λ zs. drop 1 zs) left ∙ drop-drop 1 i ys

same-item : {A : Type 0} (xs ys : List A) (i : ℕ) (x : A) → i < length xs → i < length ys → drop i xs ≡ drop i ys → get_or xs i x ≡ get_or ys i x
same-item xs ys i x within there left =
    let h : get_or xs i x ∷ drop (i + 1) xs ≡ get_or ys i x ∷ drop (i + 1) ys = sym (drop_more xs i x within) ∙ left ∙ drop_more ys i x there in
    cc

-- the items so far are those that g makes
pub mapped-more : {A B : Type 0} (f : A → B) (g : B → B) (xs ys : List A) (i : ℕ) (old new : A) → i < length xs → old ≡ get_or xs i old
    → f new ≡ g (f old) → map f (take i xs) ≡ map g (map f (take i ys)) → drop i xs ≡ drop i ys
    → map f (take (i + 1) (set xs i new)) ≡ map g (map f (take (i + 1) ys))
mapped-more {A} {B} f g xs ys i old new within is makes done left =
    let there : i < length ys = omega (arith, length-drop i xs, length-drop i ys, ap length left) in
    let item : old ≡ get_or ys i old = is ∙ same-item xs ys i old within there left in
    ap (map f) (take_more_set xs i new within)
    ∙ map-append f (take i xs) (new ∷ [])
    ∙ ap₂ (λ (zs : List B) (z : B). zs ++ z ∷ []) done makes
    ∙ sym (
    ap (λ zs. map g (map f zs)) (take_more ys i old there ∙ ap (λ (z : A). take i ys ++ z ∷ []) (sym item))
    ∙ ap (map g) (map-append f (take i ys) (old ∷ []))
    ∙ map-append g (map f (take i ys)) (f old ∷ [])
    )
