-- What a reader's front tells of all that was left in it.
use Rattle.std.proofs.Common.{◌≡◌, ℕ, ◌≤◌, ◌<◌, ◌⊎◌, inl, inr, min, Bool, true, false, ◌||◌, List, [], ◌++◌, length, take, None, Some, IfSome, IfOk, Result, Ok, Err, refl, sym, ap, subst, ◌∙◌, arith, append-nil, take_all, length-append}
use Rattle.std.proofs.lemmas.List.{take-append-le}
use Rattle.std.proofs.lemmas.List.Folds.{list_any-append}
use Rattle.std.proofs.lemmas.Bool.Decides.{leb_tells}
use Rattle.std.specs.Prelude.{◌↔◌, ◌==◌, IsTrue}
use Rattle.std.specs.declared.option.Option.{Option}
use Rattle.std.specs.Io.KnownBytes.{Consumes, IsAtEnd}
use Rattle.outside.specs.JournalFiles.{BeginsLine, MayBeJournal, has_line_feed, line_start}

feed_joined : (xs ys : List ℕ) → has_line_feed (xs ++ ys) ≡ (has_line_feed xs || has_line_feed ys)
feed_joined xs ys = list_any-append (λ byte. byte == 10) xs ys

pub none_more : (xs ys : List ℕ) → has_line_feed xs ≡ false → has_line_feed ys ≡ false → has_line_feed (xs ++ ys) ≡ false
none_more xs ys p q = feed_joined xs ys ∙ ap (λ b. b || has_line_feed ys) p ∙ q

-- two lists cut to the shorter one's length
cut_left : (xs ys : List ℕ) (n : ℕ) → n ≡ min (length xs) (length ys) → take n xs ≡ take (length ys) xs
cut_left xs ys n e = elim (leb_tells (length xs) (length ys)) [
  | inl t ↦ (let short : length xs ≤ n = omega (arith, t.1) in take_all n xs short ∙ sym (take_all (length ys) xs t.1))
  | inr f ↦ (let same : n ≡ length ys = omega (arith, f.1) in ap (λ k. take k xs) same)
]

cut_right : (xs ys : List ℕ) (n : ℕ) → n ≡ min (length xs) (length ys) → take n ys ≡ take (length xs) ys
cut_right xs ys n e = elim (leb_tells (length xs) (length ys)) [
  | inl t ↦ (let same : n ≡ length xs = omega (arith, t.1) in ap (λ k. take k ys) same)
  | inr f ↦ (let short : length ys ≤ n = omega (arith, f.1) in let over : length ys ≤ length xs = omega (arith, f.1) in
      take_all n ys short ∙ sym (take_all (length xs) ys over))
]

pub begins_told : (front : List ℕ) (n : ℕ) (r : Bool) → n ≡ min (length front) (length line_start)
    → (r ≡ true → take n front ≡ take n line_start) × (take n front ≡ take n line_start → r ≡ true) → IsTrue r ↔ BeginsLine front
begins_told front n r e d =
    let left = cut_left front line_start n e in
    let right = cut_right front line_start n e in
    (λ t. sym left ∙ d.0 t ∙ right, λ b. d.1 (left ∙ b ∙ sym right))

-- a front that is long enough begins as the whole does
begins_long : (front rest : List ℕ) → length line_start ≤ length front → BeginsLine (front ++ rest) ↔ BeginsLine front
begins_long front rest h =
    let over : length line_start ≤ length (front ++ rest) = omega (arith, length-append front rest) in
    let left = take-append-le (length line_start) front rest h in
    let whole = take_all (length (front ++ rest)) line_start over in
    let part = take_all (length front) line_start h in
    (λ b. sym left ∙ b ∙ whole ∙ sym part, λ b. left ∙ b ∙ part ∙ sym whole)

begins_joined : (front rest : List ℕ) → (length line_start ≤ length front) ⊎ (rest ≡ []) → BeginsLine (front ++ rest) ↔ BeginsLine front
begins_joined front rest (inl h) = begins_long front rest h
begins_joined front rest (inr e) =
    let same = ap (λ l. front ++ l) e ∙ append-nil front in
    (subst BeginsLine same, subst BeginsLine (sym same))

-- the front of a piece that was filled, or at whose end nothing is left
filled : (front room : ℕ) (P : Type 0) → length line_start ≤ room → (front < room → P) → (length line_start ≤ front) ⊎ P
filled front room P wide end = elim (leb_tells room front) [ inl t ↦ inl (omega (arith, t.1)) | inr f ↦ inr (end (omega (arith, f.1))) ]

pub may_begin : (a b : Option (List ℕ)) (front : List ℕ) (room : ℕ) → Consumes a b front → length line_start ≤ room
    → (length front < room → IsAtEnd b) → BeginsLine front → IfSome a (λ bytes. IsTrue true ↔ MayBeJournal bytes)
may_begin None b front room p wide end h = tt
may_begin (Some x) None front room p wide end h = absurd p
may_begin (Some x) (Some y) front room p wide end h =
    let whole = (begins_joined front y (filled (length front) room (y ≡ []) wide end)).1 h in
    (λ t. inr (subst BeginsLine (sym p) whole), λ m. refl)

rest_told : (x front y : List ℕ) (found : Bool) → x ≡ front ++ y → has_line_feed front ≡ false → (BeginsLine x → ⊥) → found ≡ has_line_feed y
    → IsTrue found ↔ MayBeJournal x
rest_told x front y found p none other e =
    let same : has_line_feed x ≡ found = ap has_line_feed p ∙ feed_joined front y ∙ ap (λ b. b || has_line_feed y) none ∙ sym e in
    (λ t. inl (same ∙ t), elim [ inl h ↦ sym same ∙ h | inr b ↦ absurd (other b) ])

pub may_follow : {E : Type 0} (a b : Option (List ℕ)) (front : List ℕ) (room : ℕ) (begins : Bool) (r : Result Bool E) → Consumes a b front
    → length line_start ≤ room → (length front < room → IsAtEnd b) → has_line_feed front ≡ false → begins ≡ false → IsTrue begins ↔ BeginsLine front
    → IfOk r (λ found. IfSome b (λ rest. found ≡ has_line_feed rest)) → IfOk r (λ may. IfSome a (λ bytes. IsTrue may ↔ MayBeJournal bytes))
may_follow a b front room begins (Err e) p wide end none not told found = tt
may_follow None b front room begins (Ok r) p wide end none not told found = tt
may_follow (Some x) None front room begins (Ok r) p wide end none not told found = absurd p
may_follow (Some x) (Some y) front room begins (Ok r) p wide end none not told found =
    let joined = begins_joined front y (filled (length front) room (y ≡ []) wide end) in
    let other : BeginsLine x → ⊥ = λ b. let yes : begins ≡ true = told.1 (joined.0 (subst BeginsLine p b)) in cc in
    rest_told x front y r p none other found
