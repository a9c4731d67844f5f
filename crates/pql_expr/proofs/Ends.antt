-- Whether the ends of a text fit a pattern.
use Rattle.std.proofs.Common.{◌≡◌, ℕ, zero, suc, ◌+◌, ◌<◌, ◌==◌, ◌&&◌, ◌||◌, Bool, true, false, if◌then◌else◌, List, [], ◌∷◌, ◌++◌, length, drop, get_or, refl, sym, arith, ap, length-append}
use Rattle.std.proofs.lemmas.List.{drop_all, drop_more, get_or_append_left, get_or_at}
use Rattle.pql_model.specs.Texts.{fits, one_taken, some_end}
use Rattle.pql_expr.specs.Ends.{by_length, longer}

pub length-by_length : (passes : List ℕ → Bool) (text : List ℕ) → length (by_length passes text) ≡ length text + 1
length-by_length passes [] = omega arith
length-by_length passes (c ∷ cs) =
    omega (arith, length-append (by_length passes cs) (passes (c ∷ cs) ∷ []), length-by_length passes cs)

-- the end that begins at m has the length k
pub end_at : (passes : List ℕ → Bool) (text : List ℕ) (k m : ℕ) (d : Bool) → k + m ≡ length text → get_or (by_length passes text) k d ≡ passes (drop m text)
end_at passes [] zero zero d e = refl
end_at passes [] zero (suc m) d e = absurd (omega arith)
end_at passes [] (suc k) m d e = absurd (omega arith)
end_at passes (c ∷ cs) k zero d e =
    let n : length (by_length passes cs) ≡ k = omega (arith, length-by_length passes cs) in
    get_or_at (by_length passes cs) (passes (c ∷ cs)) [] d k n
end_at passes (c ∷ cs) k (suc m) d e =
    let less : k < length (by_length passes cs) = omega (arith, length-by_length passes cs) in
    let shorter : k + m ≡ length cs = omega arith in
    rw (get_or_append_left (by_length passes cs) (passes (c ∷ cs) ∷ []) d k less) (end_at passes cs k m d shorter)

taken : (b : Bool) (f : List ℕ → Bool) (takes : ℕ → Bool) (c : ℕ) (cs : List ℕ) → (if b then some_end f (c ∷ cs) else one_taken takes f (c ∷ cs)) ≡ (if b then f (c ∷ cs) || (if b then some_end f cs else one_taken takes f cs) else takes c && f cs)
taken true f takes c cs = refl
taken false f takes c cs = refl

pub fits_longer : (p c : ℕ) (ps cs : List ℕ) → fits (p ∷ ps) (c ∷ cs) ≡ longer p c (fits ps (c ∷ cs)) (fits ps cs) (fits (p ∷ ps) cs)
unfolding fits
fits_longer p c ps cs = taken (p == 37) (fits ps) (λ d. (p == 95) || (p == d)) c cs

of_nothing : (b x : Bool) → (if b then x else false) ≡ (b && x)
of_nothing true x = refl
of_nothing false x = refl

pub fits_nothing : (p : ℕ) (ps : List ℕ) → fits (p ∷ ps) [] ≡ ((p == 37) && fits ps [])
unfolding fits
fits_nothing p ps = of_nothing (p == 37) (fits ps [])

pub fits_no_pattern : (c : ℕ) (cs : List ℕ) → fits [] (c ∷ cs) ≡ false
unfolding fits
fits_no_pattern c cs = refl

pattern_is : (pattern : List ℕ) (p : ℕ) → 0 < length pattern → p ≡ get_or pattern 0 p → pattern ≡ p ∷ drop 1 pattern
pattern_is [] p h e = absurd (omega arith)
pattern_is (q ∷ qs) p h e = ap (λ x. x ∷ qs) (sym e)

pub end_is : (text : List ℕ) (c at next : ℕ) → next ≡ at + 1 → at < length text → c ≡ get_or text at c → drop at text ≡ c ∷ drop next text
end_is text c at next n h e = rw (n, drop_more text at c h) (ap (λ x. x ∷ drop (at + 1) text) (sym e))

of_parts : (p c : ℕ) (ps cs pattern end : List ℕ) (last : Bool) → pattern ≡ p ∷ ps → end ≡ c ∷ cs → last ≡ fits pattern cs → longer p c (fits ps end) (fits ps cs) last ≡ fits pattern end
of_parts p c ps cs pattern end last e f g = rw (g, e, f) (sym (fits_longer p c ps cs))

-- the end at a place, from the ends of the shorter pattern there and at the next, and from the end at the next
pub next_end :
    (pattern text : List ℕ) (p c at next k m : ℕ) (shorter : List Bool) (last d e : Bool)
    → 0 < length pattern → p ≡ get_or pattern 0 p → next ≡ at + 1 → at < length text → c ≡ get_or text at c
    → k + at ≡ length text → m + next ≡ length text → shorter ≡ by_length (fits (drop 1 pattern)) text → last ≡ fits pattern (drop next text)
    → longer p c (get_or shorter k d) (get_or shorter m e) last ≡ fits pattern (drop at text)
next_end pattern text p c at next k m shorter last d e some first n within is from_here from_next known before =
    rw (known, end_at (fits (drop 1 pattern)) text k at d from_here, end_at (fits (drop 1 pattern)) text m next e from_next)
    (of_parts p c (drop 1 pattern) (drop next text) pattern (drop at text) last (pattern_is pattern p some first) (end_is text c at next n within is) before)

pub told_next : (passes : List ℕ → Bool) (end cs : List ℕ) (c : ℕ) (b : Bool) → end ≡ c ∷ cs → b ≡ passes end → by_length passes cs ++ b ∷ [] ≡ by_length passes end
told_next passes end cs c b e g = rw g (rw e refl)

-- the empty end
pub first_end :
    (pattern text : List ℕ) (p : ℕ) (shorter : List Bool) (d : Bool)
    → 0 < length pattern → p ≡ get_or pattern 0 p → shorter ≡ by_length (fits (drop 1 pattern)) text
    → ((p == 37) && get_or shorter 0 d) ≡ fits pattern (drop (length text) text)
first_end pattern text p shorter d some first known =
    let end : get_or (by_length (fits (drop 1 pattern)) text) 0 d ≡ fits (drop 1 pattern) (drop (length text) text) = end_at (fits (drop 1 pattern)) text 0 (length text) d (omega arith) in
    let none : drop (length text) text ≡ [] = drop_all (length text) text (omega arith) in
    rw (known, end, none, pattern_is pattern p some first) (sym (fits_nothing p (drop 1 pattern)))

pub told_first : (passes : List ℕ → Bool) (text : List ℕ) (b : Bool) → b ≡ passes (drop (length text) text) → b ∷ [] ≡ by_length passes (drop (length text) text)
told_first passes text b g =
    let none : drop (length text) text ≡ [] = drop_all (length text) text (omega arith) in
    rw (g, none) refl

-- ---- no pattern

fits_neither : fits [] [] ≡ true
unfolding fits
fits_neither = refl

pub no_pattern_first : (text : List ℕ) → true ∷ [] ≡ by_length (fits []) (drop (length text) text)
no_pattern_first text =
    let none : drop (length text) text ≡ [] = drop_all (length text) text (omega arith) in
    rw (none, fits_neither) refl

pub no_pattern_next : (text : List ℕ) (at next : ℕ) → next ≡ at + 1 → at < length text → by_length (fits []) (drop next text) ++ false ∷ [] ≡ by_length (fits []) (drop at text)
no_pattern_next text at next n h =
    rw (n, drop_more text at 0 h) (rw (fits_no_pattern (get_or text at 0) (drop (at + 1) text)) refl)

-- the whole text and the whole pattern
pub end_whole : (pattern text : List ℕ) (at : ℕ) (d : Bool) (ends : List Bool) → at ≡ 0 → ends ≡ by_length (fits (drop at pattern)) text → get_or ends (length text) d ≡ fits pattern text
end_whole pattern text at d ends e told = rw (told, e) (end_at (fits pattern) text (length text) 0 d (omega arith))
