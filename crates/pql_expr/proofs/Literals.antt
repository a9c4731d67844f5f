-- Patterns that begin or end with a character other than a percent sign.
use Rattle.std.proofs.Common.{◌≡◌, ℕ, ◌+◌, ◌<◌, ◌==◌, ◌&&◌, ◌||◌, Bool, true, false, true≢false, if◌then◌else◌, List, [], ◌∷◌, ◌++◌, length, take, drop, get_or, refl, sym, ap, ◌∙◌, arith}
use Rattle.std.proofs.lemmas.List.{take_more}
use Rattle.pql_model.specs.Texts.{fits, is_empty, one_taken, some_end}
use Rattle.pql_expr.specs.Ends.{takes}
use Rattle.pql_expr.proofs.Ends.{end_is, fits_nothing}

and_false : (b : Bool) → (b && false) ≡ false
and_false true = refl
and_false false = refl

or_true : (b : Bool) → (b || true) ≡ true
or_true true = refl
or_true false = refl

-- ---- at the front

off :
    (b : Bool) (f : List ℕ → Bool) (k : ℕ → Bool) (text : List ℕ) → b ≡ false
    → (if b then some_end f text else one_taken k f text) ≡ one_taken k f text
off true f k text other = absurd (true≢false other)
off false f k text other = refl

pub fits_taken : (p c : ℕ) (ps cs : List ℕ) → (p == 37) ≡ false → fits (p ∷ ps) (c ∷ cs) ≡ (takes p c && fits ps cs)
unfolding fits
fits_taken p c ps cs other = off (p == 37) (fits ps) (λ d. (p == 95) || (p == d)) (c ∷ cs) other

pub fits_stops : (p : ℕ) (ps : List ℕ) → (p == 37) ≡ false → fits (p ∷ ps) [] ≡ false
unfolding fits
fits_stops p ps other = off (p == 37) (fits ps) (λ d. (p == 95) || (p == d)) [] other

parted :
    (p c : ℕ) (ps cs pattern text : List ℕ) (b : Bool) → pattern ≡ p ∷ ps → text ≡ c ∷ cs → (p == 37) ≡ false → takes p c ≡ b
    → fits pattern text ≡ (b && fits ps cs)
parted p c ps cs pattern text b e f other is = rw (e, f) (fits_taken p c ps cs other ∙ ap (λ t. t && fits ps cs) is)

-- whether the characters at a place agree decides, or those behind do
pub front_step :
    (pattern text : List ℕ) (p c at next : ℕ) (b : Bool)
    → next ≡ at + 1 → at < length pattern → p ≡ get_or pattern at p → at < length text → c ≡ get_or text at c
    → (p == 37) ≡ false → takes p c ≡ b → fits (drop at pattern) (drop at text) ≡ (b && fits (drop next pattern) (drop next text))
front_step pattern text p c at next b n within is short so other told =
    parted p c (drop next pattern) (drop next text) (drop at pattern) (drop at text) b (end_is pattern p at next n within is) (end_is text c at next n short so) other told

-- no text is left
pub front_stop :
    (pattern rest : List ℕ) (p at : ℕ) → at < length pattern → p ≡ get_or pattern at p → (p == 37) ≡ false → rest ≡ []
    → fits (drop at pattern) rest ≡ false
front_stop pattern rest p at within is other none = rw (none, end_is pattern p at (at + 1) refl within is) (fits_stops p (drop (at + 1) pattern) other)

-- ---- at the back

fits_empty : (text : List ℕ) → fits [] text ≡ is_empty text
unfolding fits
fits_empty text = refl

is_some : (cs : List ℕ) (c : ℕ) → is_empty (cs ++ c ∷ []) ≡ false
is_some [] c = refl
is_some (d ∷ ds) c = refl

-- a pattern's last character takes something
stops_last : (p : ℕ) (ps : List ℕ) → (p == 37) ≡ false → fits (ps ++ p ∷ []) [] ≡ false
stops_last p [] other = fits_stops p [] other
stops_last p (q ∷ qs) other =
    fits_nothing q (qs ++ p ∷ []) ∙ ap (λ b. (q == 37) && b) (stops_last p qs other) ∙ and_false (q == 37)

alone : (p c : ℕ) (cs : List ℕ) → (p == 37) ≡ false → fits (p ∷ []) (cs ++ c ∷ []) ≡ (takes p c && is_empty cs)
alone p c [] other = fits_taken p c [] [] other ∙ ap (λ b. takes p c && b) (fits_empty [])
alone p c (d ∷ ds) other =
    fits_taken p d [] (ds ++ c ∷ []) other ∙ ap (λ b. takes p d && b) (fits_empty (ds ++ c ∷ []) ∙ is_some ds c)
    ∙ and_false (takes p d) ∙ sym (and_false (takes p c))

first_or : (t a : Bool) → ((t && a) || false) ≡ (t && a)
first_or true true = refl
first_or true false = refl
first_or false a = refl

both_or : (t a b : Bool) → ((t && a) || (t && b)) ≡ (t && (a || b))
both_or true a b = refl
both_or false a b = refl

either : (a b c d : Bool) → a ≡ c → b ≡ d → (a || b) ≡ (c || d)
either a b c d e f = rw (e, f) refl

swapped : (k t a : Bool) → (k && (t && a)) ≡ (t && (k && a))
swapped true true a = refl
swapped true false a = refl
swapped false true a = refl
swapped false false a = refl

-- f passes what ends with c where t holds and g passes what is before it
module _ (f g : List ℕ → Bool) (t : Bool) (c : ℕ) (none : f [] ≡ false) (more : (cs : List ℕ) → f (cs ++ c ∷ []) ≡ (t && g cs)) where
  runs_last : (cs : List ℕ) → some_end f (cs ++ c ∷ []) ≡ (t && some_end g cs)
  runs_last [] = either (f (c ∷ [])) (f []) (t && g []) false (more []) none ∙ first_or t (g [])
  runs_last (d ∷ ds) =
      either (f (d ∷ ds ++ c ∷ [])) (some_end f (ds ++ c ∷ [])) (t && g (d ∷ ds)) (t && some_end g ds) (more (d ∷ ds)) (runs_last ds)
      ∙ both_or t (g (d ∷ ds)) (some_end g ds)

  taken_last : (k : ℕ → Bool) (cs : List ℕ) → one_taken k f (cs ++ c ∷ []) ≡ (t && one_taken k g cs)
  taken_last k [] = ap (λ b. k c && b) none ∙ and_false (k c) ∙ sym (and_false t)
  taken_last k (d ∷ ds) = ap (λ b. k d && b) (more ds) ∙ swapped (k d) t (g ds)

  begun_last :
      (b : Bool) (k : ℕ → Bool) (cs : List ℕ)
      → (if b then some_end f (cs ++ c ∷ []) else one_taken k f (cs ++ c ∷ [])) ≡ (t && (if b then some_end g cs else one_taken k g cs))
  begun_last true k cs = runs_last cs
  begun_last false k cs = taken_last k cs

fits_begun :
    (q : ℕ) (qs text : List ℕ)
    → fits (q ∷ qs) text ≡ (if q == 37 then some_end (fits qs) text else one_taken (λ d. (q == 95) || (q == d)) (fits qs) text)
unfolding fits
fits_begun q qs text = refl

pub fits_last : (p c : ℕ) (ps cs : List ℕ) → (p == 37) ≡ false → fits (ps ++ p ∷ []) (cs ++ c ∷ []) ≡ (takes p c && fits ps cs)
fits_last p c [] cs other = alone p c cs other ∙ ap (λ b. takes p c && b) (sym (fits_empty cs))
fits_last p c (q ∷ qs) cs other =
    fits_begun q (qs ++ p ∷ []) (cs ++ c ∷ [])
    ∙ begun_last (fits (qs ++ p ∷ [])) (fits qs) (takes p c) c (stops_last p qs other) (λ ds. fits_last p c qs ds other) (q == 37) (λ d. (q == 95) || (q == d)) cs
    ∙ ap (λ b. takes p c && b) (sym (fits_begun q qs cs))

start_is : (xs : List ℕ) (x at next : ℕ) → next ≡ at + 1 → at < length xs → x ≡ get_or xs at x → take next xs ≡ take at xs ++ x ∷ []
start_is xs x at next n h e = rw n (take_more xs at x h ∙ ap (λ y. take at xs ++ y ∷ []) (sym e))

ended :
    (p c : ℕ) (ps cs pattern text : List ℕ) (b : Bool) → pattern ≡ ps ++ p ∷ [] → text ≡ cs ++ c ∷ [] → (p == 37) ≡ false → takes p c ≡ b
    → fits pattern text ≡ (b && fits ps cs)
ended p c ps cs pattern text b e f other is = rw (e, f) (fits_last p c ps cs other ∙ ap (λ t. t && fits ps cs) is)

-- whether the last characters agree decides, or those before do
pub back_step :
    (pattern text : List ℕ) (p c left next at before : ℕ) (b : Bool)
    → left ≡ next + 1 → next < length pattern → p ≡ get_or pattern next p → at ≡ before + 1 → before < length text → c ≡ get_or text before c
    → (p == 37) ≡ false → takes p c ≡ b → fits (take left pattern) (take at text) ≡ (b && fits (take next pattern) (take before text))
back_step pattern text p c left next at before b n within is m short so other told =
    ended p c (take next pattern) (take before text) (take left pattern) (take at text) b (start_is pattern p next left n within is) (start_is text c before at m short so) other told

pub back_stop :
    (pattern rest : List ℕ) (p left next : ℕ) → left ≡ next + 1 → next < length pattern → p ≡ get_or pattern next p → (p == 37) ≡ false → rest ≡ []
    → fits (take left pattern) rest ≡ false
back_stop pattern rest p left next n within is other none = rw (none, start_is pattern p next left n within is) (stops_last p (take next pattern) other)

-- ---- no pattern, and a percent sign alone

pub fits_no_pattern : (pattern text : List ℕ) → length pattern < 1 → fits pattern text ≡ is_empty text
fits_no_pattern [] text none = fits_empty text
fits_no_pattern (p ∷ ps) text none = absurd (omega arith)

some_passes : (text : List ℕ) → some_end (fits []) text ≡ true
some_passes [] = fits_empty []
some_passes (c ∷ cs) = ap (λ b. fits [] (c ∷ cs) || b) (some_passes cs) ∙ or_true (fits [] (c ∷ cs))

on : (b x y : Bool) → b ≡ true → (if b then x else y) ≡ x
on true x y is = refl
on false x y is = absurd (true≢false (sym is))

pub fits_any :
    (pattern text : List ℕ) (p : ℕ) → length pattern ≡ 1 → p ≡ get_or pattern 0 p → (p == 37) ≡ true → fits pattern text ≡ true
fits_any [] text p one is any = absurd (omega arith)
fits_any (q ∷ []) text p one is any =
    fits_begun q [] text ∙ on (q == 37) (some_end (fits []) text) (one_taken (λ d. (q == 95) || (q == d)) (fits []) text) (ap (λ d. d == 37) (sym is) ∙ any)
    ∙ some_passes text
fits_any (q ∷ r ∷ rs) text p one is any = absurd (omega arith)
