-- What stands between quotes in a text that is UTF-8 gives a text that is UTF-8. Each escape ends in an ASCII byte, and gives whole
-- characters; a character that isn't ASCII gives itself, byte by byte.
use Rattle.std.proofs.Common.{◌≡◌, ℕ, zero, suc, ◌+◌, ◌-◌, ◌^◌, ◌<◌, ◌≤◌, ◌⊎◌, inl, inr, Bool, true, false, nat_lt, List, [], ◌∷◌, ◌++◌, length, get_or, take, drop, codes, Option, Some, None, refl, ap, sym, subst, ◌∙◌, if◌then◌else◌, arith, get_or-drop, length-append, length-drop, append-nil}
use Rattle.std.specs.Prelude.{◌==◌, ◌||◌, encode_utf8, encode_utf8_all, slice_index, option_map, option_and_then}
use Rattle.std.specs.Char.{digit_value}
use Rattle.std.specs.Char.Utf16.{is_high_surrogate, is_low_surrogate, surrogate_pair_char}
use Rattle.std.specs.List.{AllByRecursion}
use Rattle.std.specs.Str.{IsUtf8, all_scalars, byte}
use Rattle.std.proofs.lemmas.Bool.{cases_lt, and_from, and_parts, cond_both, ltb-true}
use Rattle.std.proofs.lemmas.Bool.Decides.{nat_tests}
use Rattle.std.proofs.lemmas.Option.{cond_some, none-some, option_and_then_some}
use Rattle.std.proofs.lemmas.Str.{IsUtf8-append, IsUtf8-drop, IsUtf8-from_ascii, IsUtf8-from_is_utf8, IsUtf8-nil, IsUtf8-take, IsCharBoundary-after_ascii, IsCharBoundary-before_ascii, encode_ascii, inside_one, is_utf8-from_IsUtf8, len_utf8_bounds, length-encode}
use Rattle.ion_model.specs.Blanks.{begins}
use Rattle.ion_model.specs.Escapes.{Piece, piece, hex_digit, hex_pair, hex2, hex4, hex8, character, second_unit, paired, unit, line_end, letter, simple_escape, text_escape}
use Rattle.ion_model.specs.Texts.{before, may_stand, short, long, with_piece, pieces}
use Rattle.ion_model.specs.Laws.{GivesUtf8, TextsAreUtf8}

-- ---- answers that are there

guarded : {A : Type 0} (b : Bool) (x : Option A) (y : A) → (if b then x else None) ≡ Some y → x ≡ Some y
guarded true x y h = h
guarded false x y h = absurd (none-some y h)

mapped : {A B : Type 0} (f : A → B) (o : Option A) (y : B) → option_map f o ≡ Some y → (x : A) × (o ≡ Some x) × (f x ≡ y)
mapped f (Some x) y h = (x, refl, cc)
mapped f None y h = absurd (none-some y h)

some_same : {A : Type 0} (x y : A) → Some x ≡ Some y → x ≡ y
some_same x y h = cc

-- ---- what is read up to an ASCII byte

-- the count of the bytes, the last of which is ASCII
record UpTo (n : ℕ) (z : List ℕ) : Type 0 where
  within : n ≤ length z
  ascii : get_or z (n - 1) 0 < 128

digit_below : (b : ℕ) → digit_value b < 36 → b < 128
digit_below b h = grind (arith, nat_tests)

digit_ascii : (b d : ℕ) → hex_digit b ≡ Some d → b < 128
digit_ascii b d h =
    let is = cond_some (nat_lt (digit_value b) 16) (digit_value b) d h in
    let low : digit_value b < 16 = ltb-true (digit_value b) 16 is.0 in
    digit_below b (omega arith)

paired_up : (weight c : ℕ) (x y : Option ℕ) → hex_pair weight x y ≡ Some c → (low : ℕ) × (y ≡ Some low)
paired_up weight c (Some high) (Some low) h = (low, refl)
paired_up weight c (Some high) None h = absurd (none-some c h)
paired_up weight c None y h = absurd (none-some c h)

in_hex2 : (z : List ℕ) (c : ℕ) → hex2 z ≡ Some c → UpTo 2 z
in_hex2 [] c h = absurd (none-some c h)
in_hex2 (a ∷ []) c h = absurd (none-some c h)
in_hex2 (a ∷ b ∷ z) c h =
    let low = paired_up 16 c (hex_digit a) (hex_digit b) h in
    record { within = omega arith; ascii = digit_ascii b low.0 low.1 }

-- behind m bytes more
further : (n m : ℕ) (z : List ℕ) → 0 < n → UpTo n (drop m z) → UpTo (m + n) z
further n m z some h =
    record {
      within = omega (arith, h.within, length-drop m z);
      ascii = subst (λ (b : ℕ). b < 128) (get_or-drop m z (n - 1) 0 ∙ ap (λ (k : ℕ). get_or z k 0) (omega arith)) h.ascii;
    }

in_hex4 : (z : List ℕ) (c : ℕ) → hex4 z ≡ Some c → UpTo 4 z
in_hex4 z c h =
    let low = paired_up (16 ^ 2) c (hex2 z) (hex2 (drop 2 z)) h in
    further 2 2 z (omega arith) (in_hex2 (drop 2 z) low.0 low.1)

in_hex8 : (z : List ℕ) (c : ℕ) → hex8 z ≡ Some c → UpTo 8 z
in_hex8 z c h =
    let low = paired_up (16 ^ 4) c (hex4 z) (hex4 (drop 4 z)) h in
    further 4 4 z (omega arith) (in_hex4 (drop 4 z) low.0 low.1)

-- ---- escapes

-- it ends in an ASCII byte, and gives whole characters
record Escape (z : List ℕ) (p : Piece) : Type 0 where
  some : 0 < p.more
  up : UpTo p.more z
  gives : IsUtf8 p.gives

character_utf8 : (more code : ℕ) (p : Piece) → character more code ≡ Some p → (p.more ≡ more) × IsUtf8 p.gives
character_utf8 more code p h =
    let is = cond_some (all_scalars (code ∷ [])) (piece more (encode_utf8 code)) p h in (
      ap (λ (q : Piece). q.more) (sym is.1),
      subst (λ (q : Piece). IsUtf8 q.gives) is.1 (code ∷ [], (is.0, append-nil (encode_utf8 code))),
    )

-- a character by its code, whose n digits and marks stand behind the byte e
by_code : (n e code : ℕ) (z : List ℕ) (p : Piece) → 0 < n → UpTo n z → character (n + 1) code ≡ Some p → Escape (e ∷ z) p
by_code n e code z p some up h =
    let is = character_utf8 (n + 1) code p h in
    let same : 1 + n ≡ p.more = omega (arith, is.0) in
    record { some = omega arith; up = subst (λ (k : ℕ). UpTo k (e ∷ z)) same (further n 1 (e ∷ z) some up); gives = is.1 }

second_up : (z : List ℕ) (low : ℕ) → second_unit z ≡ Some low → UpTo 6 z
second_up [] low h = absurd (none-some low h)
second_up (a ∷ []) low h = absurd (none-some low h)
second_up (a ∷ b ∷ z) low h = further 4 2 (a ∷ b ∷ z) (omega arith) (in_hex4 z low (guarded _ (hex4 z) low h))

by_unit : (e code : ℕ) (z : List ℕ) (p : Piece) → hex4 z ≡ Some code → unit (drop 4 z) code ≡ Some p → Escape (e ∷ z) p
by_unit e code z p is =
    cond_both (is_high_surrogate code) (option_and_then (paired code) (second_unit (drop 4 z))) (character 5 code) (λ (o : Option Piece). o ≡ Some p → Escape (e ∷ z) p)
    (λ _ h. option_and_then_some (paired code) (second_unit (drop 4 z)) p h (λ low second made.
    by_code 10 e (surrogate_pair_char code low) z p (omega arith) (further 6 4 z (omega arith) (second_up (drop 4 z) low second))
    (guarded (is_low_surrogate low) (character 11 (surrogate_pair_char code low)) p made)))
    (λ _ h. by_code 4 e code z p (omega arith) (in_hex4 z code is) h)

at_single : (c : ℕ) → c < 128 → (i : ℕ) → slice_index (c ∷ []) i < 128
at_single c h zero = h
at_single c h (suc i) = omega arith

single : (c : ℕ) → c < 128 → IsUtf8 (c ∷ [])
single c h = IsUtf8-from_ascii (c ∷ []) (at_single c h)

abbrev AreAscii : ℕ → ℕ → Type 0
AreAscii e c = (e < 128) × (c < 128)

either : (e k v c : ℕ) (rest : Option ℕ) → k < 128 → v < 128 → (rest ≡ Some c → AreAscii e c)
    → (if e == k then Some v else rest) ≡ Some c → AreAscii e c
either e k v c rest low small h =
    cond_both (e == k) (Some v) rest (λ (o : Option ℕ). o ≡ Some c → AreAscii e c)
    (λ same is. (grind (arith, nat_tests), grind arith)) (λ _ is. h is)

mark_ascii : (e : ℕ) → (e == byte "\"" || e == byte "'" || e == byte "?" || e == byte "\\" || e == byte "/") ≡ true → e < 128
mark_ascii e h = grind (arith, nat_tests)

letter_ascii : (e c : ℕ) → letter e ≡ Some c → AreAscii e c
letter_ascii e c =
    either e (byte "a") 7 c _ (omega arith) (omega arith)
    (either e (byte "b") 8 c _ (omega arith) (omega arith)
    (either e (byte "t") 9 c _ (omega arith) (omega arith)
    (either e (byte "n") 10 c _ (omega arith) (omega arith)
    (either e (byte "f") 12 c _ (omega arith) (omega arith)
    (either e (byte "r") 13 c _ (omega arith) (omega arith)
    (either e (byte "v") 11 c _ (omega arith) (omega arith)
    (either e (byte "0") 0 c _ (omega arith) (omega arith)
    (λ h.
    let is = cond_some (e == byte "\"" || e == byte "'" || e == byte "?" || e == byte "\\" || e == byte "/") e c h in
    (mark_ascii e is.0, subst (λ (b : ℕ). b < 128) is.1 (mark_ascii e is.0))))))))))

feed_up : (e : ℕ) (z : List ℕ) → slice_index z 0 ≡ 10 → UpTo 2 (e ∷ z)
feed_up e [] h = absurd (omega arith)
feed_up e (b ∷ z) h = record { within = omega arith; ascii = omega arith }

line_up : (e : ℕ) (z : List ℕ) → 0 < line_end (e ∷ z) → UpTo (line_end (e ∷ z)) (e ∷ z)
line_up e z =
    cond_both (e == 13) (if slice_index z 0 == 10 then 2 else 1) (if e == 10 then 1 else 0) (λ (n : ℕ). 0 < n → UpTo n (e ∷ z))
    (λ cr.
    cond_both (slice_index z 0 == 10) 2 1 (λ (n : ℕ). 0 < n → UpTo n (e ∷ z))
    (λ lf _. feed_up e z (grind (arith, nat_tests)))
    (λ _ _. record { within = omega arith; ascii = grind (arith, nat_tests) }))
    (λ _.
    cond_both (e == 10) 1 0 (λ (n : ℕ). 0 < n → UpTo n (e ∷ z))
    (λ lf _. record { within = omega arith; ascii = grind (arith, nat_tests) })
    (λ _ none. absurd (omega arith)))

by_letter : (e : ℕ) (z : List ℕ) (p : Piece) → option_map (λ c. piece 1 (c ∷ [])) (letter e) ≡ Some p → Escape (e ∷ z) p
by_letter e z p h =
    let is = mapped (λ (c : ℕ). piece 1 (c ∷ [])) (letter e) p h in
    let low = letter_ascii e is.0 is.1 in
    subst (Escape (e ∷ z)) is.2 (record { some = omega arith; up = record { within = omega arith; ascii = low.0 }; gives = single is.0 low.1 })

by_simple : (e : ℕ) (z : List ℕ) (p : Piece) → simple_escape (e ∷ z) ≡ Some p → Escape (e ∷ z) p
by_simple e z p =
    cond_both (line_end (e ∷ z) == 0) (option_map (λ c. piece 1 (c ∷ [])) (letter e)) (Some (piece (line_end (e ∷ z)) []))
    (λ (o : Option Piece). o ≡ Some p → Escape (e ∷ z) p)
    (λ _ h. by_letter e z p h)
    (λ other h.
    let some : 0 < line_end (e ∷ z) = grind (arith, nat_tests) in
    let made : Escape (e ∷ z) (piece (line_end (e ∷ z)) []) = record { some = some; up = line_up e z some; gives = IsUtf8-nil } in
    subst (Escape (e ∷ z)) (some_same (piece (line_end (e ∷ z)) []) p h) made)

escaped : (z : List ℕ) (p : Piece) → text_escape z ≡ Some p → Escape z p
escaped [] p = λ h. absurd (none-some p h)
escaped (e ∷ z) p =
    cond_both (e == byte "x") (option_and_then (character 3) (hex2 z)) _ (λ (o : Option Piece). o ≡ Some p → Escape (e ∷ z) p)
    (λ _ h. option_and_then_some (character 3) (hex2 z) p h (λ code is made. by_code 2 e code z p (omega arith) (in_hex2 z code is) made))
    (λ _.
    cond_both (e == byte "u") (option_and_then (unit (drop 4 z)) (hex4 z)) _ (λ (o : Option Piece). o ≡ Some p → Escape (e ∷ z) p)
    (λ _ h. option_and_then_some (unit (drop 4 z)) (hex4 z) p h (λ code is made. by_unit e code z p is made))
    (λ _.
    cond_both (e == byte "U") (option_and_then (character 9) (hex8 z)) (simple_escape (e ∷ z)) (λ (o : Option Piece). o ≡ Some p → Escape (e ∷ z) p)
    (λ _ h. option_and_then_some (character 9) (hex8 z) p h (λ code is made. by_code 8 e code z p (omega arith) (in_hex8 z code is) made))
    (λ _ h. by_simple e z p h)))

-- ---- pieces

pieces_behind : (front : ℕ → List ℕ → Option Piece) (left : ℕ) (z : List ℕ) → pieces front left z ≡ pieces front 0 (drop left z)
pieces_behind front zero z = refl
pieces_behind front (suc left) [] = refl
pieces_behind front (suc left) (b ∷ z) = pieces_behind front left z

-- a byte that isn't ASCII gives itself; an ASCII byte gives whole characters, and ends its piece with an ASCII byte
record Whole (front : ℕ → List ℕ → Option Piece) : Type 0 where
  high : (b : ℕ) (z : List ℕ) → 128 ≤ b → front b z ≡ Some (piece 0 (b ∷ []))
  low : (b : ℕ) (z : List ℕ) (p : Piece) → b < 128 → IsUtf8 z → front b z ≡ Some p → IsUtf8 p.gives × IsUtf8 (drop p.more z)

-- the first piece of a text, and what the rest gives
record Begun (rest : ℕ → Option (List ℕ)) (found : Option Piece) (text : List ℕ) : Type 0 where
  first : Piece
  behind : List ℕ
  is : found ≡ Some first
  more : rest first.more ≡ Some behind
  all : first.gives ++ behind ≡ text

begun : (rest : ℕ → Option (List ℕ)) (found : Option Piece) (text : List ℕ) → with_piece rest found ≡ Some text → Begun rest found text
begun rest None text h = absurd (none-some text h)
begun rest (Some p) text h =
    let given = mapped (λ (bytes : List ℕ). p.gives ++ bytes) (rest p.more) text h in
    record { first = p; behind = given.0; is = refl; more = given.1; all = given.2 }

abbrev AreHigh : List ℕ → Type 0
AreHigh bytes = AllByRecursion (λ b. 128 ≤ b) bytes

high_pieces : (front : ℕ → List ℕ → Option Piece) → Whole front → (bytes z text : List ℕ) → AreHigh bytes → pieces front 0 (bytes ++ z) ≡ Some text
    → (behind : List ℕ) × (pieces front 0 z ≡ Some behind) × (bytes ++ behind ≡ text)
high_pieces front w [] z text high h = (text, h, refl)
high_pieces front w (b ∷ bytes) z text high h =
    let rest : ℕ → Option (List ℕ) = λ more. pieces front more (bytes ++ z) in
    let itself = mapped (λ (given : List ℕ). b ∷ given) (pieces front 0 (bytes ++ z)) text
    (subst (λ (o : Option Piece). with_piece rest o ≡ Some text) (w.high b (bytes ++ z) high.0) h) in
    let more = high_pieces front w bytes z itself.0 high.1 itself.1 in
    (more.0, more.1, ap (λ (given : List ℕ). b ∷ given) more.2 ∙ itself.2)

each_high : (bytes : List ℕ) → ((k : ℕ) → k < length bytes → 128 ≤ get_or bytes k 0) → AreHigh bytes
each_high [] h = tt
each_high (b ∷ bytes) h = (h 0 (omega arith), each_high bytes (λ k within. h (suc k) (omega arith)))

encode_high : (c : ℕ) → 128 ≤ c → AreHigh (encode_utf8 c)
encode_high c above =
    each_high (encode_utf8 c) (λ k within. elim (cases_lt (get_or (encode_utf8 c) k 0) 128) [
      | inl low ↦ absurd (omega (arith, inside_one c [] (encode_utf8 c) k (sym (append-nil (encode_utf8 c))) within low))
      | inr high ↦ high
    ])

abbrev Shorter : (ℕ → List ℕ → Option Piece) → ℕ → Type 0
Shorter front n = (z text : List ℕ) → length z < n → IsUtf8 z → pieces front 0 z ≡ Some text → IsUtf8 text

by_low : (front : ℕ → List ℕ → Option Piece) → Whole front → (n b : ℕ) (z text : List ℕ) → Shorter front n → b < 128 → length z < n → IsUtf8 z
    → pieces front 0 (b ∷ z) ≡ Some text → IsUtf8 text
by_low front w n b z text shorter low within utf8 h =
    let first = begun (λ more. pieces front more z) (front b z) text h in
    let given = w.low b z first.first low utf8 first.is in
    let rest = shorter (drop first.first.more z) first.behind (omega (arith, length-drop first.first.more z)) given.1
    (sym (pieces_behind front first.first.more z) ∙ first.more) in
    subst IsUtf8 first.all (IsUtf8-append first.first.gives first.behind given.0 rest)

by_high : (front : ℕ → List ℕ → Option Piece) → Whole front → (n c : ℕ) (z text : List ℕ) → Shorter front n → 128 ≤ c → IsUtf8 (encode_utf8 c)
    → length (encode_utf8 c ++ z) ≤ n → IsUtf8 z → pieces front 0 (encode_utf8 c ++ z) ≡ Some text → IsUtf8 text
by_high front w n c z text shorter high char within utf8 h =
    let more = high_pieces front w (encode_utf8 c) z text (encode_high c high) h in
    let rest = shorter z more.0 (omega (arith, length-append (encode_utf8 c) z, length-encode c, len_utf8_bounds c)) utf8 more.1 in
    subst IsUtf8 more.2 (IsUtf8-append (encode_utf8 c) more.0 char rest)

by_char : (front : ℕ → List ℕ → Option Piece) → Whole front → (n : ℕ) (cs text : List ℕ) → Shorter front n → all_scalars cs ≡ true
    → length (encode_utf8_all cs) ≤ n → pieces front 0 (encode_utf8_all cs) ≡ Some text → IsUtf8 text
by_char front w n [] text shorter scalars within h = subst IsUtf8 (some_same [] text h) IsUtf8-nil
by_char front w n (c ∷ cs) text shorter scalars within h =
    let parts = and_parts _ (all_scalars cs) scalars in
    let rest : IsUtf8 (encode_utf8_all cs) = (cs, (parts.1, refl)) in
    elim (cases_lt c 128) [
      | inl low ↦
          let same : encode_utf8_all (c ∷ cs) ≡ c ∷ encode_utf8_all cs = ap (λ (bytes : List ℕ). bytes ++ encode_utf8_all cs) (encode_ascii c low) in
          by_low front w n c (encode_utf8_all cs) text shorter low
          (omega (arith, ap length same, within)) rest
          (subst (λ (z : List ℕ). pieces front 0 z ≡ Some text) same h)
      | inr high ↦
          let char : IsUtf8 (encode_utf8 c) = (c ∷ [], (and_from _ true parts.0 refl, append-nil (encode_utf8 c))) in
          by_high front w n c (encode_utf8_all cs) text shorter high char within rest h
    ]

pieces_utf8 : (front : ℕ → List ℕ → Option Piece) → Whole front → (n : ℕ) → Shorter front n
pieces_utf8 front w zero z text within utf8 h = absurd (omega arith)
pieces_utf8 front w (suc n) z text within utf8 h =
    by_char front w n utf8.0 text (pieces_utf8 front w n) utf8.1.0 (omega (arith, ap length utf8.1.1, within))
    (subst (λ (bytes : List ℕ). pieces front 0 bytes ≡ Some text) (sym utf8.1.1) h)

-- ---- the two ways of reading

behind_escape : (z : List ℕ) (p : Piece) → IsUtf8 z → text_escape z ≡ Some p → IsUtf8 p.gives × IsUtf8 (drop p.more z)
behind_escape z p utf8 h =
    let e = escaped z p h in
    let boundary = IsCharBoundary-after_ascii z (p.more - 1) utf8 (omega (arith, e.some, e.up.within)) e.up.ascii in
    let same : p.more - 1 + 1 ≡ p.more = omega (arith, e.some) in
    (e.gives, subst (λ (k : ℕ). IsUtf8 (drop k z)) same (IsUtf8-drop z (p.more - 1 + 1) utf8 boundary))

short_whole : Whole (short text_escape)
short_whole = record {
  high = λ b z high. grind (arith, nat_tests);
  low = λ b z p low utf8. cond_both (b == byte "\\") (text_escape z) (if may_stand b then Some (piece 0 (b ∷ [])) else None)
      (λ (o : Option Piece). o ≡ Some p → IsUtf8 p.gives × IsUtf8 (drop p.more z))
      (λ _ h. behind_escape z p utf8 h)
      (λ _ h. let is = cond_some (may_stand b) (piece 0 (b ∷ [])) p h in
      subst (λ (q : Piece). IsUtf8 q.gives × IsUtf8 (drop q.more z)) is.1 (single b low, utf8));
}

line_end_high : (b : ℕ) (z : List ℕ) → 128 ≤ b → line_end (b ∷ z) ≡ 0
line_end_high b z high = grind (arith, nat_tests)

long_high : (b : ℕ) (z : List ℕ) → 128 ≤ b → long text_escape b z ≡ Some (piece 0 (b ∷ []))
long_high b z high =
    let plain : (b == byte "\\") ≡ false = grind (arith, nat_tests) in
    rw (plain, line_end_high b z high) refl

-- behind a line's end
behind_line : (b : ℕ) (z : List ℕ) → IsUtf8 z → 0 < line_end (b ∷ z) → IsUtf8 (drop (line_end (b ∷ z) - 1) z)
behind_line b z utf8 =
    cond_both (b == 13) (if slice_index z 0 == 10 then 2 else 1) (if b == 10 then 1 else 0) (λ (n : ℕ). 0 < n → IsUtf8 (drop (n - 1) z))
    (λ _.
    cond_both (slice_index z 0 == 10) 2 1 (λ (n : ℕ). 0 < n → IsUtf8 (drop (n - 1) z))
    (λ lf _. behind_feed z utf8 (grind (arith, nat_tests))) (λ _ _. utf8))
    (λ _. cond_both (b == 10) 1 0 (λ (n : ℕ). 0 < n → IsUtf8 (drop (n - 1) z)) (λ _ _. utf8) (λ _ none. absurd (omega arith)))
  where
    behind_feed : (z : List ℕ) → IsUtf8 z → slice_index z 0 ≡ 10 → IsUtf8 (drop 1 z)
    behind_feed [] utf8 lf = absurd (omega arith)
    behind_feed (c ∷ z) utf8 lf = IsUtf8-drop (c ∷ z) 1 utf8 (IsCharBoundary-after_ascii (c ∷ z) 0 utf8 (omega arith) (omega arith))

long_low : (b : ℕ) (z : List ℕ) (p : Piece) → b < 128 → IsUtf8 z → long text_escape b z ≡ Some p → IsUtf8 p.gives × IsUtf8 (drop p.more z)
long_low b z p low utf8 =
    cond_both (b == byte "\\") (text_escape z) _ (λ (o : Option Piece). o ≡ Some p → IsUtf8 p.gives × IsUtf8 (drop p.more z))
    (λ _ h. behind_escape z p utf8 h)
    (λ _.
    cond_both (line_end (b ∷ z) == 0) (Some (piece 0 (b ∷ []))) (Some (piece (line_end (b ∷ z) - 1) (10 ∷ [])))
    (λ (o : Option Piece). o ≡ Some p → IsUtf8 p.gives × IsUtf8 (drop p.more z))
    (λ _ h. made (piece 0 (b ∷ [])) p h (single b low, utf8))
    (λ other h.
    let some : 0 < line_end (b ∷ z) = grind (arith, nat_tests) in
    made (piece (line_end (b ∷ z) - 1) (10 ∷ [])) p h (single 10 (omega arith), behind_line b z utf8 some)))
  where
    made : (x y : Piece) → Some x ≡ Some y → IsUtf8 x.gives × IsUtf8 (drop x.more z) → IsUtf8 y.gives × IsUtf8 (drop y.more z)
    made x y h is = subst (λ (q : Piece). IsUtf8 q.gives × IsUtf8 (drop q.more z)) (some_same x y h) is

long_whole : Whole (long text_escape)
long_whole = record { high = long_high; low = long_low }

-- ---- where the closing quotes stand

begins_with : (q b : ℕ) (qs z : List ℕ) → begins (q ∷ qs) (b ∷ z) ≡ true → b ≡ q
begins_with q b qs z h = grind (arith, nat_tests)

quote_at : (q : ℕ) (qs : List ℕ) (hidden : Bool) (z : List ℕ) (len : ℕ) → before (q ∷ qs) hidden z ≡ Some len → (len < length z) × (get_or z len 0 ≡ q)
quote_at q qs hidden [] len = λ h. absurd (none-some len h)
quote_at q qs true (b ∷ z) len = λ h.
    let is = mapped suc (before (q ∷ qs) false z) len h in
    let at = quote_at q qs false z is.0 is.1 in
    subst (λ (k : ℕ). (k < length (b ∷ z)) × (get_or (b ∷ z) k 0 ≡ q)) is.2 (omega (arith, at.0), at.1)
quote_at q qs false (b ∷ z) len =
    cond_both (begins (q ∷ qs) (b ∷ z)) (Some 0) (option_map suc (before (q ∷ qs) (b == byte "\\") z))
    (λ (o : Option ℕ). o ≡ Some len → (len < length (b ∷ z)) × (get_or (b ∷ z) len 0 ≡ q))
    (λ front h. subst (λ (k : ℕ). (k < length (b ∷ z)) × (get_or (b ∷ z) k 0 ≡ q)) (some_same 0 len h) (omega arith, begins_with q b qs z front))
    (λ _ h.
    let is = mapped suc (before (q ∷ qs) (b == byte "\\") z) len h in
    let at = quote_at q qs (b == byte "\\") z is.0 is.1 in
    subst (λ (k : ℕ). (k < length (b ∷ z)) × (get_or (b ∷ z) k 0 ≡ q)) is.2 (omega (arith, at.0), at.1))

gives_utf8 : (q : ℕ) (qs : List ℕ) (front : ℕ → List ℕ → Option Piece) → q < 128 → Whole front → GivesUtf8 (q ∷ qs) front
gives_utf8 q qs front ascii w z text len utf8 found h =
    let at = quote_at q qs false z len found in
    let whole = IsUtf8-from_is_utf8 z utf8 in
    let front_utf8 = IsUtf8-take z len whole (IsCharBoundary-before_ascii z len at.0 (omega (arith, at.1, ascii))) in
    is_utf8-from_IsUtf8 text (pieces_utf8 front w (suc (length (take len z))) (take len z) text (omega arith) front_utf8 h)

pub texts_are_utf8 : TextsAreUtf8
texts_are_utf8 = (
  gives_utf8 34 [] (short text_escape) (omega arith) short_whole,
  gives_utf8 39 [] (short text_escape) (omega arith) short_whole,
  gives_utf8 39 (39 ∷ 39 ∷ []) (long text_escape) (omega arith) long_whole,
)
