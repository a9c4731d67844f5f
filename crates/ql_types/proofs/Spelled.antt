-- The number that an id's text spells is the number of the id.
use Rattle.std.proofs.Common.{◌≡◌, ◌∙◌, ◌≢◌, ℕ, zero, suc, ◌+◌, ◌-◌, ◌*◌, ◌/◌, ◌%◌, ◌^◌, ◌<◌, ◌≤◌, Bool, true, false, List, [], ◌∷◌, ◌++◌, length, get_or, Option, Some, None, arith, refl, sym, ap, subst, MatchOption, if◌then◌else◌}
use Rattle.std.proofs.Math.Nat.{pow-suc}
use Rattle.std.proofs.lemmas.Bool.Decides.{nat_tests}
use Rattle.std.proofs.lemmas.List.{get_or_append_left, get_or-append_right}
use Rattle.std.specs.Prelude.{nat_lt, ◌==◌, fold, option_map, option_and_then}
use Rattle.ql_types.specs.Ids.{alphabet, digits_of, id_text, value_of, values_of, fitting, spelled, id_in}
use Rattle.ql_types.proofs.Digits.{length-digits_of}

-- what digits spell behind others that spell `number`, with the bound tested at each digit
abbrev pub within : ℕ → (ℕ → Option ℕ) → Option ℕ
within number rest = if nat_lt number (2 ^ 128) then rest number else None

abbrev pub behind : ℕ → Option ℕ → (ℕ → Option ℕ) → Option ℕ
behind number None rest = None
behind number (Some digit) rest = within (number * 62 + digit) rest

unfoldable pub spelled_behind : ℕ → List ℕ → Option ℕ
spelled_behind number [] = Some number
spelled_behind number (byte ∷ bytes) = behind number (value_of byte) (λ more. spelled_behind more bytes)

-- the number of digits with these values behind others, where it fits
abbrev number_behind : ℕ → List ℕ → ℕ
number_behind number values = fold (λ number value. number * 62 + value) number values

abbrev read_behind : ℕ → Option (List ℕ) → Option ℕ
read_behind number values = option_and_then (λ values. fitting (number_behind number values)) values

-- digits behind others don't make their number less
number_behind-ge : (values : List ℕ) (number : ℕ) → number ≤ number_behind number values
number_behind-ge [] number = omega arith
number_behind-ge (value ∷ values) number = let h = number_behind-ge values (number * 62 + value) in omega (arith, h)

-- so a front part that is too large makes the whole too large
too_large : (values : Option (List ℕ)) (number : ℕ) → nat_lt number (2 ^ 128) ≡ false → read_behind number values ≡ None
too_large None number over = refl
too_large (Some values) number over =
    let h = number_behind-ge values number in
    let all : nat_lt (number_behind number values) (2 ^ 128) ≡ false = grind (arith, nat_tests, h) in
    rw all refl

one_value : (values : Option (List ℕ)) (number value : ℕ)
    → read_behind number (option_map (λ values. value ∷ values) values) ≡ read_behind (number * 62 + value) values
one_value None number value = refl
one_value (Some values) number value = refl

-- the bound at each digit and the bound at the end are one
bounded : (bytes : List ℕ) (next : ℕ)
    → (nat_lt next (2 ^ 128) ≡ true → spelled_behind next bytes ≡ read_behind next (values_of bytes))
    → (b : Bool) → nat_lt next (2 ^ 128) ≡ b → (if b then spelled_behind next bytes else None) ≡ read_behind next (values_of bytes)
bounded bytes next rest true t = rest t
bounded bytes next rest false t = sym (too_large (values_of bytes) next t)

one_digit : (bytes : List ℕ) (number : ℕ)
    → ((next : ℕ) → nat_lt next (2 ^ 128) ≡ true → spelled_behind next bytes ≡ read_behind next (values_of bytes))
    → (o : Option ℕ) → behind number o (λ more. spelled_behind more bytes)
    ≡ read_behind number (option_and_then (λ value. option_map (λ values. value ∷ values) (values_of bytes)) o)
one_digit bytes number rest None = refl
one_digit bytes number rest (Some value) =
    bounded bytes (number * 62 + value) (rest (number * 62 + value)) (nat_lt (number * 62 + value) (2 ^ 128)) refl
    ∙ sym (one_value (values_of bytes) number value)

spelled_behind-read : (text : List ℕ) (number : ℕ) → nat_lt number (2 ^ 128) ≡ true → spelled_behind number text ≡ read_behind number (values_of text)
unfolding spelled_behind values_of
spelled_behind-read [] number fits = rw fits refl
spelled_behind-read (byte ∷ bytes) number fits = one_digit bytes number (λ next h. spelled_behind-read bytes next h) (value_of byte)

-- so the number of an id may be read with the bound at each digit
pub id_in_spelled : (text : List ℕ) → id_in text ≡ (if length text == 22 then spelled_behind 0 text else None)
unfolding spelled
id_in_spelled text = ap (λ (o : Option ℕ). if length text == 22 then o else None) (sym (spelled_behind-read text 0 refl))

-- a number without its last digits
pub shifted : ℕ → ℕ → ℕ
shifted zero number = number
shifted (suc count) number = shifted count (number / 62)

pub shifted-digit : (count number : ℕ) → shifted count (number / 62) ≡ shifted count number / 62
unfolding shifted
shifted-digit zero number = refl
shifted-digit (suc count) number = shifted-digit count (number / 62)

pub shifted-le : (count number : ℕ) → shifted count number ≤ number
unfolding shifted
shifted-le zero number = omega arith
shifted-le (suc count) number = let h = shifted-le count (number / 62) in omega (arith, h)

pub shifted-zero : (count number : ℕ) → number < 62 ^ count → shifted count number ≡ 0
unfolding shifted
shifted-zero zero number small = omega arith
shifted-zero (suc count) number small =
    let e = pow-suc 62 count in
    let less : number / 62 < 62 ^ count = omega (arith, e) in
    shifted-zero count (number / 62) less

-- the first of the digits
pub first_digit : (count number : ℕ) → digits_of (suc count) number ≡ get_or alphabet (shifted count number % 62) 0 ∷ digits_of count number
unfolding digits_of shifted
first_digit zero number = refl
first_digit (suc count) number = ap (λ t. t ++ get_or alphabet (number % 62) 0 ∷ []) (first_digit count (number / 62))

-- numbers in a row
up : ℕ → ℕ → List ℕ
up from zero = []
up from (suc count) = from ∷ up (from + 1) count

length-up : (from count : ℕ) → length (up from count) ≡ count
unfolding up
length-up from zero = refl
length-up from (suc count) = let h = length-up (from + 1) count in ap suc h

get_or-up : (from count at : ℕ) → at < count → get_or (up from count) at 0 ≡ from + at
unfolding up
get_or-up from zero at within = absurd (omega arith)
get_or-up from (suc count) zero within = omega arith
get_or-up from (suc count) (suc at) within = get_or-up (from + 1) count at (omega arith) ∙ omega arith

runs : alphabet ≡ up 48 10 ++ (up 65 26 ++ up 97 26)
unfolding up
runs = refl

digit : (at : ℕ) → at < 10 → get_or alphabet at 0 ≡ 48 + at
digit at within =
    let long = length-up 48 10 in
    let here : at < length (up 48 10) = omega (arith, long) in
    ap (λ t. get_or t at 0) runs ∙ get_or_append_left (up 48 10) (up 65 26 ++ up 97 26) 0 at here ∙ get_or-up 48 10 at within

capital : (at : ℕ) → 10 ≤ at → at < 36 → get_or alphabet at 0 ≡ 55 + at
capital at low high =
    let long = length-up 65 26 in
    let here : at - 10 < length (up 65 26) = omega (arith, long) in
    ap (λ t. get_or t at 0) runs ∙ get_or-append_right (up 48 10) (up 65 26 ++ up 97 26) 10 at 0 (length-up 48 10) low
    ∙ get_or_append_left (up 65 26) (up 97 26) 0 (at - 10) here ∙ get_or-up 65 26 (at - 10) (omega arith) ∙ omega arith

small : (at : ℕ) → 36 ≤ at → at < 62 → get_or alphabet at 0 ≡ 61 + at
small at low high =
    ap (λ t. get_or t at 0) runs ∙ get_or-append_right (up 48 10) (up 65 26 ++ up 97 26) 10 at 0 (length-up 48 10) (omega arith)
    ∙ get_or-append_right (up 65 26) (up 97 26) 26 (at - 10) 0 (length-up 65 26) (omega arith)
    ∙ get_or-up 97 26 (at - 10 - 26) (omega arith) ∙ omega arith

-- each digit has its place as its value
pub value_of-digit : (at : ℕ) → at < 62 → value_of (get_or alphabet at 0) ≡ Some at
value_of-digit at within = grind (arith, nat_tests, digit at, capital at, small at)

-- and what has a value is the digit at that place
pub digit-value_of : (byte at : ℕ) → value_of byte ≡ Some at → (at < 62) × (get_or alphabet at 0 ≡ byte)
digit-value_of byte at e = grind (arith, nat_tests, digit at, capital at, small at)

-- what the digits of a number spell, behind those in front of them, is the number
spelled_behind-digits : (count number : ℕ) → number < 2 ^ 128 → spelled_behind (shifted count number) (digits_of count number) ≡ Some number
unfolding spelled_behind shifted digits_of
spelled_behind-digits zero number fits = refl
spelled_behind-digits (suc count) number fits =
    let at = shifted count number % 62 in
    let value : value_of (get_or alphabet at 0) ≡ Some at = value_of-digit at (omega arith) in
    let front : shifted (suc count) number * 62 + at ≡ shifted count number = let h = shifted-digit count number in omega (arith, h) in
    let less : nat_lt (shifted count number) (2 ^ 128) ≡ true = let h = shifted-le count number in grind (arith, nat_tests, h) in
    rw (first_digit count number) (rw (value, front, less) (spelled_behind-digits count number fits))

-- the text of a number is read as the number
pub id_in-text : (number : ℕ) → number < 2 ^ 128 → id_in (id_text number) ≡ Some number
id_in-text number fits =
    let h = spelled_behind-digits 22 number fits in
    let z : shifted 22 number ≡ 0 = shifted-zero 22 number (omega arith) in
    let long = length-digits_of 22 number in
    id_in_spelled (id_text number) ∙ rw long (rw z at h)

-- what digits spell is a number with these digits
Spells : ℕ → List ℕ → ℕ → Type 0
Spells before text number = (digits_of (length text) number ≡ text) × (shifted (length text) number ≡ before) × (before < 2 ^ 128 → number < 2 ^ 128)

one_more : (before byte number : ℕ) (bytes : List ℕ) → ((next : ℕ) → spelled_behind next bytes ≡ Some number → Spells next bytes number)
    → (o : Option ℕ) → value_of byte ≡ o → behind before o (λ next. spelled_behind next bytes) ≡ Some number → Spells before (byte ∷ bytes) number
unfolding Spells shifted
one_more before byte number bytes rest None is e = cc
one_more before byte number bytes rest (Some value) is e =
    let found = digit-value_of byte value is in
    let test = nat_lt (before * 62 + value) (2 ^ 128) in
    let go : (b : Bool) → test ≡ b → (if b then spelled_behind (before * 62 + value) bytes else None) ≡ Some number → Spells before (byte ∷ bytes) number =
    λ b. elim b as (λ b. test ≡ b → (if b then spelled_behind (before * 62 + value) bytes else None) ≡ Some number → Spells before (byte ∷ bytes) number) [
      | true ↦ λ t h.
          let r = rest (before * 62 + value) h in
          let small : before * 62 + value < 2 ^ 128 = grind (arith, nat_tests) in
          let down : shifted (length bytes) number % 62 ≡ value = rw r.1 (omega (arith, found.0)) in
          let front : shifted (length bytes) (number / 62) ≡ before = rw (shifted-digit (length bytes) number) (rw r.1 (omega (arith, found.0))) in
          (first_digit (length bytes) number ∙ rw (down, found.1, r.0) refl, front, λ fits. r.2 small)
      | false ↦ λ t h. cc
    ]
    in go test refl e

spelled_behind-spells : (text : List ℕ) (before number : ℕ) → spelled_behind before text ≡ Some number → Spells before text number
unfolding spelled_behind Spells shifted digits_of
spelled_behind-spells [] before number e = let same : before ≡ number = cc in (refl, sym same, λ fits. subst (λ n. n < 2 ^ 128) same fits)
spelled_behind-spells (byte ∷ bytes) before number e =
    one_more before byte number bytes (λ next h. spelled_behind-spells bytes next number h) (value_of byte) refl e

-- what is read of a text is the number of the id with this text
pub id_in-spells : (text : List ℕ) (number : ℕ) → id_in text ≡ Some number → (id_text number ≡ text) × (number < 2 ^ 128)
unfolding Spells
id_in-spells text number is = go (length text == 22) refl (sym (id_in_spelled text) ∙ is) where
  go : (b : Bool) → (length text == 22) ≡ b → (if b then spelled_behind 0 text else None) ≡ Some number → (id_text number ≡ text) × (number < 2 ^ 128)
  go true t e =
      let r = spelled_behind-spells text 0 number e in
      let long : length text ≡ 22 = grind (arith, nat_tests) in
      (rw long at r.0, r.2 (omega arith))
  go false t e = cc

-- the number that a text is read as has the text, and no number has a text that isn't read
pub id_in-exact : (text : List ℕ) → MatchOption (id_in text) ((raw : ℕ) → raw < 2 ^ 128 → id_text raw ≢ text) (λ raw. id_text raw ≡ text)
id_in-exact text = go (id_in text) refl where
  go : (o : Option ℕ) → id_in text ≡ o → MatchOption o ((raw : ℕ) → raw < 2 ^ 128 → id_text raw ≢ text) (λ raw. id_text raw ≡ text)
  go (Some raw) e = (id_in-spells text raw e).0
  go None e = λ raw fits is. let h : id_in text ≡ Some raw = subst (λ t. id_in t ≡ Some raw) is (id_in-text raw fits) in cc
