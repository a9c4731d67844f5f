-- Base64 is spelled back: the bytes of an encoding are those that were encoded (RFC 4648, section 4).
use Rattle.std.proofs.Common.{◌≡◌, ℕ, zero, suc, ◌+◌, ◌*◌, ◌/◌, ◌%◌, ◌<◌, ◌≤◌, ◌==◌, ◌&&◌, Bool, true, false, not, cond, List, [], ◌∷◌, ◌++◌, length, slice_index, Some, None, unwrap_or, nat_lt, inl, inr, refl, ap, sym, ◌∙◌, arith}
use Rattle.std.specs.List.{position_or_len}
use Rattle.std.specs.Str.{bytes_eq}
use Rattle.std.proofs.lemmas.Bool.{and_parts, cases_Bool, cases_lt, eqb-true, false≢true, ltb-true}
use Rattle.std.proofs.lemmas.Slice.Eq.{bytes_eq-Decides}
use Rattle.base64.specs.GeneralPurpose.{IsBytes}
use Rattle.base64.specs.Rfc4648.{encode, encode_symbols, padding_len}
use Rattle.ion_model.specs.Write.{base64_digits}
use Rattle.ion_model.specs.Lobs.{base64_bytes, digit_place, group_bytes, spelled}

-- ---- digits

each_below : (ℕ → Bool) → ℕ → Bool
each_below p zero = true
each_below p (suc n) = p n && each_below p n

below : (p : ℕ → Bool) (n k : ℕ) → each_below p n ≡ true → k < n → p k ≡ true
unfolding each_below
below p zero k all h = absurd (omega arith)
below p (suc n) k all h =
    let parts = and_parts (p n) (each_below p n) all in
    elim (cases_lt k n) [
      | inl lower ↦ below p n k parts.1 lower
      | inr top ↦ let e : k ≡ n = omega arith in rw e parts.0
    ]

is_read : ℕ → Bool
is_read k = digit_place (slice_index base64_digits k) == k && not (slice_index base64_digits k == 61)

all_digits : each_below is_read 64 ≡ true
unfolding each_below is_read
all_digits = refl

-- a digit's place is its value
digit_read : (k : ℕ) → k < 64 → digit_place (slice_index base64_digits k) ≡ k
unfolding is_read
digit_read k h = eqb-true _ k (and_parts (digit_place (slice_index base64_digits k) == k) (not (slice_index base64_digits k == 61)) (below is_read 64 k all_digits h)).0

-- and it is no padding
digit_other : (k : ℕ) → k < 64 → (slice_index base64_digits k == 61) ≡ false
unfolding is_read
digit_other k h =
    let other = (and_parts (digit_place (slice_index base64_digits k) == k) (not (slice_index base64_digits k == 61)) (below is_read 64 k all_digits h)).1 in
    elim (cases_Bool (slice_index base64_digits k == 61)) [ inl is ↦ absurd (false≢true (rw is at other)) | inr isn't ↦ isn't ]

-- ---- groups of digits

group_of_one : (a : ℕ) → a < 256 → group_bytes (slice_index base64_digits (a / 4)) (slice_index base64_digits (a % 4 * 16)) 61 61 ≡ a ∷ []
group_of_one a ha = rw (digit_read (a / 4) (omega arith), digit_read (a % 4 * 16) (omega arith)) (ap (λ x. x ∷ []) (omega arith))

two_same : {x y a b : ℕ} → x ≡ a → y ≡ b → x ∷ y ∷ [] ≡ a ∷ b ∷ []
two_same first second = cc

group_of_two :
    (a b : ℕ) → a < 256 → b < 256 →
    group_bytes (slice_index base64_digits (a / 4)) (slice_index base64_digits (a % 4 * 16 + b / 16)) (slice_index base64_digits (b % 16 * 4)) 61 ≡ a ∷ b ∷ []
group_of_two a b ha hb =
    let first : a / 4 * 4 + (a % 4 * 16 + b / 16) / 16 ≡ a = omega arith in
    let second : (a % 4 * 16 + b / 16) % 16 * 16 + b % 16 * 4 / 4 ≡ b = omega arith in
    rw (digit_other (b % 16 * 4) (omega arith), digit_read (a / 4) (omega arith), digit_read (a % 4 * 16 + b / 16) (omega arith), digit_read (b % 16 * 4) (omega arith))
    (two_same first second)

three_same : {x y z a b c : ℕ} → x ≡ a → y ≡ b → z ≡ c → x ∷ y ∷ z ∷ [] ≡ a ∷ b ∷ c ∷ []
three_same first second third = cc

group_of_three :
    (a b c : ℕ) → a < 256 → b < 256 → c < 256 →
    group_bytes (slice_index base64_digits (a / 4)) (slice_index base64_digits (a % 4 * 16 + b / 16)) (slice_index base64_digits (b % 16 * 4 + c / 64)) (slice_index base64_digits (c % 64)) ≡ a ∷ b ∷ c ∷ []
group_of_three a b c ha hb hc =
    let first : a / 4 * 4 + (a % 4 * 16 + b / 16) / 16 ≡ a = omega arith in
    let second : (a % 4 * 16 + b / 16) % 16 * 16 + (b % 16 * 4 + c / 64) / 4 ≡ b = omega arith in
    let third : (b % 16 * 4 + c / 64) % 4 * 64 + c % 64 ≡ c = omega arith in
    rw (
      digit_other (b % 16 * 4 + c / 64) (omega arith),
      digit_other (c % 64) (omega arith),
      digit_read (a / 4) (omega arith),
      digit_read (a % 4 * 16 + b / 16) (omega arith),
      digit_read (b % 16 * 4 + c / 64) (omega arith),
      digit_read (c % 64) (omega arith),
    )
    (three_same first second third)

three_more : (n : ℕ) → padding_len (n + 3) ≡ padding_len n
three_more n = omega arith

pub encoded_spelled : (b : List ℕ) → IsBytes b → spelled (encode base64_digits 61 true b) ≡ b
unfolding encode_symbols
encoded_spelled [] bytes = refl
encoded_spelled (a ∷ []) bytes = group_of_one a (bytes 0)
encoded_spelled (a ∷ b ∷ []) bytes = ap (λ xs. xs ++ []) (group_of_two a b (bytes 0) (bytes 1))
encoded_spelled (a ∷ b ∷ c ∷ z) bytes =
    let padding : padding_len (length (a ∷ b ∷ c ∷ z)) ≡ padding_len (length z) = ap padding_len (omega arith) ∙ three_more (length z) in
    let later : IsBytes z = λ i. bytes (suc (suc (suc i))) in
    rw padding (ap (λ xs. xs ++ spelled (encode base64_digits 61 true z)) (group_of_three a b c (bytes 0) (bytes 1) (bytes 2)) ∙ ap (λ more. a ∷ b ∷ c ∷ more) (encoded_spelled z later))

-- ---- what is spelled

first_place : (k n : ℕ) → n ≤ 64 → unwrap_or (cond (nat_lt k n) (Some k) None) 0 < 64
first_place k n h =
    elim (cases_Bool (nat_lt k n)) [
      | inl within ↦ rw within (let lt : k < n = ltb-true k n within in omega arith)
      | inr past ↦ rw past (omega arith)
    ]

place_small : (b : ℕ) → digit_place b < 64
place_small b = first_place (position_or_len (λ digit. digit == b) base64_digits) 64 (omega arith)

first_bytes : (x : ℕ) (z : List ℕ) → x < 256 → IsBytes z → IsBytes (x ∷ z)
first_bytes x z h bytes zero = h
first_bytes x z h bytes (suc i) = bytes i

some_bytes :
    (p q : Bool) (x y z : ℕ) (more : List ℕ) → x < 256 → y < 256 → z < 256 → IsBytes more →
    IsBytes (cond p (x ∷ []) (cond q (x ∷ y ∷ []) (x ∷ y ∷ z ∷ [])) ++ more)
some_bytes true q x y z more hx hy hz bytes = first_bytes x more hx bytes
some_bytes false true x y z more hx hy hz bytes = first_bytes x (y ∷ more) hx (first_bytes y more hy bytes)
some_bytes false false x y z more hx hy hz bytes = first_bytes x (y ∷ z ∷ more) hx (first_bytes y (z ∷ more) hy (first_bytes z more hz bytes))

spelled_bytes : (text : List ℕ) → IsBytes (spelled text)
spelled_bytes [] = λ i. omega arith
spelled_bytes (a ∷ []) = λ i. omega arith
spelled_bytes (a ∷ b ∷ []) = λ i. omega arith
spelled_bytes (a ∷ b ∷ c ∷ []) = λ i. omega arith
spelled_bytes (a ∷ b ∷ c ∷ d ∷ z) =
    let ha = place_small a in
    let hb = place_small b in
    let hc = place_small c in
    let hd = place_small d in
    some_bytes (c == 61) (d == 61) _ _ _ (spelled z) (omega arith) (omega arith) (omega arith) (spelled_bytes z)

-- ---- both ways

pub bytes_of_encoding : (text b : List ℕ) → IsBytes b → text ≡ encode base64_digits 61 true b → Some b ≡ base64_bytes text
bytes_of_encoding text b bytes same =
    let back : spelled text ≡ b = ap spelled same ∙ encoded_spelled b bytes in
    let equal : bytes_eq (encode base64_digits 61 true b) text ≡ true = (bytes_eq-Decides _ _).1 (sym same) in
    rw (back, equal)

pub no_encoding : (text : List ℕ) → ((b : List ℕ) → IsBytes b → text ≡ encode base64_digits 61 true b → ⊥) → None ≡ base64_bytes text
no_encoding text none =
    elim (cases_Bool (bytes_eq (encode base64_digits 61 true (spelled text)) text)) [
      | inl equal ↦ absurd (none (spelled text) (spelled_bytes text) (sym ((bytes_eq-Decides _ _).0 equal)))
      | inr other ↦ rw other
    ]
