-- How long serializations are.
use Rattle.std.proofs.Common.{◌≡◌, ◌∙◌, ℕ, ◌+◌, ◌*◌, ◌≤◌, Bool, true, false, if◌then◌else◌, List, [], ◌∷◌, ◌++◌, map, length, length-append, refl, ap, arith, rules}
use Rattle.std.specs.Ordering.{nat_cmp, is_lt}
use Rattle.std.specs.Cmp.Lexicographic.{slice_cmp}
use Rattle.std.proofs.lemmas.List.Concat.{flat_map-cons}
use Rattle.sha2.specs.Sha256.{sha256}
use Rattle.sha2.proofs.Facts256.{length-sha256}
use Rattle.ql_types.specs.Ids.{id_text}
use Rattle.ql_types.proofs.Digits.{length-digits_of}
use Rattle.ion_values.specs.declared.value.Field.{Field}
use Rattle.ion_values.specs.declared.value.Body.TheFolds.{the_lemmas}
use Rattle.hash_model.specs.Serialize.{escape, escaped, field_digest, field_hash, framed, in_order, is_control, joined, put_in_order, serialize, struct_bytes, symbol_bytes}
use Rattle.ledger_model.specs.Journal.{string, structure}
use Rattle.laws_descent.specs.Laws.{FourFieldsAreLong, FourHashesAreLong, IdsAreShort}

-- ---- escapes and frames

one_or_two : (x : ℕ) (b : Bool) → (1 ≤ length (if b then 0x0C ∷ x ∷ [] else x ∷ [])) × (length (if b then 0x0C ∷ x ∷ [] else x ∷ []) ≤ 2)
one_or_two x true = (omega arith, omega arith)
one_or_two x false = (omega arith, omega arith)

length-escape : (xs : List ℕ) → (length xs ≤ length (escape xs)) × (length (escape xs) ≤ 2 * length xs)
length-escape [] = (omega arith, omega arith)
length-escape (x ∷ xs) =
    let is : length (escape (x ∷ xs)) ≡ length (escaped x) + length (escape xs) =
    ap length (flat_map-cons escaped x xs) ∙ length-append (escaped x) (escape xs) in
    let one = one_or_two x (is_control x) in
    let more = length-escape xs in
    (omega (arith, is, one.0, more.0), omega (arith, is, one.1, more.1))

length-framed : (type_qualifier : ℕ) (content : List ℕ) → length (framed type_qualifier content) ≡ length content + 3
length-framed type_qualifier content = let end = length-append content (0x0E ∷ []) in omega (arith, end)

-- ---- hashes in order

length-joined : (x : List ℕ) (xs : List (List ℕ)) → length (joined (x ∷ xs)) ≡ length x + length (joined xs)
length-joined x xs = ap length (flat_map-cons (λ piece. piece) x xs) ∙ length-append x (joined xs)

put_at : (hash next : List ℕ) (rest : List (List ℕ)) → length (joined (put_in_order hash rest)) ≡ length hash + length (joined rest)
    → (b : Bool) → length (joined (if b then next ∷ put_in_order hash rest else hash ∷ next ∷ rest)) ≡ length hash + length (joined (next ∷ rest))
put_at hash next rest more true =
    let a = length-joined next (put_in_order hash rest) in
    let b = length-joined next rest in
    omega (arith, a, b, more)
put_at hash next rest more false = length-joined hash (next ∷ rest)

length-put : (hash : List ℕ) (hashes : List (List ℕ)) → length (joined (put_in_order hash hashes)) ≡ length hash + length (joined hashes)
unfolding put_in_order
length-put hash [] = length-joined hash []
length-put hash (next ∷ rest) = put_at hash next rest (length-put hash rest) (is_lt (slice_cmp nat_cmp next hash))

length-in_order : (hashes : List (List ℕ)) → length (joined (in_order hashes)) ≡ length (joined hashes)
unfolding in_order
length-in_order [] = refl
length-in_order (hash ∷ hashes) =
    let a = length-put hash (in_order hashes) in
    let b = length-in_order hashes in
    let c = length-joined hash hashes in
    omega (arith, a, b, c)

four_hashes : (a b c d : List ℕ) → length a ≡ 32 → length b ≡ 32 → length c ≡ 32 → length d ≡ 32 → length (joined (a ∷ b ∷ c ∷ d ∷ [])) ≡ 128
four_hashes a b c d la lb lc ld =
    let p = length-joined a (b ∷ c ∷ d ∷ []) in
    let q = length-joined b (c ∷ d ∷ []) in
    let r = length-joined c (d ∷ []) in
    let s = length-joined d [] in
    let none : length (joined []) ≡ 0 = refl in
    omega (arith, p, q, r, s, none, la, lb, lc, ld)

-- ---- structs of four fields

field_is : (f : Field) → field_hash f ≡ sha256 (symbol_bytes f.name ++ serialize f.value)
unfolding field_digest
field_is f = search (rules, the_lemmas)

pub length-field_hash : (f : Field) → length (field_hash f) ≡ 32
length-field_hash f = ap length (field_is f) ∙ length-sha256 (symbol_bytes f.name ++ serialize f.value)

struct_is : (fields : List Field) → serialize (structure fields) ≡ struct_bytes (map field_hash fields)
struct_is fields = search (rules, the_lemmas)

pub four_hashes_are_long : FourHashesAreLong
four_hashes_are_long a b c d la lb lc ld =
    let hashes = a ∷ b ∷ c ∷ d ∷ [] in
    let size = length-framed 0xD0 (escape (joined (in_order hashes))) in
    let more = (length-escape (joined (in_order hashes))).0 in
    let all = length-in_order hashes ∙ four_hashes a b c d la lb lc ld in
    omega (arith, size, more, all)

pub four_fields_are_long : FourFieldsAreLong
four_fields_are_long f g h i =
    let size = ap length (struct_is (f ∷ g ∷ h ∷ i ∷ [])) in
    let long = four_hashes_are_long (field_hash f) (field_hash g) (field_hash h) (field_hash i) (length-field_hash f) (length-field_hash g) (length-field_hash h) (length-field_hash i) in
    omega (arith, size, long)

-- ---- ids

string_is : (text : List ℕ) → serialize (string text) ≡ framed 0x80 (escape text)
string_is text = search (rules, the_lemmas)

pub ids_are_short : IdsAreShort
ids_are_short raw =
    let size = ap length (string_is (id_text raw)) ∙ length-framed 0x80 (escape (id_text raw)) in
    let less = (length-escape (id_text raw)).1 in
    let digits = length-digits_of 22 raw in
    omega (arith, size, less, digits)
