-- Bytes at the end, made the representation of a value.
use Rattle.std.proofs.Common.{◌≡◌, ◌∙◌, ℕ, ◌+◌, ◌-◌, List, [], ◌∷◌, ◌++◌, map, length, refl, sym, ap, arith, append_assoc}
use Rattle.std.proofs.lemmas.List.{length-append}
use Rattle.std.specs.Prelude.{String, string_bytes}
use Rattle.std.specs.List.{flat_map}
use Rattle.std.specs.declared.alloc.Global.{Global}
use Rattle.hash_model.specs.Numbers.{var_uint}
use Rattle.ion_binary_out.specs.BinaryText.{Text, descriptor, table_bytes, typed}

-- the bytes that come last move in front of others
abbrev pub Moves : List ℕ → List ℕ → ℕ → ℕ → Type 0
Moves old new start count = (a b c : List ℕ) → old ≡ a ++ b ++ c → length a ≡ start → length c ≡ count → new ≡ a ++ c ++ b

left_over : (whole front more : ℕ) → whole ≡ front + more → whole - front ≡ more
left_over whole front more e = omega arith

pub closed : (type start : ℕ) (front bytes out mid new : List ℕ) → out ≡ front ++ bytes → length front ≡ start
    → mid ≡ out ++ descriptor type (length out - start) → Moves mid new start (length mid - length out) → new ≡ front ++ typed type bytes
unfolding typed
closed type start front bytes out mid new e l m moves =
    let len : length out - start ≡ length bytes =
    left_over (length out) start (length bytes) (ap length e ∙ length-append front bytes ∙ ap (λ n. n + length bytes) l) in
    let put : mid ≡ out ++ descriptor type (length bytes) = m ∙ ap (λ n. out ++ descriptor type n) len in
    let count : length (descriptor type (length bytes)) ≡ length mid - length out =
    sym (left_over (length mid) (length out) (length (descriptor type (length bytes))) (ap length put ∙ length-append out (descriptor type (length bytes)))) in
    moves front bytes (descriptor type (length bytes)) (put ∙ ap (λ z. z ++ descriptor type (length bytes)) e) l count
    ∙ append_assoc front (descriptor type (length bytes)) bytes

-- ---- a table

-- the bytes from a place on become the representation of a value
abbrev pub Closes : ℕ → List ℕ → ℕ → List ℕ → Type 0
Closes type out start new = (front bytes : List ℕ) → out ≡ front ++ bytes → length front ≡ start → new ≡ front ++ typed type bytes

pub typed_texts : (texts : List (String Global)) → flat_map (λ text. typed 8 (string_bytes text)) texts ≡ flat_map (typed 8) (map string_bytes texts)
typed_texts [] = refl
typed_texts (text ∷ texts) = ap (λ rest. typed 8 (string_bytes text) ++ rest) (typed_texts texts)

regroup : (a b c d : List ℕ) → a ++ b ++ c ++ d ≡ a ++ (b ++ c ++ d)
regroup a b c d = ap (λ front. front ++ d) (append_assoc a b c) ∙ append_assoc a (b ++ c) d

pub table_put : (old one three seven listed first second third : List ℕ) (texts : List Text) (table symbols list : ℕ)
    → table ≡ length old → one ≡ old ++ var_uint 1 → three ≡ one ++ var_uint 3 → symbols ≡ length three → seven ≡ three ++ var_uint 7
    → list ≡ length seven → listed ≡ seven ++ flat_map (typed 8) texts → Closes 11 listed list first → Closes 13 first symbols second
    → Closes 14 second table third → third ≡ old ++ table_bytes texts
table_put old one three seven listed first second third texts table symbols list ht h1 h3 hs h7 hl hx close11 close13 close14 =
    let strings = typed 11 (flat_map (typed 8) texts) in
    let struct = typed 13 (var_uint 7 ++ strings) in
    let inner : first ≡ three ++ (var_uint 7 ++ strings) =
    close11 seven (flat_map (typed 8) texts) hx (sym hl) ∙ ap (λ front. front ++ strings) h7 ∙ append_assoc three (var_uint 7) strings in
    let outer : second ≡ old ++ (var_uint 1 ++ var_uint 3 ++ struct) =
    close13 three (var_uint 7 ++ strings) inner (sym hs)
    ∙ ap (λ front. front ++ struct) (h3 ∙ ap (λ front. front ++ var_uint 3) h1)
    ∙ regroup old (var_uint 1) (var_uint 3) struct in
    close14 old (var_uint 1 ++ var_uint 3 ++ struct) outer (sym ht)
