-- Where the closing braces of a clob or a blob stand.
use Rattle.std.proofs.Common.{◌≡◌, ℕ, zero, suc, ◌+◌, ◌-◌, ◌<◌, false, List, [], ◌∷◌, Option, Some, None, option_map, codes, nat_eq, slice_index, take, drop, length, length-drop, refl, ap, sym, ◌∙◌, arith}
use Rattle.std.specs.List.{starts_with}
use Rattle.std.proofs.Math.Seq.{drop-cons}
use Rattle.std.proofs.lemmas.List.{drop-drop, take_all}
use Rattle.ion_model.specs.Lobs.{before_braces}

-- a slice to the end
pub to_end : (n : ℕ) (xs : List ℕ) → take (length xs - n) (drop n xs) ≡ drop n xs
to_end n xs = take_all _ (drop n xs) (omega (arith, length-drop n xs))

one_further : (n : ℕ) (o : Option ℕ) → option_map suc (option_map (λ len. n + len) o) ≡ option_map (λ len. suc n + len) o
one_further n None = refl
one_further n (Some len) = ap Some (omega arith)

none_further : (o : Option ℕ) → o ≡ option_map (λ len. 0 + len) o
none_further None = refl
none_further (Some len) = ap Some (omega arith)

-- bytes that are hidden are passed over
hidden_passed : (hidden : ℕ → List ℕ → Option ℕ) (n : ℕ) (z : List ℕ) → before_braces hidden n z ≡ option_map (λ len. n + len) (before_braces hidden 0 (drop n z))
hidden_passed hidden zero z = none_further (before_braces hidden 0 z)
hidden_passed hidden (suc n) [] = refl
hidden_passed hidden (suc n) (b ∷ z) = ap (option_map suc) (hidden_passed hidden n z) ∙ one_further n (before_braces hidden 0 (drop n z))

both_further : (at n new : ℕ) (o : Option ℕ) → new ≡ at + (1 + n) →
    option_map (λ len. new + len) o ≡ option_map (λ len. at + len) (option_map suc (option_map (λ len. n + len) o))
both_further at n new None e = refl
both_further at n new (Some len) e = ap Some (omega arith)

front_passed :
    (hidden : ℕ → List ℕ → Option ℕ) (b : ℕ) (z : List ℕ) (n : ℕ) → starts_with nat_eq (b ∷ z) (codes "}}") ≡ false → hidden b z ≡ Some n →
    before_braces hidden 0 (b ∷ z) ≡ option_map suc (option_map (λ len. n + len) (before_braces hidden 0 (drop n z)))
front_passed hidden b z n apart hides = rw (apart, hides) (ap (option_map suc) (hidden_passed hidden n z))

-- a byte at which the braces don't close, with what it hides
pub byte_passed :
    (hidden : ℕ → List ℕ → Option ℕ) (bytes rest : List ℕ) (at n new : ℕ) (whole : Option ℕ) → at < length bytes → rest ≡ drop at bytes →
    starts_with nat_eq rest (codes "}}") ≡ false → hidden (slice_index rest 0) (drop 1 rest) ≡ Some n → new ≡ at + (1 + n) →
    option_map (λ len. at + len) (before_braces hidden 0 (drop at bytes)) ≡ whole →
    option_map (λ len. new + len) (before_braces hidden 0 (drop new bytes)) ≡ whole
byte_passed hidden bytes rest at n new whole within rest_is apart hides new_is same =
    let b = slice_index bytes at in
    let z = drop (suc at) bytes in
    let cut : drop at bytes ≡ b ∷ z = drop-cons bytes at 0 within in
    let apart' : starts_with nat_eq (b ∷ z) (codes "}}") ≡ false = rw (rest_is ∙ cut) at apart in
    let hides' : hidden b z ≡ Some n = rw (rest_is ∙ cut) at hides in
    let place : drop new bytes ≡ drop n z = ap (λ k. drop k bytes) (omega arith) ∙ sym (drop-drop n (suc at) bytes) in
    rw place
    (both_further at n new _ new_is
    ∙ ap (option_map (λ len. at + len)) (sym (ap (before_braces hidden 0) cut ∙ front_passed hidden b z n apart' hides'))
    ∙ same)
