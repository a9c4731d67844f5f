-- The bytes between quotes are read one by one.
use Rattle.std.proofs.Common.{◌≡◌, ℕ, suc, ◌+◌, ◌<◌, ◌==◌, ◌&&◌, not, Bool, true, false, if◌then◌else◌, List, [], ◌∷◌, ◌++◌, drop, length, get_or, Option, Some, None, option_map, refl, ap, ◌∙◌, sym, append_assoc, eq-eqb, arith}
use Rattle.std.proofs.lemmas.List.{drop_more}
use Rattle.pql_model.specs.Tokens.{to_quote, undoubled}

one_behind : (i : ℕ) (o : Option ℕ) → option_map (λ len. i + len) (option_map suc o) ≡ option_map (λ len. i + 1 + len) o
one_behind i None = refl
one_behind i (Some n) = ap Some (omega arith)

-- a byte behind none that it may double
opened : (quote i : ℕ) (z : List ℕ) → i < length z →
    option_map (λ len. i + len) (to_quote quote false (drop i z)) ≡ option_map (λ len. i + 1 + len) (to_quote quote (get_or z i 0 == quote) (drop (i + 1) z))
opened quote i z h =
    ap (λ r. option_map (λ len. i + len) (to_quote quote false r)) (drop_more z i 0 h)
    ∙ one_behind i (to_quote quote (get_or z i 0 == quote) (drop (i + 1) z))

-- the second quote of a pair
doubled : (quote i : ℕ) (z : List ℕ) → i < length z → (get_or z i 0 == quote) ≡ true →
    option_map (λ len. i + len) (to_quote quote true (drop i z)) ≡ option_map (λ len. i + 1 + len) (to_quote quote false (drop (i + 1) z))
doubled quote i z h e =
    let rest : List ℕ = drop (i + 1) z in
    ap (λ r. option_map (λ len. i + len) (to_quote quote true r)) (drop_more z i 0 h)
    ∙ ap (λ t. option_map (λ len. i + len) (if t then option_map suc (to_quote quote false rest) else Some 0)) e
    ∙ one_behind i (to_quote quote false rest)

-- the next byte, which is a quote behind one that it may double
pub byte_read : (quote i : ℕ) (z : List ℕ) (after next : Bool) → i < length z → (after ≡ true → get_or z i 0 ≡ quote) → next ≡ (not after && (get_or z i 0 == quote)) →
    option_map (λ len. i + len) (to_quote quote after (drop i z)) ≡ option_map (λ len. i + 1 + len) (to_quote quote next (drop (i + 1) z))
byte_read quote i z false next h second e = opened quote i z h ∙ ap (λ t. option_map (λ len. i + 1 + len) (to_quote quote t (drop (i + 1) z))) (sym e)
byte_read quote i z true next h second e =
    doubled quote i z h (eq-eqb (get_or z i 0) quote (second refl)) ∙ ap (λ t. option_map (λ len. i + 1 + len) (to_quote quote t (drop (i + 1) z))) (sym e)

-- the text grows by a byte
pub put : (quote i : ℕ) (z out new : List ℕ) (after next : Bool) → i < length z → after ≡ false → new ≡ out ++ get_or z i 0 ∷ [] → next ≡ (get_or z i 0 == quote) →
    new ++ undoubled quote next (drop (i + 1) z) ≡ out ++ undoubled quote after (drop i z)
put quote i z out new after next h first grown e =
    rw (first, grown, e)
    (append_assoc out (get_or z i 0 ∷ []) (undoubled quote (get_or z i 0 == quote) (drop (i + 1) z))
    ∙ ap (λ r. out ++ undoubled quote false r) (sym (drop_more z i 0 h)))

-- the second quote of a pair is left out
pub left_out : (quote i : ℕ) (z out new : List ℕ) (after next : Bool) → i < length z → after ≡ true → new ≡ out → next ≡ false →
    new ++ undoubled quote next (drop (i + 1) z) ≡ out ++ undoubled quote after (drop i z)
left_out quote i z out new after next h second same e = rw (second, same, e) (ap (λ r. out ++ undoubled quote true r) (sym (drop_more z i 0 h)))
