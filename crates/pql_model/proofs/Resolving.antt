-- What a name means where one source more is seen.
use Rattle.std.proofs.Common.{◌≡◌, ℕ, zero, suc, ◌+◌, ◌<◌, List, [], ◌∷◌, ◌++◌, length, get_or, map, take, Option, Some, None, refl, ap, ◌∙◌, arith}
use Rattle.std.proofs.lemmas.List.{length-map, length-take-le, map_more}
use Rattle.pql_model.specs.declared.names.Resolved.{Resolved}
use Rattle.pql_model.specs.Names.{Called, or_else, resolve, resolve_from, resolved_by}

nothing_before : (r : Option Resolved) → r ≡ or_else r None
nothing_before (Some r) = refl
nothing_before None = refl

regroup : (a b c : Option Resolved) → or_else (or_else a b) c ≡ or_else a (or_else b c)
regroup (Some r) b c = refl
regroup None b c = refl

pub resolve_more : (place : ℕ) (name : List ℕ) (cs : List Called) (c : Called)
    → resolve_from place name (cs ++ c ∷ []) ≡ or_else (resolved_by (place + length cs) name c) (resolve_from place name cs)
resolve_more place name [] c =
    let same : place ≡ place + 0 = omega arith in
    nothing_before (resolved_by place name c) ∙ ap (λ n. or_else (resolved_by n name c) None) same
resolve_more place name (x ∷ xs) c =
    let same : place + 1 + length xs ≡ place + suc (length xs) = omega arith in
    ap (λ r. or_else r (resolved_by place name x)) (resolve_more (place + 1) name xs c)
    ∙ regroup (resolved_by (place + 1 + length xs) name c) (resolve_from (place + 1) name xs) (resolved_by place name x)
    ∙ ap (λ n. or_else (resolved_by n name c) (or_else (resolve_from (place + 1) name xs) (resolved_by place name x))) same

taken_length : {A : Type 0} (call : A → Called) (n : ℕ) (xs : List A) → n < length xs → length (map call (take n xs)) ≡ n
taken_length call n xs within = length-map (take n xs) call ∙ length-take-le n xs (omega (arith, within))

-- what is called so, in a row or in a FROM, one after the other
pub resolve_next : {A : Type 0} (call : A → Called) (name : List ℕ) (xs : List A) (n : ℕ) (x : A) (old : Option Resolved)
    → n < length xs → x ≡ get_or xs n x → old ≡ resolve name (map call (take n xs))
    → or_else (resolved_by n name (call x)) old ≡ resolve name (map call (take (n + 1) xs))
resolve_next call name xs n x old within is before =
    let same : n ≡ 0 + n = omega arith in
    rw (map_more call xs n x within, ← is, resolve_more 0 name (map call (take n xs)) (call x), taken_length call n xs within, ← before)
    (ap (λ k. or_else (resolved_by k name (call x)) old) same)
