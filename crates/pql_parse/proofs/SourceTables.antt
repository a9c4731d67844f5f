-- How the tables of the sources' names grow by a source.
use Rattle.std.proofs.Common.{◌≡◌, ℕ, zero, suc, ◌+◌, ◌-◌, ◌<◌, ◌≤◌, Bool, true, false, cond, ◌||◌, List, [], ◌∷◌, ◌++◌, length, get_or, take, drop, drop-cons, Option, Some, None, option_map, refl, ap, sym, ◌∙◌, arith}
use Rattle.std.proofs.lemmas.Bool.Decides.{nat_tests}
use Rattle.std.proofs.lemmas.List.{take_more}
use Rattle.std.specs.Prelude.{nat_lt}
use Rattle.std.specs.List.{list_any}
use Rattle.std.specs.Str.{bytes_eq}
use Rattle.pql_model.specs.declared.statement.Source.{Source}
use Rattle.pql_model.specs.declared.statement.SourceKind.{SourceKind}
use Rattle.pql_model.specs.Names.{is_id}
use Rattle.pql_parse.specs.declared.rules.meanings.Meaning.{Meaning}
use Rattle.pql_parse.specs.declared.rules.meanings.Meaning.TheVariants as meaning
use Rattle.pql_parse.specs.Ruled.{Meant, Variable, Id, has_name, is_below, meaning_of, meant_by, or_else, told}

-- ---- the first source of each name, where the source at `at` comes before the rest

none_below : (b : Bool) (at : ℕ) (old : Option ℕ) → false ≡ is_below (at + 1 + 0) old → false ≡ is_below (at + 0) (cond b (Some at) old)
none_below true at old h = grind (arith, nat_tests)
none_below false at None h = refl
none_below false at (Some first) h = grind (arith, nat_tests)

some_below : (b any : Bool) (at m : ℕ) (old : Option ℕ) → any ≡ is_below (at + 1 + m) old → (b || any) ≡ is_below (at + suc m) (cond b (Some at) old)
some_below true any at m old h = grind (arith, nat_tests)
some_below false any at m None h = h
some_below false any at m (Some first) h =
    let same : at + 1 + m ≡ at + suc m = omega arith in
    h ∙ ap (nat_lt first) same

pub firsts_more : (test : Source → Bool) (s : Source) (rest : List Source) (at n : ℕ) (old new : Option ℕ) → new ≡ cond (test s) (Some at) old →
    ((k : ℕ) → list_any test (take k rest) ≡ is_below (at + 1 + k) old) → list_any test (take n (s ∷ rest)) ≡ is_below (at + n) new
firsts_more test s rest at zero old new e h = rw e (none_below (test s) at old (h 0))
firsts_more test s rest at (suc m) old new e h = rw e (some_below (test s) (list_any test (take m rest)) at m old (h m))

pub firsts_at : (test : Source → Bool) (sources : List Source) (left n : ℕ) (s : Source) (old new : Option ℕ) → 0 < left → left ≤ length sources →
    s ≡ get_or sources (left - 1) s → new ≡ cond (test s) (Some (left - 1)) old →
    ((k : ℕ) → list_any test (take k (drop left sources)) ≡ is_below (left + k) old) → list_any test (take n (drop (left - 1) sources)) ≡ is_below (left - 1 + n) new
firsts_at test sources zero n s old new some within is e h = absurd (omega arith)
firsts_at test sources (suc at) n s old new some within is e h =
    let one_less : suc at - 1 ≡ at = omega arith in
    let one_more : at + 1 ≡ suc at = omega arith in
    let here : drop at sources ≡ get_or sources at s ∷ drop (suc at) sources = drop-cons sources at s (omega arith) in
    rw (one_less, here, ← (rw one_less at is)) (firsts_more test s (drop (suc at) sources) at n old new (rw one_less at e) (λ k. h k ∙ ap (λ m. is_below (m + k) old) (sym one_more)))

-- the tables with the variable alone, and with the BY name behind it
either : (id variable : Bool) (at : ℕ) (old : Option ℕ) → cond id (Some at) (cond variable (Some at) old) ≡ cond (id || variable) (Some at) old
either true variable at old = refl
either false variable at old = refl

pub without_id : (name : List ℕ) (s : Source) (at : ℕ) (old new : Option ℕ) → s.id_name ≡ None → new ≡ cond (bytes_eq s.variable name) (Some at) old →
    new ≡ cond (has_name name s) (Some at) old
without_id name s at old new none e = rw none e

pub with_id : (name : List ℕ) (s : Source) (id : List ℕ) (at : ℕ) (old middle new : Option ℕ) → s.id_name ≡ Some id →
    middle ≡ cond (bytes_eq s.variable name) (Some at) old → new ≡ cond (bytes_eq id name) (Some at) middle → new ≡ cond (has_name name s) (Some at) old
with_id name s id at old middle new some first second =
    rw some (second ∙ ap (cond (bytes_eq id name) (Some at)) first ∙ either (bytes_eq id name) (bytes_eq s.variable name) at old)

-- ---- what each name means, where a source comes behind the others

nothing_before : (m : Option Meant) → m ≡ or_else m None
nothing_before (Some m) = refl
nothing_before None = refl

regroup : (a b c : Option Meant) → or_else (or_else a b) c ≡ or_else a (or_else b c)
regroup (Some m) b c = refl
regroup None b c = refl

meaning_more : (name : List ℕ) (xs : List Source) (s : Source) → meaning_of name (xs ++ s ∷ []) ≡ or_else (meant_by name s) (meaning_of name xs)
meaning_more name [] s = nothing_before (meant_by name s)
meaning_more name (x ∷ xs) s =
    ap (λ m. or_else m (meant_by name x)) (meaning_more name xs s) ∙ regroup (meant_by name s) (meaning_of name xs) (meant_by name x)

told_behind : (id variable : Bool) (from : SourceKind) (before : Option Meant) →
    cond id (Some meaning.Id) (cond variable (Some (told (Variable from))) (option_map told before))
    ≡ option_map told (or_else (cond id (Some Id) (cond variable (Some (Variable from)) None)) before)
told_behind true variable from before = refl
told_behind false true from before = refl
told_behind false false from before = refl

pub meanings_more : (name : List ℕ) (xs : List Source) (s : Source) (old new : Option Meaning) → old ≡ option_map told (meaning_of name xs) →
    new ≡ cond (is_id name s.id_name) (Some meaning.Id) (cond (bytes_eq s.variable name) (Some (told (Variable s.from))) old) →
    new ≡ option_map told (meaning_of name (xs ++ s ∷ []))
meanings_more name xs s old new before e =
    e
    ∙ ap (λ o. cond (is_id name s.id_name) (Some meaning.Id) (cond (bytes_eq s.variable name) (Some (told (Variable s.from))) o)) before
    ∙ told_behind (is_id name s.id_name) (bytes_eq s.variable name) s.from (meaning_of name xs)
    ∙ ap (option_map told) (sym (meaning_more name xs s))

pub meanings_at : (name : List ℕ) (sources : List Source) (i : ℕ) (s : Source) (old new : Option Meaning) → i < length sources → s ≡ get_or sources i s →
    old ≡ option_map told (meaning_of name (take i sources)) →
    new ≡ cond (is_id name s.id_name) (Some meaning.Id) (cond (bytes_eq s.variable name) (Some (told (Variable s.from))) old) →
    new ≡ option_map told (meaning_of name (take (i + 1) sources))
meanings_at name sources i s old new within is before e =
    let more : take (i + 1) sources ≡ take i sources ++ get_or sources i s ∷ [] = take_more sources i s within in
    let here : take i sources ++ get_or sources i s ∷ [] ≡ take i sources ++ s ∷ [] = ap (λ x. take i sources ++ x ∷ []) (sym is) in
    meanings_more name (take i sources) s old new before e ∙ ap (λ xs. option_map told (meaning_of name xs)) (sym (more ∙ here))

pub meaning_without_id : (name : List ℕ) (s : Source) (m : Meaning) (old new : Option Meaning) → s.id_name ≡ None → m ≡ told (Variable s.from) →
    new ≡ cond (bytes_eq s.variable name) (Some m) old →
    new ≡ cond (is_id name s.id_name) (Some meaning.Id) (cond (bytes_eq s.variable name) (Some (told (Variable s.from))) old)
meaning_without_id name s m old new none is e = rw none (e ∙ ap (λ x. cond (bytes_eq s.variable name) (Some x) old) is)

pub meaning_with_id : (name : List ℕ) (s : Source) (id : List ℕ) (m : Meaning) (old middle new : Option Meaning) → s.id_name ≡ Some id → m ≡ told (Variable s.from) →
    middle ≡ cond (bytes_eq s.variable name) (Some m) old → new ≡ cond (bytes_eq id name) (Some meaning.Id) middle →
    new ≡ cond (is_id name s.id_name) (Some meaning.Id) (cond (bytes_eq s.variable name) (Some (told (Variable s.from))) old)
meaning_with_id name s id m old middle new some is first second =
    rw some (second ∙ ap (cond (bytes_eq id name) (Some meaning.Id)) (first ∙ ap (λ x. cond (bytes_eq s.variable name) (Some x) old) is))
