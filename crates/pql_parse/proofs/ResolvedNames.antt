-- The tables of the sources' names tell what a name means, by the place of its source.
use Rattle.std.proofs.Common.{◌≡◌, ℕ, ◌+◌, Bool, true, false, ◌||◌, ◌&&◌, List, [], ◌∷◌, ◌++◌, length, map, take, is_some, Option, Some, None, option_map, if◌then◌else◌, refl, ap, sym, ◌∙◌}
use Rattle.std.proofs.Math.Seq.{drop-append_seam}
use Rattle.std.proofs.lemmas.List.{append_assoc, length-append}
use Rattle.std.specs.List.{list_any}
use Rattle.std.specs.Str.{bytes_eq}
use Rattle.pql_model.specs.declared.names.Resolved.{Resolved}
use Rattle.pql_model.specs.declared.names.Resolved.TheVariants as resolved
use Rattle.pql_model.specs.declared.statement.Source.{Source}
use Rattle.pql_model.specs.declared.statement.SourceKind.{SourceKind}
use Rattle.pql_model.specs.Names.{called, is_id, or_else as later, resolve_from, resolved_by}
use Rattle.pql_model.specs.Rules.{is_table, is_table_at, is_target, is_target_of_one}
use Rattle.pql_model.specs.Rules as rules_spec
use Rattle.pql_parse.specs.declared.rules.meanings.Meaning.{Meaning}
use Rattle.pql_parse.specs.declared.rules.meanings.Meaning.TheVariants as meaning
use Rattle.pql_parse.specs.Ruled.{Meant, Variable, Id, has_name, is_meant, meaning_of, meant_by, or_else, told}

-- ---- whether a name is known

one_known : (id variable : Bool) (place : ℕ) →
    is_some (if id then Some (resolved.Id place) else (if variable then Some (resolved.Variable place) else None)) ≡ (id || variable)
one_known true variable place = refl
one_known false true place = refl
one_known false false place = refl

later_known : (a b : Option Resolved) (here rest : Bool) → is_some a ≡ rest → is_some b ≡ here → is_some (later a b) ≡ (here || rest)
later_known (Some r) b true rest e f = refl
later_known (Some r) b false rest e f = e
later_known None b true rest e f = f
later_known None b false rest e f = f ∙ e

pub known_from : (place : ℕ) (name : List ℕ) (ss : List Source) → is_some (resolve_from place name (map called ss)) ≡ list_any (has_name name) ss
known_from place name [] = refl
known_from place name (s ∷ ss) =
    later_known (resolve_from (place + 1) name (map called ss)) (resolved_by place name (called s)) (has_name name s) (list_any (has_name name) ss)
    (known_from (place + 1) name ss) (one_known (is_id name s.id_name) (bytes_eq s.variable name) place)

pub known : (name : List ℕ) (ss : List Source) → is_some (rules_spec.resolved name ss) ≡ list_any (has_name name) ss
known name ss = known_from 0 name ss

-- ---- what a change may be put on

abbrev tell : List Source → Resolved → Meaning
tell sources (resolved.Variable n) = if is_table_at n sources then meaning.Table else meaning.Other
tell sources (resolved.Id n) = meaning.Id

abbrev either : Option Meaning → Option Meaning → Option Meaning
either (Some m) before = Some m
either None before = before

tell_later : (sources : List Source) (a b : Option Resolved) → option_map (tell sources) (later a b) ≡ either (option_map (tell sources) a) (option_map (tell sources) b)
tell_later sources (Some r) b = refl
tell_later sources None b = refl

told_else : (a b : Option Meant) → option_map told (or_else a b) ≡ either (option_map told a) (option_map told b)
told_else (Some m) b = refl
told_else None b = refl

or_none : (b : Bool) → (b || false) ≡ b
or_none true = refl
or_none false = refl

table_here : (pre ss : List Source) (s : Source) → is_table_at (length pre) (pre ++ s ∷ ss) ≡ is_table s.from
table_here pre ss s = ap (λ xs. list_any (λ s. is_table s.from) (take 1 xs)) (drop-append_seam pre (s ∷ ss)) ∙ or_none (is_table s.from)

told_by : (sources : List Source) (place : ℕ) (from : SourceKind) (id variable : Bool) → is_table_at place sources ≡ is_table from →
    option_map (tell sources) (if id then Some (resolved.Id place) else (if variable then Some (resolved.Variable place) else None))
    ≡ option_map told (if id then Some Id else (if variable then Some (Variable from) else None))
told_by sources place from true variable same = refl
told_by sources place from false true same = ap (λ b. Some (if b then meaning.Table else meaning.Other)) same
told_by sources place from false false same = refl

tells_from : (sources pre : List Source) (place : ℕ) (name : List ℕ) (ss : List Source) → sources ≡ pre ++ ss → place ≡ length pre →
    option_map (tell sources) (resolve_from place name (map called ss)) ≡ option_map told (meaning_of name ss)
tells_from sources pre place name [] parts at = refl
tells_from sources pre place name (s ∷ ss) parts at =
    let further : sources ≡ pre ++ (s ∷ []) ++ ss = parts ∙ sym (append_assoc pre (s ∷ []) ss) in
    let next : place + 1 ≡ length (pre ++ s ∷ []) = rw at (sym (length-append pre (s ∷ []))) in
    let here : is_table_at place sources ≡ is_table s.from = rw (at, parts) (table_here pre ss s) in
    tell_later sources (resolve_from (place + 1) name (map called ss)) (resolved_by place name (called s))
    ∙ ap (λ m. either m (option_map (tell sources) (resolved_by place name (called s)))) (tells_from sources (pre ++ s ∷ []) (place + 1) name ss further next)
    ∙ ap (either (option_map told (meaning_of name ss))) (told_by sources place s.from (is_id name s.id_name) (bytes_eq s.variable name) here)
    ∙ sym (told_else (meaning_of name ss) (meant_by name s))

with_steps : (steps table : Bool) (sources : List Source) → (steps && table) ≡ is_meant steps sources (Some (if table then meaning.Table else meaning.Other))
with_steps true true sources = refl
with_steps false true sources = refl
with_steps true false sources = refl
with_steps false false sources = refl

as_told : (steps : Bool) (sources : List Source) (r : Option Resolved) → is_target steps sources r ≡ is_meant steps sources (option_map (tell sources) r)
as_told steps sources None = refl
as_told steps sources (Some (resolved.Variable n)) = with_steps steps (is_table_at n sources) sources
as_told steps sources (Some (resolved.Id n)) = refl

pub target : (steps : Bool) (sources : List Source) (name : List ℕ) →
    is_target steps sources (rules_spec.resolved name sources) ≡ is_meant steps sources (option_map told (meaning_of name sources))
target steps sources name =
    as_told steps sources (rules_spec.resolved name sources)
    ∙ ap (is_meant steps sources) (tells_from sources [] 0 name sources refl refl)
