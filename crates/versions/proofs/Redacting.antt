-- Revisions as they are after redactions: what stands, and that they are those of the state.
use Rattle.std.proofs.Common.{◌≡◌, ℕ, suc, ◌+◌, ◌<◌, ◌≤◌, ◌==◌, ◌&&◌, ◌||◌, Bool, true, false, List, [], ◌∷◌, length, get_or, drop, map, Option, Some, None, is_some, refl, sym, ◌∙◌, ap, ap₂, subst}
use Rattle.std.specs.Prelude.{if◌then◌else◌}
use Rattle.std.specs.List.{list_any}
use Rattle.std.proofs.lemmas.Bool.{and_right, eqb-true}
use Rattle.std.proofs.lemmas.List.{drop_all, drop_more}
use Rattle.ql_types.specs.declared.DocId.{DocId}
use Rattle.ledger_model.specs.declared.block.Content.{Content}
use Rattle.ledger_model.specs.declared.block.Content.TheVariants.{Deleted, Kept, Redacted}
use Rattle.ledger_model.specs.declared.block.Schema.{Schema}
use Rattle.ledger_model.specs.declared.block.Schema.TheVariants.{Create, Index, Drop, Redact}
use Rattle.ledger_model.specs.Script.{or_else}
use Rattle.ledger_model.specs.State as state
use Rattle.ledger_model.specs.State.{hashed, is_redacted_by, redacts, revision_after, revisions_after}
use Rattle.ledger_model.proofs.Redactions.{any_after, hidden_if}
use Rattle.versions.specs.declared.recorded.Recorded.{Recorded}
use Rattle.versions.specs.Held.{recorded_of}
use Rattle.versions.specs.Filing.{places_from}
use Rattle.versions.specs.Histories.{places_of}
use Rattle.versions.specs.Lookups.{document_in}
use Rattle.versions.specs.Newest.{id_of, newest, newest_from, put}
use Rattle.versions.specs.Places.{ids_of}
use Rattle.versions.specs.Redactions.{IsOfDocument, all_changed, before_last, changed_along, changed_at, changed_by, hidden, is_revised}
use Rattle.versions.proofs.Along.{any_place, is_place, later}
use Rattle.versions.proofs.LastOnes.{Found, apart-newest, found-all}
use Rattle.versions.proofs.Lookups.{last_of, newest-document, or-none}

wrong : false ≡ true → ⊥
wrong e = cc e

-- ---- the places of a document are all that a redaction changes

along_later : (c : Schema) (places : List ℕ) (r : Recorded) (rs : List Recorded)
    → changed_along c (map suc places) (r ∷ rs) ≡ r ∷ changed_along c places rs
along_later c [] r rs = refl
along_later c (at ∷ places) r rs = along_later c places r (changed_at c at rs)

before_later : (places : List ℕ) → before_last (map suc places) ≡ map suc (before_last places)
before_later [] = refl
before_later (at ∷ []) = refl
before_later (at ∷ next ∷ places) = ap (λ (ps : List ℕ). suc at ∷ ps) (before_later (next ∷ places))

either_way : (b : Bool) (x y : Recorded) → x ≡ y → (if b then x else y) ≡ y
either_way true x y same = same
either_way false x y same = refl

other_stands : (c : Schema) (id : DocId) (r : Recorded) → IsOfDocument c id → (id_of r == id.raw) ≡ false → changed_by c r ≡ r
other_stands (Create name table) id r of other = refl
other_stands (Index field table) id r of other = refl
other_stands (Drop name table) id r of other = refl
other_stands (Redact address table document) id r of other =
    let no : (id_of r == document.raw) ≡ false = ap (λ (d : DocId). id_of r == d.raw) of ∙ other in
    ap (λ (b : Bool). if b then hidden r else r)
    (and_right (state.same_address r.revision.address address && (r.table.raw == table.raw)) (id_of r == document.raw) no)

along_by : (b : Bool) (c : Schema) (r : Recorded) (rs : List Recorded) (places : List ℕ) → (b ≡ false → changed_by c r ≡ r)
    → (b ≡ true → is_revised rs r ≡ is_place places) → changed_along c (before_last places) rs ≡ all_changed c rs
    → changed_along c (before_last (if b then 0 ∷ map suc places else map suc places)) (r ∷ rs) ≡ all_changed c (r ∷ rs)
along_by false c r rs places other own ih =
    ap (λ (ps : List ℕ). changed_along c ps (r ∷ rs)) (before_later places) ∙ along_later c (before_last places) r rs
    ∙ ap (λ (xs : List Recorded). r ∷ xs) ih
    ∙ ap (λ (x : Recorded). x ∷ all_changed c rs) (sym (either_way (is_revised rs r) (changed_by c r) r (other refl)))
along_by true c r rs [] other own ih =
    ap (λ (xs : List Recorded). r ∷ xs) ih
    ∙ ap (λ (b : Bool). (if b then changed_by c r else r) ∷ all_changed c rs) (sym (own refl))
along_by true c r rs (at ∷ places) other own ih =
    ap (λ (ps : List ℕ). changed_along c ps (changed_by c r ∷ rs)) (before_later (at ∷ places))
    ∙ along_later c (before_last (at ∷ places)) (changed_by c r) rs
    ∙ ap (λ (xs : List Recorded). changed_by c r ∷ xs) ih
    ∙ ap (λ (b : Bool). (if b then changed_by c r else r) ∷ all_changed c rs) (sym (own refl))

revised_is : (rs : List Recorded) (r : Recorded) (id : ℕ) → (id_of r == id) ≡ true → is_revised rs r ≡ is_place (places_of rs id)
revised_is rs r id own =
    ap (λ (n : ℕ). list_any (λ (x : Recorded). id_of x == n) rs) (eqb-true (id_of r) id own)
    ∙ any_place (λ (x : Recorded). id_of x == id) rs 0

-- what a change of a document's revisions does at its places is all that it does
pub changed_is : (c : Schema) (id : DocId) → IsOfDocument c id → (rs : List Recorded)
    → changed_along c (before_last (places_of rs id.raw)) rs ≡ all_changed c rs
changed_is c id of [] = refl
changed_is c id of (r ∷ rs) =
    let test : Recorded → Bool = λ x. id_of x == id.raw in
    ap (λ (places : List ℕ). changed_along c (before_last (if test r then 0 ∷ places else places)) (r ∷ rs)) (later test rs 0)
    ∙ along_by (test r) c r rs (places_of rs id.raw) (λ other. other_stands c id r of other) (λ own. revised_is rs r id.raw own)
    (changed_is c id of rs)

-- ---- what stands

pub one_stands : {A : Type 0} (f : Recorded → A) → ((r : Recorded) → f (hidden r) ≡ f r) → (b t : Bool) (r : Recorded)
    → f (if b then (if t then hidden r else r) else r) ≡ f r
one_stands f same false t r = refl
one_stands f same true false r = refl
one_stands f same true true r = same r

pub places_stand : (test : Recorded → Bool) → ((r : Recorded) → test (hidden r) ≡ test r) → (c : Schema) (rs : List Recorded) (n : ℕ)
    → places_from test n (all_changed c rs) ≡ places_from test n rs
places_stand test same c [] n = refl
places_stand test same c (r ∷ rs) n =
    ap₂ (λ (b : Bool) (places : List ℕ). if b then n ∷ places else places)
    (one_stands test same (is_revised rs r) (redacts (recorded_of r) c) r) (places_stand test same c rs (suc n))

each_stands : {A : Type 0} (f : Recorded → A) → ((r : Recorded) → f (hidden r) ≡ f r) → (c : Schema) (rs : List Recorded)
    → map f (all_changed c rs) ≡ map f rs
each_stands f same c [] = refl
each_stands f same c (r ∷ rs) =
    ap₂ (λ x xs. x ∷ xs) (one_stands f same (is_revised rs r) (redacts (recorded_of r) c) r) (each_stands f same c rs)

-- ---- the latest revisions stand

abbrev added : List ℕ → ℕ → List ℕ
added [] id = id ∷ []
added (x ∷ xs) id = if x == id then id ∷ xs else x ∷ added xs id

abbrev all_added : List ℕ → List ℕ → List ℕ
all_added xs [] = xs
all_added xs (id ∷ ids) = all_added (added xs id) ids

ids_by : (b : Bool) (d r : Recorded) (ds : List Recorded) → ids_of (put ds r) ≡ added (ids_of ds) (id_of r)
    → ids_of (if b then r ∷ ds else d ∷ put ds r) ≡ (if b then id_of r ∷ ids_of ds else id_of d ∷ added (ids_of ds) (id_of r))
ids_by true d r ds ih = refl
ids_by false d r ds ih = ap (λ (ids : List ℕ). id_of d ∷ ids) ih

ids_put : (ds : List Recorded) (r : Recorded) → ids_of (put ds r) ≡ added (ids_of ds) (id_of r)
ids_put [] r = refl
ids_put (d ∷ ds) r = ids_by (id_of d == id_of r) d r ds (ids_put ds r)

ids_from : (ds rs : List Recorded) → ids_of (newest_from ds rs) ≡ all_added (ids_of ds) (map id_of rs)
ids_from ds [] = refl
ids_from ds (r ∷ rs) = ids_from (put ds r) rs ∙ ap (λ (ids : List ℕ). all_added ids (map id_of rs)) (ids_put ds r)

ids_stand : (c : Schema) (rs : List Recorded) → ids_of (newest (all_changed c rs)) ≡ ids_of (newest rs)
ids_stand c rs =
    ids_from [] (all_changed c rs) ∙ ap (all_added []) (each_stands id_of (λ r. refl) c rs) ∙ sym (ids_from [] rs)

some_by : (o : Option Recorded) (b rest : Bool) (x : Recorded) → (rest ≡ true → is_some o ≡ true) → (b || rest) ≡ true
    → is_some (or_else o (if b then Some x else None)) ≡ true
some_by None true rest x ih h = refl
some_by None false rest x ih h = ih h
some_by (Some y) b rest x ih h = refl

last_there : (rs : List Recorded) (id : ℕ) → list_any (λ x. id_of x == id) rs ≡ true → is_some (last_of rs id) ≡ true
last_there [] id h = absurd (wrong h)
last_there (x ∷ xs) id h =
    some_by (last_of xs id) (id_of x == id) (list_any (λ (y : Recorded). id_of y == id) xs) x (last_there xs id) h

last_by : (b t own : Bool) (r : Recorded) (o : Option Recorded) → (b ≡ true → own ≡ true → is_some o ≡ true)
    → or_else o (if own then Some (if b then (if t then hidden r else r) else r) else None) ≡ or_else o (if own then Some r else None)
last_by b t own r (Some x) h = refl
last_by b t false r None h = refl
last_by false t true r None h = refl
last_by true t true r None h = absurd (wrong (h refl refl))

last_stands : (c : Schema) (rs : List Recorded) (id : ℕ) → last_of (all_changed c rs) id ≡ last_of rs id
last_stands c [] id = refl
last_stands c (r ∷ rs) id =
    let x : Recorded = if is_revised rs r then changed_by c r else r in
    let there : is_revised rs r ≡ true → (id_of r == id) ≡ true → is_some (last_of rs id) ≡ true =
    λ revised own. last_there rs id (subst (λ (n : ℕ). list_any (λ (y : Recorded). id_of y == n) rs ≡ true) (eqb-true (id_of r) id own) revised) in
    ap (λ (n : ℕ). or_else (last_of (all_changed c rs) id) (if n == id then Some x else None))
    (one_stands id_of (λ r. refl) (is_revised rs r) (redacts (recorded_of r) c) r)
    ∙ ap (λ (o : Option Recorded). or_else o (if id_of r == id then Some x else None)) (last_stands c rs id)
    ∙ last_by (is_revised rs r) (redacts (recorded_of r) c) (id_of r == id) r (last_of rs id) there

by_ids : (all ds : List Recorded) → Found all ds → map (λ (d : Recorded). Some d) ds ≡ map (document_in all) (ids_of ds)
by_ids all [] found = refl
by_ids all (d ∷ ds) found =
    ap₂ (λ (o : Option Recorded) (os : List (Option Recorded)). o ∷ os) (sym found.0) (by_ids all ds found.1)

lasts : (rs : List Recorded) (ids : List ℕ) → map (document_in (newest rs)) ids ≡ map (last_of rs) ids
lasts rs [] = refl
lasts rs (id ∷ ids) =
    ap₂ (λ (o : Option Recorded) (os : List (Option Recorded)). o ∷ os) (newest-document [] rs id ∙ or-none (last_of rs id)) (lasts rs ids)

lasts_stand : (c : Schema) (rs : List Recorded) (ids : List ℕ) → map (last_of (all_changed c rs)) ids ≡ map (last_of rs) ids
lasts_stand c rs [] = refl
lasts_stand c rs (id ∷ ids) =
    ap₂ (λ (o : Option Recorded) (os : List (Option Recorded)). o ∷ os) (last_stands c rs id) (lasts_stand c rs ids)

newest_by : (rs : List Recorded) → map (λ (d : Recorded). Some d) (newest rs) ≡ map (last_of rs) (ids_of (newest rs))
newest_by rs =
    by_ids (newest rs) (newest rs) (found-all (newest rs) (apart-newest [] rs tt)) ∙ lasts rs (ids_of (newest rs))

same_all : (ds es : List Recorded) → map (λ (d : Recorded). Some d) ds ≡ map (λ (d : Recorded). Some d) es → ds ≡ es
same_all [] [] h = refl
same_all [] (e ∷ es) h = cc h
same_all (d ∷ ds) [] h = cc h
same_all (d ∷ ds) (e ∷ es) h =
    let first : d ≡ e = cc h in
    let rest : map (λ (d : Recorded). Some d) ds ≡ map (λ (d : Recorded). Some d) es = cc h in
    ap₂ (λ (x : Recorded) (xs : List Recorded). x ∷ xs) first (same_all ds es rest)

pub newest_stands : (c : Schema) (rs : List Recorded) → newest (all_changed c rs) ≡ newest rs
newest_stands c rs =
    same_all (newest (all_changed c rs)) (newest rs)
    (newest_by (all_changed c rs) ∙ ap (map (last_of (all_changed c rs))) (ids_stand c rs) ∙ lasts_stand c rs (ids_of (newest rs))
    ∙ sym (newest_by rs))

-- ---- they are the revisions of the state

revised_mapped : (rs : List Recorded) (id : ℕ)
    → list_any (λ (x : state.Recorded). x.revision.metadata.id.raw == id) (map recorded_of rs) ≡ list_any (λ (x : Recorded). id_of x == id) rs
revised_mapped [] id = refl
revised_mapped (r ∷ rs) id = ap (λ (b : Bool). (id_of r == id) || b) (revised_mapped rs id)

mapped_one : (b t : Bool) (r : Recorded)
    → recorded_of (if b then (if t then hidden r else r) else r) ≡ hidden_if ((t || false) && b) (recorded_of r)
mapped_one false false r = refl
mapped_one false true r = refl
mapped_one true false r = refl
mapped_one true true r = refl

pub mapped_after : (c : Schema) (rs : List Recorded) → map recorded_of (all_changed c rs) ≡ revisions_after (c ∷ []) (map recorded_of rs)
mapped_after c [] = refl
mapped_after c (r ∷ rs) =
    let t : Bool = redacts (recorded_of r) c in
    ap₂ (λ (x : state.Recorded) (xs : List state.Recorded). x ∷ xs)
    (mapped_one (is_revised rs r) t r ∙ ap (λ (b : Bool). hidden_if ((t || false) && b) (recorded_of r)) (sym (revised_mapped rs (id_of r))))
    (mapped_after c rs)

hashed_twice : (content : Content) → hashed (hashed content) ≡ hashed content
hashed_twice Deleted = refl
hashed_twice (Kept v) = refl
hashed_twice (Redacted hash) = refl

twice : (t u b : Bool) (r : state.Recorded) → hidden_if (u && b) (hidden_if ((t || false) && b) r) ≡ hidden_if ((t || u) && b) r
twice t u false r = fold_off t u r
  where
    fold_off : (t u : Bool) (r : state.Recorded) → hidden_if (u && false) (hidden_if ((t || false) && false) r) ≡ hidden_if ((t || u) && false) r
    fold_off false false r = refl
    fold_off false true r = refl
    fold_off true false r = refl
    fold_off true true r = refl
twice false false true r = refl
twice false true true r = refl
twice true false true r = refl
twice true true true r =
    ap (λ (content : Content). record r { revision = record r.revision { content = content } }) (hashed_twice r.revision.content)

-- change by change
after_more : (c : Schema) (cs : List Schema) (rs : List state.Recorded)
    → revisions_after cs (revisions_after (c ∷ []) rs) ≡ revisions_after (c ∷ cs) rs
after_more c cs [] = refl
after_more c cs (r ∷ rs) =
    let t : Bool = redacts r c in
    let once : state.Recorded = revision_after (c ∷ []) rs r in
    ap₂ (λ (x : state.Recorded) (xs : List state.Recorded). x ∷ xs)
    (ap (λ (b : Bool). hidden_if (is_redacted_by cs r && b) once)
    (any_after (c ∷ []) (λ (x : state.Recorded). x.revision.metadata.id.raw == r.revision.metadata.id.raw) (λ b x. refl) rs)
    ∙ twice t (is_redacted_by cs r) (state.is_revised rs r) r)
    (after_more c cs rs)

after_none : (rs : List state.Recorded) → revisions_after [] rs ≡ rs
after_none [] = refl
after_none (r ∷ rs) = ap (λ (xs : List state.Recorded). r ∷ xs) (after_none rs)

-- one change more
pub redacted_next : (changes : List Schema) (i : ℕ) (c : Schema) (before now all : List state.Recorded) → i < length changes
    → c ≡ get_or changes i c → now ≡ revisions_after (c ∷ []) before → revisions_after (drop i changes) before ≡ all
    → revisions_after (drop (i + 1) changes) now ≡ all
redacted_next changes i c before now all within is once left =
    ap (revisions_after (drop (i + 1) changes)) once ∙ after_more c (drop (i + 1) changes) before
    ∙ ap (λ (x : Schema). revisions_after (x ∷ drop (i + 1) changes) before) is
    ∙ ap (λ (cs : List Schema). revisions_after cs before) (sym (drop_more changes i c within)) ∙ left

pub redacted_end : (changes : List Schema) (i : ℕ) (now all : List state.Recorded) → length changes ≤ i
    → revisions_after (drop i changes) now ≡ all → now ≡ all
redacted_end changes i now all past left =
    sym (after_none now) ∙ ap (λ (cs : List Schema). revisions_after cs now) (sym (drop_all i changes past)) ∙ left

-- ---- no redaction

unredacted_one : (c : Schema) (r : Recorded) → state.is_redact c ≡ false → changed_by c r ≡ r
unredacted_one (Create name table) r not = refl
unredacted_one (Index field table) r not = refl
unredacted_one (Drop name table) r not = refl
unredacted_one (Redact address table document) r not = absurd (wrong (sym not))

-- all other changes leave all revisions as they are
pub unredacted : (c : Schema) (rs : List Recorded) → state.is_redact c ≡ false → all_changed c rs ≡ rs
unredacted c [] not = refl
unredacted c (r ∷ rs) not =
    ap₂ (λ (x : Recorded) (xs : List Recorded). x ∷ xs) (either_way (is_revised rs r) (changed_by c r) r (unredacted_one c r not))
    (unredacted c rs not)
