-- The names of fields, gone over from the last field to the first.
use Rattle.std.proofs.Common.{◌≡◌, ℕ, zero, suc, ◌<◌, Bool, true, false, not, ◌||◌, cond, List, [], ◌∷◌, length, get_or, drop, refl, sym, ◌∙◌, ap, Bor, subst}
use Rattle.std.proofs.Math.Seq.{drop-cons}
use Rattle.std.specs.List.{list_any}
use Rattle.std.specs.Str.{bytes_eq}
use Rattle.std.specs.Ordering.{nat_cmp, is_eq}
use Rattle.std.specs.Cmp.Lexicographic.{slice_cmp}
use Rattle.std.specs.BTreeSet.{BTreeSet, contains_by, UpdatesBy}
use Rattle.std.proofs.lemmas.Map.Text.{is_eq-slice_cmp}
use Rattle.ion_values.specs.declared.value.Field.{Field}
use Rattle.ledger_model.specs.ReadScript.{has_name, repeats}

-- the field at a place, and those after it
pub opened : (fs : List Field) (at left : ℕ) (f : Field) → left ≡ suc at → at < length fs → f ≡ get_or fs at f → drop at fs ≡ f ∷ drop left fs
opened fs at left f next within is = rw next (drop-cons fs at f within ∙ ap (λ g. g ∷ drop (suc at) fs) (sym is))

or-true : (b : Bool) → (b || true) ≡ true
or-true true = refl
or-true false = refl

-- two fields of one name after a place are two fields of one name
pub repeats_later : (fs : List Field) (at : ℕ) → repeats (drop at fs) ≡ true → repeats fs ≡ true
repeats_later fs zero found = found
repeats_later [] (suc at) found = found
repeats_later (f ∷ fs) (suc at) found = rw (repeats_later fs at found) (or-true (list_any (has_name f.name) fs))

pub repeats_at : (fs rest : List Field) (f : Field) → fs ≡ f ∷ rest → list_any (has_name f.name) rest ≡ true → repeats fs ≡ true
repeats_at fs rest f is found = rw (is, found) refl

pub repeats_not : (fs rest : List Field) (f : Field) → fs ≡ f ∷ rest → list_any (has_name f.name) rest ≡ false → repeats rest ≡ false → repeats fs ≡ false
repeats_not fs rest f is none others = rw (is, none, others) refl

-- the names that a set has, and one more
abbrev pub Names : BTreeSet (Bor (List ℕ)) → List Field → Type 0
Names s fs = (name : List ℕ) → contains_by (λ k. slice_cmp nat_cmp name k.now) s ≡ list_any (has_name name) fs

cond-or : (b c : Bool) → cond b true c ≡ (b || c)
cond-or true c = refl
cond-or false c = refl

-- if a key was put in, the names are those of one field more
one_more : (key name : List ℕ) (old : Bool) (rest : List Field) (f : Field) → key ≡ f.name → old ≡ list_any (has_name name) rest
    → cond (is_eq (slice_cmp nat_cmp key name)) true old ≡ list_any (has_name name) (f ∷ rest)
one_more key name old rest f named is = rw (named, is, is_eq-slice_cmp) (cond-or (bytes_eq f.name name) (list_any (has_name name) rest))

pub named_more : (s n : BTreeSet (Bor (List ℕ))) (key : Bor (List ℕ)) (fs rest : List Field) (f : Field) → fs ≡ f ∷ rest → key.now ≡ f.name
    → UpdatesBy (λ x y. slice_cmp nat_cmp x.now y.now) (λ k. slice_cmp nat_cmp key.now k.now) s n true → Names s rest → Names n fs
named_more s n key fs rest f is named updates names name =
    let query : Bor (List ℕ) = record { ref_ptr = (0, 0); now = name } in
    rw is (updates.0 query ∙ one_more key.now name (contains_by (λ k. slice_cmp nat_cmp name k.now) s) rest f named (names name))

not-not : (b : Bool) → b ≡ not (not b)
not-not true = refl
not-not false = refl

-- a key is not put in exactly if a field of its name stands after it
pub was_there : (s : BTreeSet (Bor (List ℕ))) (key : Bor (List ℕ)) (rest : List Field) (f : Field) (added : Bool) → key.now ≡ f.name
    → added ≡ not (contains_by (λ k. slice_cmp nat_cmp key.now k.now) s) → Names s rest → list_any (has_name f.name) rest ≡ not added
was_there s key rest f added named is names =
    let here : list_any (has_name key.now) rest ≡ not added = rw (is, names key.now) (not-not (list_any (has_name key.now) rest)) in
    subst (λ (name : List ℕ). list_any (has_name name) rest ≡ not added) named here
