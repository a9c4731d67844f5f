-- Marks are only added: what a production gives satisfies P, and a test that is true of a mark before it is true of one
-- behind it; with a lemma for each form of production.
use Prim.Native.String.{String}
use Rattle.std.proofs.Common.{◌≡◌, ℕ, zero, suc, Bool, true, false, if◌then◌else◌, List, [], ◌∷◌, ◌++◌, Result, Ok, Err, Option, Some, None, codes, ◌∙◌}
use Rattle.std.specs.List.{list_any}
use Rattle.std.proofs.lemmas.Bool.{or_left}
use Rattle.std.proofs.lemmas.List.Folds.{list_any-append}
use Rattle.pql_model.specs.declared.ParseKind.{ParseKind}
use Rattle.pql_model.specs.declared.ParseKind.TheVariants as kind
use Rattle.pql_model.specs.declared.mark.Mark.{Mark}
use Rattle.pql_model.specs.declared.mark.Place.{Place}
use Rattle.pql_model.specs.declared.mark.Role.{Role}
use Rattle.pql_model.specs.declared.token.Token.{Token}
use Rattle.pql_model.specs.Expressions.{deeper}
use Rattle.pql_model.specs.Productions.{Fault, Found, Production, Reader, ◌>>=◌, by_name, choose, expect, give, mark_at, marked, moved_to, name, onward, optional, past, refuse, symbol, token_of, with_name, within, word}
use Rattle.pql_model.specs.Words.{is_symbol, is_word, name_of}

abbrev pub Grown : List Mark → List Mark → Type 0
Grown before behind = (test : Mark → Bool) → list_any test before ≡ true → list_any test behind ≡ true

abbrev pub Kept : {A : Type 0} → (A → Type 0) → List Mark → Result (Found A) Fault → Type 0
Kept P before (Ok found) = P found.tree × Grown before found.reader.marks
Kept P before (Err fault) = Unit {0}

pub record Keeps (A : Type 0) (P : A → Type 0) (p : Production A) : Type 0 where
  pub at : (r : Reader) → Kept P r.marks (p r)

-- nothing is said of the tree
abbrev pub Any : {A : Type 0} → A → Type 0
Any x = Unit {0}

any_kept : {A : Type 0} → (P : A → Type 0) (before : List Mark) (result : Result (Found A) Fault)
    → Kept P before result → Kept Any before result
any_kept P before (Ok found) k = (tt, k.1)
any_kept P before (Err fault) k = tt

pub keeps_any : {A : Type 0} {P : A → Type 0} {p : Production A} → Keeps A P p → Keeps A Any p
keeps_any {P} {p} k = record { at = λ r. any_kept P r.marks (p r) (k.at r) }

-- ---- the forms

pub keeps_refuse : {A : Type 0} → (P : A → Type 0) (k : ParseKind) → Keeps A P (refuse k)
keeps_refuse P k = record { at = λ r. tt }

pub keeps_give : {A : Type 0} {P : A → Type 0} → (x : A) → P x → Keeps A P (give x)
keeps_give x p = record { at = λ r. (p, λ test h. h) }

grown_kept : {A : Type 0} → (P : A → Type 0) (one two : List Mark) → Grown one two → (result : Result (Found A) Fault)
    → Kept P two result → Kept P one result
grown_kept P one two more (Ok found) k = (k.0, λ test h. k.1 test (more test h))
grown_kept P one two more (Err fault) k = tt

onward_kept : {A B : Type 0} → (P : A → Type 0) (Q : B → Type 0) (f : A → Production B)
    → ((x : A) → P x → Keeps B Q (f x)) → (before : List Mark) (result : Result (Found A) Fault)
    → Kept P before result → Kept Q before (onward f result)
onward_kept P Q f next before (Ok found) k =
    grown_kept Q before found.reader.marks k.1 (f found.tree found.reader) ((next found.tree k.0).at found.reader)
onward_kept P Q f next before (Err fault) k = tt

pub keeps_then : {A B : Type 0} {P : A → Type 0} {Q : B → Type 0} {p : Production A} → (f : A → Production B)
    → Keeps A P p → ((x : A) → P x → Keeps B Q (f x)) → Keeps B Q (p >>= f)
keeps_then {P} {Q} {p} f first next = record { at = λ r. onward_kept P Q f next r.marks (p r) (first.at r) }

pub keeps_past : {A : Type 0} {P : A → Type 0} {p : Production A} → Keeps A P p → Keeps A P (past p)
keeps_past k = record { at = λ r. k.at _ }

choice_keeps : {A : Type 0} → (P : A → Type 0) (b : Bool) (p q : Production A) → Keeps A P p → Keeps A P q
    → Keeps A P (if b then p else q)
choice_keeps P true p q f g = f
choice_keeps P false p q f g = g

pub keeps_choice : {A : Type 0} {P : A → Type 0} {p q : Production A} → (b : Bool) → Keeps A P p → Keeps A P q
    → Keeps A P (if b then p else q)
keeps_choice {P} {p} {q} b f g = choice_keeps P b p q f g

pub keeps_choose : {A : Type 0} {P : A → Type 0} {p q : Production A} → (test : Token → Bool) → Keeps A P p
    → Keeps A P q → Keeps A P (choose test p q)
keeps_choose {P} {p} {q} test f g = record { at = λ r. (choice_keeps P (test (token_of r)) p q f g).at r }

-- where the token in front is this word, and where it isn't
pub keeps_if_word : {A : Type 0} {P : A → Type 0} {p q : Production A} → (text : String) → Keeps A P p → Keeps A P q
    → Keeps A P (choose (is_word (codes text)) p q)
keeps_if_word text f g = keeps_choose (is_word (codes text)) f g

pub keeps_if_symbol : {A : Type 0} {P : A → Type 0} {p q : Production A} → (text : String) → Keeps A P p
    → Keeps A P q → Keeps A P (choose (is_symbol (codes text)) p q)
keeps_if_symbol text f g = keeps_choose (is_symbol (codes text)) f g

pub keeps_expect : {A : Type 0} {P : A → Type 0} {p : Production A} → (test : Token → Bool) → Keeps A P p
    → Keeps A P (expect test p)
keeps_expect {P} test k = keeps_choose test (keeps_past k) (keeps_refuse P _)

pub keeps_word : {A : Type 0} {P : A → Type 0} {p : Production A} → (text : String) → Keeps A P p
    → Keeps A P (word text p)
keeps_word text k = keeps_expect (is_word (codes text)) k

pub keeps_symbol : {A : Type 0} {P : A → Type 0} {p : Production A} → (text : String) → Keeps A P p
    → Keeps A P (symbol text p)
keeps_symbol text k = keeps_expect (is_symbol (codes text)) k

pub keeps_by_name : {A : Type 0} {P : A → Type 0} → (next : List ℕ → Production A)
    → ((text : List ℕ) → Keeps A P (next text)) → (found : Option (List ℕ)) → Keeps A P (by_name next found)
keeps_by_name next k (Some text) = k text
keeps_by_name {P} next k None = keeps_refuse P _

pub keeps_with_name : {A : Type 0} {P : A → Type 0} → (next : List ℕ → Production A)
    → ((text : List ℕ) → Keeps A P (next text)) → Keeps A P (with_name next)
keeps_with_name next k = record { at = λ r. (keeps_by_name next k (name_of (token_of r))).at r }

pub more_marks : (ms : List Mark) (m : Mark) → Grown ms (ms ++ m ∷ [])
more_marks ms m test h =
    list_any-append test ms (m ∷ []) ∙ or_left (list_any test ms) (list_any test (m ∷ [])) h

pub keeps_mark_at : {A : Type 0} {P : A → Type 0} {p : Production A} → (at : ℕ) (role : Role) → Keeps A P p
    → Keeps A P (mark_at at role p)
keeps_mark_at {P} {p} at role k =
    record { at = λ r. grown_kept P r.marks _ (more_marks r.marks _) (mark_at at role p r) (k.at _) }

pub keeps_marked : {A : Type 0} {P : A → Type 0} {p : Production A} → (role : Role) → Keeps A P p
    → Keeps A P (marked role p)
keeps_marked {P} {p} role k =
    record { at = λ r. grown_kept P r.marks _ (more_marks r.marks _) (marked role p r) (k.at _) }

moved_kept : {A : Type 0} → (P : A → Type 0) (place : Place) (before : List Mark) (result : Result (Found A) Fault)
    → Kept P before result → Kept P before (onward (λ x s. give x (moved_to place s)) result)
moved_kept P place before (Ok found) k = k
moved_kept P place before (Err fault) k = tt

pub keeps_within : {A : Type 0} {P : A → Type 0} {p : Production A} → (place : Place) → Keeps A P p
    → Keeps A P (within place p)
keeps_within {P} {p} place k =
    record { at = λ r. moved_kept P r.place r.marks (p (moved_to place r)) (k.at (moved_to place r)) }

pub keeps_deeper : {A : Type 0} {P : A → Type 0} {p : Production A} → (below : ℕ) → Keeps A P p
    → Keeps A P (deeper below p)
keeps_deeper {P} zero k = keeps_refuse P kind.TooDeep
keeps_deeper (suc below) k = k

pub keeps_optional : {A : Type 0} {part : Production A} → (test : Token → Bool) → Keeps A Any part
    → Keeps (Option A) Any (optional test part)
keeps_optional test k = keeps_choose test (keeps_then _ k (λ x h. keeps_give _ tt)) (keeps_give _ tt)

pub keeps_name : Keeps (List ℕ) Any name
keeps_name = keeps_with_name (λ text. past (give text)) (λ text. keeps_past (keeps_give text tt))
